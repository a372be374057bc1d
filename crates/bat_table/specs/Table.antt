-- Document 01, "Elements", the second paragraph: the caller's table of element entries. It is filled in order, one entry for
-- each element of the data. How data is cut into elements, and numbers 1, 2 and 3, are in `Framing` of `bat`.
use Rattle.std.specs.Prelude.{ℕ, ◌+◌, List, [], ◌∷◌, ◌++◌, length, take, drop, Result, Ok, Err}
use Rattle.octets.specs.declared.Refusal.{Refusal}
use Rattle.octets.specs.Refusals.{refusal_number}
use Rattle.octets.specs.Puts.{refused_from}
use Rattle.bat.specs.Framing.{Element, whole, Cut, refused, taken, cut}
use Rattle.bat_table.specs.declared.Entry.{Entry}

-- the entry of an element whose identifier is at d of the data; its length counts all its octets
abbrev pub entry_of : ℕ → Element → Entry
entry_of d e = record { identifier = e.identifier; start = d; length = length (whole e) }

-- the entries of consecutive elements, the first at d
unfoldable pub entries_from : ℕ → List Element → List Entry
entries_from d [] = []
entries_from d (e ∷ es) = entry_of d e ∷ entries_from (d + length (whole e)) es

-- The table ys after the call. Refused data leaves it as it was (document 01, "Refusal numbers"). Otherwise the data's
-- entries are at its front, and the rest of it is as it was.
unfoldable pub filled_by : Cut → List Entry → List Entry
filled_by (refused e) ys = ys
filled_by (taken es) ys = entries_from 0 es ++ drop (length es) ys

unfoldable pub table_after : List ℕ → List Entry → List Entry
table_after s ys = filled_by (cut (length ys) s) ys

-- the octets of the data s that an entry names
abbrev pub entry_octets : List ℕ → Entry → List ℕ
entry_octets s x = take x.length (drop x.start s)

-- the answer if there is no such entry
abbrev pub no_entry : Entry
no_entry = record { identifier = 0; start = 0; length = 0 }

-- the answer for C (`refused_from`)
abbrev pub count_for_c : Result ℕ Refusal → ℕ
count_for_c (Ok n) = n
count_for_c (Err e) = refused_from + refusal_number e
