-- Document 01, "Refusal numbers", on writing: number 5 if a field is out of range, then 4 if there is no room. A refused
-- call leaves the buffer as it was, and no octet past those written changes.
use Rattle.std.specs.Prelude.{ℕ, ◌≡◌, List, ◌++◌, cond, length, drop, leb, ltb, Result, Ok, Err}
use Rattle.std.proofs.Math.Option.{Option, none, some}
use Rattle.octets.specs.declared.Refusal.{Refusal}
use Rattle.octets.specs.declared.Refusal.TheVariants.{BufferTooShort, OutOfRange}

-- the octets t to write, if there are at most that many
unfoldable pub bounded : ℕ → List ℕ → Option (List ℕ)
bounded most t = cond (leb (length t) most) (some t) none

-- the answer to a call that writes these octets, if any, into a buffer with room for so many
unfoldable pub put_answer : ℕ → Option (List ℕ) → Result ℕ Refusal
put_answer room none = Err OutOfRange
put_answer room (some t) = cond (ltb room (length t)) (Err BufferTooShort) (Ok (length t))

-- what it leaves in the buffer l
unfoldable pub put_leaves : List ℕ → Option (List ℕ) → List ℕ
put_leaves l none = l
put_leaves l (some t) = cond (ltb (length l) (length t)) l (t ++ drop (length t) l)

-- A call that writes these octets, if any, into the buffer l answers r and leaves f in it.
pub record Puts (t : Option (List ℕ)) (l : List ℕ) (r : Result ℕ Refusal) (f : List ℕ) : Type 0 where
  pub answers : r ≡ put_answer (length l) t
  pub leaves : f ≡ put_leaves l t

-- For C, `bat_table` and `card_packet` answer one number: a count, or this number plus document 01's. No count of elements or of octets written
-- reaches it.
abbrev pub refused_from : ℕ
refused_from = 65536
