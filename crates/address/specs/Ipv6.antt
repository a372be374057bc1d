-- Document 01, "Message, version 1", the paragraph on addresses, by RFC 4291, 2.2: the text of an IPv6 address is eight groups
-- of hexadecimal digits with colons between them, and one "::" can stand for one or more groups of zeros. Stricter than RFC 4291:
-- no group is written as decimal numbers.
use Rattle.std.specs.Prelude.{ℕ, ◌+◌, ◌-◌, ◌/◌, ◌%◌, ◌^◌, List, [], ◌∷◌, ◌++◌, map, Bool, ◌&&◌, cond, length, drop, replicate, leb, ltb, eqb, Option, None}
use Rattle.octets.specs.Split.{split_on}
use Rattle.octets.specs.Hex.{hex_value, all_hex}
use Rattle.octets.specs.Text.{char}
use Rattle.address.specs.declared.Address.{Address}
use Rattle.address.specs.declared.Address.TheVariants.{V6}
use Rattle.address.specs.Kinds.{if_unicast}
use Rattle.address.specs.Parts.{all_parts, in_base}

-- ---- groups
-- one to four digits of either case
unfoldable pub is_group : List ℕ → Bool
is_group p = leb 1 (length p) && (leb (length p) 4 && all_hex p)

unfoldable pub group_value : List ℕ → ℕ
group_value p = in_base 16 0 (map hex_value p)

-- the texts of the groups on one side of a "::", or of all groups: the parts between the colons, none if the text is empty
unfoldable pub parts_of : List ℕ → List (List ℕ)
parts_of [] = []
parts_of (b ∷ bs) = split_on (char ":") (b ∷ bs)

-- the address of eight groups, if it is unicast: the two halves of their number of 128 bits
unfoldable pub if_unicast_groups : List ℕ → Option Address
if_unicast_groups gs = if_unicast (V6 (in_base 65536 0 gs / 2 ^ 64) (in_base 65536 0 gs % 2 ^ 64))

-- ---- without "::"
unfoldable pub full : List (List ℕ) → Option Address
full ps = cond (all_parts is_group ps && eqb (length ps) 8) (if_unicast_groups (map group_value ps)) None

-- ---- with "::"
-- what comes before the first "::" of s; all of s if there is none
unfoldable pub before_gap : List ℕ → List ℕ
before_gap [] = []
before_gap (b ∷ []) = b ∷ []
before_gap (b ∷ c ∷ bs) = cond (eqb b (char ":") && eqb c (char ":")) [] (b ∷ before_gap (c ∷ bs))

-- what comes after it
unfoldable pub after_gap : List ℕ → List ℕ
after_gap s = drop (length (before_gap s) + 2) s

unfoldable pub has_gap : List ℕ → Bool
has_gap s = ltb (length (before_gap s)) (length s)

-- the groups before and after it, with zeros between them to make eight
unfoldable pub filled : List (List ℕ) → List (List ℕ) → List ℕ
filled ls rs = map group_value ls ++ (replicate (8 - (length ls + length rs)) 0 ++ map group_value rs)

-- what is read with a "::", which stands for at least one group
unfoldable pub gapped : List (List ℕ) → List (List ℕ) → Option Address
gapped ls rs = cond (all_parts is_group ls && (all_parts is_group rs && leb (length ls + length rs) 7)) (if_unicast_groups (filled ls rs)) None

-- ---- what s is read as
-- A second "::", or a colon at an end, leaves an empty part, which is no group.
unfoldable pub read_v6 : List ℕ → Option Address
read_v6 s = cond (has_gap s) (gapped (parts_of (before_gap s)) (parts_of (after_gap s))) (full (parts_of s))
