-- Document 01, "Message, version 1", the paragraph on addresses: the text of an IPv4 address is four numbers to 255 without
-- leading zeros, with dots between them.
use Rattle.std.specs.Prelude.{ℕ, List, map, Bool, false, ◌&&◌, cond, length, leb, eqb, Option, None}
use Rattle.octets.specs.Split.{split_on}
use Rattle.octets.specs.Decimal.{read_number, on_number}
use Rattle.octets.specs.Text.{char}
use Rattle.address.specs.declared.Address.{Address}
use Rattle.address.specs.declared.Address.TheVariants.{V4}
use Rattle.address.specs.Kinds.{if_unicast}
use Rattle.address.specs.Parts.{all_parts, in_base}

-- one of the numbers
unfoldable pub is_octet : List ℕ → Bool
is_octet p = on_number (read_number p) (λ n. leb n 255) false

unfoldable pub octet_value : List ℕ → ℕ
octet_value p = on_number (read_number p) (λ n. n) 0

-- four of them
unfoldable pub is_dotted : List (List ℕ) → Bool
is_dotted ps = all_parts is_octet ps && eqb (length ps) 4

-- the number of 32 bits that they stand for
unfoldable pub dotted_value : List (List ℕ) → ℕ
dotted_value ps = in_base 256 0 (map octet_value ps)

-- what s is read as
unfoldable pub read_v4 : List ℕ → Option Address
read_v4 s = cond (is_dotted (split_on (char ".") s)) (if_unicast (V4 (dotted_value (split_on (char ".") s)))) None
