-- Private: used only by private functions of this crate.
use Rattle.std.specs.Prelude.{ℕ, ◌+◌, ◌*◌, List, ◌&&◌, cond, length, eqb, ltb, Option, Some, None}
use Rattle.octets.specs.Decimal.{all_digits, shortest}
use Rattle.octets.specs.Hex.{is_hex_digit, hex_value, hex_text}

-- octets, or the word w if there are none
unfoldable pub shown : List ℕ → List ℕ → List ℕ
shown w s = cond (eqb (length s) 0) w (hex_text s)

-- the octet that the digits a and b stand for
unfoldable pub pair_in : ℕ → ℕ → Option ℕ
pair_in a b = cond (is_hex_digit a && is_hex_digit b) (Some (hex_value a * 16 + hex_value b)) None

-- the length that t names, if t is not a number up to 65535
unfoldable pub large_in : List ℕ → Option ℕ
large_in t = cond (ltb (length t) 2) None (cond (shortest t && all_digits t) (Some 65535) None)
