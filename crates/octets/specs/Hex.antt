-- Hexadecimal text: digits of either case, two for an octet; written in upper case.
use Rattle.std.specs.Prelude.{ℕ, ◌+◌, ◌-◌, ◌*◌, ◌/◌, ◌%◌, List, [], ◌∷◌, Bool, true, false, ◌&&◌, cond, length, leb, ltb, eqb, Option, Some, None}
use Rattle.octets.specs.Text.{char}

unfoldable pub is_hex_digit : ℕ → Bool
is_hex_digit b =
    cond (ltb b (char "0")) false
    (cond (leb b (char "9")) true
    (cond (ltb b (char "A")) false
    (cond (leb b (char "F")) true
    (leb (char "a") b && leb b (char "f")))))

-- a digit's value, or 0 for an octet that is no digit
unfoldable pub hex_value : ℕ → ℕ
hex_value b =
    cond (ltb b (char "0")) 0
    (cond (leb b (char "9")) (b - char "0")
    (cond (ltb b (char "A")) 0
    (cond (leb b (char "F")) (b - char "A" + 10)
    (cond (ltb b (char "a")) 0
    (cond (leb b (char "f")) (b - char "a" + 10) 0)))))

-- s has only digits
unfoldable pub all_hex : List ℕ → Bool
all_hex [] = true
all_hex (b ∷ bs) = is_hex_digit b && all_hex bs

-- s has only digits, an even number of them
unfoldable pub is_hex : List ℕ → Bool
is_hex s = eqb (length s % 2) 0 && all_hex s

-- the octets that the pairs of digits stand for
unfoldable pub hex_octets : List ℕ → List ℕ
hex_octets [] = []
hex_octets (a ∷ []) = []
hex_octets (a ∷ b ∷ s) = (hex_value a * 16 + hex_value b) ∷ hex_octets s

-- a digit's value, if the octet is a digit
unfoldable pub digit_in : ℕ → Option ℕ
digit_in b = cond (is_hex_digit b) (Some (hex_value b)) None

-- the digit that stands for d, in upper case
unfoldable pub hex_digit : ℕ → ℕ
hex_digit d = cond (ltb d 10) (char "0" + d) (char "A" + (d - 10))

-- two digits for each octet, the high one first
unfoldable pub hex_text : List ℕ → List ℕ
hex_text [] = []
hex_text (b ∷ bs) = hex_digit (b / 16) ∷ hex_digit (b % 16) ∷ hex_text bs
