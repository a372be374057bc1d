-- How the programs show octets, texts and refusals, and how they read octets and the length of a buffer. Octets are hexadecimal
-- digits in upper case.
use Rattle.std.specs.Prelude.{ℕ, ◌+◌, ◌*◌, ◌/◌, min, ◌≡◌, List, [], ◌∷◌, ◌++◌, Bool, ◌&&◌, cond, length, eqb, leb, Option, Some, None}
use Rattle.octets.specs.Append.{appended, number_text}
use Rattle.octets.specs.Decimal.{all_digits, value_from, shortest}
use Rattle.octets.specs.Hex.{is_hex_digit, hex_value, is_hex, hex_text}
use Rattle.octets.specs.Text.{ascii, char}

-- octets; `-` if there are none
unfoldable pub octets_shown : List ℕ → List ℕ
octets_shown s = cond (eqb (length s) 0) (ascii "-") (hex_text s)

-- ---- texts of fmtp
-- one text; `empty` if it is empty
unfoldable pub text_shown : List ℕ → List ℕ
text_shown t = cond (eqb (length t) 0) (ascii "empty") (hex_text t)

-- a text after a comma
abbrev pub text_after : List ℕ → List ℕ
text_after t = char "," ∷ text_shown t

-- texts, each after a comma
unfoldable pub texts_after : List (List ℕ) → List ℕ
texts_after [] = []
texts_after (t ∷ ts) = text_after t ++ texts_after ts

-- texts with commas between them; `-` if there are none
unfoldable pub texts_shown : List (List ℕ) → List ℕ
texts_shown [] = ascii "-"
texts_shown (t ∷ ts) = text_shown t ++ texts_after ts

-- ---- a refusal
-- document 01's number n
unfoldable pub refused_shown : ℕ → List ℕ
refused_shown n = ascii "refused-" ++ number_text n

-- ---- octets in pairs of digits
-- the octets of the pairs before the first that is not two digits
unfoldable pub octets_before : List ℕ → List ℕ
octets_before [] = []
octets_before (a ∷ []) = []
octets_before (a ∷ b ∷ t) = cond (is_hex_digit a && is_hex_digit b) ((hex_value a * 16 + hex_value b) ∷ octets_before t) []

-- Reading the octets of t into the buffer l answers whether t is pairs of digits and all of them fit, and leaves f.
pub record ReadsOctets (t l : List ℕ) (r : Bool) (f : List ℕ) : Type 0 where
  pub answers : r ≡ (is_hex t && leb (length t / 2) (length l))
  pub leaves : f ≡ appended l 0 (octets_before t)

-- ---- the length of a buffer
-- a number with no leading zero, capped at 65535
unfoldable pub length_in : List ℕ → Option ℕ
length_in t = cond (shortest t && all_digits t) (Some (min 65535 (value_from 0 t))) None
