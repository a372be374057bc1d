-- Fixed words and runs of digits.
use Rattle.std.specs.Prelude.{ℕ, List, [], ◌∷◌, Bool, true, false, ◌&&◌, length, eqb, ltb}
use Rattle.octets.specs.Decimal.{all_digits}

-- s begins with w
unfoldable pub begins : List ℕ → List ℕ → Bool
begins [] s = true
begins (x ∷ w) [] = false
begins (x ∷ w) (b ∷ s) = eqb b x && begins w s

-- s is w
unfoldable pub same : List ℕ → List ℕ → Bool
same w s = eqb (length s) (length w) && begins w s

-- one digit or more, and nothing else
unfoldable pub digit_run : List ℕ → Bool
digit_run s = ltb 0 (length s) && all_digits s
