-- Decimal numbers without leading zeros, at most 65535, as text.
use Rattle.std.specs.Prelude.{ℕ, zero, suc, ◌+◌, ◌-◌, ◌*◌, ◌/◌, ◌%◌, List, [], ◌∷◌, ◌++◌, Bool, true, false, not, ◌&&◌, cond, leb, eqb, Option, Some, None}
use Rattle.octets.specs.Text.{char}

unfoldable pub is_digit : ℕ → Bool
is_digit b = leb (char "0") b && leb b (char "9")

-- s has only digits
unfoldable pub all_digits : List ℕ → Bool
all_digits [] = true
all_digits (b ∷ bs) = is_digit b && all_digits bs

-- the number that the digits after n's stand for
unfoldable pub value_from : ℕ → List ℕ → ℕ
value_from n [] = n
value_from n (b ∷ bs) = value_from (n * 10 + (b - char "0")) bs

-- one digit, or several with no leading '0'
unfoldable pub shortest : List ℕ → Bool
shortest [] = false
shortest (b ∷ []) = true
shortest (b ∷ c ∷ bs) = not (eqb b (char "0"))

-- the number that the digits of s after n's stand for, if s has only digits and the number is at most 65535
unfoldable pub number_from : ℕ → List ℕ → Option ℕ
number_from n s = cond (all_digits s && leb (value_from n s) 65535) (Some (value_from n s)) None

-- the number that all of s stands for
unfoldable pub read_number : List ℕ → Option ℕ
read_number s = cond (shortest s) (number_from 0 s) None

-- n's last k digits
unfoldable pub last_digits : ℕ → ℕ → List ℕ
last_digits zero n = []
last_digits (suc k) n = last_digits k (n / 10) ++ ((char "0" + n % 10) ∷ [])

-- by cases on a number that may be missing
unfoldable pub on_number : {X : Type 0} → Option ℕ → (ℕ → X) → X → X
on_number (Some n) go bad = go n
on_number None go bad = bad
