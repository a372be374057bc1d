-- What the texts of both families are made of: parts, each the text of a number, which together are the digits of a larger number.
use Rattle.std.specs.Prelude.{ℕ, ◌+◌, ◌*◌, List, [], ◌∷◌, Bool, true, ◌&&◌}

-- f holds of every part
unfoldable pub all_parts : (List ℕ → Bool) → List (List ℕ) → Bool
all_parts f [] = true
all_parts f (p ∷ ps) = f p && all_parts f ps

-- the number whose digits in base b are n's and then ds, the highest first
unfoldable pub in_base : ℕ → ℕ → List ℕ → ℕ
in_base b n [] = n
in_base b n (d ∷ ds) = in_base b (n * b + d) ds
