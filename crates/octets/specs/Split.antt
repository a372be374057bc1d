-- Cutting octets at a separator: what is before it, the parts between, and where it is found.
use Rattle.std.specs.Prelude.{ℕ, zero, suc, ◌+◌, ◌-◌, ◌≤◌, max, ◌≡◌, List, [], ◌∷◌, Bool, false, ◌||◌, cond, length, drop, eqb}

-- s has a c
unfoldable pub has : ℕ → List ℕ → Bool
has c [] = false
has c (b ∷ bs) = eqb b c || has c bs

-- what is before the first c of s, or all of s if it has none
unfoldable pub before : ℕ → List ℕ → List ℕ
before c [] = []
before c (b ∷ bs) = cond (eqb b c) [] (b ∷ before c bs)

-- b put before the first part
unfoldable pub on_first : ℕ → List (List ℕ) → List (List ℕ)
on_first b [] = (b ∷ []) ∷ []
on_first b (p ∷ ps) = (b ∷ p) ∷ ps

-- the parts of s between its c's: one more than there are c's
unfoldable pub split_on : ℕ → List ℕ → List (List ℕ)
split_on c [] = [] ∷ []
split_on c (b ∷ bs) = cond (eqb b c) ([] ∷ split_on c bs) (on_first b (split_on c bs))

-- the position of the first c of s from `from` on, or the end
unfoldable pub find_at : List ℕ → ℕ → ℕ → ℕ
find_at s c from = from + length (before c (drop from s))

-- r is that position; the bounds follow from it, and are stated for callers
pub record Found (s : List ℕ) (c from r : ℕ) : Type 0 where
  pub is : r ≡ find_at s c from
  pub low : from ≤ r
  pub high : r ≤ max from (length s)

-- part k of ps, from 0; an empty one if there is none
unfoldable pub part_at : ℕ → List (List ℕ) → List ℕ
part_at k [] = []
part_at zero (p ∷ ps) = p
part_at (suc k) (p ∷ ps) = part_at k ps

-- how many c's are in s
unfoldable pub separators_of : ℕ → List ℕ → ℕ
separators_of c s = length (split_on c s) - 1
