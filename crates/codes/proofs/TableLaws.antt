-- A table that holds a rule at each place is the list of the rule's values. It reads at k as the rule at k, by induction on the list.
-- Assumes nothing.
use mathlib.Core.Path.{◌≡◌, ◌∙◌, ap, sym}
use mathlib.Core.List.{List, [], ◌∷◌}
use Prim.Native.Nat.{ℕ, zero, suc, ◌+◌, ◌<◌}
use native.Mathlib.Nat.{add-zero, zero-add, add-suc, suc-add, le_of_suc-le-suc, not-suc-le-zero}
use lib.ListN.{get_or}

module _ {A : Type 0} (f : ℕ → A) where
  -- f at n places, from i
  abbrev pub values_from : ℕ → ℕ → List A
  values_from i zero = []
  values_from i (suc n) = f i ∷ values_from (suc i) n

  -- read at k, the list from i is f at i + k
  at_from : (i n k : ℕ) (d : A) → k < n → get_or (values_from i n) k d ≡ f (i + k)
  at_from i zero k d h = absurd (not-suc-le-zero h)
  at_from i (suc n) zero d h = ap f (sym (add-zero i))
  at_from i (suc n) (suc k) d h = at_from (suc i) n k d (le_of_suc-le-suc h) ∙ ap f (suc-add i k ∙ sym (add-suc i k))

  -- read at k, the list from 0 is f at k
  pub at : (n k : ℕ) (d : A) → k < n → get_or (values_from 0 n) k d ≡ f k
  at n k d h = at_from 0 n k d h ∙ ap f (zero-add k)
