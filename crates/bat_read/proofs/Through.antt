-- Gone through one at a time by `examine_first`, data has just the elements that it is cut into: the first of them is
-- at the front, and the others are those of what follows it.
-- Assumes nothing.
use Prim.Native.Nat.{ℕ}
use mathlib.Core.Path.{◌≡◌, refl, sym, ◌∙◌}
use mathlib.Core.List.{List, [], ◌∷◌}
use mathlib.Core.Bool.{Bool}
use mathlib.Core.Option.{Option, none, some, map}
use native.Mathlib.Omega.{arith}
use Rattle.bat.specs.Framing.{Element, Front, front, first, unframed, ended, on_front, elements}
use Rattle.bat.specs.Judging.{finding}
use Rattle.bat.proofs.DataLaws.{elements_unframed, elements_first, elements_next}
use Rattle.bat_read.specs.Examining.{element, no_more, examine}

module _ (pass : Bool) (s : List ℕ) where
  pub examine_next : (e : Element) (es : List Element) → elements s ≡ some (e ∷ es)
      → (t : List ℕ) × (examine pass s ≡ element e (finding pass e) t) × (elements t ≡ some es)
  unfolding examine on_front
  examine_next e es p = let (t, q, rest) = elements_next s e es p in (t, rw q, rest)

  none_at : (f : Front) → front s ≡ f → elements s ≡ some [] → examine pass s ≡ no_more
  unfolding examine on_front
  none_at (first d t) q p = absurd (let n = elements_first s d t q in not_empty d (elements t) (sym n ∙ p))
    where
      not_empty : (d : Element) (o : Option (List Element)) → map (λ (r : List Element). d ∷ r) o ≡ some [] → ⊥
      not_empty d none p = let z : ◌≡◌ {A = ℕ} 0 1 = cc in omega arith
      not_empty d (some r) p = let z : ◌≡◌ {A = ℕ} 0 1 = cc in omega arith
  none_at unframed q p = absurd (let n = elements_unframed s q in let z : ◌≡◌ {A = ℕ} 0 1 = cc in omega arith)
  none_at ended q p = rw q

  pub examine_none : elements s ≡ some [] → examine pass s ≡ no_more
  examine_none p = none_at (front s) refl p
