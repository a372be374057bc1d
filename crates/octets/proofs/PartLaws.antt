-- Laws of `part_at` and `separators_of` at a position: they follow from what `split_on` gives at the next separator, or at the end.
-- Assumes nothing.
use Prim.Native.Nat.{ℕ, zero, suc, ◌+◌, ◌-◌, ◌≤◌, ◌<◌}
use mathlib.Core.Path.{◌≡◌, refl, sym, ◌∙◌}
use mathlib.Core.List.{List, [], ◌∷◌}
use lib.ListN.{length, take, drop}
use native.Mathlib.Omega.{arith}
use borrow.Author.Tests.{eq-eqb, ne_eqb}
use Rattle.octets.specs.Split.{before, split_on, Found, part_at, separators_of}
use Rattle.std.specs.Prelude.{count_by}
use Rattle.std.proofs.lemmas.List.Recursion.{is_count_by}
use mathlib.Core.Bool.{cond}
use lib.Dec.{eqb}
use Rattle.octets.proofs.CaseLaws.{by_lt, by_eq}
use Rattle.octets.proofs.SplitLaws.{length_first, split_some, part_is, part_dot, part_last}

part_none : (k : ℕ) → part_at k [] ≡ []
unfolding part_at
part_none zero = refl
part_none (suc k) = refl

-- k parts are to be passed over from i on; e is the next separator, or the end
module _ (s : List ℕ) (c i k e : ℕ) (x : List ℕ) (inv : part_at k (split_on c (drop i s)) ≡ x) (f : Found s c i e) where
  pub part_next : 0 < k → e < length s → part_at (k - 1) (split_on c (drop (e + 1) s)) ≡ x
  unfolding part_at
  part_next h l =
      let q : k ≡ suc (k - 1) = omega arith in
      let z : part_at (suc (k - 1)) (before c (drop i s) ∷ split_on c (drop (e + 1) s)) ≡ x = rw (q, part_dot s c i e f.is l) at inv in
      z

  pub part_missing : 0 < k → length s ≤ e → [] ≡ x
  unfolding part_at
  part_missing h l =
      let q : k ≡ suc (k - 1) = omega arith in
      let z : part_at (suc (k - 1)) (before c (drop i s) ∷ []) ≡ x = rw (q, part_last s c i e f.is l) at inv in
      sym (part_none (k - 1)) ∙ z

  pub part_here : k ≤ 0 → take (e - i) (drop i s) ≡ x
  unfolding part_at
  part_here h =
      let q : k ≡ 0 = omega arith in
      part_is s c i e f.is
      ∙ by_lt e (length s) _
      (λ l. let z : part_at 0 (before c (drop i s) ∷ split_on c (drop (e + 1) s)) ≡ x = rw (q, part_dot s c i e f.is l) at inv in z)
      (λ l. let z : part_at 0 (before c (drop i s) ∷ []) ≡ x = rw (q, part_last s c i e f.is l) at inv in z)

sep_here : (c b : ℕ) (bs : List ℕ) → b ≡ c → separators_of c (b ∷ bs) ≡ separators_of c bs + 1
unfolding separators_of split_on
sep_here c b bs e = rw (eq-eqb b c e) (omega (arith, split_some c bs))

sep_more : (c b : ℕ) (bs : List ℕ) → (b ≡ c → ⊥) → separators_of c (b ∷ bs) ≡ separators_of c bs
unfolding separators_of split_on
sep_more c b bs e = rw (ne_eqb b c e, length_first b (split_on c bs) (split_some c bs))

sep_none : (c : ℕ) → separators_of c [] ≡ 0
unfolding separators_of split_on
sep_none c = refl

-- the number of parts is one more than that of separators
pub separators_count : (c : ℕ) (s : List ℕ) → separators_of c s ≡ count_by (λ (b : ℕ). eqb b c) s
separators_count c s = is_count_by (separators_of c) (λ (b : ℕ). eqb b c) (sep_none c) more s
  where
    more : (b : ℕ) (bs : List ℕ) → separators_of c (b ∷ bs) ≡ cond (eqb b c) (1 + separators_of c bs) (separators_of c bs)
    more b bs =
        by_eq b c _
        (λ e. rw (eq-eqb b c e) (sep_here c b bs e ∙ omega arith))
        (λ e. rw (ne_eqb b c e) (sep_more c b bs e))

pub ruleset picking = (part_next, part_missing, part_here)
