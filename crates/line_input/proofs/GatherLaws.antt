-- Laws of `gathered`: where the first LF is, and how many octets were appended, say what is answered.
-- Assumes nothing.
use Prim.Native.Nat.{ℕ, ◌+◌, ◌-◌, ◌≤◌, ◌<◌, min}
use mathlib.Core.Path.{◌≡◌, refl, sym, ap, ◌∙◌}
use mathlib.Core.List.{List}
use mathlib.Core.Bool.{Bool, true, false, ◌||◌}
use lib.ListN.{length, take, drop, length-drop}
use lib.Dec.{ltb}
use native.Mathlib.Omega.{arith}
use borrow.Author.Tests.{lt-ltb, le-ltb}
use Rattle.octets.specs.Split.{has, before, find_at, Found}
use Rattle.octets.specs.Append.{appended, next_of, Appends}
use Rattle.octets.proofs.CaseLaws.{by_lt}
use Rattle.octets.proofs.SplitLaws.{take_before, has_ltb}
use Rattle.line_input.specs.declared.Gathered.{Gathered}
use Rattle.line_input.specs.Gather.{gathered, Gathers}

-- the answer, by its four parts
abbrev pub told : ℕ → Bool → ℕ → Bool → Gathered
told n over i ended = record { len = n; over = over; next = i; ended = ended }

same : (n n' : ℕ) (o o' : Bool) (i i' : ℕ) (e e' : Bool) → n ≡ n' → o ≡ o' → i ≡ i' → e ≡ e' → told n o i e ≡ told n' o' i' e'
same n n' o o' i i' e e' p q r s = rw (p, q, r, s)

-- ---- the call: e is where the first LF is, and the octets before it were appended
module _ (s l f d v : List ℕ) (from n e r : ℕ) (at : Found s 10 from e) (rest : d ≡ drop from s) (cuts : v ≡ take (e - from) d) (adds : Appends l n v r f) where
  abbrev p : List ℕ
  p = before 10 (drop from s)

  long : length p ≡ e - from
  unfolding find_at
  long = omega (arith, at.is)

  cut : v ≡ p
  cut = cuts ∙ rw (rest, ← long) (take_before 10 (drop from s))

  stored : r ≡ n + min (length l - n) (length p)
  unfolding next_of
  stored = adds.next ∙ rw cut

  pub low : n ≤ r
  low = omega (arith, stored)

  module _ (over o : Bool) (is : o ≡ (over || ltb (r - n) (e - from))) where
    same_test : ltb (r - n) (e - from) ≡ ltb (length l - n) (length p)
    same_test = by_lt (length l - n) (length p) _
        (λ h. lt-ltb (r - n) (e - from) (omega (arith, stored, long)) ∙ sym (lt-ltb (length l - n) (length p) h))
        (λ h. le-ltb (r - n) (e - from) (omega (arith, stored, long)) ∙ sym (le-ltb (length l - n) (length p) h))

    left : f ≡ appended l n p
    left = adds.leaves ∙ rw cut

    pub with_lf : e < length s → Gathers s from l n over (told r o (e + 1) true) f
    unfolding gathered
    with_lf h =
        let k : has 10 (drop from s) ≡ true = has_ltb 10 (drop from s) ∙ lt-ltb (length p) (length (drop from s)) (omega (arith, long, at.low, length-drop from s)) in
        record {
          answers = rw k (same _ _ _ _ _ _ _ _ stored (is ∙ ap (λ (z : Bool). over || z) same_test) (omega (arith, long, at.low)) refl);
          leaves = left;
        }

    pub without_lf : length s ≤ e → Gathers s from l n over (told r o e false) f
    unfolding gathered
    without_lf h =
        let k : has 10 (drop from s) ≡ false = has_ltb 10 (drop from s) ∙ le-ltb (length p) (length (drop from s)) (omega (arith, long, at.low, length-drop from s)) in
        record {
          answers = rw k (same _ _ _ _ _ _ _ _ stored (is ∙ ap (λ (z : Bool). over || z) same_test) (omega (arith, long, at.low)) refl);
          leaves = left;
        }

pub ruleset gathering = (low, with_lf, without_lf)
