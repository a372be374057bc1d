-- What the kit's tests of texts say in the words of this crate. And two texts that are the same are equal.
-- Assumes nothing.
use Prim.Native.Nat.{ℕ}
use mathlib.Core.Path.{◌≡◌, refl, sym, ◌∙◌}
use mathlib.Core.List.{List, [], ◌∷◌}
use mathlib.Core.Bool.{true, false, and-false, and-eq-true_iff}
use lib.ListN.{length, take}
use lib.Dec.{eqb, eqb-suc-zero, eqb-zero-suc, eqb-suc-suc}
use native.Mathlib.Omega.{arith}
use borrow.Author.Tests.{eq-eqb, ne_eqb, eqb-true}
use Rattle.std.specs.Cmp.Lexicographic.{pointwise}
use Rattle.std.specs.List.{list_all}
use Rattle.octets.specs.Decimal.{is_digit, all_digits}
use Rattle.octets.specs.Words.{begins, same}
use Rattle.octets.proofs.CaseLaws.{by_bool, by_eq}

eq_turned : (a b : ℕ) → eqb a b ≡ eqb b a
eq_turned a b =
    by_eq a b _
    (λ e. eq-eqb a b e ∙ sym (eq-eqb b a (sym e)))
    (λ e. ne_eqb a b e ∙ sym (ne_eqb b a (λ (z : b ≡ a). e (sym z))))

-- what the kit's `starts_with` and `==` say of two texts
pub begins_octets : (w s : List ℕ) → pointwise eqb w (take (length w) s) ≡ begins w s
unfolding begins
begins_octets [] s = refl
begins_octets (x ∷ w) [] = refl
begins_octets (x ∷ w) (b ∷ s) = rw (eq_turned x b, begins_octets w s)

pub same_octets : (w s : List ℕ) → pointwise eqb s w ≡ same w s
unfolding same begins
same_octets [] [] = refl
same_octets [] (b ∷ s) = rw eqb-suc-zero
same_octets (x ∷ w) [] = rw eqb-zero-suc
same_octets (x ∷ w) (b ∷ s) =
    rw (same_octets w s, eqb-suc-suc)
    (by_bool (eqb b x) _ (λ e. rw e) (λ e. rw (e, and-false (eqb (length s) (length w)))))

-- a test of each octet
pub digits_are : (s : List ℕ) → list_all (λ (b : ℕ). is_digit b) s ≡ all_digits s
unfolding all_digits
digits_are [] = refl
digits_are (b ∷ s) = rw (digits_are s)

-- ---- two texts that are the same are equal
begins_is : (w s : List ℕ) → length s ≡ length w → begins w s ≡ true → w ≡ s
unfolding begins
begins_is [] [] h p = refl
begins_is [] (b ∷ s) h p = absurd (omega arith)
begins_is (x ∷ w) [] h p = absurd (omega arith)
begins_is (x ∷ w) (b ∷ s) h p =
    let (here, rest) = (and-eq-true_iff (eqb b x) (begins w s)).0 p in
    let e : b ≡ x = eqb-true b x here in
    let r : w ≡ s = begins_is w s (omega arith) rest in
    rw (e, r)

begins_self : (w : List ℕ) → begins w w ≡ true
unfolding begins
begins_self [] = refl
begins_self (x ∷ w) = rw (eq-eqb x x refl, begins_self w)

pub same_is : (w s : List ℕ) → same w s ≡ true → w ≡ s
unfolding same
same_is w s p =
    let (long, rest) = (and-eq-true_iff (eqb (length s) (length w)) (begins w s)).0 p in
    begins_is w s (eqb-true (length s) (length w) long) rest

pub same_self : (w : List ℕ) → same w w ≡ true
unfolding same
same_self w = rw (eq-eqb (length w) (length w) refl, begins_self w)

-- by whether w and s are the same text
pub by_same : (w s : List ℕ) (X : Type 0) → (w ≡ s → same w s ≡ true → X) → (same w s ≡ false → X) → X
by_same w s X f g = by_bool (same w s) X (λ p. f (same_is w s p) p) g
