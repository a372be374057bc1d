-- Laws of `all_parts` and `in_base`: digits below the base stand for a number below one of its powers, and texts that are read as their numbers one by one are so together.
-- Assumes nothing.
use Prim.Native.Nat.{ℕ, zero, suc, ◌+◌, ◌*◌, ◌^◌, ◌≤◌, ◌<◌}
use mathlib.Core.Path.{◌≡◌, refl, ap}
use mathlib.Core.List.{List, [], ◌∷◌, ◌++◌, map}
use mathlib.Core.Bool.{Bool, true, and-eq-true_iff}
use lib.ListN.{length, take, drop, replicate}
use native.Mathlib.Nat.{pow-suc, add-zero, suc-mul, mul-le-mul_right}
use native.Mathlib.Omega.{arith}
use Rattle.address.specs.Parts.{all_parts, in_base}

-- ---- digits
-- every number of ns is below b
pub data Below (b : ℕ) : List ℕ → Type 0 where
  none : Below b []
  one : {n : ℕ} {ns : List ℕ} → n < b → Below b ns → Below b (n ∷ ns)

pub below_append : (b : ℕ) (xs ys : List ℕ) → Below b xs → Below b ys → Below b (xs ++ ys)
below_append b [] ys none q = q
below_append b (x ∷ xs) ys (one h p) q = one h (below_append b xs ys p q)

pub below_zeros : (b k : ℕ) → 0 < b → Below b (replicate k 0)
below_zeros b zero h = none
below_zeros b (suc k) h = one h (below_zeros b k h)

pub below_take : (b k : ℕ) (ns : List ℕ) → Below b ns → Below b (take k ns)
below_take b zero ns s = none
below_take b (suc k) [] none = none
below_take b (suc k) (n ∷ ns) (one h s) = one h (below_take b k ns s)

pub below_drop : (b k : ℕ) (ns : List ℕ) → Below b ns → Below b (drop k ns)
below_drop b zero ns s = s
below_drop b (suc k) [] none = none
below_drop b (suc k) (n ∷ ns) (one h s) = below_drop b k ns s

-- one digit more
pub next_below : (b n k d : ℕ) → n < b ^ k → d < b → n * b + d < b ^ suc k
next_below b n k d h p =
    let m : suc n * b ≤ b ^ k * b = mul-le-mul_right b h in
    rw pow-suc (omega (arith, suc-mul n b))

pub base_below : (b : ℕ) (ds : List ℕ) (n k : ℕ) → Below b ds → n < b ^ k → in_base b n ds < b ^ (k + length ds)
unfolding in_base
base_below b [] n k none h = rw add-zero h
base_below b (d ∷ ds) n k (one p s) h =
    let e : k + suc (length ds) ≡ suc k + length ds = omega arith in
    rw e (base_below b ds (n * b + d) (suc k) s (next_below b n k d h p))

-- ---- parts
-- parts of a kind whose values are below b
pub below_values : (b : ℕ) (is : List ℕ → Bool) (value : List ℕ → ℕ) → ((p : List ℕ) → is p ≡ true → value p < b)
    → (ps : List (List ℕ)) → all_parts is ps ≡ true → Below b (map value ps)
unfolding all_parts
below_values b is value f [] e = none
below_values b is value f (p ∷ ps) e =
    let (q, r) = (and-eq-true_iff (is p) (all_parts is ps)).0 e in
    one (f p q) (below_values b is value f ps r)

-- a number below b has a text that is read as itself
module _ (b : ℕ) (text : ℕ → List ℕ) (is : List ℕ → Bool) (value : List ℕ → ℕ) (back : (n : ℕ) → n < b → (is (text n) ≡ true) × (value (text n) ≡ n)) where
  pub all_texts : (ns : List ℕ) → Below b ns → all_parts is (map text ns) ≡ true
  unfolding all_parts
  all_texts [] none = refl
  all_texts (n ∷ ns) (one h s) = rw (back n h).0 (all_texts ns s)

  pub values_texts : (ns : List ℕ) → Below b ns → map value (map text ns) ≡ ns
  values_texts [] none = refl
  values_texts (n ∷ ns) (one h s) = rw (back n h).1 (ap (λ (l : List ℕ). n ∷ l) (values_texts ns s))
