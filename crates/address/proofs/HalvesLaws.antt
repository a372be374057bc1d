-- Laws of the two halves: while at most eight groups are shifted in, they are the halves of the groups' number.
-- Assumes nothing.
use Prim.Native.Nat.{ℕ, suc, ◌+◌, ◌*◌, ◌/◌, ◌%◌, ◌^◌, ◌≤◌, ◌<◌}
use mathlib.Core.Path.{◌≡◌, refl, sym, ap, ◌∙◌}
use mathlib.Core.List.{List, [], ◌∷◌, ◌++◌}
use lib.ListN.{length}
use native.Mathlib.Nat.{pow-le-pow_right, mod-lt, div-add-mod', mul-add-div_right, mul-add-mod_self_right, div-eq_of_lt, mod-eq_of_lt, add-zero}
use native.Mathlib.Omega.{arith}
use Rattle.address.specs.declared.ipv6.Halves.{Halves}
use Rattle.address.specs.Parts.{in_base}
use Rattle.address.specs.Private.{pushed, push_all}
use Rattle.address.proofs.PartLaws.{Below, one, next_below}

unfoldable pub halves_of : ℕ → Halves
halves_of n = record { high = n / 2 ^ 64; low = n % 2 ^ 64 }

halves_path : (a b c d : ℕ) → a ≡ b → c ≡ d → (let x : Halves = record { high = a; low = c } in x) ≡ (let y : Halves = record { high = b; low = d } in y)
halves_path a b c d p q = rw (p, q)

-- the halves of a number that is given by them
pub halves_of_lem : (u v : ℕ) → v < 2 ^ 64 → halves_of (u * 2 ^ 64 + v) ≡ (let y : Halves = record { high = u; low = v } in y)
unfolding halves_of
halves_of_lem u v h =
    halves_path _ _ _ _
    (mul-add-div_right {m = 2 ^ 64} (omega arith) u v ∙ ap (λ (w : ℕ). u + w) (div-eq_of_lt h) ∙ add-zero u)
    (mul-add-mod_self_right u (2 ^ 64) v ∙ mod-eq_of_lt h)

shift : (u v g : ℕ) → (u * 2 ^ 64 + v) * 65536 + g
    ≡ (u * 65536 + v / 2 ^ 48) * 2 ^ 64 + (v % 2 ^ 48 * 65536 + g)
shift u v g = omega arith

push_pair : (u v g : ℕ) → u < 2 ^ 48 → v < 2 ^ 64 → g < 65536
    → pushed (record { high = u; low = v }) g ≡ (let y : Halves = record { high = u * 65536 + v / 2 ^ 48; low = v % 2 ^ 48 * 65536 + g } in y)
unfolding pushed
push_pair u v g h k m = halves_path _ _ _ _ (omega arith) (omega arith)

push_number : (n g : ℕ) → n < 65536 ^ 7 → g < 65536 → pushed (halves_of n) g ≡ halves_of (n * 65536 + g)
unfolding halves_of
push_number n g h k =
    let u = n / 2 ^ 64 in
    let v = n % 2 ^ 64 in
    let hv : v < 2 ^ 64 = mod-lt n {m = 2 ^ 64} (omega arith) in
    let hu : u < 2 ^ 48 = omega arith in
    let e : u * 2 ^ 64 + v ≡ n = div-add-mod' n (2 ^ 64) in
    push_pair u v g hu hv k
    ∙ sym (halves_of_lem (u * 65536 + v / 2 ^ 48) (v % 2 ^ 48 * 65536 + g) (omega arith))
    ∙ ap halves_of (sym (shift u v g))
    ∙ ap (λ (w : ℕ). halves_of (w * 65536 + g)) e

pub push_all_number : (gs : List ℕ) (n k : ℕ) → Below 65536 gs → n < 65536 ^ k → k + length gs ≤ 8 → push_all (halves_of n) gs ≡ halves_of (in_base 65536 n gs)
unfolding push_all in_base
push_all_number [] n k s h m = refl
push_all_number (g ∷ gs) n k (one q s) h m =
    let p : 65536 ^ k ≤ 65536 ^ 7 = pow-le-pow_right {n = 65536} (omega arith) {i = k} {j = 7} (omega arith) in
    ap (λ (a : Halves). push_all a gs) (push_number n g (omega arith) q) ∙ push_all_number gs (n * 65536 + g) (suc k) s (next_below 65536 n k g h q) (omega arith)

pub push_append : (h : Halves) (xs ys : List ℕ) → push_all h (xs ++ ys) ≡ push_all (push_all h xs) ys
unfolding push_all
push_append h [] ys = refl
push_append h (x ∷ xs) ys = push_append (pushed h x) xs ys
