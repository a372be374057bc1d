-- Laws of `before_gap` and `has_gap`: the two octets at a position say whether "::" starts there, and what comes after them is searched in the same way.
-- Assumes nothing.
use Prim.Native.Nat.{ℕ, suc, ◌+◌, ◌-◌, ◌≤◌, ◌<◌}
use mathlib.Core.Path.{◌≡◌, refl, sym, ap, ◌∙◌}
use mathlib.Core.Bool.{Bool, true, false, ◌&&◌}
use mathlib.Core.List.{List, [], ◌∷◌}
use lib.ListN.{length, get_or, take, drop, length-drop}
use lib.Dec.{eqb}
use native.Mathlib.Nat.{add-zero}
use native.Mathlib.Omega.{arith}
use borrow.Author.Tests.{lt-ltb, le-ltb}
use Rattle.std.specs.declared.option.Option.{Option}
use Rattle.std.specs.declared.option.Option.TheVariants.{Some, None}
use Rattle.octets.proofs.CaseLaws.{by_bool, by_lt}
use Rattle.octets.proofs.Laws.{next}
use Rattle.address.specs.Ipv6.{before_gap, has_gap}
use Rattle.address.specs.Private.{gap_at}

pub gap_here : (b c : ℕ) (bs : List ℕ) → (eqb b 58 && eqb c 58) ≡ true → before_gap (b ∷ c ∷ bs) ≡ []
unfolding before_gap
gap_here b c bs e = rw e

gap_more : (b c : ℕ) (bs : List ℕ) → (eqb b 58 && eqb c 58) ≡ false → before_gap (b ∷ c ∷ bs) ≡ b ∷ before_gap (c ∷ bs)
unfolding before_gap
gap_more b c bs e = rw e

gap_short : (s : List ℕ) → length s ≤ 1 → before_gap s ≡ s
unfolding before_gap
gap_short [] h = refl
gap_short (b ∷ []) h = refl
gap_short (b ∷ c ∷ bs) h = absurd (omega arith)

-- the search, at position i; x is its answer, and t the test of the octets at i and i + 1
module _ (s : List ℕ) (i x : ℕ) (inv : i + length (before_gap (drop i s)) ≡ x) where
  next_two : i + 1 < length s → drop i s ≡ get_or s i 0 ∷ get_or s (i + 1) 0 ∷ drop (i + 1 + 1) s
  next_two h = next s i (omega arith) ∙ ap (λ (l : List ℕ). get_or s i 0 ∷ l) (next s (i + 1) h)

  gap_found : (t : Bool) → t ≡ (eqb (get_or s i 0) 58 && eqb (get_or s (i + 1) 0) 58) → t ≡ true → i + 1 < length s → i ≡ x
  gap_found t e p h = rw (next_two h, gap_here (get_or s i 0) (get_or s (i + 1) 0) (drop (i + 1 + 1) s) (sym e ∙ p), add-zero) at inv

  gap_next : (t : Bool) → t ≡ (eqb (get_or s i 0) 58 && eqb (get_or s (i + 1) 0) 58) → t ≡ false → i + 1 < length s → i + 1 + length (before_gap (drop (i + 1) s)) ≡ x
  gap_next t e p h =
      let k : i + suc (length (before_gap (get_or s (i + 1) 0 ∷ drop (i + 1 + 1) s))) ≡ x =
      rw (next_two h, gap_more (get_or s i 0) (get_or s (i + 1) 0) (drop (i + 1 + 1) s) (sym e ∙ p)) at inv in
      rw (next s (i + 1) h) (omega arith)

  gap_end : length s ≤ i + 1 → i ≤ length s → length s ≡ x
  gap_end h g =
      let k : i + length (drop i s) ≡ x = rw (gap_short (drop i s) (omega (arith, length-drop i s))) at inv in
      omega (arith, length-drop i s)

-- a gap takes two octets
pub gap_room : (s : List ℕ) → length (before_gap s) < length s → length (before_gap s) + 2 ≤ length s
unfolding before_gap
gap_room [] h = absurd (omega arith)
gap_room (b ∷ []) h = absurd (omega arith)
gap_room (b ∷ c ∷ bs) h =
    by_bool (eqb b 58 && eqb c 58) _
    (λ e. rw (gap_here b c bs e) (omega arith))
    (λ e. let k : suc (length (before_gap (c ∷ bs))) < suc (suc (length bs)) = rw (gap_more b c bs e) at h in
    let m = gap_room (c ∷ bs) (omega arith) in
    rw (gap_more b c bs e) (omega arith))

pub take_gap : (s : List ℕ) → take (length (before_gap s)) s ≡ before_gap s
unfolding before_gap
take_gap [] = refl
take_gap (b ∷ []) = refl
take_gap (b ∷ c ∷ bs) =
    by_bool (eqb b 58 && eqb c 58) _
    (λ e. rw (gap_here b c bs e))
    (λ e. rw (gap_more b c bs e) (ap (λ (l : List ℕ). b ∷ l) (take_gap (c ∷ bs))))

pub has_gap_lem : (s : List ℕ) → length (before_gap s) < length s → has_gap s ≡ true
unfolding has_gap
has_gap_lem s h = lt-ltb (length (before_gap s)) (length s) h

pub no_gap : (s : List ℕ) → length s ≤ length (before_gap s) → has_gap s ≡ false
unfolding has_gap
no_gap s h = le-ltb (length (before_gap s)) (length s) h

-- what `gap_at` says
pub gap_none : (s : List ℕ) → gap_at s ≡ None → has_gap s ≡ false
unfolding gap_at
gap_none s e =
    by_bool (has_gap s) _
    (λ t. let k : ◌≡◌ {A = Option ℕ} (Some (length (before_gap s))) None = rw t at e in let z : ◌≡◌ {A = ℕ} 0 1 = cc in absurd (omega arith))
    (λ t. t)

pub gap_some : (s : List ℕ) (g : ℕ) → gap_at s ≡ Some g → (g ≡ length (before_gap s)) × (length (before_gap s) < length s)
unfolding gap_at has_gap
gap_some s g e =
    by_lt (length (before_gap s)) (length s) _
    (λ h. let k : ◌≡◌ {A = Option ℕ} (Some (length (before_gap s))) (Some g) = rw (lt-ltb (length (before_gap s)) (length s) h) at e in (cc, h))
    (λ h. let k : ◌≡◌ {A = Option ℕ} None (Some g) = rw (le-ltb (length (before_gap s)) (length s) h) at e in let z : ◌≡◌ {A = ℕ} 0 1 = cc in absurd (omega arith))

-- `find_gap`, at the octets before position i and at i
module _ (s : List ℕ) (i : ℕ) (inv : i - 1 + length (before_gap (drop (i - 1) s)) ≡ length (before_gap s)) (p : 1 ≤ i) (h : i < length s) where
  pub pair_found : (t : Bool) → t ≡ (eqb (get_or s (i - 1) 0) 58 && eqb (get_or s i 0) 58) → t ≡ true → Some (i - 1) ≡ gap_at s
  unfolding gap_at
  pair_found t e q =
      let m : i - 1 + 1 ≡ i = omega arith in
      let k = gap_found s (i - 1) _ inv t (rw m e) q (omega arith) in
      rw (has_gap_lem s (omega arith)) (ap Some k)

  pub pair_next : (t : Bool) → t ≡ (eqb (get_or s (i - 1) 0) 58 && eqb (get_or s i 0) 58) → t ≡ false → i + 1 - 1 + length (before_gap (drop (i + 1 - 1) s)) ≡ length (before_gap s)
  pair_next t e q =
      let m : i - 1 + 1 ≡ i = omega arith in
      let n : i + 1 - 1 ≡ i = omega arith in
      rw n (rw m at (gap_next s (i - 1) _ inv t (rw m e) q (omega arith)))

-- The search ended.
pub pairs_end : (s : List ℕ) (i : ℕ) → i - 1 + length (before_gap (drop (i - 1) s)) ≡ length (before_gap s) → 1 ≤ i → length s ≤ i → i - 1 ≤ length s → None ≡ gap_at s
unfolding gap_at
pairs_end s i inv p h k = rw (no_gap s (omega (arith, gap_end s (i - 1) _ inv (omega arith) k)))

pub ruleset pairs_read = (pair_found, pair_next, pairs_end)
