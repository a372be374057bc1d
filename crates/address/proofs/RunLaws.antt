-- Laws of runs of zeros: the better of the longest so far and the run at a position is the longest so far at the next one.
-- Assumes nothing.
use Prim.Native.Nat.{ℕ, suc, ◌+◌, ◌-◌, ◌≤◌, ◌<◌}
use mathlib.Core.Path.{◌≡◌, refl, sym, ap, ap₂, ◌∙◌}
use mathlib.Core.Bool.{Bool, true, false, cond}
use mathlib.Core.List.{List, [], ◌∷◌, ◌++◌}
use lib.ListN.{length, get_or, take, drop, replicate, length-drop, drop_of_length-le, take-append-drop}
use lib.Seq.{drop-drop}
use lib.Dec.{eqb, ltb}
use native.Mathlib.Omega.{arith}
use borrow.Author.Tests.{eq-eqb, ne_eqb}
use Rattle.octets.proofs.CaseLaws.{by_eq}
use Rattle.octets.proofs.Laws.{next, tail_is}
use Rattle.address.specs.declared.write.Run.{Run}
use Rattle.address.specs.Canonical.{zeros, better, longest_from, longest_run}
use Rattle.address.specs.Private.{Longest}

zeros_none : zeros [] ≡ 0
unfolding zeros
zeros_none = refl

zeros_more : (b : ℕ) (bs : List ℕ) → b ≡ 0 → zeros (b ∷ bs) ≡ suc (zeros bs)
unfolding zeros
zeros_more b bs e = rw (eq-eqb b 0 e) (omega arith)

zeros_stop : (b : ℕ) (bs : List ℕ) → (b ≡ 0 → ⊥) → zeros (b ∷ bs) ≡ 0
unfolding zeros
zeros_stop b bs e = rw (ne_eqb b 0 e)

zeros_small : (gs : List ℕ) → zeros gs ≤ length gs
unfolding zeros
zeros_small [] = omega arith
zeros_small (g ∷ gs) = go (eqb g 0) (zeros_small gs)
  where
    go : (t : Bool) → zeros gs ≤ length gs → cond t (1 + zeros gs) 0 ≤ suc (length gs)
    go true h = omega arith
    go false h = omega arith

better_inside : (r : Run) (i z n : ℕ) → r.start + r.len ≤ n → i + z ≤ n → (better r i z).start + (better r i z).len ≤ n
unfolding better
better_inside r i z n h k = go (ltb r.len z)
  where
    go : (t : Bool) → (cond t (record { start = i; len = z }) r).start + (cond t (record { start = i; len = z }) r).len ≤ n
    go true = k
    go false = h

module _ (gs : List ℕ) (r : Run) (i : ℕ) (x : Run) (inv : longest_from r i (drop i gs) ≡ x) where
  pub longest_turn : (z : ℕ) (q : Run) → i < length gs → z ≡ zeros (take (length gs - i) (drop i gs)) → q ≡ better r i z → longest_from q (i + 1) (drop (i + 1) gs) ≡ x
  unfolding longest_from
  longest_turn z q h e p =
      let m : longest_from (better r i (zeros (get_or gs i 0 ∷ drop (i + 1) gs))) (i + 1) (drop (i + 1) gs) ≡ x = rw (next gs i h) at inv in
      rw (p, e, tail_is gs i, next gs i h) m

  longest_end : length gs ≤ i → r ≡ x
  unfolding longest_from
  longest_end h = rw (drop_of_length-le gs h) at inv

pub inside_turn : (gs : List ℕ) (r : Run) (i z : ℕ) (q : Run) → r.start + r.len ≤ length gs → i < length gs → z ≡ zeros (take (length gs - i) (drop i gs)) → q ≡ better r i z → q.start + q.len ≤ length gs
inside_turn gs r i z q h k e p =
    rw p
    (better_inside r i z (length gs) h (omega (arith, ap zeros (tail_is gs i), zeros_small (drop i gs), length-drop i gs)))

pub longest_done : (gs : List ℕ) (r : Run) (i : ℕ) → longest_from r i (drop i gs) ≡ longest_run gs → r.start + r.len ≤ length gs → length gs ≤ i → Longest gs r
longest_done gs r i inv h k = record { is = longest_end gs r i (longest_run gs) inv k; inside = h }

pub ruleset longest_found = (longest_turn, inside_turn, longest_done)

-- r is a run of zeros of gs
pub record IsRun (gs : List ℕ) (r : Run) : Type 0 where
  pub inside : r.start + r.len ≤ length gs
  pub zero_groups : take r.len (drop r.start gs) ≡ replicate r.len 0

take_zeros : (gs : List ℕ) → take (zeros gs) gs ≡ replicate (zeros gs) 0
take_zeros [] = rw zeros_none
take_zeros (g ∷ gs) =
    by_eq g 0 _
    (λ e. rw (zeros_more g gs e) (ap₂ ◌∷◌ e (take_zeros gs)))
    (λ e. rw (zeros_stop g gs e))

better_run : (gs : List ℕ) (r : Run) (i : ℕ) → IsRun gs r → i ≤ length gs → IsRun gs (better r i (zeros (drop i gs)))
unfolding better
better_run gs r i w h = go (ltb r.len (zeros (drop i gs)))
  where
    go : (t : Bool) → IsRun gs (cond t (record { start = i; len = zeros (drop i gs) }) r)
    go true = record { inside = omega (arith, zeros_small (drop i gs), length-drop i gs); zero_groups = take_zeros (drop i gs) }
    go false = w

longest_from_lem : (gs xs : List ℕ) (r : Run) (i : ℕ) → drop i gs ≡ xs → IsRun gs r → IsRun gs (longest_from r i xs)
unfolding longest_from
longest_from_lem gs [] r i e w = w
longest_from_lem gs (x ∷ xs) r i e w =
    let n : length (drop i gs) ≡ suc (length xs) = ap length e in
    let h : i < length gs = omega (arith, length-drop i gs) in
    let p : get_or gs i 0 ∷ drop (i + 1) gs ≡ x ∷ xs = sym (next gs i h) ∙ e in
    let t : drop (i + 1) gs ≡ xs = cc in
    longest_from_lem gs xs (better r i (zeros (x ∷ xs))) (i + 1) t (rw (← e) (better_run gs r i w (omega arith)))

pub longest_is : (gs : List ℕ) → IsRun gs (longest_run gs)
unfolding longest_run
longest_is gs = longest_from_lem gs gs (record { start = 0; len = 0 }) 0 refl (record { inside = omega arith; zero_groups = refl })

-- a list around a run
pub around : (gs : List ℕ) (r : Run) → IsRun gs r → take r.start gs ++ (replicate r.len 0 ++ drop (r.start + r.len) gs) ≡ gs
around gs r w =
    let s = r.start in
    let n = r.len in
    let d : drop (s + n) gs ≡ drop n (drop s gs) = sym (drop-drop n s gs) in
    rw (← w.zero_groups, d)
    (ap (λ (l : List ℕ). take s gs ++ l) (take-append-drop n (drop s gs)) ∙ take-append-drop s gs)
