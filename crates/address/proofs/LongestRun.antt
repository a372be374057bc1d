-- The run that "::" stands for is a longest one, and the first of those: at each group the better of two is kept, and the earlier where they are equal.
-- Assumes nothing.
use Prim.Native.Nat.{ℕ, zero, suc, ◌+◌, ◌≤◌, ◌<◌}
use mathlib.Core.Path.{◌≡◌, refl, sym, ap, ◌∙◌}
use mathlib.Core.List.{List, [], ◌∷◌, ◌++◌}
use lib.ListN.{length, drop, replicate}
use lib.Seq.{drop_at}
use native.Mathlib.Omega.{arith}
use borrow.Author.Tests.{lt-ltb, le-ltb}
use Rattle.octets.proofs.CaseLaws.{by_lt}
use Rattle.address.specs.declared.write.Run.{Run}
use Rattle.address.specs.Canonical.{zeros, better, longest_from, longest_run}

-- x is r, or a longer run of gs, whose first group is number i; none of gs is longer, and none as long comes before it
record Most (r : Run) (i : ℕ) (gs : List ℕ) (x : Run) : Type 0 where
  more : r.len ≤ x.len
  same : x.len ≡ r.len → x.start ≡ r.start
  all : (j : ℕ) → zeros (drop j gs) ≤ x.len
  first : (j : ℕ) → zeros (drop j gs) ≡ x.len → x.start ≤ i + j

zeros_none : (j : ℕ) → zeros (drop j []) ≡ 0
unfolding zeros
zeros_none zero = refl
zeros_none (suc j) = refl

-- a run, and one more group
module _ (r : Run) (i : ℕ) (g : ℕ) (gs : List ℕ) (x : Run) (h : r.start ≤ i) where
  most_kept : zeros (g ∷ gs) ≤ r.len → Most r (i + 1) gs x → Most r i (g ∷ gs) x
  most_kept p m =
      record {
        more = m.more;
        same = m.same;
        all = all_kept;
        first = first_kept;
      }
    where
      all_kept : (j : ℕ) → zeros (drop j (g ∷ gs)) ≤ x.len
      all_kept zero = let k = m.more in omega arith
      all_kept (suc j) = m.all j

      first_kept : (j : ℕ) → zeros (drop j (g ∷ gs)) ≡ x.len → x.start ≤ i + j
      first_kept zero e = let k = m.more in let s = m.same (omega arith) in omega arith
      first_kept (suc j) e = let k = m.first j e in omega arith

  most_new : r.len < zeros (g ∷ gs) → Most (record { start = i; len = zeros (g ∷ gs) }) (i + 1) gs x → Most r i (g ∷ gs) x
  most_new p m =
      record {
        more = let k = m.more in omega arith;
        same = λ e. absurd (let k = m.more in omega arith);
        all = all_new;
        first = first_new;
      }
    where
      all_new : (j : ℕ) → zeros (drop j (g ∷ gs)) ≤ x.len
      all_new zero = m.more
      all_new (suc j) = m.all j

      first_new : (j : ℕ) → zeros (drop j (g ∷ gs)) ≡ x.len → x.start ≤ i + j
      first_new zero e = let s = m.same (sym e) in omega arith
      first_new (suc j) e = let k = m.first j e in omega arith

most : (gs : List ℕ) (r : Run) (i : ℕ) → r.start ≤ i → Most r i gs (longest_from r i gs)
unfolding longest_from better
most [] r i h = record { more = omega arith; same = λ e. refl; all = λ j. omega (arith, zeros_none j); first = λ j e. omega arith }
most (g ∷ gs) r i h =
    by_lt r.len (zeros (g ∷ gs)) _
    (λ p. rw (lt-ltb r.len (zeros (g ∷ gs)) p) (most_new r i g gs _ h p (most gs (record { start = i; len = zeros (g ∷ gs) }) (i + 1) (omega arith))))
    (λ p. rw (le-ltb r.len (zeros (g ∷ gs)) p) (most_kept r i g gs _ h p (most gs r (i + 1) (omega arith))))

zeros_replicate : (n : ℕ) (ys : List ℕ) → n ≤ zeros (replicate n 0 ++ ys)
unfolding zeros
zeros_replicate zero ys = omega arith
zeros_replicate (suc n) ys = let h = zeros_replicate n ys in omega arith

-- a run of n zeros in gs is no longer than the one chosen, and where it is as long it does not come before it
pub longest_run_lem : (gs xs ys : List ℕ) (n : ℕ) → gs ≡ xs ++ (replicate n 0 ++ ys)
    → (n ≤ (longest_run gs).len) × (n ≡ (longest_run gs).len → (longest_run gs).start ≤ length xs)
unfolding longest_run
longest_run_lem gs xs ys n e =
    let m = most gs (record { start = 0; len = 0 }) 0 (omega arith) in
    let d : drop (length xs) gs ≡ replicate n 0 ++ ys = ap (drop (length xs)) e ∙ drop_at xs (replicate n 0 ++ ys) (length xs) refl in
    let z : n ≤ zeros (drop (length xs) gs) = rw d (zeros_replicate n ys) in
    let k = m.all (length xs) in
    (omega arith, λ q. let f = m.first (length xs) (omega arith) in omega arith)
