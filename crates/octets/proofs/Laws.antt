-- Laws of `put`, and of the list that is left at a position: they follow from what `take`, `drop` and `set` do to a list.
-- Assumes nothing.
use Prim.Native.Nat.{ℕ, zero, suc, ◌+◌, ◌-◌, ◌≤◌, ◌<◌}
use mathlib.Core.Path.{◌≡◌, refl, sym, ap, ◌∙◌}
use mathlib.Core.List.{List, [], ◌∷◌, ◌++◌, append-nil, append_assoc}
use lib.ListN.{length, get_or, take, drop, set, length-append, length-take, length-drop, take-append-drop}
use lib.Seq.{drop-cons, drop-set-lt, take-suc-set, drop-drop, length-take-le, take-nil, take_all, take_at, drop_at}
use native.Mathlib.Nat.{add-zero, add-suc, suc-add, not-suc-le-zero, le_of_suc-le-suc, add_assoc, sub-zero}
use native.Mathlib.Numerals.{add-one}
use native.Mathlib.Omega.{arith}
use borrow.Rule.Slice.PartMut.{mid_of}
use Rattle.octets.specs.Append.{put}

-- what is left at i is the octet there and what is left after it
pub next : (s : List ℕ) (i : ℕ) → i < length s → drop i s ≡ get_or s i 0 ∷ drop (i + 1) s
next s i h = rw (add-one, drop-cons s i 0)

-- the part of a front, as a front of the part
pub drop_take : (a n : ℕ) (l : List ℕ) → drop a (take n l) ≡ take (n - a) (drop a l)
drop_take zero n l = simp sub-zero
drop_take (suc a) zero l = let z : 0 - suc a ≡ 0 = omega arith in rw z
drop_take (suc a) (suc n) [] = sym (take-nil (suc n - suc a))
drop_take (suc a) (suc n) (x ∷ l) = let z : suc n - suc a ≡ n - a = omega arith in rw z (drop_take a n l)

-- the part from a on, to the end
pub tail_is : (l : List ℕ) (a : ℕ) → mid_of a (length l - a) l ≡ drop a l
tail_is l a = take_all (length l - a) (drop a l) (omega (arith, length-drop a l))

-- nothing written
pub put_nil : (l : List ℕ) (at : ℕ) → put l at [] ≡ l
unfolding put
put_nil l at = simp (add-zero, append-nil, take-append-drop)

-- an octet written, and what is after it
pub drop_set_here : (l : List ℕ) (i d : ℕ) → i < length l → drop i (set l i d) ≡ d ∷ drop (suc i) l
drop_set_here [] i d h = absurd (not-suc-le-zero h)
drop_set_here (x ∷ xs) zero d h = refl
drop_set_here (x ∷ xs) (suc i) d h = drop_set_here xs i d (le_of_suc-le-suc h)

-- one octet, and those after it
pub put_cons : (l : List ℕ) (at : ℕ) (d : ℕ) (vs : List ℕ) → at < length l → put l at (d ∷ vs) ≡ put (set l at d) (at + 1) vs
unfolding put
put_cons l at d vs h =
    simp (append_assoc, add-one, add-suc, suc-add, take-suc-set l at d h, drop-set-lt (suc (at + length vs)) l at d (omega arith))

pub length_put : (l : List ℕ) (at : ℕ) (vs : List ℕ) → at + length vs ≤ length l → length (put l at vs) ≡ length l
unfolding put
length_put l at vs h = simp (length-append, length-take, length-drop) (omega arith)

append_behind : (a b ys : List ℕ) (n : ℕ) → length a ≡ n → take n (a ++ b) ++ ys ++ drop (n + length ys) (a ++ b) ≡ a ++ ys ++ drop (length ys) b
append_behind a b ys n h = rw (take_at a b n h, ← drop-drop (length ys) n (a ++ b), drop_at a b n h)

-- two texts, one after the other
pub put_append : (l xs ys : List ℕ) (at : ℕ) → at + length xs ≤ length l → put (put l at xs) (at + length xs) ys ≡ put l at (xs ++ ys)
unfolding put
put_append l xs ys at h =
    let n = at + length xs in
    let a = take at l ++ xs in
    let la : length a ≡ n = length-append (take at l) xs ∙ ap (λ (z : ℕ). z + length xs) (length-take-le at l (omega arith)) in
    append_behind a (drop n l) ys n la ∙ simp (append_assoc, length-append, drop-drop, add_assoc)
