-- Laws of appending: a text is put as far as there is room, and what is left to put goes after what is there; a number is its last digits, put from the right.
-- Assumes nothing.
use Prim.Native.Nat.{ℕ, zero, suc, ◌+◌, ◌-◌, ◌/◌, ◌%◌, ◌≤◌, ◌<◌, min}
use mathlib.Core.Path.{◌≡◌, refl, sym, ap, ◌∙◌}
use mathlib.Core.List.{List, [], ◌∷◌, ◌++◌, append_assoc, append-nil as append_empty}
use lib.ListN.{length, get_or, take, drop, set, length-set, length-append, length-take, length-drop, drop_of_length-le}
use lib.Seq.{take_all, take-nil, take-append-le, take-append-add}
use native.Mathlib.Nat.{add-zero}
use native.Mathlib.Numerals.{add-one, sub-one}
use native.Mathlib.Omega.{arith}
use borrow.Author.Tests.{lt-ltb, le-ltb}
use Rattle.std.proofs.lemmas.List.{get_or-take}
use Rattle.octets.specs.Append.{put, next_of, appended, Appends, width_from, number_text}
use Rattle.octets.specs.Private.{Tail}
use Rattle.octets.specs.Decimal.{last_digits}
use Rattle.octets.proofs.CaseLaws.{by_lt}
use Rattle.octets.proofs.Laws.{next, drop_set_here, put_nil, put_cons, length_put, put_append}

-- a text that finds no room
pub push_none : (l : List ℕ) (at : ℕ) (vs : List ℕ) → length l ≤ at → Appends l at vs at l
unfolding next_of appended
push_none l at vs h =
    let z : length l - at ≡ 0 = omega arith in
    record { next = omega arith; leaves = rw z (sym (put_nil l at)) }

-- src is put at `at` of the buffer, which has l₀, as far as there is room, n octets of it. Before octet j the buffer has l.
module _ (src l l₀ : List ℕ) (at n j : ℕ) (low : at < length l₀) (m : n ≡ min (length src) (length l₀ - at)) (inv : put l (at + j) (drop j (take n src)) ≡ put l₀ at (take n src)) where
  pub push_turn : j < n → length l ≡ length l₀ → put (set l (at + j) (get_or src j 0)) (at + (j + 1)) (drop (j + 1) (take n src)) ≡ put l₀ at (take n src)
  push_turn h e =
      let z : at + (j + 1) ≡ at + j + 1 = omega arith in
      let q : length (take n src) ≡ n = simp length-take (omega arith) in
      rw (z, ← get_or-take n src j 0 h)
      (sym (put_cons l (at + j) (get_or (take n src) j 0) (drop (j + 1) (take n src)) (omega arith)) ∙ rw (next (take n src) j (omega arith)) at inv)

  pub push_some : n ≤ j → Appends l₀ at src (at + n) l
  unfolding next_of appended
  push_some h =
      let t = take (length l₀ - at) src in
      let same : take n src ≡ t =
      by_lt (length src) (length l₀ - at) _
      (λ k. take_all n src (omega arith) ∙ sym (take_all (length l₀ - at) src (omega arith)))
      (λ k. let z : n ≡ length l₀ - at = omega arith in rw z)
      in
      let q : length (take n src) ≤ j = simp length-take (omega arith) in
      let put_all : l ≡ put l₀ at (take n src) = sym (put_nil l (at + j)) ∙ rw (drop_of_length-le (take n src) q) at inv in
      record { next = omega arith; leaves = rw same at put_all }

pub push_start : (vs l : List ℕ) (at : ℕ) → put l (at + 0) (drop 0 vs) ≡ put l at vs
push_start vs l at = rw add-zero

-- nothing appended
pub append_nil : (l : List ℕ) (at : ℕ) → Appends l at [] at l
unfolding next_of appended
append_nil l at = record { next = omega arith; leaves = rw take-nil (sym (put_nil l at)) }

-- a text that fits is put
pub append_room : (l f : List ℕ) (at : ℕ) (vs : List ℕ) (r : ℕ) → Appends l at vs r f → at + length vs ≤ length l
    → (r ≡ at + length vs) × (f ≡ put l at vs)
unfolding next_of appended
append_room l f at vs r p h =
    let pn : r ≡ at + min (length l - at) (length vs) = p.next in
    let pl : f ≡ put l at (take (length l - at) vs) = p.leaves in
    (omega arith, rw (take_all (length l - at) vs (omega arith)) at pl)

pub length_appends : (l f : List ℕ) (at : ℕ) (vs : List ℕ) (r : ℕ) → Appends l at vs r f → length f ≡ length l
unfolding appended
length_appends l f at vs r p =
    ap (λ (z : List ℕ). length z) p.leaves
    ∙ by_lt (length l) at _
    (λ k. let z : length l - at ≡ 0 = omega arith in rw z (ap (λ (z : List ℕ). length z) (put_nil l at)))
    (λ k. length_put l at (take (length l - at) vs) (simp length-take (omega arith)))

module _ (l f g xs ys : List ℕ) (at r r' : ℕ) (p : Appends l at xs r f) (q : Appends f r ys r' g) where
  append_fits : length xs < length l - at → Appends l at (xs ++ ys) r' g
  unfolding next_of appended
  append_fits h =
      let n = length l - (at + length xs) in
      let e : length l - at ≡ length xs + n = omega arith in
      let (pr, pf) = append_room l f at xs r p (omega arith) in
      let lf = length_appends l f at xs r p in
      let ql : g ≡ put f r (take (length f - r) ys) = q.leaves in
      let qn : r' ≡ r + min (length f - r) (length ys) = q.next in
      let qg : g ≡ put f (at + length xs) (take n ys) = rw (lf, pr) at ql in
      let qr : r' ≡ at + length xs + min n (length ys) = rw (lf, pr) at qn in
      record {
        next = rw length-append (omega arith);
        leaves = qg ∙ ap (λ (z : List ℕ). put z (at + length xs) (take n ys)) pf ∙ put_append l xs (take n ys) at (omega arith) ∙ rw (e, take-append-add xs ys n);
      }

  append_full : length l - at ≤ length xs → Appends l at (xs ++ ys) r' g
  unfolding next_of appended
  append_full h =
      let n = length l - at in
      let pr : r ≡ at + n = omega (arith, p.next) in
      let lf = length_appends l f at xs r p in
      let none : length f - r ≡ 0 = omega arith in
      let ql : g ≡ put f r (take (length f - r) ys) = q.leaves in
      let qg : g ≡ f = (rw none at ql) ∙ put_nil f r in
      let qr : r' ≡ r = omega (arith, q.next) in
      record {
        next = rw length-append (omega arith);
        leaves = qg ∙ p.leaves ∙ rw (take-append-le n xs ys h);
      }

  -- two texts, one after the other
  pub append_more : Appends l at (xs ++ ys) r' g
  append_more = by_lt (length xs) (length l - at) _ append_fits append_full

-- the same with the last first: for `search`
pub append_then : (l f g xs ys : List ℕ) (at r r' : ℕ) → Appends f r ys r' g → Appends l at xs r f → Appends l at (xs ++ ys) r' g
append_then l f g xs ys at r r' q p = append_more l f g xs ys at r r' p q

pub width_one : (e m : ℕ) → m < 10 → width_from e m ≡ 1
unfolding width_from
width_one zero m h = refl
width_one (suc e) m h = rw (lt-ltb m 10 h)

pub width_suc : (e m : ℕ) → 10 ≤ m → width_from (suc e) m ≡ suc (width_from e (m / 10))
unfolding width_from
width_suc e m h = rw (le-ltb m 10 h)

pub length_last : (k n : ℕ) → length (last_digits k n) ≡ k
unfolding last_digits
length_last zero n = refl
length_last (suc k) n = simp (length-append, length_last k (n / 10), add-one)

-- The last digits of n are in d after its place k, and m is what is left of n.
module _ (n m k : ℕ) (d : List ℕ) (inv : last_digits (width_from k m) m ++ drop (k + 1) d ≡ number_text n) (room : k < length d) where
  pub number_turn : 0 < k → 9 < m → last_digits (width_from (k - 1) (m / 10)) (m / 10) ++ drop k (set d k (48 + m % 10)) ≡ number_text n
  unfolding last_digits
  number_turn h g =
      rw (drop_set_here d k (48 + m % 10) room) (simp (one_more k h, append_assoc, add-one) at inv)
    where
      one_more : (k : ℕ) → 0 < k → width_from k m ≡ suc (width_from (k - 1) (m / 10))
      one_more zero h = absurd (omega arith)
      one_more (suc e) h = simp sub-one (width_suc e m g)

  pub number_last : (0 < k → m ≤ 9) → Tail (set d k (48 + m % 10)) k (number_text n)
  unfolding last_digits width_from
  number_last h =
      record {
        inside = rw length-set (omega arith);
        is = rw (drop_set_here d k (48 + m % 10) room) (rw (only k h, add-one) at inv);
      }
    where
      only : (k : ℕ) → (0 < k → m ≤ 9) → width_from k m ≡ 1
      only zero h = refl
      only (suc e) h = let z = h (omega arith) in width_one (suc e) m (omega arith)

pub number_start : (n : ℕ) (d : List ℕ) → length d ≡ 20 → last_digits (width_from 19 n) n ++ drop 20 d ≡ number_text n
unfolding number_text
number_start n d h = let k : length d ≤ 20 = omega arith in rw (drop_of_length-le d k, append_empty)

-- the digits of n, in the end of an array
pub number_pushed : (d l g : List ℕ) (n k at r : ℕ) → Tail d k (number_text n) → length d ≡ 20 → Appends l at (take (20 - k) (drop k d)) r g
    → Appends l at (number_text n) r g
number_pushed d l g n k at r e h a = rw (take_all (20 - k) (drop k d) (omega (arith, length-drop k d)), e.is) at a

-- one octet
pub octet_yes : (l : List ℕ) (at b : ℕ) → at < length l → Appends l at (b ∷ []) (at + 1) (set l at b)
unfolding next_of appended
octet_yes l at b h =
    let q : length l - at ≡ suc (length l - (at + 1)) = omega arith in
    record { next = omega arith; leaves = sym (rw q (ap (λ (z : List ℕ). put l at (b ∷ z)) (take-nil (length l - (at + 1))) ∙ put_cons l at b [] h ∙ put_nil (set l at b) (at + 1))) }

-- one octet, and a text
pub octet_then : (l f g : List ℕ) (at k r b : ℕ) (s : List ℕ) → Appends g k s r f → Appends l at (b ∷ []) k g → Appends l at (b ∷ s) r f
octet_then l f g at k r b s q p = append_then l g f (b ∷ []) s at k r q p
