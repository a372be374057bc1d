-- Laws of reading octets: each step reads a pair of digits and puts one octet after those that are there.
-- Assumes nothing.
use Prim.Native.Nat.{ℕ, suc, ◌+◌, ◌-◌, ◌*◌, ◌/◌, ◌%◌, ◌≤◌, ◌<◌, min}
use mathlib.Core.Path.{◌≡◌, refl, sym, ap, ◌∙◌}
use mathlib.Core.List.{List, [], ◌∷◌}
use mathlib.Core.Bool.{Bool, true, false, ◌&&◌, and-true, and-false, and_assoc, and-eq-true_iff}
use lib.ListN.{length, get_or, take, drop, set, length-set, length-drop}
use lib.Dec.{leb, eqb, leb-suc-suc}
use lib.Seq.{take-nil, take_at}
use native.Mathlib.Omega.{arith}
use borrow.Author.Tests.{le-leb, lt-leb, eq-eqb, leb-true}
use mir.Syntax.{w8}
use mir.Val.{Fits}
use Rattle.std.specs.declared.option.Option.{Option}
use Rattle.std.specs.declared.option.Option.TheVariants.{Some, None}
use Rattle.octets.specs.Append.{put, next_of, appended, Appends}
use Rattle.octets.specs.Hex.{is_hex_digit, hex_value, all_hex, is_hex, hex_octets, digit_in}
use Rattle.octets.proofs.CaseLaws.{by_bool}
use Rattle.octets.proofs.Laws.{next, put_nil, put_cons}
use Rattle.octets.proofs.AppendLaws.{append_room}
use Rattle.octets.proofs.HexLaws.{none_digit, some_digit, length_octets}
use Rattle.notation.specs.Notation.{octets_before, ReadsOctets}
use Rattle.notation.specs.Private.{pair_in}

-- ---- a pair
pair_none : (a b : ℕ) → pair_in a b ≡ None → (is_hex_digit a && is_hex_digit b) ≡ false
unfolding pair_in
pair_none a b e =
    by_bool (is_hex_digit a && is_hex_digit b) _
    (λ t. let k : ◌≡◌ {A = Option ℕ} (Some (hex_value a * 16 + hex_value b)) None = rw t at e in let z : ◌≡◌ {A = ℕ} 0 1 = cc in absurd (omega arith))
    (λ t. t)

pair_some : (a b v : ℕ) → pair_in a b ≡ Some v → (is_hex_digit a ≡ true) × (is_hex_digit b ≡ true) × (v ≡ hex_value a * 16 + hex_value b)
unfolding pair_in
pair_some a b v e =
    by_bool (is_hex_digit a && is_hex_digit b) _
    (λ t.
    let k : ◌≡◌ {A = Option ℕ} (Some (hex_value a * 16 + hex_value b)) (Some v) = rw t at e in
    let (p, q) = (and-eq-true_iff (is_hex_digit a) (is_hex_digit b)).0 t in
    (p, q, cc))
    (λ t. let k : ◌≡◌ {A = Option ℕ} None (Some v) = rw t at e in let z : ◌≡◌ {A = ℕ} 0 1 = cc in absurd (omega arith))

module _ (a b : ℕ) where
  pub first_not : None ≡ digit_in a → None ≡ pair_in a b
  unfolding pair_in
  first_not e = rw (none_digit a e)

  pub second_not : None ≡ digit_in b → None ≡ pair_in a b
  unfolding pair_in
  second_not e = rw (none_digit b e, and-false)

  pub both_digits : (x y : ℕ) → Some x ≡ digit_in a → Some y ≡ digit_in b → Some (x * 16 + y) ≡ pair_in a b
  unfolding pair_in
  both_digits x y p q =
      let (ha, va, la) = some_digit a x p in
      let (hb, vb, lb) = some_digit b y q in
      rw (ha, hb, va, vb)

  pub pair_fits : (x y : ℕ) → Some x ≡ digit_in a → Some y ≡ digit_in b → Fits w8 (x * 16 + y)
  pair_fits x y p q =
      let (ha, va, la) = some_digit a x p in
      let (hb, vb, lb) = some_digit b y q in
      omega arith

  pub high_fits : (x : ℕ) → Some x ≡ digit_in a → Fits w8 (x * 16)
  high_fits x p =
      let (ha, va, la) = some_digit a x p in
      omega arith

pub ruleset pairs = (first_not, second_not, both_digits, pair_fits, high_fits)

-- ---- the pairs of a text
append_none : (l : List ℕ) (j : ℕ) → appended l j [] ≡ l
unfolding appended
append_none l j = rw take-nil (put_nil l j)

-- whether the rest of the text is pairs of digits that fit after j octets of a buffer of n
abbrev pub rest_fits : List ℕ → ℕ → ℕ → Bool
rest_fits t j n = is_hex (drop (j + j) t) && leb (length (drop (j + j) t) / 2) (n - j)

-- j octets of t are in the buffer l, in which l₀ was; `most` octets fit
module _ (t l₀ l : List ℕ) (j most : ℕ) (room : most ≡ min (length t / 2) (length l₀)) (same : length l ≡ length l₀)
    (ans : rest_fits t j (length l) ≡ (is_hex t && leb (length t / 2) (length l₀)))
    (buf : appended l j (octets_before (drop (j + j) t)) ≡ appended l₀ 0 (octets_before t)) where
  module _ (h : j < most) (y : Option ℕ) (p : y ≡ pair_in (get_or t (j + j) 0) (get_or t (j + j + 1) 0)) where
    pair : drop (j + j) t ≡ get_or t (j + j) 0 ∷ get_or t (j + j + 1) 0 ∷ drop (j + 1 + (j + 1)) t
    pair =
        let e : j + j + 1 + 1 ≡ j + 1 + (j + 1) = omega arith in
        next t (j + j) (omega arith) ∙ ap (λ (z : List ℕ). get_or t (j + j) 0 ∷ z) (next t (j + j + 1) (omega arith) ∙ rw e)

    pub octets_bad : y ≡ None → ReadsOctets t l₀ false l
    unfolding is_hex all_hex octets_before
    octets_bad q =
        let n = pair_none (get_or t (j + j) 0) (get_or t (j + j + 1) 0) (sym p ∙ q) in
        let w : (is_hex_digit (get_or t (j + j) 0) && (is_hex_digit (get_or t (j + j + 1) 0) && all_hex (drop (j + 1 + (j + 1)) t))) ≡ false =
        sym (and_assoc (is_hex_digit (get_or t (j + j) 0)) (is_hex_digit (get_or t (j + j + 1) 0)) (all_hex (drop (j + 1 + (j + 1)) t))) ∙ rw n in
        record { answers = rw (pair, w, and-false) at ans; leaves = sym (append_none l j) ∙ rw (pair, n) at buf }

    module _ (v : ℕ) (q : y ≡ Some v) where
      less : length l - j ≡ suc (length l - (j + 1))
      less = omega arith

      pub octets_turn : rest_fits t (j + 1) (length (set l j v)) ≡ (is_hex t && leb (length t / 2) (length l₀))
      unfolding is_hex all_hex
      octets_turn =
          let (ha, hb, w) = pair_some (get_or t (j + j) 0) (get_or t (j + j + 1) 0) v (sym p ∙ q) in
          let n = length (drop (j + 1 + (j + 1)) t) in
          let odd : suc (suc n) % 2 ≡ n % 2 = omega arith in
          let half : suc (suc n) / 2 ≡ suc (n / 2) = omega arith in
          rw length-set (rw (pair, ha, hb, odd, half, less, leb-suc-suc (n / 2) (length l - (j + 1))) at ans)

      pub octets_turn_f : appended (set l j v) (j + 1) (octets_before (drop (j + 1 + (j + 1)) t)) ≡ appended l₀ 0 (octets_before t)
      unfolding appended octets_before
      octets_turn_f =
          let (ha, hb, w) = pair_some (get_or t (j + j) 0) (get_or t (j + j + 1) 0) v (sym p ∙ q) in
          let vs = take (length l - (j + 1)) (octets_before (drop (j + 1 + (j + 1)) t)) in
          rw (length-set, w)
          (sym (put_cons l j (hex_value (get_or t (j + j) 0) * 16 + hex_value (get_or t (j + j + 1) 0)) vs (omega arith)) ∙ rw (pair, ha, hb, less) at buf)

  module _ (i : j ≤ most) (h : most ≤ j) where
    pub octets_full : most < length t / 2 → ReadsOctets t l₀ (leb (length t / 2) most) l
    unfolding appended
    octets_full k =
        let z : length l - j ≡ 0 = omega arith in
        let w = length-drop (j + j) t in
        rw (lt-leb (length t / 2) most k)
        record {
          answers = rw (z, lt-leb (length (drop (j + j) t) / 2) 0 (omega arith), and-false) at ans;
          leaves = sym (put_nil l j) ∙ rw z at buf;
        }

    pub octets_done : length t / 2 ≤ most → ReadsOctets t l₀ (eqb (length t % 2) 0) l
    unfolding is_hex all_hex octets_before
    octets_done k = done_by (drop (j + j) t) (length-drop (j + j) t) ans buf
      where
        done_by : (u : List ℕ) → length u ≡ length t - (j + j) → (is_hex u && leb (length u / 2) (length l - j)) ≡ (is_hex t && leb (length t / 2) (length l₀))
            → appended l j (octets_before u) ≡ appended l₀ 0 (octets_before t) → ReadsOctets t l₀ (eqb (length t % 2) 0) l
        done_by [] e x y =
            let z : length t % 2 ≡ 0 = omega arith in
            record { answers = rw (eq-eqb (length t % 2) 0 z) (rw (eq-eqb (length t % 2) 0 z, le-leb 0 (length l - j) (omega arith)) at x); leaves = sym (append_none l j) ∙ y }
        done_by (c ∷ []) e x y =
            let z : length t % 2 ≡ 1 = omega arith in
            record { answers = rw z; leaves = sym (append_none l j) ∙ y }
        done_by (c ∷ d ∷ u) e x y = absurd (omega arith)

pub octets_start : (t l : List ℕ) → rest_fits t 0 (length l) ≡ (is_hex t && leb (length t / 2) (length l))
octets_start t l = let z : length l - 0 ≡ length l = omega arith in rw z

pub ruleset readings = (octets_start, octets_full, octets_bad, octets_done)

-- ---- what the answer says
before_all : (t : List ℕ) → all_hex t ≡ true → octets_before t ≡ hex_octets t
unfolding all_hex octets_before hex_octets
before_all [] h = refl
before_all (a ∷ []) h = refl
before_all (a ∷ b ∷ t) h =
    let (p, q) = (and-eq-true_iff (is_hex_digit a) (is_hex_digit b && all_hex t)).0 h in
    let (r, u) = (and-eq-true_iff (is_hex_digit b) (all_hex t)).0 q in
    rw (p, r) (ap (λ (z : List ℕ). (hex_value a * 16 + hex_value b) ∷ z) (before_all t u))

-- the octets were read
pub read_back : (t l f : List ℕ) → ReadsOctets t l true f → (is_hex t ≡ true) × (take (length t / 2) f ≡ hex_octets t)
unfolding is_hex put
read_back t l f r =
    let (h, k) = (and-eq-true_iff (is_hex t) (leb (length t / 2) (length l))).0 (sym r.answers) in
    let m = leb-true (length t / 2) (length l) k in
    let n = length_octets t (length t / 2) refl in
    let x : octets_before t ≡ hex_octets t = before_all t ((and-eq-true_iff (eqb (length t % 2) 0) (all_hex t)).0 h).1 in
    let a : Appends l 0 (hex_octets t) (next_of (length l) 0 (hex_octets t)) f = record { next = refl; leaves = rw (← x) r.leaves } in
    let (e, g) = append_room l f 0 (hex_octets t) _ a (omega arith) in
    (h, rw (g, ← n) (take_at (hex_octets t) (drop (0 + length (hex_octets t)) l) (length (hex_octets t)) refl))

-- there is a fault in t, since its octets would fit
pub read_wrong : (t l f : List ℕ) → ReadsOctets t l false f → length t / 2 ≤ length l → is_hex t ≡ false
read_wrong t l f r h =
    let w : false ≡ (is_hex t && leb (length t / 2) (length l)) = r.answers in
    let z : false ≡ (is_hex t && true) = rw (le-leb (length t / 2) (length l) h) at w in
    sym (rw (and-true) at z)
