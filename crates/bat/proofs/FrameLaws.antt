-- The cases of a length and of an element at the front of octets, each as the function that reads it answers it.
-- Assumes nothing.
use Prim.Native.Nat.{ℕ, suc, ◌+◌, ◌-◌, ◌*◌, ◌%◌, ◌≤◌, ◌<◌}
use mathlib.Core.Path.{◌≡◌, refl, sym, ap, ◌∙◌}
use mathlib.Core.List.{List, [], ◌∷◌}
use mathlib.Core.Option.{none, some}
use lib.ListN.{length, get_or, take, drop, length-drop}
use lib.Seq.{drop-drop, take-take, length-take-le}
use native.Mathlib.Omega.{arith}
use native.Mathlib.Numerals.{add-one}
use borrow.Author.Tests.{le-leb, lt-leb, lt-ltb, le-ltb, eq-eqb, ne_eqb}
use lib.Dec.{ltb}
use Rattle.std.specs.List.{prefix_len}
use Rattle.octets.specs.Spans.{text_of}
use Rattle.octets.proofs.CaseLaws.{by_le}
use Rattle.octets.proofs.Pick.{some_is}
use Rattle.octets.proofs.Laws.{drop_take}
use Rattle.std.specs.Prelude.{Option, Some, None, Ok, Err}
use Rattle.bat.specs.declared.Size.{Size}
use Rattle.bat.specs.declared.Frame.{Frame}
use Rattle.bat.specs.declared.Unframed.{Unframed}
use Rattle.bat.specs.Framing.{octet, Length, sized, unsized, length_of, unmarked, counted_by, element_by, sized_by, front}
use Rattle.bat.specs.FramingMeaning.{size_in, element_in, front_in, HeaderLength}

-- ---- the octets before the first with bit 8 set
pub unmarked_is : (s : List ℕ) → prefix_len (λ b. ltb b 128) s ≡ unmarked s
unfolding unmarked
unmarked_is [] = refl
unmarked_is (b ∷ s) =
    let ih = unmarked_is s in
    by_le 128 b _
    (λ h. rw (le-leb 128 b h, le-ltb b 128 h))
    (λ h. rw (lt-leb 128 b h, lt-ltb b 128 h, ih) (omega arith))

-- ---- length
pub size_none : (s : List ℕ) → length s < 1 → size_in s None ≡ some (length_of s)
unfolding size_in length_of
size_none [] h = refl
size_none (a ∷ s) h = absurd (omega arith)

pub size_one : (s : List ℕ) (n : ℕ) → 1 ≤ length s → 128 ≤ get_or s 0 0 → n ≡ get_or s 0 0 % 128 → size_in s (Some (record { length = n; octets = 1 })) ≡ some (length_of s)
unfolding size_in length_of
size_one [] n h b e = absurd (omega arith)
size_one (a ∷ []) n h b e = simp (le-leb 128 a b, e)
size_one (a ∷ c ∷ s) n h b e = simp (le-leb 128 a b, e, le-leb 1 (suc (suc (length s))) (omega arith))

pub size_cut : (s : List ℕ) → 1 ≤ length s → get_or s 0 0 < 128 → length s < 2 → size_in s None ≡ some (length_of s)
unfolding size_in length_of
size_cut [] h b k = absurd (omega arith)
size_cut (a ∷ []) h b k = simp (lt-leb 128 a b)
size_cut (a ∷ c ∷ s) h b k = absurd (omega arith)

pub size_long : (s : List ℕ) → get_or s 0 0 < 128 → 2 ≤ length s → get_or s 1 0 < 128 → size_in s None ≡ some (length_of s)
unfolding size_in length_of
size_long [] b k d = absurd (omega arith)
size_long (a ∷ []) b k d = absurd (omega arith)
size_long (a ∷ c ∷ s) b k d = simp (lt-leb 128 a b, lt-leb 128 c d)

pub size_two : (s : List ℕ) (low high : ℕ) → get_or s 0 0 < 128 → 2 ≤ length s → 128 ≤ get_or s 1 0 → low ≡ get_or s 0 0 % 128 → high ≡ get_or s 1 0 % 16
    → size_in s (Some (record { length = low + high * 128; octets = 2 })) ≡ some (length_of s)
unfolding size_in length_of
size_two [] low high b k d e f = absurd (omega arith)
size_two (a ∷ []) low high b k d e f = absurd (omega arith)
size_two (a ∷ c ∷ s) low high b k d e f = simp (lt-leb 128 a b, le-leb 128 c d, e, f, le-leb 2 (suc (suc (length s))) (omega arith))

-- ---- the element at the front
pub front_none : (s : List ℕ) → length s < 1 → front_in s (Ok None) ≡ some (front s)
unfolding front_in front
front_none [] h = refl
front_none (i ∷ s) h = absurd (omega arith)

front_sized : (s : List ℕ) → 1 ≤ length s → front s ≡ sized_by (get_or s 0 0) (length_of (drop 1 s))
unfolding front
front_sized [] h = absurd (omega arith)
front_sized (i ∷ s) h = refl

-- what a length's answer says
size_missing : (t : List ℕ) (z : Length) → size_in t None ≡ some z → z ≡ unsized
unfolding size_in
size_missing t z p = cc

size_of : (t : List ℕ) (y : Size) (z : Length) → size_in t (Some y) ≡ some z → (y.octets ≤ length t) × (z ≡ sized (take y.octets t) y.length (drop y.octets t))
unfolding size_in
size_of t y z p =
    by_le y.octets (length t) _
    (λ h. let q : some (sized (take y.octets t) y.length (drop y.octets t)) ≡ some z = rw (le-leb y.octets (length t) h) at p in (h, cc))
    (λ h. let q : none ≡ some z = rw (lt-leb y.octets (length t) h) at p in absurd (let z : ◌≡◌ {A = ℕ} 0 1 = cc in omega arith))

-- after the identifier comes t, whose length field is y
module _ (s : List ℕ) (one : 1 ≤ length s) (t : List ℕ) (is : t ≡ drop 1 s) (y : Option Size) (size : size_in t y ≡ some (length_of t)) where
  here : front s ≡ sized_by (get_or s 0 0) (length_of t)
  here = front_sized s one ∙ rw (← is)

  pub front_unsized : (r : Unframed) → y ≡ None → front_in s (Err r) ≡ some (front s)
  unfolding front_in sized_by
  front_unsized r e = some_is _ _ (sym (here ∙ rw (size_missing t (length_of t) (rw e at size))))

  module _ (z : Size) (e : y ≡ Some z) where
    told : (z.octets ≤ length t) × (length_of t ≡ sized (take z.octets t) z.length (drop z.octets t))
    told = size_of t z (length_of t) (rw e at size)

    front_by : front s ≡ element_by (get_or s 0 0) (take z.octets t) z.length (drop z.octets t)
    unfolding sized_by
    front_by = here ∙ rw told.1

    pub front_empty : (r : Unframed) → z.length ≡ 0 → front_in s (Err r) ≡ some (front s)
    unfolding front_in element_by
    front_empty r h = some_is _ _ (sym (front_by ∙ simp (eq-eqb z.length 0 h)))

    module _ (full : z.length ≡ 0 → ⊥) (u : List ℕ) (behind : u ≡ drop z.octets t) where
      pub front_past : (r : Unframed) → length u < z.length → front_in s (Err r) ≡ some (front s)
      unfolding front_in element_by
      front_past r h = some_is _ _ (sym (front_by ∙ rw (← behind) (simp (ne_eqb z.length 0 full, lt-ltb (length u) z.length h))))

      module _ (fits : z.length ≤ length u) (c : List ℕ) (counts : c ≡ take z.length u) (x : ℕ) (mark : x ≡ unmarked c) where
        counted : front s ≡ counted_by (get_or s 0 0) (take z.octets t) c (drop z.length u)
        unfolding element_by
        counted = front_by ∙ rw (← behind) (simp (ne_eqb z.length 0 full, le-ltb (length u) z.length fits, counts))

        size_c : length c ≡ z.length
        size_c = ap (λ (l : List ℕ). length l) counts ∙ length-take-le z.length u fits

        pub front_endless : (r : Unframed) → z.length ≤ x → front_in s (Err r) ≡ some (front s)
        unfolding front_in counted_by
        front_endless r h = some_is _ _ (sym (counted ∙ simp (le-ltb (unmarked c) (length c) (omega (arith, size_c)))))

        behind_head : (j : ℕ) → drop (2 + z.octets + j) s ≡ drop (1 + j) u
        behind_head j =
            let a : 2 + z.octets + j ≡ 1 + (z.octets + (1 + j)) = omega arith in
            rw (a, ← drop-drop (z.octets + (1 + j)) 1 s, ← is, ← drop-drop (1 + j) z.octets t, ← behind)

        pub front_framed : (b : ℕ) → x < z.length → b ≡ octet 0 c
            → front_in s (Ok (Some (record { identifier = get_or s 0 0; size = z.octets; compatibility = b; extension = x; length = z.length - 1 - x }))) ≡ some (front s)
        unfolding front_in element_in counted_by
        front_framed b h o =
            let l : 2 + z.octets + x + (z.length - 1 - x) ≡ 2 + z.octets + (z.length - 1) = omega arith in
            let m : 1 + (z.length - 1) ≡ z.length = omega arith in
            let p : z.length - 1 - x ≡ z.length - (1 + x) = omega arith in
            let rest : drop (2 + z.octets + x + (z.length - 1 - x)) s ≡ drop z.length u = rw l (behind_head (z.length - 1) ∙ rw m) in
            let q : 2 + z.octets ≡ 2 + z.octets + 0 = omega arith in
            let size_is : take z.octets (drop 1 s) ≡ take z.octets t = rw (← is) in
            let extension_is : take x (drop (2 + z.octets) s) ≡ take x (drop 1 c) =
            rw (counts, drop_take 1 z.length u) (ap (take x) (ap (λ (j : ℕ). drop j s) q ∙ behind_head 0) ∙ sym (take-take x (z.length - 1) (drop 1 u) (omega arith))) in
            let contents_is : take (z.length - 1 - x) (drop (2 + z.octets + x) s) ≡ drop (suc x) c =
            rw (behind_head x, counts, p, ← add-one x, drop_take (x + 1) z.length u) (let q : 1 + x ≡ x + 1 = omega arith in rw q) in
            let in_s : 2 + z.octets + x + (z.length - 1 - x) ≤ length s = omega (arith, told.0, ap (λ (l : List ℕ). length l) is, length-drop 1 s, ap (λ (l : List ℕ). length l) behind, length-drop z.octets t) in
            rw (le-leb (2 + z.octets + x + (z.length - 1 - x)) (length s) in_s)
            (some_is _ _ (sym (counted ∙ rw (← mark) (rw (lt-ltb x (length c) (omega (arith, size_c))) (rw (rest, size_is, extension_is, contents_is, o) refl)))))

-- ---- the contents
pub text_contents : (s : List ℕ) (f : Frame) (at : ℕ) (r : List ℕ) → HeaderLength f at → r ≡ text_of s (record { at = at; len = f.length }) → r ≡ (element_in s f).contents
unfolding text_of element_in
text_contents s f at r h e = e ∙ rw h.is

pub ruleset sizes = (size_none, size_one, size_cut, size_long, size_two)

pub ruleset fronts = (front_none, front_unsized, front_empty, front_past, front_endless, front_framed)
