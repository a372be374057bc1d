-- The flags are set codec by codec: the codecs that start before a place and those from it on are always the whole list.
-- Assumes nothing.
use Prim.Native.Nat.{ℕ, ◌+◌, ◌≤◌}
use mathlib.Core.Path.{◌≡◌, refl, sym, ap, ap₂, ◌∙◌}
use mathlib.Core.Bool.{Bool, true, false}
use mathlib.Core.List.{List, [], ◌∷◌, ◌++◌, append_assoc}
use lib.Dec.{ltb}
use lib.ListN.{drop}
use native.Mathlib.Omega.{arith}
use borrow.Author.Tests.{lt-ltb, le-ltb}
use Rattle.octets.specs.Append.{Appends}
use Rattle.octets.proofs.AppendLaws.{append_nil, octet_then}
use Rattle.octets.proofs.CaseLaws.{by_lt}
use Rattle.bat.specs.Elements.{PlacedElement, placed_elements}
use Rattle.bat_match.specs.Matching.{PlacedCodec, codec_octets, has_octets}
use Rattle.bat_match.specs.Private.{all_singles, codecs_at, CodecAt, SharedAt, starting_before, flag_of, selection_after}
use Rattle.bat_match.proofs.SearchLaws.{none_from, none_left}
use Rattle.bat_match.proofs.PlacedLaws.{LeftAt, Step, step_of, nothing_left}

-- ---- one flag
module _ (t s : List ℕ) (d : ℕ) (before : List PlacedCodec) (a : Bool) (found : a ≡ has_octets t (codecs_at s d)) where
  other_has : has_octets t (codecs_at s d) ≡ a
  other_has = sym found

  pub flag_none : a ≡ false → 0 ≡ flag_of t before (codecs_at s d)
  flag_none h = rw (other_has, h)

  module _ (b : Bool) (repeats : b ≡ has_octets t before) where
    pub flag_repeat : a ≡ true → b ≡ true → 0 ≡ flag_of t before (codecs_at s d)
    flag_repeat h k = rw (other_has, h, ← repeats, k)

    pub flag_kept : a ≡ true → b ≡ false → 1 ≡ flag_of t before (codecs_at s d)
    flag_kept h k = rw (other_has, h, ← repeats, k)

pub ruleset selecting = (flag_none, flag_repeat, flag_kept)

-- ---- the codecs that start before a place
before_append : (n : ℕ) (xs ys : List PlacedCodec) → starting_before n (xs ++ ys) ≡ starting_before n xs ++ starting_before n ys
unfolding starting_before
before_append n [] ys = refl
before_append n (x ∷ xs) ys =
    let ih = before_append n xs ys in
    by_lt x.start n _
    (λ h. rw (lt-ltb x.start n h, ih))
    (λ h. rw (le-ltb x.start n h) ih)

before_earlier : (m n : ℕ) (xs : List PlacedCodec) → m ≤ n → starting_before n (starting_before m xs) ≡ starting_before m xs
unfolding starting_before
before_earlier m n [] h = refl
before_earlier m n (x ∷ xs) h =
    let ih = before_earlier m n xs h in
    by_lt x.start m _
    (λ k. rw (lt-ltb x.start m k, lt-ltb x.start n (omega arith), ih))
    (λ k. rw (le-ltb x.start m k) ih)

-- P are the codecs of the list; at a place of s, those before it and those from it on are P
module _ (s : List ℕ) (P : List PlacedCodec) (at : ℕ) (split : P ≡ starting_before at P ++ codecs_at s at) (n : ℕ) (u : List ℕ) (c : CodecAt s at n u) where
  next_before : starting_before (at + n) P ≡ starting_before at P ++ (c.codec ∷ [])
  unfolding starting_before
  next_before =
      let z : ltb c.codec.start (at + n) ≡ true = lt-ltb c.codec.start (at + n) (omega (arith, c.starts, c.some)) in
      ap (starting_before (at + n)) (split ∙ ap (λ (l : List PlacedCodec). starting_before at P ++ l) c.are)
      ∙ before_append (at + n) (starting_before at P) (c.codec ∷ codecs_at s (at + n))
      ∙ rw (before_earlier at (at + n) P (omega (arith, c.some)), z, none_from (drop (at + n) s) (at + n) (at + n) (omega arith))

  next_split : P ≡ starting_before (at + n) P ++ codecs_at s (at + n)
  next_split = split ∙ ap (λ (l : List PlacedCodec). starting_before at P ++ l) c.are ∙ sym (append_assoc (starting_before at P) (c.codec ∷ []) (codecs_at s (at + n))) ∙ ap (λ (l : List PlacedCodec). l ++ codecs_at s (at + n)) (sym next_before)

-- ---- one flag after the other
-- The flags of the codecs of s from d on: the buffer has `out` to k, xs are left, and whatever goes on from there with the rest
-- ends as all flags do.
pub record Flagging (s : List ℕ) (d : ℕ) (os : List PlacedCodec) (out₀ : List ℕ) (xs : List PlacedElement) (out : List ℕ) (k : ℕ) : Type 0 where
  pub place : ℕ
  pub left : LeftAt s place xs
  pub split : codecs_at s d ≡ starting_before place (codecs_at s d) ++ codecs_at s place
  pub ends : (r : ℕ) (g : List ℕ) → Appends out k (selection_after (starting_before place (codecs_at s d)) (codecs_at s place) os) r g → Appends out₀ 0 (selection_after [] (codecs_at s d) os) r g

module _ (s : List ℕ) (d : ℕ) (os : List PlacedCodec) where
  pub flags_start : (out : List ℕ) (xs : List PlacedElement) → all_singles (drop d s) ≡ true → xs ≡ placed_elements d (drop d s) → Flagging s d os out xs out 0
  flags_start out xs singles are =
      let z = none_from (drop d s) d d (omega arith) in
      record { place = d; left = record { are = are; singles = singles }; split = rw z; ends = λ r g p. rw z at p }

  module _ (out₀ : List ℕ) (xs : List PlacedElement) (out : List ℕ) (k : ℕ) (f : Flagging s d os out₀ xs out k) where
    pub flags_end : xs ≡ [] → Appends out₀ 0 (selection_after [] (codecs_at s d) os) k out
    unfolding selection_after
    flags_end h = f.ends k out (rw (none_left s f.place (nothing_left s f.place xs f.left h)) (append_nil out k))

    module _ (p : PlacedElement) (ys : List PlacedElement) (next : xs ≡ p ∷ ys) where
      step : Step s f.place p ys
      step = step_of s f.place xs f.left p ys next

      -- the flag of the first codec, which the other list has
      pub flag_first : SharedAt s d os → p.at ≡ d → 1 ≡ flag_of p.element.contents (starting_before p.at (codecs_at s d)) os
      unfolding has_octets
      flag_first here e =
          let c : CodecAt s d p.length p.element.contents = rw (sym step.at ∙ e) at step.codec in
          rw (e, none_from (drop d s) d d (omega arith), c.reads, here.shared c.codec (codecs_at s (d + p.length)) c.are)

      pub flags_more : (m : ℕ) → m ≡ flag_of p.element.contents (starting_before p.at (codecs_at s d)) os → (j : ℕ) (h : List ℕ) → Appends out k (m ∷ []) j h → Flagging s d os out₀ ys h j
      unfolding selection_after
      flags_more m told j h a =
          let P = codecs_at s d in
          let c = step.codec in
          let n = f.place + p.length in
          let before = next_before s P f.place f.split p.length p.element.contents c in
          let is : m ≡ flag_of (codec_octets c.codec) (starting_before f.place P) os = told ∙ ap₂ (λ (t : List ℕ) (e : ℕ). flag_of t (starting_before e P) os) c.reads step.at in
          record {
            place = n;
            left = record { are = step.left; singles = c.rest };
            split = next_split s P f.place f.split p.length p.element.contents c;
            ends = λ r g q.
                let z : Appends h j (selection_after (starting_before f.place P ++ (c.codec ∷ [])) (codecs_at s n) os) r g = rw before at q in
                f.ends r g (rw (c.are, ← is) (octet_then out g h k j r m _ z a));
          }
