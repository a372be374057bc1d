-- The elements that the iterator over a list gives are its codecs, where they are single codecs.
-- Assumes nothing.
use Prim.Native.Nat.{ℕ, suc, ◌+◌, ◌≤◌}
use mathlib.Core.Path.{◌≡◌, refl, sym, ap, ◌∙◌}
use mathlib.Core.Bool.{Bool, true, false, and-eq-true_iff}
use mathlib.Core.List.{List, [], ◌∷◌}
use lib.Dec.{ltb}
use lib.ListN.{length, take, drop, length-drop}
use lib.Seq.{drop-drop, drop-append_seam}
use native.Mathlib.Omega.{arith}
use borrow.Author.Tests.{lt-ltb, le-ltb}
use Rattle.std.specs.Prelude.{Ok, Err}
use Rattle.std.specs.List.{list_any, prefix_len}
use Rattle.octets.specs.declared.Refusal.TheVariants.{NoCommonCodec}
use Rattle.octets.specs.Words.{same}
use Rattle.octets.proofs.CaseLaws.{by_lt}
use Rattle.bat.specs.Framing.{whole, Front, front, first, unframed, ended}
use Rattle.bat.specs.Values.{is_single}
use Rattle.bat.specs.Elements.{PlacedElement, placed_element, placed_elements}
use Rattle.bat.proofs.ElementsLaws as elements
use Rattle.bat.proofs.WalkLaws.{front_nil, front_ended, front_within, front_length, front_whole, by_front}
use Rattle.bat_match.specs.Matching.{PlacedCodec, placed_codec, placed_codecs, codec_octets, has_octets, common}
use Rattle.bat_match.specs.Private.{all_singles, codecs_at, CodecAt, FirstCommon, starting_before}
use Rattle.bat_match.proofs.CodecLaws.{placed_ended, placed_unframed, placed_first, singles_unframed, singles_first, single_octets}
use Rattle.bat_match.proofs.SearchLaws.{none_from, none_left, common_end, common_here, common_on}

-- one of them has the contents t
pub any_placed : (t s : List ℕ) (d : ℕ) → all_singles s ≡ true → list_any (λ (p : PlacedElement). same t p.element.contents) (placed_elements d s) ≡ has_octets t (placed_codecs d s)
unfolding has_octets
any_placed t =
    by_front (λ (s : List ℕ). (d : ℕ) → all_singles s ≡ true → list_any (λ (p : PlacedElement). same t p.element.contents) (placed_elements d s) ≡ has_octets t (placed_codecs d s))
    (λ d h. rw (elements.placed_ended d [] front_nil, placed_ended d [] front_nil))
    (λ s q d h. rw (elements.placed_unframed d s q, placed_unframed d s q))
    (λ s e u q ih d h.
    let (single, rest) = (and-eq-true_iff (is_single e) (all_singles u)).0 (sym (singles_first s e u q) ∙ h) in
    rw (elements.placed_first d s e u q, placed_first d s e u q, single_octets d e single, ih (d + length (whole e)) rest))

-- one of those that start before n has the contents t
pub any_before : (t s : List ℕ) (d n : ℕ) → all_singles s ≡ true
    → list_any (λ (p : PlacedElement). same t p.element.contents) (take (prefix_len (λ (p : PlacedElement). ltb p.at n) (placed_elements d s)) (placed_elements d s)) ≡ has_octets t (starting_before n (placed_codecs d s))
unfolding has_octets starting_before
any_before t =
    by_front (λ (s : List ℕ). (d n : ℕ) → all_singles s ≡ true → list_any (λ (p : PlacedElement). same t p.element.contents) (take (prefix_len (λ (p : PlacedElement). ltb p.at n) (placed_elements d s)) (placed_elements d s)) ≡ has_octets t (starting_before n (placed_codecs d s)))
    (λ d n h. rw (elements.placed_ended d [] front_nil, placed_ended d [] front_nil))
    (λ s q d n h. rw (elements.placed_unframed d s q, placed_unframed d s q))
    (λ s e u q ih d n h.
    let (single, rest) = (and-eq-true_iff (is_single e) (all_singles u)).0 (sym (singles_first s e u q) ∙ h) in
    let k = prefix_len (λ (p : PlacedElement). ltb p.at n) (placed_elements (d + length (whole e)) u) in
    let z : 1 + k ≡ suc k = omega arith in
    rw (elements.placed_first d s e u q, placed_first d s e u q)
    (by_lt d n _
    (λ l. rw (lt-ltb d n l, z, single_octets d e single, ih (d + length (whole e)) n rest))
    (λ l. rw (le-ltb d n l, none_from u (d + length (whole e)) n (omega arith)))))

-- ---- from one to the next
-- xs are the elements of s from a place on, which are single codecs
pub record LeftAt (s : List ℕ) (place : ℕ) (xs : List PlacedElement) : Type 0 where
  pub are : xs ≡ placed_elements place (drop place s)
  pub singles : all_singles (drop place s) ≡ true

-- p is the codec at the place, and ys are those after it
pub record Step (s : List ℕ) (place : ℕ) (p : PlacedElement) (ys : List PlacedElement) : Type 0 where
  pub at : p.at ≡ place
  pub codec : CodecAt s place p.length p.element.contents
  pub left : ys ≡ placed_elements (place + p.length) (drop (place + p.length) s)

module _ (s : List ℕ) (place : ℕ) (xs : List PlacedElement) (l : LeftAt s place xs) where
  pub nothing_left : xs ≡ [] → length s ≤ place
  nothing_left h = go (front (drop place s)) refl
    where
      go : (f : Front) → front (drop place s) ≡ f → length s ≤ place
      go (first e t) q = absurd (let w = elements.placed_first place (drop place s) e t q in let a = l.are in let z : ◌≡◌ {A = ℕ} 0 1 = cc in omega arith)
      go unframed q = absurd (let n = singles_unframed (drop place s) q in let k = l.singles in let z : ◌≡◌ {A = Bool} true false = cc in let y : ◌≡◌ {A = ℕ} 0 1 = cc in omega arith)
      go ended q = let n : drop place s ≡ [] = front_ended (drop place s) q in omega (arith, ap (λ (z : List ℕ). length z) n, length-drop place s)

  module _ (p : PlacedElement) (ys : List PlacedElement) (next : xs ≡ p ∷ ys) where
    pub step_of : Step s place p ys
    step_of = go (front (drop place s)) refl
      where
        go : (f : Front) → front (drop place s) ≡ f → Step s place p ys
        go (first e t) q =
            let w : placed_elements place (drop place s) ≡ placed_element place e ∷ placed_elements (place + length (whole e)) t = elements.placed_first place (drop place s) e t q in
            let z : p ∷ ys ≡ placed_element place e ∷ placed_elements (place + length (whole e)) t = sym next ∙ l.are ∙ w in
            let is : placed_element place e ≡ p = cc in
            let others : ys ≡ placed_elements (place + length (whole e)) t = cc in
            let after : t ≡ drop (place + length (whole e)) s = sym (drop-append_seam (whole e) t) ∙ ap (drop (length (whole e))) (sym (front_within (drop place s) e t q)) ∙ drop-drop (length (whole e)) place s in
            let (single, rest) = (and-eq-true_iff (is_single e) (all_singles t)).0 (sym (singles_first (drop place s) e t q) ∙ l.singles) in
            let n = front_length (drop place s) e t q in
            let m = front_whole (drop place s) e t q in
            rw (← is) (record {
              at = refl;
              codec = record {
                codec = placed_codec place e;
                starts = refl;
                length_is = refl;
                some = omega arith;
                within = omega (arith, length-drop place s);
                reads = sym (single_octets place e single);
                rest = rw after at rest;
                are = placed_first place (drop place s) e t q ∙ rw after;
              };
              left = others ∙ rw after;
            })
        go unframed q = absurd (let w = elements.placed_unframed place (drop place s) q in let a = l.are in let z : ◌≡◌ {A = ℕ} 0 1 = cc in omega arith)
        go ended q = absurd (let w = elements.placed_ended place (drop place s) q in let a = l.are in let z : ◌≡◌ {A = ℕ} 0 1 = cc in omega arith)

-- ---- the contents t among the codecs of a list
-- xs are left of s, and t is among its codecs from there on if it is among those from `from` on
pub record Seeking (t s : List ℕ) (from : ℕ) (xs : List PlacedElement) : Type 0 where
  pub place : ℕ
  pub left : LeftAt s place xs
  pub same : has_octets t (codecs_at s place) ≡ has_octets t (codecs_at s from)

module _ (t s : List ℕ) (from : ℕ) (xs : List PlacedElement) where
  pub seek_start : all_singles (drop from s) ≡ true → xs ≡ placed_elements from (drop from s) → Seeking t s from xs
  seek_start singles are = record { place = from; left = record { are = are; singles = singles }; same = refl }

  module _ (k : Seeking t s from xs) where
    pub seek_end : xs ≡ [] → false ≡ has_octets t (codecs_at s from)
    unfolding has_octets
    seek_end h = rw (none_left s k.place (nothing_left s k.place xs k.left h)) at k.same

    module _ (p : PlacedElement) (ys : List PlacedElement) (next : xs ≡ p ∷ ys) (u : List ℕ) (is : u ≡ p.element.contents) (b : Bool) (test : b ≡ same t u) where
      at_hand : Step s k.place p ys
      at_hand = step_of s k.place xs k.left p ys next

      met : same t (codec_octets at_hand.codec.codec) ≡ b
      met = sym (test ∙ ap (same t) (is ∙ at_hand.codec.reads))

      pub seek_here : b ≡ true → true ≡ has_octets t (codecs_at s from)
      unfolding has_octets
      seek_here h = rw (at_hand.codec.are, met, h) at k.same

      pub seek_on : b ≡ false → Seeking t s from ys
      unfolding has_octets
      seek_on h =
          record {
            place = k.place + p.length;
            left = record { are = at_hand.left; singles = at_hand.codec.rest };
            same = rw (at_hand.codec.are, met, h) at k.same;
          }

-- ---- the first codec in both lists
-- xs are left of s, whose codecs from there on have as many in os as those from `from` on
pub record Looking (s : List ℕ) (from : ℕ) (os : List PlacedCodec) (xs : List PlacedElement) : Type 0 where
  pub place : ℕ
  pub left : LeftAt s place xs
  pub same : common (codecs_at s place) os ≡ common (codecs_at s from) os

module _ (s : List ℕ) (from : ℕ) (os : List PlacedCodec) (xs : List PlacedElement) where
  pub look_start : all_singles (drop from s) ≡ true → xs ≡ placed_elements from (drop from s) → Looking s from os xs
  look_start singles are = record { place = from; left = record { are = are; singles = singles }; same = refl }

  module _ (k : Looking s from os xs) where
    pub look_end : xs ≡ [] → FirstCommon s from os (Err NoCommonCodec)
    look_end h = common_end s from os k.place k.same (nothing_left s k.place xs k.left h)

    module _ (p : PlacedElement) (ys : List PlacedElement) (next : xs ≡ p ∷ ys) (u : List ℕ) (is : u ≡ p.element.contents) (b : Bool) (test : b ≡ has_octets u os) where
      step : Step s k.place p ys
      step = step_of s k.place xs k.left p ys next

      asked : (v : Bool) → b ≡ v → v ≡ has_octets p.element.contents os
      asked v h = sym h ∙ test ∙ rw is

      pub look_here : b ≡ true → FirstCommon s from os (Ok (record { at = p.at; len = p.length }))
      look_here h = rw step.at (common_here s from os k.place k.same p.length p.element.contents step.codec k.left.singles (asked true h))

      pub look_on : b ≡ false → Looking s from os ys
      look_on h =
          record {
            place = k.place + p.length;
            left = record { are = step.left; singles = step.codec.rest };
            same = common_on s from os k.place k.same p.length p.element.contents step.codec (asked false h);
          }

pub ruleset looking = (look_start, look_end, look_here, look_on)
