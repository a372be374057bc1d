-- The finding on an element follows from how its contents are decoded, and the answer to the front of octets from that.
-- Assumes nothing.
use Prim.Native.Nat.{ℕ, ◌+◌, ◌≤◌}
use mathlib.Core.Path.{◌≡◌, refl, sym, ap, ◌∙◌}
use mathlib.Core.List.{List}
use mathlib.Core.Bool.{Bool}
use mathlib.Core.Option.{Option, none, some, map}
use lib.ListN.{length, drop}
use mir.Syntax.{w64}
use mir.Val.{Fits}
use native.Mathlib.Omega.{arith}
use borrow.Author.Tests.{le-leb}
use Rattle.std.specs.Prelude as std
use Rattle.std.specs.Prelude.{Result, Ok, Err, Some, None}
use Rattle.bat.specs.declared.Frame.{Frame}
use Rattle.bat_read.specs.Code as code
use Rattle.bat.specs.declared.Judged.{Judged}
use Rattle.bat.specs.Framing.{header, front, first, on_front}
use Rattle.bat.specs.Values.{Value, Place, Decoding, decoded, unrecognised, decoding}
use Rattle.bat.specs.Judging.{index_by, judgement, known, unknown, finding_by, finding}
use Rattle.bat.specs.FramingMeaning.{header_length, whole_length, element_in, front_in, HeaderLength}
use Rattle.bat.specs.ValueMeaning.{value_in, decoding_in}
use Rattle.bat.specs.JudgingMeaning.{judgement_in, finding_in}
use Rattle.bat.proofs.WalkLaws.{front_size, size_small}
use Rattle.bat.proofs.CountLaws.{frame_is, frame_fits, frame_header, frame_ended, frame_unframed, ok_is}
use Rattle.bat_read.specs.Examining.{examine, examined_in}
use Rattle.bat_read.specs.Private.{index_in}
use Rattle.bat_read.proofs.InnerLaws.{inner_of, inner_inside}

-- ---- the index
module _ (x : code.Decoding) (n : ℕ) where
  pub index_decoded : (v : code.Value) → x ≡ Ok v → 0 ≡ index_in n x
  unfolding index_in
  index_decoded v e = rw e

  module _ (u : code.Unrecognised) (e : x ≡ Err u) where
    pub index_itself : u.inner ≡ None → 0 ≡ index_in n x
    unfolding index_in index_by
    index_itself q = rw (e, q)

    pub index_inner : (d : ℕ) → u.inner ≡ Some d → n + d ≡ index_in n x
    unfolding index_in index_by
    index_inner d q = rw (e, q)

    pub index_fits : (d : ℕ) → u.inner ≡ Some d → index_in n x ≤ 131327 → Fits w64 (n + d)
    index_fits d q h = let z = index_inner d q in omega arith

pub ruleset indexes = (index_decoded, index_itself, index_inner)

-- ---- the finding on an element
same_judgement : (s : List ℕ) (f : Frame) (pass : Bool) (n : ℕ) → unknown (judgement pass (element_in s f).identifier (element_in s f).compatibility n) ≡ unknown (judgement pass f.identifier f.compatibility n)
unfolding element_in
same_judgement s f pass n = refl

-- the answer x to the contents c of the element f at the front of s
module _ (s : List ℕ) (f : Frame) (here : front_in s (Ok (Some f)) ≡ some (front s)) (c : List ℕ) (is : c ≡ (element_in s f).contents) (x : code.Decoding) (read : decoding_in c x ≡ some (decoding f.identifier c)) where
  fronts : front s ≡ first (element_in s f) (drop (whole_length f) s)
  fronts = frame_is s (Ok (Some f)) here f refl

  small : length c ≤ 2046
  small =
      let (most, two, one, same) = size_small _ _ _ _ (front_size s (element_in s f) (drop (whole_length f) s) fronts) in
      omega (arith, ap (λ (l : List ℕ). length l) is)

  head_is : length (header (element_in s f)) ≡ header_length f
  head_is = frame_header s (Ok (Some f)) here f refl

  read_is : (y : code.Decoding) → x ≡ y → decoding_in c y ≡ some (decoding f.identifier c)
  read_is y e = rw e at read

  index_err : (n : ℕ) → HeaderLength f n → (p : Place) → some (unrecognised p) ≡ some (decoding f.identifier c) → index_by n p ≤ 131327
  unfolding index_by inner_of
  index_err n h None q = omega arith
  index_err n h (Some d) q =
      let r : unrecognised (Some d) ≡ decoding f.identifier c = cc in
      omega (arith, small, h.few, rw (← r) at (inner_inside f.identifier c))

  index_at : (n : ℕ) → HeaderLength f n → (y : code.Decoding) → decoding_in c y ≡ some (decoding f.identifier c) → index_in n y ≤ 131327
  unfolding index_in decoding_in
  index_at n h (Ok v) p = omega arith
  index_at n h (Err u) p = index_err n h u.inner p

  pub index_small : (n : ℕ) → HeaderLength f n → index_in n x ≤ 131327
  index_small n h = index_at n h x read

  reading_is : decoding (element_in s f).identifier (element_in s f).contents ≡ decoding f.identifier c
  unfolding element_in
  reading_is = rw is

  finding_of : (pass : Bool) (r : Decoding) → decoding f.identifier c ≡ r → finding pass (element_in s f) ≡ finding_by pass (element_in s f) r
  unfolding finding
  finding_of pass r e = rw (reading_is, e)

  known_by : (o : Option Value) (pass : Bool) → map decoded o ≡ some (decoding f.identifier c) → map known o ≡ some (finding pass (element_in s f))
  unfolding finding_by
  known_by none pass p = absurd (let z : ◌≡◌ {A = ℕ} 0 1 = cc in omega arith)
  known_by (some v) pass p =
      let q : decoding f.identifier c ≡ decoded v = cc in
      rw (finding_of pass (decoded v) q)

  pub finding_known : (v : code.Value) → x ≡ Ok v → (pass : Bool) → finding_in (element_in s f).contents (Ok v) ≡ some (finding pass (element_in s f))
  unfolding finding_in decoding_in
  finding_known v e pass = ap (λ (l : List ℕ). map known (value_in l v)) (sym is) ∙ known_by (value_in c v) pass (read_is (Ok v) e)

  judgement_is : (pass : Bool) (p : Place) → finding_by pass (element_in s f) (unrecognised p) ≡ unknown (judgement pass f.identifier f.compatibility (index_by (header_length f) p))
  unfolding finding_by
  judgement_is pass p = rw head_is (same_judgement s f pass (index_by (header_length f) p))

  pub finding_unknown : (u : code.Unrecognised) → x ≡ Err u → (n i : ℕ) → HeaderLength f n → i ≡ index_in n x → (pass : Bool) (j : Judged) → judgement_in j ≡ judgement pass f.identifier f.compatibility i
      → finding_in (element_in s f).contents (Err j) ≡ some (finding pass (element_in s f))
  unfolding finding_in decoding_in index_in
  finding_unknown u e n i h k pass j g =
      let q : decoding f.identifier c ≡ unrecognised u.inner = (let z : some (unrecognised u.inner) ≡ some (decoding f.identifier c) = read_is (Err u) e in cc) in
      let l : i ≡ index_by (header_length f) u.inner = k ∙ rw (e, h.is) in
      rw (finding_of pass (unrecognised u.inner) q, judgement_is pass u.inner, g, l)

pub ruleset findings = (finding_known, finding_unknown)

-- ---- the front, examined
pub whole_is : (s : List ℕ) (x : Result (std.Option Frame) code.Unframed) (v : std.Option Frame) (f : Frame) → front_in s x ≡ some (front s) → x ≡ Ok v → v ≡ Some f → front_in s (Ok (Some f)) ≡ some (front s)
whole_is s x v f is p q = rw (p, q) at is

module _ (s : List ℕ) (pass : Bool) (x : Result (std.Option Frame) code.Unframed) (is : front_in s x ≡ some (front s)) where
  pub examined_ended : x ≡ Ok None → examined_in s (Ok None) ≡ some (examine pass s)
  unfolding examined_in examine on_front
  examined_ended e = rw (frame_ended s x is e)

  pub examined_unframed : (u : code.Unframed) → x ≡ Err u → examined_in s (Err u) ≡ some (examine pass s)
  unfolding examined_in examine on_front
  examined_unframed u e = rw (frame_unframed s x is u e)

  pub examined_element : (f : Frame) → x ≡ Ok (Some f) → (v : code.Finding) → finding_in (element_in s f).contents v ≡ some (finding pass (element_in s f)) → examined_in s (Ok (Some (record { frame = f; finding = v }))) ≡ some (examine pass s)
  unfolding examined_in examine on_front
  examined_element f e v p = rw (le-leb (whole_length f) (length s) (frame_fits s x is f e), frame_is s x is f e, p)

pub ruleset examined = (examined_ended, examined_unframed, examined_element, ok_is)
