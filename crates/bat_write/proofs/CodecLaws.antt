-- A codec list is written again element by element: each is read as a single codec, whose text is the element's contents.
-- Assumes nothing.
use Prim.Native.Nat.{ℕ, ◌+◌, ◌≤◌, ◌<◌}
use mathlib.Core.Path.{◌≡◌, refl, sym, ap, ◌∙◌}
use mathlib.Core.List.{List, [], ◌∷◌, ◌++◌}
use mathlib.Core.Bool.{Bool, true, false, cond, and-eq-true_iff}
use mathlib.Core.Option.{some}
use lib.ListN.{length, drop}
use lib.Dec.{eqb}
use native.Mathlib.Omega.{arith}
use borrow.Author.Tests.{lt-ltb, le-leb}
use Rattle.octets.specs.Append.{Appends}
use Rattle.octets.proofs.AppendLaws.{append_nil, append_then}
use Rattle.octets.proofs.CaseLaws.{by_bool}
use Rattle.std.specs.Prelude as std
use Rattle.std.specs.Prelude.{Result, Ok, Err, Some, None, is_none}
use Rattle.bat.specs.declared.Frame.{Frame}
use Rattle.bat.specs.declared.Unframed.{Unframed}
use Rattle.bat.specs.Framing.{octet, Element, whole, first, unframed, ended, front, walk}
use Rattle.bat.specs.Values.{InnerCodec, Codecs, all_codecs, offence, with_single, on_codecs, is_single, codec_then, codecs_in, inner_codec, right_single, single_codec, meant}
use Rattle.bat.specs.Writing.{element_text, codec_text, codecs_text, contents_text, inner_codecs_in_range, value_in_range}
use Rattle.bat.specs.FramingMeaning.{element_in, front_in, WholeLength}
use Rattle.bat.proofs.WalkLaws.{size_small, front_size, front_nil, walk_ended, walk_unframed, walk_first, fold_ended, fold_unframed, fold_first, by_front}
use Rattle.bat.proofs.CountLaws.{frame_ended, frame_unframed, frame_first, ok_is}
use Rattle.bat.proofs.DecodedLaws.{codecs_kept}
use Rattle.bat_read.specs.Examining.{offence_of}
use Rattle.bat_write.specs.Selected.{selected}
use Rattle.bat_write.specs.Private.{list_of, codecs_of, value_in_range_in, contents_in, codecs_anew, codec_if, selected_then, selected_anew}

-- ---- the contents of an element have at most 2,046 octets
pub contents_small : (t : List ℕ) (x : Result (std.Option Frame) Unframed) (f : Frame) (w : ℕ) (u : List ℕ) → front_in t x ≡ some (front t) → x ≡ Ok (Some f) → WholeLength f w → u ≡ (element_in t f).contents → length u ≤ 2046
contents_small t x f w u is e l c =
    let (small, _, _, _) = size_small (drop 1 t) _ _ _ (front_size t (element_in t f) (drop w t) (frame_first t x is f e w l)) in
    rw c (omega arith)

-- ---- written anew, from one element to the next
module _ (s : List ℕ) where
  anew_ended : front s ≡ ended → codecs_anew s ≡ []
  unfolding codecs_anew
  anew_ended q = fold_ended (λ e t. element_text 5 (meant e.compatibility) e.contents ++ t) [] [] s q

  anew_unframed : front s ≡ unframed → codecs_anew s ≡ []
  unfolding codecs_anew
  anew_unframed q = fold_unframed (λ e t. element_text 5 (meant e.compatibility) e.contents ++ t) [] [] s q

  anew_first : (e : Element) (t : List ℕ) → front s ≡ first e t → codecs_anew s ≡ element_text 5 (meant e.compatibility) e.contents ++ codecs_anew t
  unfolding codecs_anew
  anew_first e t q = fold_first (λ e t. element_text 5 (meant e.compatibility) e.contents ++ t) [] [] s e t q

  -- the same of the selected ones
  module _ (ms : List ℕ) where
    pub selected_ended : front s ≡ ended → selected_anew ms s ≡ []
    unfolding selected_anew
    selected_ended q = ap (λ (f : List ℕ → List ℕ). f ms) (fold_ended selected_then (λ ms. []) (λ ms. []) s q)

    pub selected_unframed : front s ≡ unframed → selected_anew ms s ≡ []
    unfolding selected_anew
    selected_unframed q = ap (λ (f : List ℕ → List ℕ). f ms) (fold_unframed selected_then (λ ms. []) (λ ms. []) s q)

    pub selected_first : (e : Element) (t : List ℕ) → front s ≡ first e t → selected_anew ms s ≡ codec_if (octet 0 ms) (meant e.compatibility) e.contents ++ selected_anew (drop 1 ms) t
    unfolding selected_anew
    selected_first e t q = ap (λ (f : List ℕ → List ℕ). f ms) (fold_first selected_then (λ ms. []) (λ ms. []) s e t q)

-- ---- the selected codecs of a list
selected_none : (ms : List ℕ) → ◌≡◌ {A = List InnerCodec} (selected ms []) []
unfolding selected
selected_none [] = refl
selected_none (m ∷ ms) = refl

selected_more : (c : InnerCodec) (cs : List InnerCodec) (ms : List ℕ) → codecs_text (selected ms (c ∷ cs)) ≡ codec_if (octet 0 ms) c.compatibility (codec_text c.codec) ++ codecs_text (selected (drop 1 ms) cs)
unfolding selected codec_if codecs_text
selected_more c cs [] = refl
selected_more c cs (m ∷ ms) = by_bool (eqb m 1) _ (λ b. rw b) (λ b. rw b)

-- ---- what the elements are read as
-- the contents of a single codec are its text
pub codec_text_lem : (s : List ℕ) → right_single (single_codec s) ≡ true → codec_text (single_codec s) ≡ s
unfolding right_single
codec_text_lem [] p = absurd (let z : ◌≡◌ {A = ℕ} 0 1 = cc in omega arith)
codec_text_lem (b ∷ s) p = refl

pub single_right : (e : Element) → is_single e ≡ true → right_single (single_codec e.contents) ≡ true
unfolding is_single
single_right e p = ((and-eq-true_iff (eqb e.identifier 5) (right_single (single_codec e.contents))).0 p).1

-- s is the codecs cs: they are written as s is anew, all of them and the selected ones, each is in range, and there are some
-- where s is not empty
pub record Listed (s : List ℕ) (cs : List InnerCodec) : Type 0 where
  pub text : codecs_anew s ≡ codecs_text cs
  pub right : inner_codecs_in_range cs ≡ true
  pub many : 1 ≤ length s → 1 ≤ length cs
  pub selected_text : (ms : List ℕ) → selected_anew ms s ≡ codecs_text (selected ms cs)

listed_with_lem : (s : List ℕ) (e : Element) (t : List ℕ) (x : Codecs) (cs : List InnerCodec) → front s ≡ first e t
    → ((bs : List InnerCodec) → x ≡ all_codecs bs → Listed t bs) → is_single e ≡ true → with_single (inner_codec e) x ≡ all_codecs cs → Listed s cs
unfolding with_single codecs_text inner_codecs_in_range
listed_with_lem s e t (offence n) cs q ih single p = absurd (let z : ◌≡◌ {A = ℕ} 0 1 = cc in omega arith)
listed_with_lem s e t (all_codecs bs) cs q ih single p =
    let is : inner_codec e ∷ bs ≡ cs = cc in
    let right = single_right e single in
    let rest = ih bs refl in
    rw (← is)
    (record {
      text = anew_first s e t q ∙ rw (codec_text_lem e.contents right, rest.text);
      right = rw (lt-ltb (meant e.compatibility) 128 (omega arith), right, rest.right);
      many = λ h. omega arith;
      selected_text = λ ms. selected_first s ms e t q ∙ rw (rest.selected_text (drop 1 ms), selected_more (inner_codec e) bs ms, codec_text_lem e.contents right);
    })

listed_at : (s : List ℕ) (d : ℕ) (cs : List InnerCodec) → walk codec_then offence (all_codecs []) d s ≡ all_codecs cs → Listed s cs
unfolding codec_then codecs_text inner_codecs_in_range
listed_at =
    by_front (λ (s : List ℕ). (d : ℕ) (cs : List InnerCodec) → walk codec_then offence (all_codecs []) d s ≡ all_codecs cs → Listed s cs)
    (λ d cs p. let w = walk_ended codec_then offence (all_codecs []) d [] front_nil in
    let is : ◌≡◌ {A = List InnerCodec} [] cs = cc in
    rw (← is) (record { text = anew_ended [] front_nil; right = refl; many = λ h. h; selected_text = λ ms. selected_ended [] ms front_nil ∙ rw (selected_none ms) }))
    (λ s q d cs p. absurd (let w = walk_unframed codec_then offence (all_codecs []) d s q in let z : ◌≡◌ {A = ℕ} 0 1 = cc in omega arith))
    (λ s e t q ih d cs p.
    let x = walk codec_then offence (all_codecs []) (d + length (whole e)) t in
    let w : cond (is_single e) (with_single (inner_codec e) x) (offence d) ≡ all_codecs cs = sym (walk_first codec_then offence (all_codecs []) d s e t q) ∙ p in
    by_bool (is_single e) _
    (λ single. listed_with_lem s e t x cs q (λ bs. ih (d + length (whole e)) bs) single (rw single at w))
    (λ single. let z : offence d ≡ all_codecs cs = rw single at w in absurd (let z : ◌≡◌ {A = ℕ} 0 1 = cc in omega arith)))

pub listed : (s : List ℕ) (cs : List InnerCodec) → codecs_in s ≡ all_codecs cs → Listed s cs
unfolding codecs_in
listed s cs p = listed_at s 0 cs p

-- ---- the list that s is
listed_text : (s : List ℕ) (x : Codecs) → codecs_in s ≡ x → value_in_range_in (list_of x) ≡ true → codecs_anew s ≡ contents_in (list_of x)
unfolding on_codecs value_in_range_in contents_in contents_text
listed_text s (all_codecs cs) p h = (listed s cs p).text
listed_text s (offence d) p h = absurd (let z : ◌≡◌ {A = ℕ} 0 1 = cc in omega arith)

-- a list that is right has the text that s has, written anew
pub codecs_text_lem : (s : List ℕ) → value_in_range_in (codecs_of s) ≡ true → codecs_anew s ≡ contents_in (codecs_of s)
codecs_text_lem s h = listed_text s (codecs_in s) refl h

pub codecs_none : (s : List ℕ) → length s < 1 → false ≡ value_in_range_in (codecs_of s)
unfolding on_codecs value_in_range_in value_in_range codecs_in
codecs_none [] h = rw (walk_ended codec_then offence (all_codecs []) 0 [] front_nil)
codecs_none (b ∷ s) h = absurd (omega arith)

codecs_with : (s : List ℕ) (y : Codecs) → codecs_in s ≡ y → offence_of y ≡ None → 1 ≤ length s → true ≡ value_in_range_in (list_of y)
unfolding offence_of on_codecs value_in_range_in value_in_range
codecs_with s (all_codecs cs) p e h = let z = codecs_kept s cs p in rw (le-leb 1 (length cs) (z.lists h), z.ranges)
codecs_with s (offence d) p e h = absurd (let z : ◌≡◌ {A = ℕ} 0 1 = cc in omega arith)

codecs_without : (y : Codecs) (d : ℕ) → offence_of y ≡ Some d → false ≡ value_in_range_in (list_of y)
unfolding offence_of on_codecs value_in_range_in
codecs_without (all_codecs cs) d e = absurd (let z : ◌≡◌ {A = ℕ} 0 1 = cc in omega arith)
codecs_without (offence n) d e = refl

codecs_are : (s : List ℕ) (x : std.Option ℕ) → x ≡ offence_of (codecs_in s) → 1 ≤ length s → is_none x ≡ value_in_range_in (codecs_of s)
codecs_are s None is h = codecs_with s (codecs_in s) refl (sym is) h
codecs_are s (Some d) is h = codecs_without (codecs_in s) d (sym is)

pub codecs_tested : (s : List ℕ) (x : std.Option ℕ) (b : Bool) → b ≡ is_none x → x ≡ offence_of (codecs_in s) → 1 ≤ length s → b ≡ value_in_range_in (codecs_of s)
codecs_tested s x b e is h = e ∙ codecs_are s x is h

-- ---- one after the other
-- The buffer has `out` to k, and s is left of s₀: whatever goes on from there with the rest ends as all of s₀ does.
module _ (s₀ out₀ s out : List ℕ) (at k : ℕ) (inv : (r : ℕ) (g : List ℕ) → Appends out k (codecs_anew s) r g → Appends out₀ at (codecs_anew s₀) r g) (x : Result (std.Option Frame) Unframed) (is : front_in s x ≡ some (front s)) where
  done : codecs_anew s ≡ [] → Appends out₀ at (codecs_anew s₀) k out
  done e = inv k out (rw e (append_nil out k))

  pub codecs_ended : x ≡ Ok None → Appends out₀ at (codecs_anew s₀) k out
  codecs_ended e = done (anew_ended s (frame_ended s x is e))

  pub codecs_unframed : (u : Unframed) → x ≡ Err u → Appends out₀ at (codecs_anew s₀) k out
  codecs_unframed u e = done (anew_unframed s (frame_unframed s x is u e))

  pub codecs_more : (f : Frame) → x ≡ Ok (Some f) → (w : ℕ) → WholeLength f w → (u : List ℕ) → u ≡ (element_in s f).contents → (t : List ℕ) → t ≡ drop w s
      → (m : ℕ) (h : List ℕ) → Appends out k (element_text 5 (meant f.compatibility) u) m h
      → (r : ℕ) (g : List ℕ) → Appends h m (codecs_anew t) r g → Appends out₀ at (codecs_anew s₀) r g
  unfolding element_in
  codecs_more f e w l u c t after m h p r g q =
      let a = element_text 5 (meant f.compatibility) (element_in s f).contents in
      let is_first : codecs_anew s ≡ a ++ codecs_anew t = anew_first s (element_in s f) (drop w s) (frame_first s x is f e w l) ∙ rw after in
      let p' : Appends out k a m h = rw c at p in
      inv r g (rw is_first (append_then out h g a (codecs_anew t) k m r q p'))

pub ruleset listing = (codecs_ended, codecs_unframed, codecs_more, ok_is)
