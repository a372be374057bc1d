-- The selected codecs of a list are written element by element, each by its own flag; none has more octets written than read, so
-- that their count fits.
-- Assumes nothing.
use Prim.Native.Nat.{ℕ, ◌+◌, ◌^◌, ◌≤◌, ◌<◌}
use mir.Syntax.{w64}
use mir.Val.{Fits}
use mathlib.Core.Path.{◌≡◌, refl, sym, ap, ◌∙◌}
use mathlib.Core.List.{List, [], ◌∷◌, ◌++◌}
use mathlib.Core.Bool.{Bool, true, false, cond, and-eq-true_iff}
use mathlib.Core.Option.{none, some}
use lib.ListN.{length, drop, length-drop, length-append}
use lib.Dec.{leb, ltb, eqb}
use native.Mathlib.Nat.{le_refl}
use native.Mathlib.Omega.{arith}
use borrow.Author.Tests.{le-leb, lt-ltb, le-ltb, eq-eqb, ne_eqb}
use Rattle.std.specs.Prelude as std
use Rattle.std.specs.Prelude.{Result, Ok, Err, Some, None, is_some}
use Rattle.octets.specs.declared.Refusal.{Refusal}
use Rattle.octets.specs.declared.Refusal.TheVariants.{BufferTooShort, OutOfRange}
use Rattle.octets.specs.Append.{Appends}
use Rattle.octets.specs.Puts.{bounded, Puts}
use Rattle.octets.proofs.AppendLaws.{append_nil, append_then, octet_then}
use Rattle.octets.proofs.PutsLaws.{puts_none}
use Rattle.octets.proofs.CaseLaws.{by_bool}
use Rattle.bat.specs.declared.Frame.{Frame}
use Rattle.bat.specs.declared.Unframed.{Unframed}
use Rattle.bat.specs.Framing.{octet, front, most_octets}
use Rattle.bat.specs.Values.{InnerCodec, codecs, Codecs, all_codecs, offence, on_codecs, codecs_in, meant}
use Rattle.bat.specs.Writing.{size_text, element_text, codecs_text, identifier_of, contents_text, inner_codec_in_range, inner_codecs_in_range, value_in_range, value_text, element_octets, element_octets_in}
use Rattle.bat.specs.FramingMeaning.{whole_length, element_in, front_in, WholeLength}
use Rattle.bat.proofs.WalkLaws.{front_length}
use Rattle.bat.proofs.CountLaws.{frame_ended, frame_unframed, frame_is, frame_first, frame_length, frame_inside, ok_is}
use Rattle.bat.proofs.DecodedLaws.{element_text_whole, codecs_kept}
use Rattle.bat_read.specs.Examining.{offence_of}
use Rattle.bat_write.specs.Selected.{selected, selected_list}
use Rattle.bat_write.specs.Private.{codec_if, selected_anew, element_length}
use Rattle.bat_write.proofs.ElementLaws.{element_then, length_element}
use Rattle.bat_write.proofs.PutLaws.{puts_long, puts_little, puts_whole}
use Rattle.bat_write.proofs.CodecLaws.{selected_ended, selected_unframed, selected_first, listed}

-- ---- one codec
module _ (l : List ℕ) (at m c : ℕ) (s : List ℕ) where
  pub if_selected : (r : ℕ) (f : List ℕ) → m ≡ 1 → Appends l at (element_text 5 c s) r f → Appends l at (codec_if m c s) r f
  unfolding codec_if
  if_selected r f e p = rw (eq-eqb m 1 e) p

  pub if_unselected : (m ≡ 1 → ⊥) → Appends l at (codec_if m c s) at l
  unfolding codec_if
  if_unselected e = rw (ne_eqb m 1 e) (append_nil l at)

length_codec_if : (m c : ℕ) (s : List ℕ) → length (codec_if m c s) ≡ cond (eqb m 1) (element_length (length s)) 0
unfolding codec_if
length_codec_if m c s = by_bool (eqb m 1) _ (λ b. rw b (length_element 5 c s)) (λ b. rw b)

codec_if_short : (m c : ℕ) (s : List ℕ) → length (codec_if m c s) ≤ length (element_text 5 c s)
unfolding codec_if
codec_if_short m c s = by_bool (eqb m 1) _ (λ b. rw b (le_refl (length (element_text 5 c s)))) (λ b. rw b (omega arith))

-- ---- one after the other
-- The buffer has `out` to k, and of s₀ with the flags ms₀ there is s left, with the flags ms: whatever goes on from there with
-- what is left ends as all of s₀ does.
pub record Pushing (ms₀ s₀ out₀ : List ℕ) (at : ℕ) (ms s out : List ℕ) (k : ℕ) : Type 0 where
  pub ends : (r : ℕ) (g : List ℕ) → Appends out k (selected_anew ms s) r g → Appends out₀ at (selected_anew ms₀ s₀) r g

pub push_start : (ms s out : List ℕ) (at : ℕ) → Pushing ms s out at ms s out at
push_start ms s out at = record { ends = λ r g p. p }

module _ (ms s : List ℕ) (x : Result (std.Option Frame) Unframed) (is : front_in s x ≡ some (front s)) where
  pub left_ended : x ≡ Ok None → selected_anew ms s ≡ []
  left_ended e = selected_ended s ms (frame_ended s x is e)

  pub left_unframed : (u : Unframed) → x ≡ Err u → selected_anew ms s ≡ []
  left_unframed u e = selected_unframed s ms (frame_unframed s x is u e)

  pub length_fits : (f : Frame) → x ≡ Ok (Some f) → (u : List ℕ) → u ≡ (element_in s f).contents → (m n d k : ℕ) → d ≡ cond (eqb m 1) (element_length (length u)) 0 → n + length s ≤ k → k < 2 ^ 64 → Fits w64 (n + d)
  length_fits f e u c m n d k adds h o =
      let i = meant f.compatibility in
      let q = frame_is s x is f e in
      let z = element_text_whole s (element_in s f) (drop (whole_length f) s) q 5 i u (rw c (le_refl (length (element_in s f).contents))) in
      omega (arith, codec_if_short m i u, length_codec_if m i u, front_length s (element_in s f) (drop (whole_length f) s) q)

  -- the first element's contents u and flag m, and what follows it
  module _ (f : Frame) (e : x ≡ Ok (Some f)) (w : ℕ) (l : WholeLength f w) (t : List ℕ) (after : t ≡ drop w s) (ns : List ℕ) (flags : ns ≡ drop 1 ms) (u : List ℕ) (c : u ≡ (element_in s f).contents) (m : ℕ) (flag : m ≡ octet 0 ms) where
    left_more : selected_anew ms s ≡ codec_if m (meant f.compatibility) u ++ selected_anew ns t
    unfolding element_in
    left_more = rw (after, flags, flag, c) (selected_first s ms (element_in s f) (drop w s) (frame_first s x is f e w l))

    left_short : length (codec_if m (meant f.compatibility) u) ≤ w
    left_short =
        let k = meant f.compatibility in
        let z = element_text_whole s (element_in s f) (drop w s) (frame_first s x is f e w l) 5 k u (rw c (le_refl (length (element_in s f).contents))) in
        omega (arith, codec_if_short m k u, frame_length s x is f e w l)

    pub push_more : (ms₀ s₀ out₀ out : List ℕ) (at k : ℕ) → Pushing ms₀ s₀ out₀ at ms s out k → (n : ℕ) (h : List ℕ) → Appends out k (codec_if m (meant f.compatibility) u) n h
        → Pushing ms₀ s₀ out₀ at ns t h n
    push_more ms₀ s₀ out₀ out at k inv n h p = record { ends = λ r g q. inv.ends r g (rw left_more (append_then out h g _ _ k n r q p)) }

    -- n octets are counted, and d more
    module _ (n d : ℕ) (adds : d ≡ cond (eqb m 1) (element_length (length u)) 0) where
      pub length_inside : (k : ℕ) → n + length s ≤ k → n + d + length t ≤ k
      length_inside k h = omega (arith, left_short, length_codec_if m (meant f.compatibility) u, frame_inside s x is f e w l, ap (λ (z : List ℕ). length z) after, length-drop w s)

      pub length_more : (y : ℕ) → n + length (selected_anew ms s) ≡ y → n + d + length (selected_anew ns t) ≡ y
      length_more y inv = omega (arith, length_codec_if m (meant f.compatibility) u, simp length-append at (ap (λ (z : List ℕ). length z) left_more))

pub push_done : (ms₀ s₀ out₀ ms s out : List ℕ) (at k : ℕ) → Pushing ms₀ s₀ out₀ at ms s out k → selected_anew ms s ≡ [] → Appends out₀ at (selected_anew ms₀ s₀) k out
push_done ms₀ s₀ out₀ ms s out at k inv nothing = inv.ends k out (rw nothing (append_nil out k))

pub length_done : (ms s : List ℕ) (n y : ℕ) → n + length (selected_anew ms s) ≡ y → selected_anew ms s ≡ [] → n ≡ y
length_done ms s n y inv nothing = omega (arith, ap (λ (z : List ℕ). length z) nothing)

pub ruleset left = (left_ended, left_unframed, ok_is)

-- ---- the element with contents t, which have n octets
module _ (t l : List ℕ) (c n : ℕ) (is : n ≡ length t) where
  pub list_long : 2044 < n → Puts (bounded most_octets (element_text 4 c t)) l (Err OutOfRange) l
  list_long h = puts_long 4 c t l (omega arith)

  module _ (w : ℕ) (e : w ≡ element_length n) (few : n ≤ 2044) where
    pub list_little : length l < w → Puts (bounded most_octets (element_text 4 c t)) l (Err BufferTooShort) l
    list_little h = puts_little 4 c t l w (rw (← is) e) (omega arith) h

    pub list_whole : (k₁ k₂ r : ℕ) (g₁ g₂ f : List ℕ) → Appends l 0 (4 ∷ size_text (n + 1)) k₁ g₁ → Appends g₁ k₁ ((128 + c) ∷ []) k₂ g₂ → Appends g₂ k₂ t r f → w ≤ length l
        → Puts (bounded most_octets (element_text 4 c t)) l (Ok w) f
    list_whole k₁ k₂ r g₁ g₂ f p q a h =
        puts_whole 4 c t l w (rw (← is) e) (omega arith) r f
        (element_then l f 0 r g₁ k₁ 4 c t (octet_then g₁ f g₂ k₁ k₂ r (128 + c) t a q) (rw is at p)) h

pub ruleset lists = (list_long, list_little, list_whole)

-- ---- the codec list
-- codecs have no more octets written than read
pub codecs_shrink : (s : List ℕ) (cs : List InnerCodec) → codecs_in s ≡ all_codecs cs → length (codecs_text cs) ≤ length s
codecs_shrink s cs p = (codecs_kept s cs p).shrinks

selected_ranges : (ms : List ℕ) (cs : List InnerCodec) → inner_codecs_in_range cs ≡ true → inner_codecs_in_range (selected ms cs) ≡ true
unfolding selected inner_codecs_in_range
selected_ranges [] cs r = refl
selected_ranges (m ∷ ms) [] r = refl
selected_ranges (m ∷ ms) (c ∷ cs) r =
    let (this, others) = (and-eq-true_iff (inner_codec_in_range c) (inner_codecs_in_range cs)).0 r in
    by_bool (eqb m 1) _ (λ b. rw (b, this) (selected_ranges ms cs others)) (λ b. rw b (selected_ranges ms cs others))

-- there is a codec where there is an octet
codecs_some : (cs : List InnerCodec) → leb 1 (length cs) ≡ ltb 0 (length (codecs_text cs))
unfolding codecs_text element_text
codecs_some [] = refl
codecs_some (c ∷ cs) = rw (le-leb 1 (length (c ∷ cs)) (omega arith), lt-ltb 0 (length (codecs_text (c ∷ cs))) (omega arith))

pub selected_is : (ms s : List ℕ) (cs : List InnerCodec) → codecs_in s ≡ all_codecs cs → selected_list ms s ≡ some (codecs (selected ms cs))
unfolding selected_list on_codecs
selected_is ms s cs p = rw p

module _ (ms s : List ℕ) (c : ℕ) where
  octets_all : (y : Codecs) → codecs_in s ≡ y → offence_of y ≡ None
      → element_octets_in c (selected_list ms s) ≡ cond (ltb 0 (length (selected_anew ms s))) (bounded most_octets (element_text 4 c (selected_anew ms s))) none
  unfolding offence_of element_octets_in element_octets value_in_range value_text identifier_of contents_text bounded
  octets_all (all_codecs cs) p e =
      let ds = selected ms cs in
      rw (selected_is ms s cs p, (listed s cs p).selected_text ms, codecs_some ds, selected_ranges ms cs (codecs_kept s cs p).ranges)
      (by_bool (ltb 0 (length (codecs_text ds))) _ (λ b. rw b) (λ b. rw b))
  octets_all (offence d) p e = absurd (let z : ◌≡◌ {A = ℕ} 0 1 = cc in omega arith)

  octets_offence : (y : Codecs) (d : ℕ) → codecs_in s ≡ y → offence_of y ≡ Some d → element_octets_in c (selected_list ms s) ≡ none
  unfolding offence_of selected_list on_codecs element_octets_in
  octets_offence (all_codecs cs) d p e = absurd (let z : ◌≡◌ {A = ℕ} 0 1 = cc in omega arith)
  octets_offence (offence k) d p e = rw p

  selected_all : (x : std.Option ℕ) → x ≡ offence_of (codecs_in s) → is_some x ≡ false
      → element_octets_in c (selected_list ms s) ≡ cond (ltb 0 (length (selected_anew ms s))) (bounded most_octets (element_text 4 c (selected_anew ms s))) none
  selected_all None is e = octets_all (codecs_in s) refl (sym is)
  selected_all (Some d) is e = absurd (let z : ◌≡◌ {A = ℕ} 0 1 = cc in omega arith)

  selected_offence_in : (l : List ℕ) (x : std.Option ℕ) → x ≡ offence_of (codecs_in s) → is_some x ≡ true → Puts (element_octets_in c (selected_list ms s)) l (Err OutOfRange) l
  selected_offence_in l None is e = absurd (let z : ◌≡◌ {A = ℕ} 0 1 = cc in omega arith)
  selected_offence_in l (Some d) is e = rw (octets_offence (codecs_in s) d refl (sym is)) (puts_none l)

  -- b says whether there is an offence x
  module _ (l : List ℕ) (x : std.Option ℕ) (is : x ≡ offence_of (codecs_in s)) (b : Bool) (test : b ≡ is_some x) where
    pub selected_offence : b ≡ true → Puts (element_octets_in c (selected_list ms s)) l (Err OutOfRange) l
    selected_offence e = selected_offence_in l x is (sym test ∙ e)

    module _ (e : b ≡ false) (n : ℕ) (count : n ≡ length (selected_anew ms s)) where
      pub selected_no : n ≡ 0 → Puts (element_octets_in c (selected_list ms s)) l (Err OutOfRange) l
      selected_no h = rw (selected_all x is (sym test ∙ e), le-ltb 0 (length (selected_anew ms s)) (omega arith)) (puts_none l)

      pub selected_yes : (n ≡ 0 → ⊥) → (r : Result ℕ Refusal) (f : List ℕ) → Puts (bounded most_octets (element_text 4 c (selected_anew ms s))) l r f → Puts (element_octets_in c (selected_list ms s)) l r f
      selected_yes h r f p = rw (selected_all x is (sym test ∙ e), lt-ltb 0 (length (selected_anew ms s)) (omega arith)) p
