-- The codecs that are selected make the reduced list: it is in range and no longer than the leading list, so that only a short buffer
-- refuses it.
-- Assumes nothing.
use Prim.Native.Nat.{ℕ, ◌-◌, ◌≤◌}
use mathlib.Core.Path.{◌≡◌, refl, ap, ◌∙◌}
use mathlib.Core.Bool.{true, and-eq-true_iff}
use mathlib.Core.List.{List, [], ◌∷◌, map, Sublistᴰ}
use mathlib.Core.Option.{some, Option-elim}
use lib.Dec.{eqb}
use lib.ListN.{length, take, drop, length-drop}
use lib.Seq.{take_all}
use native.Mathlib.Omega.{arith}
use borrow.Author.Tests.{le-leb}
use Rattle.std.specs.Prelude.{Result}
use Rattle.octets.specs.declared.Refusal.{Refusal}
use Rattle.octets.specs.declared.Span.{Span}
use Rattle.octets.specs.Append.{Appends}
use Rattle.octets.specs.Puts.{Puts}
use Rattle.octets.proofs.CaseLaws.{by_bool}
use Rattle.octets.proofs.PutsLaws.{scratch_text}
use Rattle.bat.specs.Framing.{most_octets}
use Rattle.bat.specs.Values.{InnerCodec, codecs, all_codecs, codecs_in, meant}
use Rattle.bat.specs.Writing.{codecs_text, identifier_of, contents_text, inner_codec_in_range, inner_codecs_in_range, value_in_range, value_text, element_octets, element_octets_in}
use Rattle.bat.proofs.DecodedLaws.{codecs_kept}
use Rattle.bat_write.specs.Selected.{selected, selected_list}
use Rattle.bat_write.proofs.SelectedLaws.{selected_is, codecs_shrink}
use Rattle.bat_match.specs.declared.list.FramedList.{FramedList}
use Rattle.bat_match.specs.Matching.{PlacedCodec, common, without, first_of_each, first_of, Match, reduced_text, match_of, matching}
use Rattle.bat_match.specs.Meaning.{reduced_answer, reduced_leaves}
use Rattle.bat_match.specs.Private.{codecs_at, FoundAt, selection_after, Writes, list_in, ListsAre}
use Rattle.bat_match.proofs.CodecLaws.{singles_codecs, few_codecs}
use Rattle.bat_match.proofs.ReducedLaws.{reduced_codecs, order_reduced, shorter, selected_reduced, length_selection}
use Rattle.bat_match.proofs.ListLaws.{match_are}

-- what a placed codec is written as
abbrev pub inner : List PlacedCodec → List InnerCodec
inner cs = map (λ (c : PlacedCodec). c.codec) cs

-- ---- flags name the same codecs, with or without their places
selected_inner : (ms : List ℕ) (cs : List PlacedCodec) → selected ms (inner cs) ≡ inner (selected ms cs)
unfolding selected
selected_inner [] cs = refl
selected_inner (m ∷ ms) [] = refl
selected_inner (m ∷ ms) (c ∷ cs) =
    let ih = selected_inner ms cs in
    by_bool (eqb m 1) _
    (λ h. rw h (ap (λ (l : List InnerCodec). c.codec ∷ l) ih))
    (λ h. rw h ih)

-- ---- codecs of a list that is in range are in range
in_range : {rs xs : List PlacedCodec} → Sublistᴰ rs xs → inner_codecs_in_range (inner xs) ≡ true → inner_codecs_in_range (inner rs) ≡ true
unfolding inner_codecs_in_range
in_range Sublistᴰ.slnil h = h
in_range (Sublistᴰ.cons {a = x} {l₂ = xs} p) h = in_range p ((and-eq-true_iff (inner_codec_in_range x.codec) (inner_codecs_in_range (inner xs))).0 h).1
in_range (Sublistᴰ.cons-cons {a = r} {b = x} {l₂ = xs} e p) h =
    let (this, rest) = (and-eq-true_iff (inner_codec_in_range x.codec) (inner_codecs_in_range (inner xs))).0 h in
    let z : inner_codec_in_range r.codec ≡ true = rw e this in
    rw (z, in_range p rest)

-- ---- the reduced list of a list that has the contents s and the codecs xs
module _ (s : List ℕ) (xs ys : List PlacedCodec) (are : codecs_in s ≡ all_codecs (inner xs)) where
  pub reduced_range : inner_codecs_in_range (inner (reduced_codecs xs ys)) ≡ true
  reduced_range = in_range (order_reduced xs ys) (codecs_kept s (inner xs) are).ranges

  pub reduced_shrinks : length (codecs_text (inner (reduced_codecs xs ys))) ≤ length s
  reduced_shrinks = omega (arith, shorter (order_reduced xs ys), codecs_shrink s (inner xs) are)

  -- it is what the writer writes
  selected_list_lem : (ms : List ℕ) → ms ≡ selection_after [] xs ys → selected_list ms s ≡ some (codecs (inner (reduced_codecs xs ys)))
  selected_list_lem ms e = selected_is ms s (inner xs) are ∙ rw (selected_inner ms xs, e, selected_reduced xs ys)

-- a codec list that has codecs, all in range, can be written if it is not too long
writable : (c : ℕ) (x : InnerCodec) (xs : List InnerCodec) → inner_codecs_in_range (x ∷ xs) ≡ true → length (value_text c (codecs (x ∷ xs))) ≤ most_octets
    → element_octets c (codecs (x ∷ xs)) ≡ some (value_text c (codecs (x ∷ xs)))
unfolding element_octets value_in_range
writable c x xs r h = rw (le-leb 1 (length (x ∷ xs)) (omega arith), r, le-leb (length (value_text c (codecs (x ∷ xs)))) most_octets h)

-- ---- the reduced list of the lists l and o, from the place p of the chosen codec on
module _ (s t : List ℕ) (l o : FramedList) (lists : ListsAre s t l o) (p : Span) (found : FoundAt s l.from (codecs_at t o.from) p) where
  contents_are : codecs_in (drop l.from s) ≡ all_codecs (inner (codecs_at s l.from))
  contents_are = singles_codecs (drop l.from s) l.from lists.first.singles

  -- the flags in the code's array z, which then holds g
  module _ (z g : List ℕ) (n : ℕ) (selection : Appends z 0 (selection_after [] (codecs_at s p.at) (codecs_at t o.from)) n g) (size : length z ≡ 682) where
    selection_are : take (n - 0) (drop 0 g) ≡ selection_after [] (codecs_at s p.at) (codecs_at t o.from)
    selection_are =
        let ms = selection_after [] (codecs_at s p.at) (codecs_at t o.from) in
        let count = length_selection [] (codecs_at s p.at) (codecs_at t o.from) in
        let most = few_codecs (drop p.at s) p.at in
        scratch_text z g ms n selection 682 size ∙ take_all 682 ms (omega (arith, length-drop p.at s, lists.first.short))

  -- the selected codecs are those of the reduced list
  selected_are : (ms : List ℕ) → ms ≡ selection_after [] (codecs_at s p.at) (codecs_at t o.from) → (cs : List PlacedCodec) → common (codecs_at s l.from) (codecs_at t o.from) ≡ cs
      → selected_list ms (drop p.at s) ≡ some (codecs (inner (first_of_each cs)))
  selected_are ms e cs q =
      selected_list_lem (drop p.at s) (codecs_at s p.at) (codecs_at t o.from) (singles_codecs (drop p.at s) p.at found.here.singles) ms e
      ∙ rw (found.enough, q)

  -- they can be written
  octets_are : (ms : List ℕ) → ms ≡ selection_after [] (codecs_at s p.at) (codecs_at t o.from) → (c : PlacedCodec) (cs : List PlacedCodec) → common (codecs_at s l.from) (codecs_at t o.from) ≡ c ∷ cs
      → element_octets_in (meant l.compatibility) (selected_list ms (drop p.at s)) ≡ some (value_text (meant l.compatibility) (codecs (inner (first_of_each (c ∷ cs)))))
  unfolding element_octets_in first_of_each value_text identifier_of contents_text
  octets_are ms e c cs q =
      let xs = codecs_at s l.from in
      let ys = codecs_at t o.from in
      let n = meant l.compatibility in
      let ranges : inner_codecs_in_range (inner (first_of_each (c ∷ cs))) ≡ true = rw q at (reduced_range (drop l.from s) xs ys contents_are) in
      let short : length (codecs_text (inner (first_of_each (c ∷ cs)))) ≤ length (drop l.from s) = rw q at (reduced_shrinks (drop l.from s) xs ys contents_are) in
      let fits = lists.first.fits 4 n (codecs_text (inner (first_of_each (c ∷ cs)))) short in
      rw (selected_are ms e (c ∷ cs) q) (writable n c.codec (inner (without c (first_of_each cs))) ranges (omega (arith, fits, lists.first.short)))

  -- and the writer is given the contents u from there on, and those flags
  module _ (u : List ℕ) (here : u ≡ drop p.at s) (z g : List ℕ) (n : ℕ) (selection : Appends z 0 (selection_after [] (codecs_at s p.at) (codecs_at t o.from)) n g) (size : length z ≡ 682)
      (b : List ℕ) (w : Result ℕ Refusal) (f : List ℕ) (puts : Puts (element_octets_in (meant l.compatibility) (selected_list (take (n - 0) (drop 0 g)) u)) b w f) where
    writes_at : (cs : List PlacedCodec) → common (codecs_at s l.from) (codecs_at t o.from) ≡ cs → first_of cs ≡ some found.codec → Writes (match_of (list_in s l) cs) b w f
    unfolding first_of match_of Option-elim reduced_text reduced_answer reduced_leaves
    writes_at [] q e = absurd (let z : ◌≡◌ {A = ℕ} 0 1 = cc in omega arith)
    writes_at (c ∷ cs) q e =
        let m : Match = record { chosen = c; compatibility = meant l.compatibility; reduced = inner (first_of_each (c ∷ cs)) } in
        let y = rw here at puts in
        let x : Puts (some (reduced_text m)) b w f = rw (octets_are (take (n - 0) (drop 0 g)) (selection_are z g n selection size) c cs q) at y in
        record { answers = x.answers; leaves = x.leaves }

    pub writes_found : Writes (matching s t) b w f
    writes_found = rw (match_are s t l o lists) (writes_at (common (codecs_at s l.from) (codecs_at t o.from)) refl found.is)
