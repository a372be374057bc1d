-- What can be quoted of a match: E1's sentences on the chosen codec, on the reduced list and on number 15. They follow from the
-- codecs that are in both lists.
-- Assumes nothing.
use Prim.Native.Nat.{ℕ, ◌+◌, ◌≤◌}
use mathlib.Core.Path.{◌≡◌, refl, sym, ap, ◌∙◌}
use mathlib.Core.Logic.{⊎_elim}
use mathlib.Core.Bool.{Bool, true, false, cond, and_comm, and-eq-true_iff, or-true}
use mathlib.Core.List.{List, [], ◌∷◌, ◌++◌, Memᴰ}
use mathlib.Core.Option.{Option, none, some, Option-elim}
use lib.Dec.{ltb}
use lib.ListN.{length, take, drop, length-drop}
use lib.Seq.{drop-drop, take-append_seam, drop-append_seam}
use native.Mathlib.Omega.{arith}
use borrow.Author.Tests.{le-leb}
use denote.Ref.{Bor}
use Rattle.std.specs.Prelude.{Result, Ok, Err}
use Rattle.octets.specs.declared.Refusal.{Refusal}
use Rattle.octets.specs.declared.Refusal.TheVariants.{DataTooLong, Unframed, NoCodecList, NoCommonCodec}
use Rattle.octets.specs.Refusals.{refusal_number}
use Rattle.octets.specs.declared.Span.{Span}
use Rattle.octets.specs.Words.{same}
use Rattle.octets.proofs.CaseLaws.{by_lt, by_bool}
use Rattle.octets.proofs.WordLaws.{same_self, by_same}
use Rattle.bat.specs.Framing.{Element, header, whole, front, first, elements, most_octets}
use Rattle.bat.specs.Values.{codecs, all_codecs, codecs_in, decoded, decoding, is_single, meant}
use Rattle.bat.specs.Writing.{codecs_text, identifier_of, contents_text, inner_codecs_in_range, value_in_range, value_text}
use Rattle.bat.proofs.WalkLaws.{front_nil, front_within, front_length, front_whole, by_front}
use Rattle.bat.proofs.RoundTrip.{read_written}
use Rattle.bat_write.proofs.Back.{element_back}
use Rattle.bat_match.specs.declared.MatchAnswer.{MatchAnswer}
use Rattle.bat_match.specs.declared.AnswerForC.{AnswerForC}
use Rattle.bat_match.specs.Matching.{PlacedCodec, placed_codec, placed_codecs, CodecList, is_codec_list, codec_list_of, only_list, codec_octets, has_octets, has_codec, common, without, first_of_each, first_of, Match, reduced_text, MatchResult, refused, matched, match_of, matching}
use Rattle.bat_match.specs.Meaning.{choice_of, PartOf, PartAt, PartBy, Chosen, reduced_answer, reduced_leaves, Matches, numbers_for, MatchesForC}
use Rattle.bat_match.specs.Promises.{IsList, NoneIn, FirstInBoth, NoRepeat, ElementAt, MatchIs, Swapped, ReducedBack}
use Rattle.bat_match.specs.Private.{all_singles, Alone, refused_alone, list, alone, lower, paired}
use Rattle.bat_match.proofs.CodecLaws.{placed_ended, placed_unframed, placed_first, singles_first, decoded_codecs, singles_codecs}
use Rattle.bat_match.proofs.ReducedLaws.{reduced_codecs, has_append, has_common, has_reduced, distinct_firsts, order_reduced}
use Rattle.bat_match.proofs.ListLaws.{alone_long, alone_framed, paired_is, only_contents, only_room, only_codecs, only_singles}
use Rattle.bat_match.proofs.NumberLaws.{number_some, lower_swap}
use Rattle.bat_match.proofs.WriteLaws.{inner, reduced_range, reduced_shrinks}

-- ---- a string that is a list
is_list : (s : List ℕ) (l : CodecList) → alone s ≡ list l → IsList s l
unfolding only_list Option-elim
is_list s l p =
    by_lt most_octets (length s) _
    (λ h. absurd (let n = alone_long s h in let z : ◌≡◌ {A = ℕ} 0 1 = cc in omega arith))
    (λ h. go h (elements s) refl (sym (alone_framed s h (elements s) refl) ∙ p))
  where
    one : length s ≤ most_octets → (e : Element) → elements s ≡ some (e ∷ []) → (b : Bool) → is_codec_list e ≡ b → Option-elim (cond b (some (codec_list_of e)) none) (refused_alone NoCodecList) list ≡ list l → IsList s l
    one h e q true is p = record { short = h; element = e; only = q; decoded = is; gives = let z : list (codec_list_of e) ≡ list l = p in cc }
    one h e q false is p = absurd (let z : refused_alone NoCodecList ≡ list l = p in let z : ◌≡◌ {A = ℕ} 0 1 = cc in omega arith)

    go : length s ≤ most_octets → (o : Option (List Element)) → elements s ≡ o → Option-elim o (refused_alone Unframed) (λ es. Option-elim (only_list es) (refused_alone NoCodecList) list) ≡ list l → IsList s l
    go h none q p = absurd (let z : refused_alone Unframed ≡ list l = p in let z : ◌≡◌ {A = ℕ} 0 1 = cc in omega arith)
    go h (some []) q p = absurd (let z : refused_alone NoCodecList ≡ list l = p in let z : ◌≡◌ {A = ℕ} 0 1 = cc in omega arith)
    go h (some (e ∷ [])) q p = one h e q (is_codec_list e) refl p
    go h (some (e ∷ f ∷ es)) q p = absurd (let z : refused_alone NoCodecList ≡ list l = p in let z : ◌≡◌ {A = ℕ} 0 1 = cc in omega arith)

list_alone : (s : List ℕ) (l : CodecList) → IsList s l → alone s ≡ list l
unfolding only_list Option-elim
list_alone s l i = alone_framed s i.short (some (i.element ∷ [])) i.only ∙ rw i.decoded (ap list i.gives)

-- ---- the first codec in both lists
first_common : (xs ys : List PlacedCodec) (c : PlacedCodec) (cs : List PlacedCodec) → common xs ys ≡ c ∷ cs → FirstInBoth xs ys c
unfolding common
first_common [] ys c cs p = absurd (let z : ◌≡◌ {A = ℕ} 0 1 = cc in omega arith)
first_common (x ∷ xs) ys c cs p =
    by_bool (has_codec x ys) _
    (λ h. let q : x ∷ common xs ys ≡ c ∷ cs = rw h at p in
    let e : x ≡ c = cc in
    rw (← e) (record { before = []; after = xs; lies = refl; shared = h; earliest = λ b m. absurd (mathlib.Core.List.Memᴰ.not-nil m) }))
    (λ h. let f = first_common xs ys c cs (rw h at p) in
    record {
      before = x ∷ f.before;
      after = f.after;
      lies = ap (λ (l : List PlacedCodec). x ∷ l) f.lies;
      shared = f.shared;
      earliest = λ b m. ⊎_elim (λ e. rw e h) (λ n. f.earliest b n) (mathlib.Core.List.Memᴰ.cases_cons m);
    })

none_common : (xs ys : List PlacedCodec) → common xs ys ≡ [] → NoneIn ys xs
unfolding common
none_common [] ys p c m = absurd (mathlib.Core.List.Memᴰ.not-nil m)
none_common (x ∷ xs) ys p c m =
    by_bool (has_codec x ys) _
    (λ h. absurd (let q : x ∷ common xs ys ≡ [] = rw h at p in let z : ◌≡◌ {A = ℕ} 0 1 = cc in omega arith))
    (λ h. ⊎_elim (λ e. rw e h) (λ n. none_common xs ys (rw h at p) c n) (mathlib.Core.List.Memᴰ.cases_cons m))

common_none : (xs ys : List PlacedCodec) → NoneIn ys xs → common xs ys ≡ []
unfolding common
common_none [] ys h = refl
common_none (x ∷ xs) ys h = rw (h x (mathlib.Core.List.Memᴰ.head refl)) (common_none xs ys (λ c m. h c (mathlib.Core.List.Memᴰ.tail m)))

-- no codec is in both, whichever leads
common_swap : (xs ys : List PlacedCodec) → common xs ys ≡ [] → common ys xs ≡ []
unfolding has_octets
common_swap xs ys p = go (common ys xs) refl
  where
    go : (cs : List PlacedCodec) → common ys xs ≡ cs → common ys xs ≡ []
    go [] q = q
    go (c ∷ cs) q =
        let t = codec_octets c in
        let there : has_octets t (common ys xs) ≡ true = rw (q, same_self t) in
        let here : has_octets t (common xs ys) ≡ false = rw p in
        let a = has_common t ys xs in
        let b = has_common t xs ys in
        let s = and_comm (has_octets t xs) (has_octets t ys) in
        absurd (let z : true ≡ false = cc in let y : ◌≡◌ {A = ℕ} 0 1 = cc in omega arith)

-- ---- the codecs of the reduced list are no repeats
nowhere : (before : List PlacedCodec) (c : PlacedCodec) (after : List PlacedCodec) → [] ≡ before ++ (c ∷ after) → ⊥
nowhere [] c after p = let z : ◌≡◌ {A = ℕ} 0 1 = cc in omega arith
nowhere (b ∷ before) c after p = let z : ◌≡◌ {A = ℕ} 0 1 = cc in omega arith

mem_without : (c z : PlacedCodec) (ds : List PlacedCodec) → Memᴰ c (without z ds) → (same (codec_octets c) (codec_octets z) ≡ false) × Memᴰ c ds
unfolding without
mem_without c z [] m = absurd (mathlib.Core.List.Memᴰ.not-nil m)
mem_without c z (d ∷ ds) m =
    by_bool (same (codec_octets d) (codec_octets z)) _
    (λ q. let (other, there) = mem_without c z ds (rw q at m) in (other, mathlib.Core.List.Memᴰ.tail there))
    (λ q. let n : Memᴰ c (d ∷ without z ds) = rw q at m in
    ⊎_elim
    (λ e. (rw e q, mathlib.Core.List.Memᴰ.head e))
    (λ k. let (other, there) = mem_without c z ds k in (other, mathlib.Core.List.Memᴰ.tail there))
    (mathlib.Core.List.Memᴰ.cases_cons n))

repeat_more : (x c : PlacedCodec) (xs : List PlacedCodec) → same (codec_octets c) (codec_octets x) ≡ false → NoRepeat xs c → NoRepeat (x ∷ xs) c
unfolding has_octets
repeat_more x c xs q r = record { before = x ∷ r.before; after = r.after; lies = ap (λ (l : List PlacedCodec). x ∷ l) r.lies; new = rw (q, r.new) }

repeat_here : (x c : PlacedCodec) (xs : List PlacedCodec) → x ≡ c → NoRepeat (x ∷ xs) c
unfolding has_octets
repeat_here x c xs e = rw (← e) (record { before = []; after = xs; lies = refl; new = refl })

repeat_firsts : (zs : List PlacedCodec) (c : PlacedCodec) → Memᴰ c (first_of_each zs) → NoRepeat zs c
unfolding first_of_each
repeat_firsts [] c m = absurd (mathlib.Core.List.Memᴰ.not-nil m)
repeat_firsts (z ∷ zs) c m =
    ⊎_elim
    (λ e. repeat_here z c zs (sym e))
    (λ n. let (other, there) = mem_without c z (first_of_each zs) n in repeat_more z c zs other (repeat_firsts zs c there))
    (mathlib.Core.List.Memᴰ.cases_cons m)

-- the same in the leading list: what `common` leaves out is not in the other list, and c is
module _ (ys : List PlacedCodec) (c : PlacedCodec) (after : List PlacedCodec) (shared : has_codec c ys ≡ true) where
  absent : (x : PlacedCodec) → has_codec x ys ≡ false → same (codec_octets c) (codec_octets x) ≡ false
  absent x b = by_same (codec_octets c) (codec_octets x) _ (λ e q. absurd (let z : has_codec x ys ≡ true = rw e at shared in let y : ◌≡◌ {A = ℕ} 0 1 = cc in omega arith)) (λ q. q)

  kept : (x : PlacedCodec) (xs rest before : List PlacedCodec) → ((b : List PlacedCodec) → rest ≡ b ++ (c ∷ after) → has_codec c b ≡ false → NoRepeat xs c)
      → x ∷ rest ≡ before ++ (c ∷ after) → has_codec c before ≡ false → NoRepeat (x ∷ xs) c
  unfolding has_octets
  kept x xs rest [] ih p h = repeat_here x c xs (let z : x ∷ rest ≡ c ∷ after = p in cc)
  kept x xs rest (b ∷ before) ih p h =
      let z : x ∷ rest ≡ b ∷ (before ++ (c ∷ after)) = p in
      let e : x ≡ b = cc in
      let q : rest ≡ before ++ (c ∷ after) = cc in
      by_bool (same (codec_octets c) (codec_octets b)) _
      (λ k. absurd (let y : true ≡ false = rw k at h in let y : ◌≡◌ {A = ℕ} 0 1 = cc in omega arith))
      (λ k. repeat_more x c xs (rw e k) (ih before q (rw k at h)))

  repeat_common : (xs before : List PlacedCodec) → common xs ys ≡ before ++ (c ∷ after) → has_codec c before ≡ false → NoRepeat xs c
  unfolding common
  repeat_common [] before p h = absurd (nowhere before c after p)
  repeat_common (x ∷ xs) before p h =
      by_bool (has_codec x ys) _
      (λ b. kept x xs (common xs ys) before (λ d q k. repeat_common xs d q k) (rw b at p) h)
      (λ b. repeat_more x c xs (absent x b) (repeat_common xs before (rw b at p) h))

no_repeat : (xs ys : List PlacedCodec) (c : PlacedCodec) → Memᴰ c (reduced_codecs xs ys) → NoRepeat xs c
unfolding has_octets
no_repeat xs ys c m =
    let r = repeat_firsts (common xs ys) c m in
    let t = codec_octets c in
    let there : has_octets t (common xs ys) ≡ true = rw (r.lies, has_append t r.before (c ∷ r.after), same_self t) (or-true (has_octets t r.before)) in
    let (here, shared) = (and-eq-true_iff (has_octets t xs) (has_octets t ys)).0 (sym (has_common t xs ys) ∙ there) in
    repeat_common ys c r.after shared xs r.before r.lies r.new

-- ---- a codec in its place
module _ (s : List ℕ) where
  placed_at : (u : List ℕ) (d : ℕ) (before : List PlacedCodec) (c : PlacedCodec) (after : List PlacedCodec) → u ≡ drop d s → all_singles u ≡ true → placed_codecs d u ≡ before ++ (c ∷ after) → ElementAt s c
  placed_at =
      by_front (λ (u : List ℕ). (d : ℕ) (before : List PlacedCodec) (c : PlacedCodec) (after : List PlacedCodec) → u ≡ drop d s → all_singles u ≡ true → placed_codecs d u ≡ before ++ (c ∷ after) → ElementAt s c)
      (λ d before c after h k p. absurd (nowhere before c after (sym (placed_ended d [] front_nil) ∙ p)))
      (λ u q d before c after h k p. absurd (nowhere before c after (sym (placed_unframed d u q) ∙ p)))
      (λ u e t q ih d before c after h k p.
      let (single, rest) = (and-eq-true_iff (is_single e) (all_singles t)).0 (sym (singles_first u e t q) ∙ k) in
      let n : t ≡ drop (d + length (whole e)) s = sym (drop-append_seam (whole e) t) ∙ ap (drop (length (whole e))) (sym (front_within u e t q) ∙ h) ∙ drop-drop (length (whole e)) d s in
      here e t d before c after (rw h at q) single (λ b p. ih (d + length (whole e)) b c after n rest p) (sym (placed_first d u e t q) ∙ p))
    where
      here : (e : Element) (t : List ℕ) (d : ℕ) (before : List PlacedCodec) (c : PlacedCodec) (after : List PlacedCodec) → front (drop d s) ≡ first e t → is_single e ≡ true
          → ((b : List PlacedCodec) → placed_codecs (d + length (whole e)) t ≡ b ++ (c ∷ after) → ElementAt s c) → placed_codec d e ∷ placed_codecs (d + length (whole e)) t ≡ before ++ (c ∷ after) → ElementAt s c
      here e t d [] c after q single ih p =
          let z : placed_codec d e ≡ c = cc in
          rw (← z) (record { element = e; rest = t; fronts = q; single = single; is = refl })
      here e t d (b ∷ before) c after q single ih p = ih before (let z : placed_codec d e ∷ placed_codecs (d + length (whole e)) t ≡ b ∷ (before ++ (c ∷ after)) = p in cc)

-- codecs in range make a list in range
list_range : (c : PlacedCodec) (cs : List PlacedCodec) → inner_codecs_in_range (inner (c ∷ cs)) ≡ true → value_in_range (codecs (inner (c ∷ cs))) ≡ true
unfolding value_in_range
list_range c cs r = rw (le-leb 1 (length (inner (c ∷ cs))) (omega arith), r)

-- ---- the match of two lists
record Lists (s t : List ℕ) (x : MatchResult) : Type 0 where
  leading : CodecList
  other : CodecList
  leads : IsList s leading
  follows : IsList t other
  gives : match_of leading (common leading.codecs other.codecs) ≡ x

-- what refuses a string by itself has a number up to 14
numbered : (s : List ℕ) (e : Refusal) → alone s ≡ refused_alone e → refusal_number e ≤ 14
unfolding Option-elim only_list
numbered s e p =
    by_lt most_octets (length s) _
    (λ h. let q = alone_long s h in let z : DataTooLong ≡ e = cc in rw (← z) (omega arith))
    (λ h. go (elements s) (sym (alone_framed s h (elements s) refl) ∙ p))
  where
    last : (o : Option CodecList) → Option-elim o (refused_alone NoCodecList) list ≡ refused_alone e → refusal_number e ≤ 14
    last none p = let z : NoCodecList ≡ e = cc in rw (← z) (omega arith)
    last (some l) p = absurd (let z : ◌≡◌ {A = ℕ} 0 1 = cc in omega arith)

    go : (o : Option (List Element)) → Option-elim o (refused_alone Unframed) (λ es. Option-elim (only_list es) (refused_alone NoCodecList) list) ≡ refused_alone e → refusal_number e ≤ 14
    go none p = let z : Unframed ≡ e = cc in rw (← z) (omega arith)
    go (some es) p = last (only_list es) p

lower_numbered : (d e : Refusal) → refusal_number d ≤ 14 → refusal_number e ≤ 14 → refusal_number (lower d e) ≤ 14
lower_numbered d e h k = by_bool (ltb (refusal_number e) (refusal_number d)) _ (λ b. rw b k) (λ b. rw b h)

lists_of : (s t : List ℕ) (x : MatchResult) → matching s t ≡ x → ((e : Refusal) → refusal_number e ≤ 14 → refused e ≡ x → ⊥) → Lists s t x
unfolding paired
lists_of s t x p high = go (alone s) (alone t) refl refl (sym (paired_is s t) ∙ p)
  where
    go : (a b : Alone) → alone s ≡ a → alone t ≡ b → paired a b ≡ x → Lists s t x
    go (list l) (list o) q r e = record { leading = l; other = o; leads = is_list s l q; follows = is_list t o r; gives = e }
    go (list l) (refused_alone n) q r e = absurd (high n (numbered t n r) e)
    go (refused_alone m) (list o) q r e = absurd (high m (numbered s m q) e)
    go (refused_alone m) (refused_alone n) q r e = absurd (high (lower m n) (lower_numbered m n (numbered s m q) (numbered t n r)) e)

module _ (s t : List ℕ) (m : Match) (l o : CodecList) (i : IsList s l) (follows : IsList t o) where
  match_of_lem : (c : PlacedCodec) (cs : List PlacedCodec) → common l.codecs o.codecs ≡ c ∷ cs → match_of l (c ∷ cs) ≡ matched m → MatchIs s t m
  unfolding match_of first_of Option-elim first_of_each reduced_text value_text identifier_of contents_text
  match_of_lem c cs q p =
      let e = i.element in
      let d = length (header e) in
      let xs = l.codecs in
      let ys = o.codecs in
      let here : e.contents ≡ drop d s = only_contents s e i.only in
      let singles = only_singles s e i.only i.decoded in
      let placed : placed_codecs d e.contents ≡ xs = ap (λ (k : CodecList). k.codecs) i.gives in
      let n : meant e.compatibility ≡ l.compatibility = ap (λ (k : CodecList). k.compatibility) i.gives in
      let are : codecs_in e.contents ≡ all_codecs (inner xs) = singles_codecs e.contents d singles ∙ rw placed in
      let found = first_common xs ys c cs q in
      let k : record { chosen = c; compatibility = l.compatibility; reduced = inner (c ∷ without c (first_of_each cs)) } ≡ m = cc in
      let r : reduced_codecs xs ys ≡ c ∷ without c (first_of_each cs) = rw q in
      let range : inner_codecs_in_range (inner (c ∷ without c (first_of_each cs))) ≡ true = rw r at (reduced_range e.contents xs ys are) in
      let shrinks : length (codecs_text (inner (c ∷ without c (first_of_each cs)))) ≤ length e.contents = rw r at (reduced_shrinks e.contents xs ys are) in
      let fits = only_room s e i.only 4 l.compatibility (codecs_text (inner (c ∷ without c (first_of_each cs)))) shrinks in
      rw (← k) (record {
        leading = l;
        other = o;
        leads = i;
        follows = follows;
        chosen = found;
        placed = placed_at s e.contents d found.before c found.after here singles (placed ∙ found.lies);
        later = without c (first_of_each cs);
        reduced = refl;
        in_both = rw (← r) (record { exactly = λ x. has_reduced (codec_octets x) xs ys; once = distinct_firsts (common xs ys); firsts = no_repeat xs ys; ordered = order_reduced xs ys });
        compatibility = refl;
        no_longer = fits;
        back = λ rest. read_written l.compatibility (codecs (inner (c ∷ without c (first_of_each cs)))) rest (omega (arith, n)) (list_range c (without c (first_of_each cs)) range) (omega (arith, fits, i.short));
      })

-- ---- what can be quoted
-- the element reader decodes the one element of a list as the same codecs
pub list_decodes : (s : List ℕ) (l : CodecList) (i : IsList s l) → decoding i.element.identifier i.element.contents ≡ decoded (codecs (inner l.codecs))
list_decodes s l i =
    let e = i.element in
    let (cs, are, reads) = only_codecs s e i.only i.decoded in
    let same = (decoded_codecs e.contents (length (header e)) cs are).codecs in
    let placed : placed_codecs (length (header e)) e.contents ≡ l.codecs = ap (λ (k : CodecList). k.codecs) i.gives in
    let are_cs : inner l.codecs ≡ cs = rw placed at same in
    rw are_cs reads

module _ (s t : List ℕ) where
  -- two strings that are matched are lists, and m is their match
  pub match_is : (m : Match) → matching s t ≡ matched m → MatchIs s t m
  unfolding match_of first_of Option-elim
  match_is m p =
      let x = lists_of s t (matched m) p (λ n h e. let z : ◌≡◌ {A = ℕ} 0 1 = cc in omega arith) in
      go x (common x.leading.codecs x.other.codecs) refl
    where
      go : (x : Lists s t (matched m)) (cs : List PlacedCodec) → common x.leading.codecs x.other.codecs ≡ cs → MatchIs s t m
      go x [] q = absurd (let g = x.gives in let z : refused NoCommonCodec ≡ matched m = rw q at g in let z : ◌≡◌ {A = ℕ} 0 1 = cc in omega arith)
      go x (c ∷ cs) q = let g = x.gives in match_of_lem s t m x.leading x.other x.leads x.follows c cs q (rw q at g)

  -- number 15 refuses exactly two lists that have no codec in common
  pub none_in_both : matching s t ≡ refused NoCommonCodec → (l : CodecList) × (o : CodecList) × IsList s l × IsList t o × NoneIn o.codecs l.codecs
  unfolding match_of first_of Option-elim
  none_in_both p =
      let x = lists_of s t (refused NoCommonCodec) p (λ n h e. let z : NoCommonCodec ≡ n = cc in absurd (let k : 15 ≤ 14 = rw (← z) at h in omega arith)) in
      (x.leading, x.other, x.leads, x.follows, none_common x.leading.codecs x.other.codecs (go x.leading (common x.leading.codecs x.other.codecs) x.gives))
    where
      go : (l : CodecList) (cs : List PlacedCodec) → match_of l cs ≡ refused NoCommonCodec → cs ≡ []
      go l [] e = refl
      go l (c ∷ cs) e = absurd (let z : ◌≡◌ {A = ℕ} 0 1 = cc in omega arith)

  pub refused_15 : (l o : CodecList) → IsList s l → IsList t o → NoneIn o.codecs l.codecs → matching s t ≡ refused NoCommonCodec
  unfolding paired match_of first_of Option-elim
  refused_15 l o p q h = paired_is s t ∙ rw (list_alone s l p, list_alone t o q, common_none l.codecs o.codecs h)

  -- the same number refuses the two if the other string leads
  pub refused_swap : (n : Refusal) → matching s t ≡ refused n → matching t s ≡ refused n
  unfolding paired match_of first_of Option-elim
  refused_swap n p = go (alone s) (alone t) refl refl (sym (paired_is s t) ∙ p)
    where
      none_left : (l o : CodecList) (cs : List PlacedCodec) → common l.codecs o.codecs ≡ cs → match_of l cs ≡ refused n → match_of o (common o.codecs l.codecs) ≡ refused n
      none_left l o [] q e = rw (common_swap l.codecs o.codecs q) e
      none_left l o (c ∷ cs) q e = absurd (let z : ◌≡◌ {A = ℕ} 0 1 = cc in omega arith)

      go : (a b : Alone) → alone s ≡ a → alone t ≡ b → paired a b ≡ refused n → matching t s ≡ refused n
      go (list l) (list o) q r e = paired_is t s ∙ rw (q, r) (none_left l o (common l.codecs o.codecs) refl e)
      go (list l) (refused_alone k) q r e = paired_is t s ∙ rw (q, r) e
      go (refused_alone k) (list o) q r e = paired_is t s ∙ rw (q, r) e
      go (refused_alone k) (refused_alone j) q r e = paired_is t s ∙ rw (q, r, lower_swap j k) e

-- the reduced list has the same codecs if the other string leads
same_list : (s : List ℕ) (k l : CodecList) → IsList s k → IsList s l → k ≡ l
same_list s k l p q = let a = list_alone s k p in let b = list_alone s l q in let z : list k ≡ list l = cc in cc

pub match_swap : (s t : List ℕ) (m : Match) → matching s t ≡ matched m → Swapped s t m
match_swap s t m p = go (matching t s) refl
  where
    go : (x : MatchResult) → matching t s ≡ x → Swapped s t m
    go (refused n) q = absurd (let r = refused_swap t s n q in let z : ◌≡◌ {A = ℕ} 0 1 = cc in omega arith)
    go (matched n) q =
        let this = match_is s t m p in
        let that = match_is t s n q in
        let first : this.leading ≡ that.other = same_list s this.leading that.other this.leads that.follows in
        let second : this.other ≡ that.leading = same_list t this.other that.leading this.follows that.leads in
        record {
          swapped = n;
          result = q;
          this = this;
          that = that;
          same_codecs = λ c. this.in_both.exactly c ∙ and_comm (has_codec c this.leading.codecs) (has_codec c this.other.codecs) ∙ rw (first, second) (sym (that.in_both.exactly c));
        }

-- ---- what the functions answer, where two lists are matched
-- the octets at the place of the chosen codec are its element, and lie inside the leading list
module _ (s : List ℕ) (c : PlacedCodec) (at : ElementAt s c) where
  pub element_inside : c.start + c.length ≤ length s
  element_inside =
      let l = front_length (drop c.start s) at.element at.rest at.fronts in
      let w = front_whole (drop c.start s) at.element at.rest at.fronts in
      let n : c.length ≡ length (whole at.element) = ap (λ (x : PlacedCodec). x.length) at.is in
      omega (arith, length-drop c.start s)

  pub element_octets_lem : take c.length (drop c.start s) ≡ whole at.element
  element_octets_lem =
      let n : c.length ≡ length (whole at.element) = ap (λ (x : PlacedCodec). x.length) at.is in
      rw (n, front_within (drop c.start s) at.element at.rest at.fronts, take-append_seam (whole at.element) at.rest)

-- so `chosen_part` answers that element, in its place
pub chosen_part_is : (leading other r : Bor (List ℕ)) (m : Match) → matching leading.now other.now ≡ matched m → Chosen leading other r → PartOf leading m.chosen.start m.chosen.length r
unfolding Chosen choice_of PartBy PartAt
chosen_part_is leading other r m p q =
    let i = match_is leading.now other.now m p in
    rw (p, le-leb (m.chosen.start + m.chosen.length) (length leading.now) (element_inside leading.now m.chosen i.placed)) at q

-- what is written is read back from the buffer as the reduced list
module _ (s t l f : List ℕ) (n : ℕ) (leaves : f ≡ reduced_leaves l (matching s t)) where
  back_of : reduced_answer (length l) (matching s t) ≡ Ok n → ReducedBack s t n f
  unfolding reduced_answer reduced_leaves reduced_text
  back_of a = go (matching s t) refl
    where
      go : (x : MatchResult) → matching s t ≡ x → ReducedBack s t n f
      go (refused k) q = absurd (let z : Err k ≡ Ok n = rw q at a in let z : ◌≡◌ {A = ℕ} 0 1 = cc in omega arith)
      go (matched m) q =
          let b = rw q at a in
          record { match = m; result = q; back = element_back m.compatibility (codecs m.reduced) l n f ((match_is s t m q).back (drop (length (reduced_text m)) l)) (record { answers = sym b; leaves = rw q at leaves }) }

-- after `match_lists`
pub reduced_back : (s t l : List ℕ) (r : MatchAnswer) (f : List ℕ) (n : ℕ) → Matches (matching s t) l r f → r.reduced ≡ Ok n → ReducedBack s t n f
reduced_back s t l r f n p e =
    let a : r.reduced ≡ reduced_answer (length l) (matching s t) = ap (λ (x : MatchAnswer). x.reduced) p.answers in
    back_of s t l f n p.leaves (sym a ∙ e)

-- after `bat_match_codecs`: no number is 0, so 0 says that the list is written
pub reduced_back_c : (s t l : List ℕ) (r : AnswerForC) (f : List ℕ) → MatchesForC (matching s t) l r f → r.refusal ≡ 0 → ReducedBack s t r.written f
unfolding choice_of reduced_answer numbers_for
reduced_back_c s t l r f p e = go (matching s t) refl (reduced_answer (length l) (matching s t)) refl
  where
    told : (x : MatchResult) (w : Result ℕ Refusal) → matching s t ≡ x → reduced_answer (length l) (matching s t) ≡ w → r ≡ numbers_for (choice_of x) w
    told x w q h = p.answers ∙ ap (λ (c : Result Span Refusal). numbers_for c (reduced_answer (length l) (matching s t))) (ap choice_of q) ∙ ap (numbers_for (choice_of x)) h

    go : (x : MatchResult) → matching s t ≡ x → (w : Result ℕ Refusal) → reduced_answer (length l) (matching s t) ≡ w → ReducedBack s t r.written f
    go (refused n) q w h = absurd (let a : r.refusal ≡ refusal_number n = ap (λ (y : AnswerForC). y.refusal) (told (refused n) w q h) in omega (arith, number_some n))
    go (matched m) q (Ok k) h =
        let a : r.written ≡ k = ap (λ (y : AnswerForC). y.written) (told (matched m) (Ok k) q h) in
        back_of s t l f r.written p.leaves (h ∙ ap Ok (sym a))
    go (matched m) q (Err k) h = absurd (let a : r.refusal ≡ refusal_number k = ap (λ (y : AnswerForC). y.refusal) (told (matched m) (Err k) q h) in omega (arith, number_some k))
