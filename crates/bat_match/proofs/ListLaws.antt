-- A string by itself: the tests of the code are the steps of `alone`. What two strings are by themselves gives their match, since
-- the numbers that refuse a string rise in the order in which they are looked for.
-- Assumes nothing.
use Prim.Native.Nat.{ℕ, suc, ◌≤◌, ◌<◌}
use mathlib.Core.Path.{◌≡◌, refl, sym, ap, ◌∙◌}
use mathlib.Core.List.{List, [], ◌∷◌, append-nil}
use mathlib.Core.Bool.{Bool, true, false, cond, and-false, and-eq-true_iff}
use mathlib.Core.Option.{Option, none, some, map, Option-elim}
use lib.ListN.{length, drop}
use lib.Seq.{drop-append_seam}
use lib.Dec.{leb, eqb}
use native.Mathlib.Omega.{arith}
use borrow.Author.Tests.{lt-ltb, le-ltb, le-leb, lt-leb, eq-eqb, ne_eqb, eqb-true}
use Rattle.std.specs.Prelude.{Result, Ok, Err, Some, None}
use Rattle.octets.specs.declared.Refusal.{Refusal}
use Rattle.octets.specs.declared.Refusal.TheVariants.{DataTooLong, Unframed, TableTooShort, NoCodecList}
use Rattle.std.specs.Prelude as std
use Rattle.octets.specs.Refusals.{refusal_number}
use Rattle.bat.specs.declared.Unframed as bat
use Rattle.bat.specs.declared.Unrecognised.{Unrecognised}
use Rattle.octets.specs.declared.Span.{Span}
use Rattle.octets.specs.Puts.{bounded}
use Rattle.octets.proofs.CaseLaws.{by_lt}
use Rattle.bat.specs.declared.Frame.{Frame}
use Rattle.bat.specs.declared.Value as told
use Rattle.bat.specs.Framing.{Element, header, whole, Front, front, first, unframed, ended, elements, most_octets, Cut, cut, room_for}
use Rattle.bat.specs.Framing as framing
use Rattle.bat.specs.Values.{InnerCodec, Value, codecs, Decoding, decoded, unrecognised, wrong, Codecs, all_codecs, offence, on_codecs, codecs_in, codec_list_in, decoding}
use Rattle.bat.specs.Writing.{element_text}
use Rattle.bat.specs.FramingMeaning.{whole_length, element_in, front_in, HeaderLength, count_of}
use Rattle.bat.specs.ValueMeaning.{value_in, decoding_in}
use Rattle.bat.proofs.WalkLaws.{front_within, front_length, front_ended}
use Rattle.bat.proofs.DataLaws.{elements_ended, elements_unframed, elements_first, elements_next, taken_is}
use Rattle.bat.proofs.DecodedLaws.{element_text_whole}
use Rattle.bat.proofs.CountLaws.{frame_ended, frame_unframed, frame_is, frame_header, ok_is}
use Rattle.bat_match.specs.declared.list.FramedList.{FramedList}
use Rattle.bat_match.specs.Matching.{CodecList, is_decoded, is_codec_list, codec_list_of, only_list, common, refused, both, match_of, matching}
use Rattle.bat_match.specs.Meaning.{choice_of}
use Rattle.bat_match.specs.Private.{all_singles, codecs_at, FirstCommon, Alone, refused_alone, list, alone, lower, OneAtMost, list_in, ListIs, OneListIs, paired, ListsAre, TwoListsAre}
use Rattle.bat_match.proofs.CodecLaws.{decoded_codecs}
use Rattle.bat_match.proofs.SearchLaws.{first_is}
use Rattle.bat_match.proofs.NumberLaws.{lower_first, lower_second}

-- ---- the steps of `alone`
module _ (s : List ℕ) where
  pub alone_long : most_octets < length s → alone s ≡ refused_alone DataTooLong
  unfolding alone bounded Option-elim
  alone_long h = rw (lt-leb (length s) most_octets h)

  module _ (short : length s ≤ most_octets) where
    pub alone_framed : (o : Option (List Element)) → elements s ≡ o → alone s ≡ Option-elim o (refused_alone Unframed) (λ es. Option-elim (only_list es) (refused_alone NoCodecList) list)
    unfolding alone bounded Option-elim
    alone_framed o e = rw (le-leb (length s) most_octets short, e)

  -- ---- the count of elements, of which there is to be one
  many : (es : List Element) → 1 < length es → only_list es ≡ none
  unfolding only_list
  many [] h = absurd (omega arith)
  many (e ∷ []) h = absurd (omega arith)
  many (e ∷ f ∷ es) h = refl

  -- what refuses a string that `cut` refuses by r: more than one element is no codec list
  record Refuses (r : Refusal) : Type 0 where
    more : r ≡ TableTooShort → alone s ≡ refused_alone NoCodecList
    other : (r ≡ TableTooShort → ⊥) → alone s ≡ refused_alone r

  refused_by : (o : Option (List Element)) (r : Refusal) → elements s ≡ o → length s ≤ most_octets → Option-elim o (framing.refused Unframed) (room_for 1) ≡ framing.refused r → Refuses r
  unfolding room_for Option-elim
  refused_by none r e short p =
      let z : Unframed ≡ r = cc in
      record {
        more = λ q. absurd (let y : Unframed ≡ TableTooShort = z ∙ q in let z : ◌≡◌ {A = ℕ} 0 1 = cc in omega arith);
        other = λ q. alone_framed short none e ∙ rw (← z);
      }
  refused_by (some es) r e short p =
      by_lt 1 (length es) _
      (λ h. let q : framing.refused TableTooShort ≡ framing.refused r = rw (lt-ltb 1 (length es) h) at p in
      let z : TableTooShort ≡ r = cc in
      record { more = λ q. alone_framed short (some es) e ∙ rw (many es h); other = λ q. absurd (q (sym z)) })
      (λ h. let q : framing.taken es ≡ framing.refused r = rw (le-ltb 1 (length es) h) at p in absurd (let z : ◌≡◌ {A = ℕ} 0 1 = cc in omega arith))

  refused_cut : (r : Refusal) → cut 1 s ≡ framing.refused r → Refuses r
  unfolding cut
  refused_cut r p =
      by_lt most_octets (length s) _
      (λ h. let q : framing.refused DataTooLong ≡ framing.refused r = rw (lt-ltb most_octets (length s) h) at p in
      let z : DataTooLong ≡ r = cc in
      record {
        more = λ q. absurd (let y : DataTooLong ≡ TableTooShort = z ∙ q in let z : ◌≡◌ {A = ℕ} 0 1 = cc in omega arith);
        other = λ q. alone_long h ∙ rw (← z);
      })
      (λ h. refused_by (elements s) r refl h (rw (le-ltb most_octets (length s) h) at p))

  module _ (x : Result ℕ Refusal) (is : x ≡ count_of (cut 1 s)) where
    pub one_at_most : (n : ℕ) → x ≡ Ok n → OneAtMost s
    unfolding count_of
    one_at_most n e = go (cut 1 s) refl
      where
        go : (y : Cut) → cut 1 s ≡ y → OneAtMost s
        go (framing.refused k) q = absurd (let z : x ≡ Err k = rw q at is in let z : ◌≡◌ {A = ℕ} 0 1 = cc in omega arith)
        go (framing.taken es) q = let t = taken_is 1 s es q in record { short = t.short; found = es; are = t.are; single = t.room }

    refuses : (r : Refusal) → x ≡ Err r → Refuses r
    unfolding count_of
    refuses r e = go (cut 1 s) refl
      where
        go : (y : Cut) → cut 1 s ≡ y → Refuses r
        go (framing.refused k) q = let z : x ≡ Err k = rw q at is in let y : k ≡ r = cc in refused_cut r (rw y at q)
        go (framing.taken es) q = absurd (let z : x ≡ Ok (length es) = rw q at is in let z : ◌≡◌ {A = ℕ} 0 1 = cc in omega arith)

    pub alone_many : (r : Refusal) → x ≡ Err r → r ≡ TableTooShort → alone s ≡ refused_alone NoCodecList
    alone_many r e h = (refuses r e).more h

    pub alone_refused : (r : Refusal) → x ≡ Err r → (r ≡ TableTooShort → ⊥) → alone s ≡ refused_alone r
    alone_refused r e h = (refuses r e).other h

-- ---- two strings
-- the number of what refuses x is at least m
abbrev AtLeast : ℕ → Alone → Type 0
AtLeast m (refused_alone e) = m ≤ refusal_number e
AtLeast m (list l) = Unit {0}

low_first : (d : Refusal) (x : Alone) → AtLeast (refusal_number d) x → refused d ≡ paired (refused_alone d) x
unfolding paired
low_first d (refused_alone e) h = ap refused (sym (lower_first d e h))
low_first d (list l) h = refl

low_second : (e : Refusal) (x : Alone) → AtLeast (suc (refusal_number e)) x → refused e ≡ paired x (refused_alone e)
unfolding paired
low_second e (refused_alone d) h = ap refused (sym (lower_second d e h))
low_second e (list l) h = refl

-- what a string is by the list in it, and by its elements
abbrev listed : Option CodecList → Alone
listed o = Option-elim o (refused_alone NoCodecList) list

abbrev framed : Option (List Element) → Alone
framed o = Option-elim o (refused_alone Unframed) (λ es. listed (only_list es))

listed_least : (m : ℕ) (o : Option CodecList) → m ≤ 14 → AtLeast m (listed o)
unfolding Option-elim
listed_least m none h = h
listed_least m (some l) h = tt

framed_least : (m : ℕ) (o : Option (List Element)) → m ≤ 2 → AtLeast m (framed o)
unfolding Option-elim
framed_least m none h = h
framed_least m (some es) h = listed_least m (only_list es) (omega arith)

paired_listed : (o p : Option CodecList) → both NoCodecList o p (λ l m. match_of l (common l.codecs m.codecs)) ≡ paired (listed o) (listed p)
unfolding both paired Option-elim
paired_listed none p = low_first NoCodecList (listed p) (listed_least 14 p (omega arith))
paired_listed (some l) none = refl
paired_listed (some l) (some m) = refl

paired_framed : (o p : Option (List Element))
    → both Unframed o p (λ es fs. both NoCodecList (only_list es) (only_list fs) (λ l m. match_of l (common l.codecs m.codecs))) ≡ paired (framed o) (framed p)
unfolding both Option-elim
paired_framed none p = low_first Unframed (framed p) (framed_least 2 p (omega arith))
paired_framed (some es) none = low_second Unframed (listed (only_list es)) (listed_least 3 (only_list es) (omega arith))
paired_framed (some es) (some fs) = paired_listed (only_list es) (only_list fs)

pub paired_is : (s t : List ℕ) → matching s t ≡ paired (alone s) (alone t)
unfolding matching both alone bounded Option-elim
paired_is s t = go (leb (length s) most_octets) (leb (length t) most_octets)
  where
    go : (a b : Bool) → both DataTooLong (cond a (some s) none) (cond b (some t) none)
        (λ s t. both Unframed (elements s) (elements t) (λ es fs. both NoCodecList (only_list es) (only_list fs) (λ l m. match_of l (common l.codecs m.codecs))))
        ≡ paired (Option-elim (cond a (some s) none) (refused_alone DataTooLong) (λ s. framed (elements s))) (Option-elim (cond b (some t) none) (refused_alone DataTooLong) (λ t. framed (elements t)))
    go true true = paired_framed (elements s) (elements t)
    go true false = low_second DataTooLong (framed (elements s)) (framed_least 2 (elements s) (omega arith))
    go false true = low_first DataTooLong (framed (elements t)) (framed_least 1 (elements t) (omega arith))
    go false false = low_first DataTooLong (refused_alone DataTooLong) (omega arith)

-- the cases of the code, which judges each string by itself
module _ (s : List ℕ) (a : Result FramedList Refusal) (p : OneListIs s a) where
  one_is : (l : FramedList) → a ≡ Ok l → ListIs s l
  unfolding OneListIs
  one_is l e = rw e at p

  one_refused : (n : Refusal) → a ≡ Err n → alone s ≡ refused_alone n
  unfolding OneListIs
  one_refused n e = rw e at p

module _ (s t : List ℕ) (a b : Result FramedList Refusal) (p : OneListIs s a) (q : OneListIs t b) where
  pub two_are : (l o : FramedList) → a ≡ Ok l → b ≡ Ok o → TwoListsAre s t (Ok (l, o))
  unfolding TwoListsAre
  two_are l o e f = record { first = one_is s a p l e; second = one_is t b q o f }

  pub second_refused : (l : FramedList) (n : Refusal) → a ≡ Ok l → b ≡ Err n → TwoListsAre s t (Err n)
  unfolding TwoListsAre paired
  second_refused l n e f = paired_is s t ∙ rw ((one_is s a p l e).is, one_refused t b q n f)

  pub first_refused : (m : Refusal) (o : FramedList) → a ≡ Err m → b ≡ Ok o → TwoListsAre s t (Err m)
  unfolding TwoListsAre paired
  first_refused m o e f = paired_is s t ∙ rw (one_refused s a p m e, (one_is t b q o f).is)

  pub two_refused : (m n k : Refusal) → a ≡ Err m → b ≡ Err n → k ≡ lower m n → TwoListsAre s t (Err k)
  unfolding TwoListsAre paired
  two_refused m n k e f h = paired_is s t ∙ rw (one_refused s a p m e, one_refused t b q n f, h)

pub ruleset pairs = (two_are, second_refused, first_refused, two_refused)

-- two strings that are lists are matched by the codecs in both
module _ (s t : List ℕ) (l o : FramedList) (are : ListsAre s t l o) where
  pub match_are : matching s t ≡ match_of (list_in s l) (common (codecs_at s l.from) (codecs_at t o.from))
  unfolding paired
  match_are = paired_is s t ∙ rw (are.first.is, are.second.is)

  pub choice_are : (r : Result Span Refusal) → FirstCommon s l.from (codecs_at t o.from) r → r ≡ choice_of (matching s t)
  choice_are r f = first_is s l.from (codecs_at t o.from) (list_in s l) r f ∙ sym (ap choice_of match_are)

are_at : (s t : List ℕ) (l o : FramedList) → ListsAre s t l o → (u v : List ℕ) → u ≡ s → v ≡ t → ListsAre u v l o
are_at s t l o z u v p q = rw (p, q) z

module _ (s t : List ℕ) (x : Result (FramedList × FramedList) Refusal) (p : TwoListsAre s t x) where
  pub lists_are : (l o : FramedList) → x ≡ Ok (l, o) → ListsAre s t l o
  unfolding TwoListsAre
  lists_are l o e = rw e at p

  pub lists_refused : (n : Refusal) → x ≡ Err n → matching s t ≡ refused n
  unfolding TwoListsAre
  lists_refused n e = rw e at p

  pub choice_first : (l o : FramedList) → x ≡ Ok (l, o) → (r : Result Span Refusal) → FirstCommon l.string.now l.from (codecs_at o.string.now o.from) r → r ≡ choice_of (matching s t)
  choice_first l o e r p = let z = lists_are l o e in choice_are s t l o z r (rw (z.first.string, z.second.string) at p)

  -- the lists are those of the strings that they hold
  pub lists_here : (l o : FramedList) → x ≡ Ok (l, o) → ListsAre l.string.now o.string.now l o
  lists_here l o e = let z = lists_are l o e in are_at s t l o z _ _ z.first.string z.second.string

  pub choice_refused : (n : Refusal) → x ≡ Err n → Err n ≡ choice_of (matching s t)
  unfolding choice_of
  choice_refused n e = rw (lists_refused n e)

pub ruleset choices = (choice_first, choice_refused)

-- ---- the one element of a string
-- no element follows the one at the front, if there is at most one
front_none : (f : Front) (s : List ℕ) → front s ≡ f → elements s ≡ some [] → s ≡ []
front_none (first e t) s q p = absurd (let n = elements_first s e t q in not_empty e (elements t) (sym n ∙ p))
  where
    not_empty : (e : Element) (o : Option (List Element)) → map (λ (r : List Element). e ∷ r) o ≡ some [] → ⊥
    not_empty e none p = let z : ◌≡◌ {A = ℕ} 0 1 = cc in omega arith
    not_empty e (some r) p = let z : ◌≡◌ {A = ℕ} 0 1 = cc in omega arith
front_none unframed s q p = absurd (let n = elements_unframed s q in let z : ◌≡◌ {A = ℕ} 0 1 = cc in omega arith)
front_none ended s q p = front_ended s q

-- an element 4 that is decoded is single codecs
list_decoded : (c : List ℕ) (w : Value) → decoding 4 c ≡ decoded w → (cs : List InnerCodec) × (codecs_in c ≡ all_codecs cs) × (w ≡ codecs cs)
unfolding decoding codec_list_in on_codecs
list_decoded c w p = go (eqb (length c) 0) (codecs_in c) refl p
  where
    go : (b : Bool) (o : Codecs) → codecs_in c ≡ o → cond b wrong (on_codecs o (λ cs. decoded (codecs cs)) (λ d. unrecognised (Some d))) ≡ decoded w
        → (cs : List InnerCodec) × (codecs_in c ≡ all_codecs cs) × (w ≡ codecs cs)
    go true o e p = absurd (let z : ◌≡◌ {A = ℕ} 0 1 = cc in omega arith)
    go false (all_codecs cs) e p = (cs, e, let z : decoded (codecs cs) ≡ decoded w = p in cc)
    go false (offence d) e p = absurd (let z : unrecognised (Some d) ≡ decoded w = p in let z : ◌≡◌ {A = ℕ} 0 1 = cc in omega arith)

-- e is the one element of s
module _ (s : List ℕ) (e : Element) (are : elements s ≡ some (e ∷ [])) where
  pub only_front : front s ≡ first e []
  only_front = let (t, q, last) = elements_next s e [] are in q ∙ ap (first e) (front_none (front t) t refl last)

  pub only_contents : e.contents ≡ drop (length (header e)) s
  unfolding whole
  only_contents = rw (front_within s e [] only_front, append-nil, drop-append_seam (header e) e.contents)

  -- an element with no more contents has no more octets than s
  pub only_room : (i c : ℕ) (x : List ℕ) → length x ≤ length e.contents → length (element_text i c x) ≤ length s
  only_room i c x h = omega (arith, element_text_whole s e [] only_front i c x h, front_length s e [] only_front)

  module _ (is : is_codec_list e ≡ true) where
    pub only_codecs : (cs : List InnerCodec) × (codecs_in e.contents ≡ all_codecs cs) × (decoding e.identifier e.contents ≡ decoded (codecs cs))
    unfolding is_codec_list is_decoded
    only_codecs =
        let (four, known) = (and-eq-true_iff (eqb e.identifier 4) (is_decoded (decoding e.identifier e.contents))).0 is in
        let z : e.identifier ≡ 4 = eqb-true e.identifier 4 four in
        let (cs, are, reads) = go (decoding 4 e.contents) refl (rw z at known) in
        (cs, are, ap (λ (i : ℕ). decoding i e.contents) z ∙ reads)
      where
        go : (r : Decoding) → decoding 4 e.contents ≡ r → is_decoded r ≡ true → (cs : List InnerCodec) × (codecs_in e.contents ≡ all_codecs cs) × (decoding 4 e.contents ≡ decoded (codecs cs))
        go (decoded w) q h = let (cs, are, is) = list_decoded e.contents w q in (cs, are, q ∙ ap decoded is)
        go (unrecognised p) q h = absurd (let z : ◌≡◌ {A = ℕ} 0 1 = cc in omega arith)

    pub only_singles : all_singles e.contents ≡ true
    only_singles = let (cs, are, reads) = only_codecs in (decoded_codecs e.contents 0 cs are).singles

module _ (s : List ℕ) (few : OneAtMost s) where
  alone_only : (es : List Element) → elements s ≡ some es → alone s ≡ Option-elim (only_list es) (refused_alone NoCodecList) list
  unfolding Option-elim
  alone_only es e = alone_framed s few.short (some es) e

  module _ (x : Result (std.Option Frame) bat.Unframed) (is : front_in s x ≡ some (front s)) where
    pub only_ended : x ≡ Ok None → alone s ≡ refused_alone NoCodecList
    unfolding only_list Option-elim
    only_ended e = alone_only [] (elements_ended s (frame_ended s x is e))

    pub only_unframed : (u : bat.Unframed) → x ≡ Err u → alone s ≡ refused_alone NoCodecList
    only_unframed u e = absurd (let n = elements_unframed s (frame_unframed s x is u e) in let a = few.are in let z : ◌≡◌ {A = ℕ} 0 1 = cc in omega arith)

    module _ (f : Frame) (e : x ≡ Ok (Some f)) where
      fronts : front s ≡ first (element_in s f) (drop (whole_length f) s)
      fronts = frame_is s x is f e

      only_rest : (o : Option (List Element)) → elements (drop (whole_length f) s) ≡ o → o ≡ some []
      only_rest o q = go o (sym (elements_first s (element_in s f) (drop (whole_length f) s) fronts) ∙ few.are) q
        where
          go : (o : Option (List Element)) → map (λ (r : List Element). element_in s f ∷ r) (elements (drop (whole_length f) s)) ≡ some few.found → elements (drop (whole_length f) s) ≡ o → o ≡ some []
          go none p q = absurd (let y : none ≡ some few.found = rw q at p in let z : ◌≡◌ {A = ℕ} 0 1 = cc in omega arith)
          go (some []) p q = refl
          go (some (d ∷ ds)) p q = absurd (let y : some (element_in s f ∷ (d ∷ ds)) ≡ some few.found = rw q at p in let z : element_in s f ∷ (d ∷ ds) ≡ few.found = cc in omega (arith, ap (λ (l : List Element). length l) z, few.single))

      only_element : (elements s ≡ some (element_in s f ∷ [])) × (drop (whole_length f) s ≡ [])
      only_element =
          let r = only_rest (elements (drop (whole_length f) s)) refl in
          (elements_first s (element_in s f) (drop (whole_length f) s) fronts ∙ rw r, front_none (front (drop (whole_length f) s)) (drop (whole_length f) s) refl r)

      -- what the string is, by whether its element is a decoded codec list
      alone_if : (b : Bool) → is_codec_list (element_in s f) ≡ b → alone s ≡ cond b (list (codec_list_of (element_in s f))) (refused_alone NoCodecList)
      unfolding only_list Option-elim
      alone_if true q = alone_only (element_in s f ∷ []) only_element.0 ∙ rw q
      alone_if false q = alone_only (element_in s f ∷ []) only_element.0 ∙ rw q

      pub only_other : (f.identifier ≡ 4 → ⊥) → alone s ≡ refused_alone NoCodecList
      unfolding is_codec_list element_in
      only_other h = alone_if false (rw (ne_eqb f.identifier 4 h))

      module _ (four : f.identifier ≡ 4) (c : List ℕ) (there : c ≡ (element_in s f).contents) (r : Result told.Value Unrecognised) (read : decoding_in c r ≡ some (decoding 4 c)) where
        same_compatibility : (element_in s f).compatibility ≡ f.compatibility
        unfolding element_in
        same_compatibility = refl

        four_is : eqb (element_in s f).identifier 4 ≡ true
        unfolding element_in
        four_is = eq-eqb f.identifier 4 four

        reading : decoding (element_in s f).identifier (element_in s f).contents ≡ decoding 4 c
        unfolding element_in
        reading = rw (four, there)

        pub only_unrecognised : (p : Unrecognised) → r ≡ Err p → alone s ≡ refused_alone NoCodecList
        unfolding decoding_in is_codec_list is_decoded
        only_unrecognised p q =
            let z : some (unrecognised p.inner) ≡ some (decoding 4 c) = rw q at read in
            let y : decoding (element_in s f).identifier (element_in s f).contents ≡ unrecognised p.inner = cc reading in
            alone_if false (rw y (and-false (eqb (element_in s f).identifier 4)))

        value_of : (o : Option Value) → map decoded o ≡ some (decoding 4 c) → (w : Value) × (decoding 4 c ≡ decoded w)
        value_of none p = absurd (let z : ◌≡◌ {A = ℕ} 0 1 = cc in omega arith)
        value_of (some w) p = (w, cc)

        pub only_singles_lem : (v : told.Value) → r ≡ Ok v → (h : ℕ) → HeaderLength f h → all_singles (drop h s) ≡ true
        unfolding decoding_in is_codec_list is_decoded
        only_singles_lem v q h m =
            let d = element_in s f in
            let (w, p) = value_of (value_in c v) (rw q at read) in
            let y : decoding d.identifier d.contents ≡ decoded w = reading ∙ p in
            let k : is_codec_list d ≡ true = rw (y, four_is) in
            let one = only_element.0 in
            let z : length (header d) ≡ h = frame_header s x is f e ∙ sym m.is in
            let rest : d.contents ≡ drop h s = only_contents s d one ∙ rw z in
            rw (← rest) (only_singles s d one k)

        pub only_list_lem : (v : told.Value) → r ≡ Ok v → (l : FramedList) → l.string.now ≡ s → l.compatibility ≡ f.compatibility → HeaderLength f l.from → ListIs s l
        unfolding decoding_in is_codec_list is_decoded
        only_list_lem v q l string compatibility m =
            let d = element_in s f in
            let (w, p) = value_of (value_in c v) (rw q at read) in
            let y : decoding d.identifier d.contents ≡ decoded w = reading ∙ p in
            let k : is_codec_list d ≡ true = rw (y, four_is) in
            let one = only_element.0 in
            let z : length (header d) ≡ l.from = frame_header s x is f e ∙ sym m.is in
            let rest : d.contents ≡ drop l.from s = only_contents s d one ∙ rw z in
            record {
              string = string;
              is = alone_if true k ∙ rw (z, rest, same_compatibility, compatibility);
              singles = only_singles_lem v q l.from m;
              short = few.short;
              fits = λ i c x n. only_room s d one i c x (rw rest n);
            }

pub ruleset onlies = (only_ended, only_unframed, only_other, only_unrecognised, only_list_lem, only_singles_lem, ok_is)
