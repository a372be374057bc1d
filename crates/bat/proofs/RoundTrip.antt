-- What is written is read back: an element's octets are framed as that element, whatever follows them, and its contents
-- are decoded as the value that they were made from. For a constructor this holds of its inner elements first.
-- Assumes nothing.
use Prim.Native.Nat.{ℕ, suc, ◌+◌, ◌*◌, ◌/◌, ◌%◌, ◌≤◌, ◌<◌}
use mathlib.Core.Path.{◌≡◌, refl, ◌∙◌}
use mathlib.Core.List.{List, [], ◌∷◌, ◌++◌, append-nil, append_assoc}
use mathlib.Core.Bool.{true, false, ◌&&◌, and-eq-true_iff}
use mathlib.Core.Option.{some, Option-elim}
use lib.ListN.{length, length-append}
use lib.Seq.{take-append_seam, drop-append_seam}
use lib.Dec.{leb}
use native.Mathlib.Nat.{div-add-mod'}
use native.Mathlib.Omega.{arith}
use borrow.Author.Tests.{le-leb, lt-leb, lt-ltb, le-ltb, ne_eqb, leb-true, ltb-true}
use Rattle.codes.specs.Codes.{is_signal}
use Rattle.bat.specs.Framing.{sized, length_of, unmarked, Element, header, whole, first, counted_by, element_by, sized_by, front, on_front, walk, most_octets}
use Rattle.bat.specs.Values.{Diagnostic, InnerCodec, InnerType, InnerDuration, untimed, lasting, Value, action, backbone, address, codecs, single, report, characteristics, control, tunnelling, control_unit, signal, capability, indicators, signal_type, duration, decoded, meant, right_single, action_in, backbone_in, address_in, single_in, diagnostics_in, report_in, characteristics_in, control_in, tunnelling_in, unit_in, capability_in, indicators_in, right_type, type_in, duration_in, all_codecs, offence, with_single, on_codecs, is_single, codec_then, codecs_in, codec_list_in, is_type, is_duration, last_by, timed_by, signal_by, signal_in, decoding}
use Rattle.bat.specs.Writing.{size_text, element_text, sixteen_bits_text, codec_text, codecs_text, diagnostics_text, inner_duration_text, identifier_of, contents_text, seven_bits, inner_codec_in_range, inner_codecs_in_range, inner_type_in_range, inner_duration_in_range, value_in_range, value_text}
use Rattle.bat.specs.Back.{ReadBack}
use Rattle.octets.proofs.CaseLaws.{by_lt}
use Rattle.bat.proofs.WalkLaws.{front_nil, walk_ended, walk_first}

-- ---- framing
length_of_marked : (a n : ℕ) (t : List ℕ) → 128 ≤ a → a % 128 ≡ n → length_of (a ∷ t) ≡ sized (a ∷ []) n t
unfolding length_of
length_of_marked a n [] h p = rw (le-leb 128 a h, p)
length_of_marked a n (b ∷ t) h p = rw (le-leb 128 a h, p)

length_of_size_text : (n : ℕ) (t : List ℕ) → n ≤ 2047 → length_of (size_text n ++ t) ≡ sized (size_text n) n t
unfolding size_text length_of
length_of_size_text n t h =
    by_lt n 128 _
    (λ k. rw (lt-ltb n 128 k) (length_of_marked (128 + n) n t (omega arith) (omega arith)))
    (λ k. let m : n % 128 % 128 + (128 + n / 128) % 16 * 128 ≡ n = omega arith in
    rw (le-ltb n 128 k, lt-leb 128 (n % 128) (omega arith), le-leb 128 (128 + n / 128) (omega arith), m))

-- the element that `element_text` writes
abbrev pub element_of : ℕ → ℕ → List ℕ → Element
element_of i c s = record { identifier = i; size = size_text (suc (length s)); compatibility = 128 + c; extension = []; contents = s }

pub whole_element_of : (i c : ℕ) (s : List ℕ) → whole (element_of i c s) ≡ element_text i c s
unfolding whole header element_text
whole_element_of i c s = simp append_assoc

counted_by_marked : (i : ℕ) (size : List ℕ) (b : ℕ) (s t : List ℕ) → 128 ≤ b → counted_by i size (b ∷ s) t ≡ first (record { identifier = i; size = size; compatibility = b; extension = []; contents = s }) t
unfolding counted_by unmarked
counted_by_marked i size b s t h = rw (le-leb 128 b h, lt-ltb 0 (suc (length s)) (omega arith))

pub front_element_text : (i c : ℕ) (s rest : List ℕ) → length s ≤ 2046 → front (element_text i c s ++ rest) ≡ first (element_of i c s) rest
unfolding element_text front sized_by element_by
front_element_text i c s rest h =
    let n = suc (length s) in
    let b = (128 + c) ∷ s in
    let l : length (b ++ rest) ≡ n + length rest = length-append b rest in
    rw (append_assoc, length_of_size_text n (b ++ rest) (omega arith), ne_eqb n 0 (omega arith), le-ltb (length (b ++ rest)) n (omega arith), take-append_seam b rest, drop-append_seam b rest)
    (counted_by_marked i (size_text n) (128 + c) s rest (omega arith))

length_element_text : (i c : ℕ) (s : List ℕ) → length s + 3 ≤ length (element_text i c s)
unfolding element_text size_text
length_element_text i c s =
    by_lt (suc (length s)) 128 _
    (λ h. rw (lt-ltb (suc (length s)) 128 h) (omega arith))
    (λ h. rw (le-ltb (suc (length s)) 128 h) (omega arith))

meant_marked : (c : ℕ) → c < 128 → meant (128 + c) ≡ c
meant_marked c h = omega arith

-- ---- values
-- 4
walk_codecs_text : (cs : List InnerCodec) (d : ℕ) → inner_codecs_in_range cs ≡ true → length (codecs_text cs) ≤ 2046 → walk codec_then offence (all_codecs []) d (codecs_text cs) ≡ all_codecs cs
unfolding codecs_text inner_codecs_in_range codec_then is_single with_single
walk_codecs_text [] d r h = walk_ended codec_then offence (all_codecs []) d [] front_nil
walk_codecs_text (c ∷ cs) d r h =
    let x = codec_text c.codec in
    let e = element_of 5 c.compatibility x in
    let (this, others) = (and-eq-true_iff (inner_codec_in_range c) (inner_codecs_in_range cs)).0 r in
    let (small, right) = (and-eq-true_iff (seven_bits c.compatibility) (right_single c.codec)).0 this in
    let m : meant (128 + c.compatibility) ≡ c.compatibility = meant_marked c.compatibility (ltb-true _ _ small) in
    let l = length-append (element_text 5 c.compatibility x) (codecs_text cs) in
    let k = length_element_text 5 c.compatibility x in
    walk_first codec_then offence (all_codecs []) d (codecs_text (c ∷ cs)) e (codecs_text cs) (front_element_text 5 c.compatibility x (codecs_text cs) (omega arith))
    ∙ rw (walk_codecs_text cs (d + length (whole e)) others (omega arith), right, m)

length_codecs_text : (cs : List InnerCodec) → 1 ≤ length cs → 1 ≤ length (codecs_text cs)
unfolding codecs_text element_text
length_codecs_text [] h = h
length_codecs_text (c ∷ cs) h = omega arith

codec_list_in_codecs_text : (cs : List InnerCodec) → 1 ≤ length cs → inner_codecs_in_range cs ≡ true → length (codecs_text cs) ≤ 2046 → codec_list_in (codecs_text cs) ≡ decoded (codecs cs)
unfolding codec_list_in codecs_in on_codecs
codec_list_in_codecs_text cs one r h =
    rw (ne_eqb (length (codecs_text cs)) 0 (omega (arith, length_codecs_text cs one)), walk_codecs_text cs 0 r h)

-- 6
diagnostics_in_diagnostics_text : (ds : List Diagnostic) → diagnostics_in (diagnostics_text ds) ≡ some ds
unfolding diagnostics_in diagnostics_text
diagnostics_in_diagnostics_text [] = refl
diagnostics_in_diagnostics_text (d ∷ ds) = rw (diagnostics_in_diagnostics_text ds, div-add-mod' d.index 256)

-- 11
timed_by_inner_duration_text : (k : InnerType) (d : ℕ) (t : InnerDuration) → inner_duration_in_range t ≡ true → timed_by k d (inner_duration_text t) ≡ decoded (signal k t)
unfolding timed_by inner_duration_text on_front last_by is_duration inner_duration_in_range
timed_by_inner_duration_text k d untimed s = rw front_nil
timed_by_inner_duration_text k d (lasting c n) s =
    let f : front (element_text 15 c (sixteen_bits_text n)) ≡ first (element_of 15 c (sixteen_bits_text n)) [] = rw append-nil at (front_element_text 15 c (sixteen_bits_text n) [] (omega arith)) in
    rw (f, meant_marked c (ltb-true _ _ s), div-add-mod' n 256)

signal_in_element_text : (k : InnerType) (t : InnerDuration) → (inner_type_in_range k && inner_duration_in_range t) ≡ true → signal_in (element_text 14 k.compatibility (k.kind ∷ []) ++ inner_duration_text t) ≡ decoded (signal k t)
unfolding signal_in signal_by on_front is_type right_type
signal_in_element_text k t r =
    let c = k.compatibility in
    let x = k.kind ∷ [] in
    let (this, last) = (and-eq-true_iff (inner_type_in_range k) (inner_duration_in_range t)).0 r in
    let (small, known) = (and-eq-true_iff (seven_bits c) (is_signal k.kind)).0 this in
    rw (front_element_text 14 c x (inner_duration_text t) (omega arith), known, meant_marked c (ltb-true _ _ small)) (timed_by_inner_duration_text k (length (whole (element_of 14 c x))) t last)

-- all kinds
pub reading_contents_text : (v : Value) → value_in_range v ≡ true → length (contents_text v) ≤ 2046 → decoding (identifier_of v) (contents_text v) ≡ decoded v
unfolding value_in_range contents_text identifier_of decoding action_in backbone_in address_in single_in report_in Option-elim characteristics_in control_in tunnelling_in unit_in capability_in unmarked indicators_in right_type type_in duration_in
reading_contents_text (action n) r h = rw r
reading_contents_text (backbone t) r h = rw r
reading_contents_text (address t) r h = rw r
reading_contents_text (codecs cs) r h =
    let (one, rights) = (and-eq-true_iff (leb 1 (length cs)) (inner_codecs_in_range cs)).0 r in
    codec_list_in_codecs_text cs (leb-true _ _ one) rights h
reading_contents_text (single c) r h = rw r
reading_contents_text (report n ds) r h = rw (diagnostics_in_diagnostics_text ds)
reading_contents_text (characteristics n) r h = rw r
reading_contents_text (control t) r h = rw r
reading_contents_text (tunnelling true) r h = refl
reading_contents_text (tunnelling false) r h = refl
reading_contents_text (control_unit n l) r h =
    let (small, one) = (and-eq-true_iff (leb (length n) 255) (leb 1 (length l))).0 r in
    let more = leb-true 1 (length l) one in
    rw (lt-ltb (length n) (length (n ++ l)) (omega (arith, length-append n l)), take-append_seam n l, drop-append_seam n l)
reading_contents_text (signal k t) r h = signal_in_element_text k t r
reading_contents_text (capability true) r h = refl
reading_contents_text (capability false) r h = refl
reading_contents_text (indicators t) r h = rw r
reading_contents_text (signal_type n) r h = rw r
reading_contents_text (duration n) r h = rw (div-add-mod' n 256)

-- ---- an element as a whole
pub read_written : (c : ℕ) (v : Value) (rest : List ℕ) → c < 128 → value_in_range v ≡ true → length (value_text c v) ≤ most_octets → ReadBack c v rest
unfolding value_text
read_written c v rest small r h =
    let i = identifier_of v in
    let t = contents_text v in
    let l : length t ≤ 2046 = omega (arith, length_element_text i c t) in
    record {
      element = element_of i c t;
      fronts = front_element_text i c t rest l;
      covers = whole_element_of i c t;
      identifies = refl;
      means = meant_marked c small;
      decodes = reading_contents_text v r l;
    }
