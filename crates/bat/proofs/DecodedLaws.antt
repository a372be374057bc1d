-- Every element that can be decoded can be written: its value is in range, has the element's identifier, and its octets are no
-- more than the element had, since a written length is the shortest and a written compatibility has one octet.
-- Assumes nothing.
use Prim.Native.Nat.{ℕ, suc, ◌+◌, ◌*◌, ◌≤◌, ◌<◌}
use mathlib.Core.Path.{◌≡◌, refl, sym, ◌∙◌}
use mathlib.Core.List.{List, [], ◌∷◌, ◌++◌, append_assoc}
use mathlib.Core.Bool.{Bool, true, false, ◌&&◌, cond, and-eq-true_iff}
use mathlib.Core.Option.{Option, none, some, Option-elim, map-eq-some_iff}
use lib.ListN.{length, get_or, take, drop, length-append, length-drop, take-append-drop}
use lib.Seq.{length-take-le, get_or-append_seam}
use lib.Dec.{leb, ltb, eqb}
use native.Mathlib.Nat.{le_refl}
use native.Mathlib.Omega.{arith}
use borrow.Author.Tests.{le-leb, lt-leb, lt-ltb, le-ltb, eq-eqb, ne_eqb, ltb-true, eqb-true, eqb-false}
use Rattle.codes.specs.Codes.{is_action, is_signal}
use Rattle.std.specs.Prelude.{Some, None}
use Rattle.bat.specs.Framing.{octet, sized, length_of, unmarked, Element, header, whole, Front, first, unframed, ended, front, on_front, walk, most_octets}
use Rattle.bat.specs.Values.{Diagnostic, SingleCodec, InnerCodec, InnerType, InnerDuration, untimed, Value, action, backbone, address, codecs, single, report, characteristics, control, tunnelling, control_unit, signal, capability, indicators, signal_type, duration, Place, Decoding, decoded, unrecognised, wrong, meant, bit1, right_single, single_codec, action_in, backbone_in, address_in, single_in, diagnostics_in, report_in, characteristics_in, control_in, tunnelling_in, unit_in, capability_in, right_indicators, indicators_in, right_type, type_in, sixteen_bits, duration_in, Codecs, all_codecs, offence, with_single, on_codecs, is_single, inner_codec, codec_then, codecs_in, codec_list_in, is_type, is_duration, inner_type, inner_duration, last_by, timed_by, signal_by, signal_in, decoding}
use Rattle.bat.specs.Writing.{size_text, element_text, sixteen_bits_text, codec_text, codecs_text, diagnostics_text, inner_duration_text, identifier_of, contents_text, inner_codecs_in_range, inner_duration_in_range, value_in_range, value_text, element_octets}
use Rattle.octets.proofs.CaseLaws.{by_eq, by_lt, by_le}
use Rattle.bat.proofs.WalkLaws.{size_small, size_low, front_within, front_size, front_length, front_nil, walk_ended, walk_unframed, walk_first, by_front}

-- ---- lengths
-- `size_text` is the shortest: no length field of as great a number is shorter.
size_text_least : (s os : List ℕ) (n : ℕ) (t : List ℕ) → length_of s ≡ sized os n t → (m : ℕ) → m ≤ n → length (size_text m) ≤ length os
unfolding size_text
size_text_least s os n t p m h =
    let (small, two, one, is) = size_small s os n t p in
    by_lt m 128 _
    (λ k. rw (lt-ltb m 128 k) one)
    (λ k. rw (le-ltb m 128 k) (by_le (length os) 1 _ (λ l. absurd (omega (arith, size_low s os n t p l))) (λ l. l)))

-- An element of no more contents than e has is written with no more octets than e has.
pub element_text_whole : (s : List ℕ) (e : Element) (t : List ℕ) → front s ≡ first e t → (i c : ℕ) (x : List ℕ) → length x ≤ length e.contents → length (element_text i c x) ≤ length (whole e)
unfolding element_text whole header
element_text_whole s e t p i c x h =
    let l = size_text_least (drop 1 s) e.size _ _ (front_size s e t p) (suc (length x)) (omega arith) in
    simp length-append (omega arith)

-- ---- a reading that is a value, by its tests
module _ {X : Type 0} {v : Value} where
  decoded_never : {p : Place} → unrecognised p ≡ decoded v → X
  decoded_never q = absurd (let z : ◌≡◌ {A = ℕ} 0 1 = cc in omega arith)

  decoded_if : (b : Bool) (p : Place) {x : Decoding} → (b ≡ true → x ≡ decoded v → X) → cond b x (unrecognised p) ≡ decoded v → X
  decoded_if true p go q = go refl q
  decoded_if false p go q = decoded_never q

  decoded_else : (b : Bool) (p : Place) {x : Decoding} → (b ≡ false → x ≡ decoded v → X) → cond b (unrecognised p) x ≡ decoded v → X
  decoded_else true p go q = decoded_never q
  decoded_else false p go q = go refl q

-- ---- what is kept
-- Of contents s with identifier i the value v keeps the identifier, is in range, and takes no more octets.
pub record Kept (i : ℕ) (s : List ℕ) (v : Value) : Type 0 where
  pub identifies : identifier_of v ≡ i
  pub ranges : value_in_range v ≡ true
  pub shrinks : length (contents_text v) ≤ length s

module _ {i : ℕ} {s : List ℕ} {v : Value} where
  kept_as : (w : Value) → identifier_of w ≡ i → value_in_range w ≡ true → length (contents_text w) ≤ length s → decoded w ≡ decoded v → Kept i s v
  kept_as w same right short p = let q : w ≡ v = cc in rw (← q) (record { identifies = same; ranges = right; shrinks = short })

  -- one reading or another, by the identifier
  kept_or : (k : ℕ) {x y : Decoding} → (x ≡ decoded v → Kept k s v) → (y ≡ decoded v → Kept i s v) → cond (eqb i k) x y ≡ decoded v → Kept i s v
  kept_or k f g q = by_eq i k _ (λ e. rw e (f (rw (eq-eqb i k e) at q))) (λ e. g (rw (ne_eqb i k e) at q))

-- 5
right_some : (c : SingleCodec) → right_single c ≡ true → 1 ≤ length c.information
unfolding right_single
right_some c r =
    by_le 1 (length c.information) _
    (λ h. h)
    (λ h. absurd (let q = rw (lt-leb 1 (length c.information) h) at r in let z : ◌≡◌ {A = ℕ} 0 1 = cc in omega arith))

length_single_codec : (s : List ℕ) → right_single (single_codec s) ≡ true → length (codec_text (single_codec s)) ≤ length s
length_single_codec s r = omega (arith, right_some (single_codec s) r, length-drop 1 s)

-- 4
-- s is the codecs cs: each is in range, they take no more octets, and there are some if s is not empty
pub record CodecsKept (s : List ℕ) (cs : List InnerCodec) : Type 0 where
  pub ranges : inner_codecs_in_range cs ≡ true
  pub shrinks : length (codecs_text cs) ≤ length s
  pub lists : 1 ≤ length s → 1 ≤ length cs

codecs_first : (s : List ℕ) (e : Element) (t : List ℕ) (cs : List InnerCodec) → front s ≡ first e t → is_single e ≡ true → CodecsKept t cs → CodecsKept s (inner_codec e ∷ cs)
unfolding is_single inner_codecs_in_range codecs_text
codecs_first s e t cs p is k =
    let c = meant e.compatibility in
    let x = codec_text (single_codec e.contents) in
    let (five, right) = (and-eq-true_iff (eqb e.identifier 5) (right_single (single_codec e.contents))).0 is in
    let l = element_text_whole s e t p 5 c x (length_single_codec e.contents right) in
    record {
      ranges = rw (lt-ltb c 128 (omega arith), right) k.ranges;
      shrinks = omega (arith, length-append (element_text 5 c x) (codecs_text cs), front_length s e t p, k.shrinks);
      lists = λ h. omega arith;
    }

pub codec_then_all : (b : Bool) (c : InnerCodec) (d : ℕ) (rest : Codecs) (cs : List InnerCodec) → cond b (with_single c rest) (offence d) ≡ all_codecs cs
    → (r : List InnerCodec) × (b ≡ true) × (rest ≡ all_codecs r) × (c ∷ r ≡ cs)
unfolding with_single
codec_then_all true c d (all_codecs r) cs p = (r, refl, refl, cc)
codec_then_all true c d (offence k) cs p = absurd (let z : ◌≡◌ {A = ℕ} 0 1 = cc in omega arith)
codec_then_all false c d rest cs p = absurd (let z : ◌≡◌ {A = ℕ} 0 1 = cc in omega arith)

codecs_walk : (s : List ℕ) (d : ℕ) (cs : List InnerCodec) → walk codec_then offence (all_codecs []) d s ≡ all_codecs cs → CodecsKept s cs
unfolding codec_then inner_codecs_in_range codecs_text
codecs_walk =
    by_front (λ (s : List ℕ). (d : ℕ) (cs : List InnerCodec) → walk codec_then offence (all_codecs []) d s ≡ all_codecs cs → CodecsKept s cs)
    (λ d cs p.
    let w = walk_ended codec_then offence (all_codecs []) d [] front_nil in
    let q : ◌≡◌ {A = List InnerCodec} [] cs = cc in
    rw (← q) (record { ranges = refl; shrinks = le_refl 0; lists = λ h. h }))
    (λ s q d cs p. absurd (let w = walk_unframed codec_then offence (all_codecs []) d s q in let z : ◌≡◌ {A = ℕ} 0 1 = cc in omega arith))
    (λ s e t q ih d cs p.
    let w = walk_first codec_then offence (all_codecs []) d s e t q in
    let (r, is, rest, all) = codec_then_all (is_single e) (inner_codec e) d (walk codec_then offence (all_codecs []) (d + length (whole e)) t) cs (sym w ∙ p) in
    rw (← all) (codecs_first s e t r q is (ih (d + length (whole e)) r rest)))

pub codecs_kept : (s : List ℕ) (cs : List InnerCodec) → codecs_in s ≡ all_codecs cs → CodecsKept s cs
unfolding codecs_in
codecs_kept s cs p = codecs_walk s 0 cs p

kept_codecs : (s : List ℕ) (o : Codecs) (v : Value) → (length s ≡ 0 → ⊥) → codecs_in s ≡ o → on_codecs o (λ cs. decoded (codecs cs)) (λ d. unrecognised (Some d)) ≡ decoded v → Kept 4 s v
unfolding on_codecs identifier_of value_in_range contents_text
kept_codecs s (all_codecs cs) v full p =
    let k = codecs_kept s cs p in
    kept_as (codecs cs) refl (rw (le-leb 1 (length cs) (k.lists (omega arith)), k.ranges)) k.shrinks
kept_codecs s (offence d) v full p = decoded_never

-- 6
length_diagnostics_in : (s : List ℕ) (ds : List Diagnostic) → diagnostics_in s ≡ some ds → length (diagnostics_text ds) ≤ length s
unfolding diagnostics_in diagnostics_text
length_diagnostics_in [] ds p = let q : ◌≡◌ {A = List Diagnostic} [] ds = cc in rw (← q) (le_refl 0)
length_diagnostics_in (i ∷ []) ds p = absurd (let z : ◌≡◌ {A = ℕ} 0 1 = cc in omega arith)
length_diagnostics_in (i ∷ a ∷ []) ds p = absurd (let z : ◌≡◌ {A = ℕ} 0 1 = cc in omega arith)
length_diagnostics_in (i ∷ a ∷ b ∷ s) ds p =
    let (r, rest, all) = (map-eq-some_iff (λ (r : List Diagnostic). record { identifier = i; index = a * 256 + b } ∷ r) (diagnostics_in s)).0 p in
    rw (← all) (omega (arith, length_diagnostics_in s r rest))

kept_diagnostics : (n : ℕ) (s : List ℕ) (o : Option (List Diagnostic)) (v : Value) → diagnostics_in s ≡ o → Option-elim o wrong (λ ds. decoded (report n ds)) ≡ decoded v → Kept 6 (n ∷ s) v
unfolding Option-elim identifier_of value_in_range contents_text
kept_diagnostics n s none v p = decoded_never
kept_diagnostics n s (some ds) v p = kept_as (report n ds) refl refl (omega (arith, length_diagnostics_in s ds p))

kept_report : (s : List ℕ) (v : Value) → report_in s ≡ decoded v → Kept 6 s v
unfolding report_in
kept_report [] v = decoded_never
kept_report (n ∷ s) v = kept_diagnostics n s (diagnostics_in s) v refl

-- 10
kept_unit : (s : List ℕ) (v : Value) → octet 0 s < 256 → unit_in s ≡ decoded v → Kept 10 s v
unfolding unit_in identifier_of value_in_range contents_text
kept_unit [] v small = decoded_never
kept_unit (n ∷ s) v small =
    decoded_if (ltb n (length s)) None (λ h.
    let inside = ltb-true n (length s) h in
    let network = length-take-le n s (omega arith) in
    kept_as (control_unit (take n s) (drop n s)) refl
    (rw (le-leb (length (take n s)) 255 (omega arith), le-leb 1 (length (drop n s)) (omega (arith, length-drop n s))))
    (rw (take-append-drop n s) (le_refl (suc (length s)))))

-- 11
record LastingKept (t : List ℕ) (l : InnerDuration) : Type 0 where
  ranges : inner_duration_in_range l ≡ true
  shrinks : length (inner_duration_text l) ≤ length t

kept_lasting : (k : InnerType) (d : ℕ) (t : List ℕ) (v : Value) (f : Front) → front t ≡ f → on_front f (last_by k d) (unrecognised (Some d)) (decoded (signal k untimed)) ≡ decoded v
    → (l : InnerDuration) × LastingKept t l × (decoded (signal k l) ≡ decoded v)
unfolding on_front last_by is_duration inner_duration_in_range inner_duration_text
kept_lasting k d t v (first e u) p =
    decoded_if (is_duration e) (Some d) (λ is. decoded_if (eqb (length u) 0) (Some (d + length (whole e))) (λ last q.
    let (named, two) = (and-eq-true_iff (eqb e.identifier 15) (eqb (length e.contents) 2)).0 is in
    let c = meant e.compatibility in
    let l = element_text_whole t e u p 15 c (sixteen_bits_text (sixteen_bits e.contents)) (omega (arith, eqb-true)) in
    (inner_duration e, record { ranges = lt-ltb c 128 (omega arith); shrinks = omega (arith, front_length t e u p) }, q)))
kept_lasting k d t v unframed p = decoded_never
kept_lasting k d t v ended p = λ q. (untimed, record { ranges = refl; shrinks = omega arith }, q)

kept_signal : (s : List ℕ) (f : Front) (v : Value) → front s ≡ f → on_front f signal_by (unrecognised (Some 0)) wrong ≡ decoded v → Kept 11 s v
unfolding on_front signal_by timed_by is_type right_type identifier_of value_in_range contents_text
kept_signal s (first e t) v p =
    decoded_if (is_type e) (Some 0) (λ is q.
    let (named, right) = (and-eq-true_iff (eqb e.identifier 14) (right_type e.contents)).0 is in
    let (one, known) = (and-eq-true_iff (eqb (length e.contents) 1) (is_signal (octet 0 e.contents))).0 right in
    let c = meant e.compatibility in
    let x = octet 0 e.contents ∷ [] in
    let (l, k, same) = kept_lasting (inner_type e) (length (whole e)) t v (front t) refl q in
    let short = element_text_whole s e t p 14 c x (omega (arith, eqb-true)) in
    kept_as (signal (inner_type e) l) refl (rw (lt-ltb c 128 (omega arith), known) k.ranges)
    (omega (arith, length-append (element_text 14 c x) (inner_duration_text l), front_length s e t p, k.shrinks)) same)
kept_signal s unframed v p = decoded_never
kept_signal s ended v p = decoded_never

-- All kinds. That the first octet is one matters to a control unit alone, where it is the length of the network id.
pub reading_kept : (i : ℕ) (s : List ℕ) (v : Value) → octet 0 s < 256 → decoding i s ≡ decoded v → Kept i s v
unfolding decoding action_in backbone_in address_in codec_list_in single_in characteristics_in control_in tunnelling_in signal_in capability_in indicators_in right_type type_in duration_in identifier_of value_in_range contents_text
reading_kept i s v small =
    let all = le_refl (length s) in
    kept_or 1 (decoded_if (eqb (length s) 1) None (λ one. decoded_if (is_action (octet 0 s)) None (λ r. kept_as (action (octet 0 s)) refl r (omega (arith, eqb-true)))))
    (kept_or 2 (decoded_if (leb 1 (length s) && leb (length s) 4) None (λ r. kept_as (backbone s) refl r all))
    (kept_or 3 (decoded_if (leb 1 (length s) && leb (length s) 20) None (λ r. kept_as (address s) refl r all))
    (kept_or 4 (decoded_else (eqb (length s) 0) None (λ full. kept_codecs s (codecs_in s) v (eqb-false (length s) 0 full) refl))
    (kept_or 5 (decoded_if (right_single (single_codec s)) None (λ r. kept_as (single (single_codec s)) refl r (length_single_codec s r)))
    (kept_or 6 (kept_report s v)
    (kept_or 7 (decoded_if (eqb (length s) 1) None (λ one. decoded_if (leb (octet 0 s) 4) None (λ r. kept_as (characteristics (octet 0 s)) refl r (omega (arith, eqb-true)))))
    (kept_or 8 (decoded_if (leb 1 (length s)) None (λ r. kept_as (control s) refl r all))
    (kept_or 9 (decoded_if (eqb (length s) 1) None (λ one. kept_as (tunnelling (bit1 (octet 0 s))) refl refl (omega (arith, eqb-true))))
    (kept_or 10 (kept_unit s v small)
    (kept_or 11 (kept_signal s (front s) v refl)
    (kept_or 12 (decoded_if (eqb (suc (unmarked s)) (length s)) None (λ ends. kept_as (capability (bit1 (octet 0 s))) refl refl (omega (arith, eqb-true))))
    (kept_or 13 (decoded_if (right_indicators s) None (λ r. kept_as (indicators s) refl r all))
    (kept_or 14 (decoded_if (right_type s) None (λ r. let (one, known) = (and-eq-true_iff (eqb (length s) 1) (is_signal (octet 0 s))).0 r in kept_as (signal_type (octet 0 s)) refl known (omega (arith, eqb-true))))
    (kept_or 15 (decoded_if (eqb (length s) 2) None (λ two. kept_as (duration (sixteen_bits s)) refl refl (omega (arith, eqb-true))))
    decoded_never))))))))))))))

-- ---- an element at the front of octets
octet_within : (xs ys zs : List ℕ) → ((k : ℕ) → get_or (xs ++ ys ++ zs) k 0 < 256) → octet 0 ys < 256
octet_within xs [] zs small = omega arith
octet_within xs (y ∷ ys) zs small = rw (append_assoc, get_or-append_seam) at (small (length xs))

module _ (s : List ℕ) (e : Element) (t : List ℕ) (p : front s ≡ first e t) (octets : (k : ℕ) → get_or s k 0 < 256) (v : Value) (q : decoding e.identifier e.contents ≡ decoded v) where
  pub element_kept : Kept e.identifier e.contents v
  unfolding whole
  element_kept = reading_kept e.identifier e.contents v (octet_within (header e) e.contents t (rw (front_within s e t p) at octets)) q

  -- the value's element takes no more octets than e
  pub value_text_whole : (c : ℕ) → length (value_text c v) ≤ length (whole e)
  unfolding value_text
  value_text_whole c = element_text_whole s e t p (identifier_of v) c (contents_text v) element_kept.shrinks

  -- and can be written
  pub element_octets_decoded : (c : ℕ) → length (whole e) ≤ most_octets → element_octets c v ≡ some (value_text c v)
  unfolding element_octets
  element_octets_decoded c h = rw (element_kept.ranges, le-leb (length (value_text c v)) most_octets (omega (arith, value_text_whole c)))
