-- The inner element at fault is inside the contents.
-- Assumes nothing.
use Prim.Native.Nat.{ℕ, suc, ◌+◌, ◌≤◌}
use mathlib.Core.Path.{◌≡◌, refl, sym, ap, ◌∙◌}
use mathlib.Core.List.{List, [], ◌∷◌}
use mathlib.Core.Bool.{Bool, true, false, ◌&&◌, cond}
use mathlib.Core.Option.{Option, none, some, Option-elim}
use lib.ListN.{length, take, drop, length-append}
use lib.Dec.{leb, ltb, eqb}
use native.Mathlib.Omega.{arith}
use Rattle.std.specs.Prelude.{Some, None}
use Rattle.codes.specs.Codes.{is_action}
use Rattle.bat.specs.Framing.{octet, unmarked, Element, header, whole, Front, front, first, unframed, ended, on_front}
use Rattle.bat.specs.Values.{Diagnostic, InnerCodec, Value, action, backbone, address, codecs, single, report, characteristics, control, tunnelling, control_unit, capability, indicators, signal_type, duration, signal, untimed, Decoding, decoded, unrecognised, wrong, bit1, right_single, single_codec, right_indicators, right_type, sixteen_bits, Codecs, all_codecs, offence, with_single, on_codecs, codec_then, codecs_in, is_single, inner_codec, action_in, backbone_in, address_in, single_in, diagnostics_in, report_in, characteristics_in, control_in, tunnelling_in, unit_in, capability_in, indicators_in, type_in, duration_in, codec_list_in, InnerType, inner_type, inner_duration, is_type, is_duration, last_by, timed_by, signal_by, signal_in, decoding}
use Rattle.bat.specs.Judging.{index_by, Judgement, judgement, unknown, finding_by, finding}
use Rattle.bat.proofs.WalkLaws.{front_nil, front_length, walk_ended, walk_unframed, walk_first, by_front}
use Rattle.bat_read.proofs.ConstructorLaws.{codecs_at}

-- the distance of the inner element at fault, 0 where there is none
unfoldable pub inner_of : Decoding → ℕ
inner_of (decoded v) = 0
inner_of (unrecognised None) = 0
inner_of (unrecognised (Some d)) = d

-- ---- a simple element has no inner ones
inner_cond : (b : Bool) (x y : Decoding) (n : ℕ) → inner_of x ≤ n → inner_of y ≤ n → inner_of (cond b x y) ≤ n
inner_cond true x y n p q = p
inner_cond false x y n p q = q

module _ (n : ℕ) where
  simple : (b : Bool) (v : Value) → inner_of (cond b (decoded v) wrong) ≤ n
  unfolding inner_of
  simple b v = inner_cond b _ _ n (omega arith) (omega arith)

  tested : (a b : Bool) (v : Value) → inner_of (cond a (cond b (decoded v) wrong) wrong) ≤ n
  unfolding inner_of
  tested a b v = inner_cond a _ _ n (simple b v) (omega arith)

  inner_elim : (o : Option (List Diagnostic)) (f : List Diagnostic → Value) → inner_of (Option-elim o wrong (λ ds. decoded (f ds))) ≤ n
  unfolding inner_of Option-elim
  inner_elim none f = omega arith
  inner_elim (some ds) f = omega arith

  inner_report : (s : List ℕ) → inner_of (report_in s) ≤ n
  unfolding inner_of report_in
  inner_report [] = omega arith
  inner_report (r ∷ s) = inner_elim (diagnostics_in s) (report r)

  inner_unit : (s : List ℕ) → inner_of (unit_in s) ≤ n
  unfolding inner_of unit_in
  inner_unit [] = omega arith
  inner_unit (k ∷ s) = simple (ltb k (length s)) (control_unit (take k s) (drop k s))

-- ---- a codec list
offence_with : (c : InnerCodec) (y : Codecs) (x n : ℕ) → (y ≡ offence x → x ≤ n) → with_single c y ≡ offence x → x ≤ n
unfolding with_single
offence_with c (all_codecs cs) x n ih p = absurd (let z : ◌≡◌ {A = ℕ} 0 1 = cc in omega arith)
offence_with c (offence k) x n ih p = ih p

offence_then : (b : Bool) (e : Element) (d x : ℕ) (y : Codecs) (n : ℕ) → is_single e ≡ b → d ≤ n → (y ≡ offence x → x ≤ n) → codec_then e d y ≡ offence x → x ≤ n
unfolding codec_then
offence_then true e d x y n h l ih p = offence_with (inner_codec e) y x n ih (rw h at p)
offence_then false e d x y n h l ih p = let q : offence d ≡ offence x = rw h at p in let z : d ≡ x = cc in omega arith

offence_inside : (s : List ℕ) (d x : ℕ) → codecs_at d s ≡ offence x → x ≤ d + length s
offence_inside =
    by_front (λ (s : List ℕ). (d x : ℕ) → codecs_at d s ≡ offence x → x ≤ d + length s)
    (λ d x p. absurd (let w = walk_ended codec_then offence (all_codecs []) d [] front_nil in let z : ◌≡◌ {A = ℕ} 0 1 = cc in omega arith))
    (λ s q d x p. let w = walk_unframed codec_then offence (all_codecs []) d s q in let z : d ≡ x = cc in omega arith)
    (λ s e t q ih d x p.
    let w = walk_first codec_then offence (all_codecs []) d s e t q in
    let n = front_length s e t q in
    offence_then (is_single e) e d x (codecs_at (d + length (whole e)) t) (d + length s) refl (omega arith) (λ r. omega (arith, ih (d + length (whole e)) x r)) (sym w ∙ p))

inner_on : (s : List ℕ) (x : Codecs) → codecs_in s ≡ x → inner_of (on_codecs x (λ cs. decoded (codecs cs)) (λ d. unrecognised (Some d))) ≤ length s
unfolding inner_of on_codecs codecs_in
inner_on s (all_codecs cs) e = omega arith
inner_on s (offence x) e = omega (arith, offence_inside s 0 x e)

inner_codecs : (s : List ℕ) → inner_of (codec_list_in s) ≤ length s
unfolding inner_of codec_list_in
inner_codecs s = inner_cond (eqb (length s) 0) wrong (on_codecs (codecs_in s) (λ cs. decoded (codecs cs)) (λ d. unrecognised (Some d))) (length s) (omega arith) (inner_on s (codecs_in s) refl)

-- ---- a signal
module _ (k : InnerType) where
  inner_last : (d n : ℕ) (e : Element) (t : List ℕ) → d + length (whole e) ≤ n → inner_of (last_by k d e t) ≤ n
  unfolding inner_of last_by
  inner_last d n e t h =
      let far = unrecognised (Some (d + length (whole e))) in
      let last = decoded (signal k (inner_duration e)) in
      inner_cond (is_duration e) (cond (eqb (length t) 0) last far) (unrecognised (Some d)) n (inner_cond (eqb (length t) 0) last far n (omega arith) h) (omega arith)

  inner_timed : (d : ℕ) (t : List ℕ) (f : Front) → front t ≡ f → inner_of (on_front f (last_by k d) (unrecognised (Some d)) (decoded (signal k untimed))) ≤ d + length t
  unfolding inner_of on_front
  inner_timed d t (first e u) q = inner_last d (d + length t) e u (omega (arith, front_length t e u q))
  inner_timed d t unframed q = omega arith
  inner_timed d t ended q = omega arith

inner_signal : (s : List ℕ) (f : Front) → front s ≡ f → inner_of (on_front f signal_by (unrecognised (Some 0)) wrong) ≤ length s
unfolding inner_of on_front signal_by timed_by
inner_signal s (first e t) q =
    inner_cond (is_type e) (timed_by (inner_type e) (length (whole e)) t) (unrecognised (Some 0)) (length s)
    (let n = front_length s e t q in omega (arith, inner_timed (inner_type e) (length (whole e)) t (front t) refl)) (omega arith)
inner_signal s unframed q = omega arith
inner_signal s ended q = omega arith

-- ---- every element
pub inner_inside : (i : ℕ) (s : List ℕ) → inner_of (decoding i s) ≤ length s
unfolding inner_of decoding action_in backbone_in address_in single_in characteristics_in control_in tunnelling_in capability_in indicators_in type_in duration_in signal_in
inner_inside i s =
    let n = length s in
    let all_else = wrong in
    let from_15 = cond (eqb i 15) (duration_in s) all_else in
    let from_14 = cond (eqb i 14) (type_in s) from_15 in
    let from_13 = cond (eqb i 13) (indicators_in s) from_14 in
    let from_12 = cond (eqb i 12) (capability_in s) from_13 in
    let from_11 = cond (eqb i 11) (signal_in s) from_12 in
    let from_10 = cond (eqb i 10) (unit_in s) from_11 in
    let from_9 = cond (eqb i 9) (tunnelling_in s) from_10 in
    let from_8 = cond (eqb i 8) (control_in s) from_9 in
    let from_7 = cond (eqb i 7) (characteristics_in s) from_8 in
    let from_6 = cond (eqb i 6) (report_in s) from_7 in
    let from_5 = cond (eqb i 5) (single_in s) from_6 in
    let from_4 = cond (eqb i 4) (codec_list_in s) from_5 in
    let from_3 = cond (eqb i 3) (address_in s) from_4 in
    let from_2 = cond (eqb i 2) (backbone_in s) from_3 in
    let from_1 = cond (eqb i 1) (action_in s) from_2 in
    inner_cond (eqb i 1) (action_in s) from_2 n (tested n (eqb n 1) (is_action (octet 0 s)) (action (octet 0 s)))
    (inner_cond (eqb i 2) (backbone_in s) from_3 n (simple n (leb 1 n && leb n 4) (backbone s))
    (inner_cond (eqb i 3) (address_in s) from_4 n (simple n (leb 1 n && leb n 20) (address s))
    (inner_cond (eqb i 4) (codec_list_in s) from_5 n (inner_codecs s)
    (inner_cond (eqb i 5) (single_in s) from_6 n (simple n (right_single (single_codec s)) (single (single_codec s)))
    (inner_cond (eqb i 6) (report_in s) from_7 n (inner_report n s)
    (inner_cond (eqb i 7) (characteristics_in s) from_8 n (tested n (eqb n 1) (leb (octet 0 s) 4) (characteristics (octet 0 s)))
    (inner_cond (eqb i 8) (control_in s) from_9 n (simple n (leb 1 n) (control s))
    (inner_cond (eqb i 9) (tunnelling_in s) from_10 n (simple n (eqb n 1) (tunnelling (bit1 (octet 0 s))))
    (inner_cond (eqb i 10) (unit_in s) from_11 n (inner_unit n s)
    (inner_cond (eqb i 11) (signal_in s) from_12 n (inner_signal s (front s) refl)
    (inner_cond (eqb i 12) (capability_in s) from_13 n (simple n (eqb (suc (unmarked s)) n) (capability (bit1 (octet 0 s))))
    (inner_cond (eqb i 13) (indicators_in s) from_14 n (simple n (right_indicators s) (indicators s))
    (inner_cond (eqb i 14) (type_in s) from_15 n (simple n (right_type s) (signal_type (octet 0 s)))
    (inner_cond (eqb i 15) (duration_in s) all_else n (simple n (eqb n 2) (duration (sixteen_bits s)))
    (omega arith)))))))))))))))

-- ---- the index of a diagnostic does not pass the end of its element, so it fits in the sixteen bits of a report
index_in_lem : (pass : Bool) (e : Element) (x : Decoding) → decoding e.identifier e.contents ≡ x → (j : Judgement) → finding_by pass e x ≡ unknown j → j.diagnostic.index ≤ length (whole e)
unfolding finding_by judgement index_by inner_of whole
index_in_lem pass e (decoded v) q j p = absurd (let z : ◌≡◌ {A = ℕ} 0 1 = cc in omega arith)
index_in_lem pass e (unrecognised None) q j p =
    let z : judgement pass e.identifier e.compatibility 0 ≡ j = cc in
    let i : 0 ≡ j.diagnostic.index = ap (λ (k : Judgement). k.diagnostic.index) z in
    omega arith
index_in_lem pass e (unrecognised (Some d)) q j p =
    let z : judgement pass e.identifier e.compatibility (length (header e) + d) ≡ j = cc in
    let i : length (header e) + d ≡ j.diagnostic.index = ap (λ (k : Judgement). k.diagnostic.index) z in
    let l : d ≤ length e.contents = rw q at (inner_inside e.identifier e.contents) in
    omega (arith, length-append (header e) e.contents)

pub index_inside : (pass : Bool) (e : Element) (j : Judgement) → finding pass e ≡ unknown j → j.diagnostic.index ≤ length (whole e)
unfolding finding
index_inside pass e j p = index_in_lem pass e (decoding e.identifier e.contents) refl j p
