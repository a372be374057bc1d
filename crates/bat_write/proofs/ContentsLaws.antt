-- The contents of a value's element are its fields, appended one after the other.
-- Assumes nothing.
use Prim.Native.Nat.{ℕ, ◌+◌, ◌≤◌}
use mathlib.Core.Path.{◌≡◌}
use mathlib.Core.List.{List, [], ◌∷◌, ◌++◌}
use mathlib.Core.Bool.{Bool, true, false, ◌&&◌, and-eq-true_iff}
use lib.ListN.{length}
use lib.Dec.{leb}
use native.Mathlib.Omega.{arith}
use mir.Syntax.{w8}
use mir.Val.{Fits}
use borrow.Author.Tests.{leb-true, ltb-true}
use Rattle.codes.specs.Codes.{is_signal}
use Rattle.std.specs.Prelude.{Option, Some, None}
use Rattle.octets.specs.declared.Span.{Span}
use Rattle.octets.specs.Spans.{text_of}
use Rattle.octets.specs.Append.{Appends}
use Rattle.octets.proofs.AppendLaws.{append_nil, append_then, octet_then}
use Rattle.bat_write.specs.Code as code
use Rattle.bat.specs.Values.{signal, meant}
use Rattle.bat.specs.Writing.{element_text, sixteen_bits_text, inner_duration_text, bit_text, contents_text, seven_bits, inner_type_in_range, inner_duration_in_range, value_in_range}
use Rattle.bat.specs.ValueMeaning.{inner_type_in, inner_duration_in, value_by}
use Rattle.bat_write.specs.Private.{codecs_of, report_of, value_in_range_in, contents_in, codecs_anew}
use Rattle.bat_write.proofs.CodecLaws.{codecs_text_lem}

-- ---- a signal
-- all of the compatibility that is in range is written
meant_seven : (c : ℕ) → seven_bits c ≡ true → meant c ≡ c
meant_seven c h = omega (arith, ltb-true c 128 h)

pub signal_lasts : (t : code.InnerType) (d : Option code.InnerDuration) → (inner_type_in_range (inner_type_in t) && inner_duration_in_range (inner_duration_in d)) ≡ true → inner_duration_in_range (inner_duration_in d) ≡ true
signal_lasts t d h = ((and-eq-true_iff (inner_type_in_range (inner_type_in t)) (inner_duration_in_range (inner_duration_in d))).0 h).1

module _ (l f : List ℕ) (at r : ℕ) where
  -- one octet, and a text that is known by another name
  pub octet_text : (g t u : List ℕ) (k b : ℕ) → Appends g k t r f → t ≡ u → Appends l at (b ∷ []) k g → Appends l at (b ∷ u) r f
  octet_text g t u k b q e p = rw e at (octet_then l f g at k r b t q p)

  pub lasting_none : (d : Option code.InnerDuration) → d ≡ None → Appends l at (inner_duration_text (inner_duration_in d)) at l
  unfolding inner_duration_text inner_duration_in
  lasting_none d e = rw e (append_nil l at)

  pub lasting_some : (d : Option code.InnerDuration) (t : code.InnerDuration) → inner_duration_in_range (inner_duration_in d) ≡ true → d ≡ Some t → Appends l at (element_text 15 (meant t.compatibility) (sixteen_bits_text t.duration)) r f → Appends l at (inner_duration_text (inner_duration_in d)) r f
  unfolding inner_duration_text inner_duration_in inner_duration_in_range
  lasting_some d t h e p = let z : seven_bits t.compatibility ≡ true = rw e at h in rw e (rw (meant_seven t.compatibility z) at p)

  pub signal_then : (g : List ℕ) (k : ℕ) (d : Option code.InnerDuration) (t : code.InnerType) → (inner_type_in_range (inner_type_in t) && inner_duration_in_range (inner_duration_in d)) ≡ true → Appends g k (inner_duration_text (inner_duration_in d)) r f → Appends l at (element_text 14 (meant t.compatibility) (t.kind ∷ [])) k g
      → Appends l at (contents_text (signal (inner_type_in t) (inner_duration_in d))) r f
  unfolding contents_text
  signal_then g k d t h q p =
      let (this, last) = (and-eq-true_iff (inner_type_in_range (inner_type_in t)) (inner_duration_in_range (inner_duration_in d))).0 h in
      let (small, known) = (and-eq-true_iff (seven_bits t.compatibility) (is_signal t.kind)).0 this in
      append_then l g f (element_text 14 t.compatibility (t.kind ∷ [])) (inner_duration_text (inner_duration_in d)) at k r q (rw (meant_seven t.compatibility small) at p)

-- ---- a value v whose spans are places in s
module _ (s l f : List ℕ) (at r : ℕ) (v : code.Value) where
  -- t is what is written for w, which v is
  pub stands : (w : code.Value) (t : List ℕ) → v ≡ w → Appends l at t r f → t ≡ contents_in (value_by s w) → Appends l at (contents_in (value_by s v)) r f
  stands w t e p q = rw (e, ← q) p

  pub stands_codecs : (p : Span) (t : List ℕ) → value_in_range_in (value_by s v) ≡ true → v ≡ code.Codecs p → t ≡ text_of s p → Appends l at (codecs_anew t) r f
      → Appends l at (contents_in (value_by s v)) r f
  unfolding value_by
  stands_codecs p t h e q a =
      let i : value_in_range_in (codecs_of (text_of s p)) ≡ true = rw e at h in
      let z : Appends l at (codecs_anew (text_of s p)) r f = rw q at a in
      rw e (rw (codecs_text_lem (text_of s p) i) at z)

  pub stands_report : (n : ℕ) (p : Span) (t : List ℕ) → v ≡ code.Report n p → t ≡ text_of s p → Appends l at (contents_in (report_of n t)) r f → Appends l at (contents_in (value_by s v)) r f
  unfolding value_by
  stands_report n p t e q a = rw e (rw q at a)

  pub stands_unit : (n p : Span) (t u : List ℕ) → v ≡ code.Unit n p → t ≡ text_of s n → u ≡ text_of s p → Appends l at (length t ∷ (t ++ u)) r f → Appends l at (contents_in (value_by s v)) r f
  unfolding value_by contents_in contents_text
  stands_unit n p t u e q o a = rw e (rw (q, o) at a)

  pub stands_capability : (b : Bool) (k : ℕ) → v ≡ code.Capability b → k ≡ bit_text b → Appends l at ((128 + k) ∷ []) r f → Appends l at (contents_in (value_by s v)) r f
  unfolding value_by contents_in contents_text
  stands_capability b k e q a = rw e (rw q at a)

pub ruleset standing = (stands, stands_codecs, stands_report, stands_unit, stands_capability)

-- what the parts of a value that is in range have
module _ (s : List ℕ) (v : code.Value) (h : value_in_range_in (value_by s v) ≡ true) where
  pub report_right : (n : ℕ) (p : Span) (t : List ℕ) → v ≡ code.Report n p → t ≡ text_of s p → value_in_range_in (report_of n t) ≡ true
  unfolding value_by
  report_right n p t e q = rw q (rw e at h)

  pub unit_right : (n p : Span) (t : List ℕ) → v ≡ code.Unit n p → t ≡ text_of s n → length t ≤ 255
  unfolding value_by value_in_range_in value_in_range
  unit_right n p t e q =
      let z : (leb (length (text_of s n)) 255 && leb 1 (length (text_of s p))) ≡ true = rw e at h in
      rw q (leb-true _ _ ((and-eq-true_iff (leb (length (text_of s n)) 255) (leb 1 (length (text_of s p)))).0 z).0)

  pub signal_right : (t : code.InnerType) (d : Option code.InnerDuration) → v ≡ code.Signal t d → (inner_type_in_range (inner_type_in t) && inner_duration_in_range (inner_duration_in d)) ≡ true
  unfolding value_by value_in_range_in value_in_range
  signal_right t d e = rw e at h

-- a bit beside bit 8 is an octet
pub marked_fits : (b : Bool) (k : ℕ) → k ≡ bit_text b → Fits w8 (128 + k)
marked_fits true k e = omega arith
marked_fits false k e = omega arith
