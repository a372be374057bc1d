-- A value is in range if the one it stands for is: a test of the text of a span is a test of that value's field.
-- Assumes nothing.
use Prim.Native.Nat.{ℕ}
use mathlib.Core.Path.{◌≡◌}
use mathlib.Core.List.{List}
use mathlib.Core.Bool.{Bool, true, ◌&&◌}
use lib.ListN.{length}
use lib.Dec.{leb}
use Rattle.std.specs.Prelude.{Option, Some, None}
use Rattle.octets.specs.declared.Span.{Span}
use Rattle.octets.specs.Spans.{text_of}
use Rattle.bat_write.specs.Code as code
use Rattle.bat.specs.Values.{right_indicators}
use Rattle.bat.specs.Writing.{seven_bits, inner_duration_in_range, value_in_range}
use Rattle.bat.specs.ValueMeaning.{inner_duration_in, value_by}
use Rattle.bat_write.specs.Private.{codecs_of, report_of, value_in_range_in}

-- ---- the duration of a signal
module _ (d : Option code.InnerDuration) where
  pub duration_none : d ≡ None → true ≡ inner_duration_in_range (inner_duration_in d)
  unfolding inner_duration_in inner_duration_in_range
  duration_none e = rw e

  pub duration_some : (t : code.InnerDuration) → d ≡ Some t → seven_bits t.compatibility ≡ inner_duration_in_range (inner_duration_in d)
  unfolding inner_duration_in inner_duration_in_range
  duration_some t e = rw e

-- ---- a value
module _ (s : List ℕ) (v : code.Value) (b : Bool) where
  pub ranged : (w : code.Value) → v ≡ w → b ≡ value_in_range_in (value_by s w) → b ≡ value_in_range_in (value_by s v)
  ranged w e r = rw e r

  module _ (p : Span) (t : List ℕ) (is : t ≡ text_of s p) where
    pub ranged_backbone : v ≡ code.Backbone p → b ≡ (leb 1 (length t) && leb (length t) 4) → b ≡ value_in_range_in (value_by s v)
    unfolding value_by value_in_range_in value_in_range
    ranged_backbone e r = rw (e, ← is) r

    pub ranged_address : v ≡ code.Address p → b ≡ (leb 1 (length t) && leb (length t) 20) → b ≡ value_in_range_in (value_by s v)
    unfolding value_by value_in_range_in value_in_range
    ranged_address e r = rw (e, ← is) r

    pub ranged_codecs : v ≡ code.Codecs p → b ≡ value_in_range_in (codecs_of t) → b ≡ value_in_range_in (value_by s v)
    unfolding value_by
    ranged_codecs e r = rw (e, ← is) r

    pub ranged_report : (n : ℕ) → v ≡ code.Report n p → b ≡ value_in_range_in (report_of n t) → b ≡ value_in_range_in (value_by s v)
    unfolding value_by
    ranged_report n e r = rw (e, ← is) r

    pub ranged_control : v ≡ code.Control p → b ≡ leb 1 (length t) → b ≡ value_in_range_in (value_by s v)
    unfolding value_by value_in_range_in value_in_range
    ranged_control e r = rw (e, ← is) r

    pub ranged_indicators : v ≡ code.Indicators p → b ≡ right_indicators t → b ≡ value_in_range_in (value_by s v)
    unfolding value_by value_in_range_in value_in_range
    ranged_indicators e r = rw (e, ← is) r

    pub ranged_unit : (q : Span) (u : List ℕ) → u ≡ text_of s q → v ≡ code.Unit p q → b ≡ (leb (length t) 255 && leb 1 (length u)) → b ≡ value_in_range_in (value_by s v)
    unfolding value_by value_in_range_in value_in_range
    ranged_unit q u o e r = rw (e, ← is, ← o) r

pub ruleset ranging = (ranged, ranged_backbone, ranged_address, ranged_codecs, ranged_report, ranged_control, ranged_indicators, ranged_unit)
