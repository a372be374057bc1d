-- What contents are read as, identifier by identifier.
-- Assumes nothing.
use Prim.Native.Nat.{ℕ}
use mathlib.Core.Path.{◌≡◌}
use mathlib.Core.List.{List}
use mathlib.Core.Option.{Option, some}
use borrow.Author.Tests.{ne_eqb}
use Rattle.std.specs.Prelude.{Err, None}
use Rattle.bat.specs.Values.{Decoding, action_in, backbone_in, address_in, codec_list_in, single_in, report_in, characteristics_in, control_in, tunnelling_in, unit_in, signal_in, capability_in, indicators_in, type_in, duration_in, decoding}
use Rattle.bat.specs.ValueMeaning.{decoding_in}

module _ (i : ℕ) (s : List ℕ) where
  pub reading_action : (x : Option Decoding) → i ≡ 1 → x ≡ some (action_in s) → x ≡ some (decoding i s)
  unfolding decoding
  reading_action x e p = rw e p

  pub reading_backbone : (x : Option Decoding) → i ≡ 2 → x ≡ some (backbone_in s) → x ≡ some (decoding i s)
  unfolding decoding
  reading_backbone x e p = rw e p

  pub reading_address : (x : Option Decoding) → i ≡ 3 → x ≡ some (address_in s) → x ≡ some (decoding i s)
  unfolding decoding
  reading_address x e p = rw e p

  pub reading_codecs : (x : Option Decoding) → i ≡ 4 → x ≡ some (codec_list_in s) → x ≡ some (decoding i s)
  unfolding decoding
  reading_codecs x e p = rw e p

  pub reading_single : (x : Option Decoding) → i ≡ 5 → x ≡ some (single_in s) → x ≡ some (decoding i s)
  unfolding decoding
  reading_single x e p = rw e p

  pub reading_report : (x : Option Decoding) → i ≡ 6 → x ≡ some (report_in s) → x ≡ some (decoding i s)
  unfolding decoding
  reading_report x e p = rw e p

  pub reading_characteristics : (x : Option Decoding) → i ≡ 7 → x ≡ some (characteristics_in s) → x ≡ some (decoding i s)
  unfolding decoding
  reading_characteristics x e p = rw e p

  pub reading_control : (x : Option Decoding) → i ≡ 8 → x ≡ some (control_in s) → x ≡ some (decoding i s)
  unfolding decoding
  reading_control x e p = rw e p

  pub reading_tunnelling : (x : Option Decoding) → i ≡ 9 → x ≡ some (tunnelling_in s) → x ≡ some (decoding i s)
  unfolding decoding
  reading_tunnelling x e p = rw e p

  pub reading_unit : (x : Option Decoding) → i ≡ 10 → x ≡ some (unit_in s) → x ≡ some (decoding i s)
  unfolding decoding
  reading_unit x e p = rw e p

  pub reading_signal : (x : Option Decoding) → i ≡ 11 → x ≡ some (signal_in s) → x ≡ some (decoding i s)
  unfolding decoding
  reading_signal x e p = rw e p

  pub reading_capability : (x : Option Decoding) → i ≡ 12 → x ≡ some (capability_in s) → x ≡ some (decoding i s)
  unfolding decoding
  reading_capability x e p = rw e p

  pub reading_indicators : (x : Option Decoding) → i ≡ 13 → x ≡ some (indicators_in s) → x ≡ some (decoding i s)
  unfolding decoding
  reading_indicators x e p = rw e p

  pub reading_type : (x : Option Decoding) → i ≡ 14 → x ≡ some (type_in s) → x ≡ some (decoding i s)
  unfolding decoding
  reading_type x e p = rw e p

  pub reading_duration : (x : Option Decoding) → i ≡ 15 → x ≡ some (duration_in s) → x ≡ some (decoding i s)
  unfolding decoding
  reading_duration x e p = rw e p

  pub reading_none : (i ≡ 1 → ⊥) → (i ≡ 2 → ⊥) → (i ≡ 3 → ⊥) → (i ≡ 4 → ⊥) → (i ≡ 5 → ⊥) → (i ≡ 6 → ⊥) → (i ≡ 7 → ⊥) → (i ≡ 8 → ⊥) → (i ≡ 9 → ⊥) → (i ≡ 10 → ⊥) → (i ≡ 11 → ⊥) → (i ≡ 12 → ⊥) → (i ≡ 13 → ⊥) → (i ≡ 14 → ⊥) → (i ≡ 15 → ⊥)
      → decoding_in s (Err (record { inner = None })) ≡ some (decoding i s)
  unfolding decoding_in decoding
  reading_none n1 n2 n3 n4 n5 n6 n7 n8 n9 n10 n11 n12 n13 n14 n15 =
      simp (ne_eqb i 1 n1, ne_eqb i 2 n2, ne_eqb i 3 n3, ne_eqb i 4 n4, ne_eqb i 5 n5, ne_eqb i 6 n6, ne_eqb i 7 n7, ne_eqb i 8 n8, ne_eqb i 9 n9, ne_eqb i 10 n10, ne_eqb i 11 n11, ne_eqb i 12 n12, ne_eqb i 13 n13, ne_eqb i 14 n14, ne_eqb i 15 n15)

pub ruleset readings = (reading_action, reading_backbone, reading_address, reading_codecs, reading_single, reading_report, reading_characteristics, reading_control, reading_tunnelling, reading_unit, reading_signal, reading_capability, reading_indicators, reading_type, reading_duration, reading_none)
