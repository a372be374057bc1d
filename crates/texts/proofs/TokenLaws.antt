-- Laws of what comes after the first blank of a text.
-- Assumes nothing.
use Prim.Native.Nat.{ℕ, ◌+◌, ◌-◌, ◌≤◌, ◌<◌}
use mathlib.Core.Path.{◌≡◌, sym}
use mathlib.Core.List.{List}
use lib.ListN.{length, drop, length-drop, drop_of_length-le}
use lib.Seq.{take_all}
use native.Mathlib.Omega.{arith}
use Rattle.octets.specs.Split.{before, Found}
use Rattle.octets.specs.Spans.{text_of}
use Rattle.octets.proofs.SplitLaws.{found_first}
use Rattle.texts.specs.Tokens.{after_blank}

module _ (s : List ℕ) (e : ℕ) (f : Found s 32 0 e) where
  pub after_none : length s ≤ e → text_of s (record { at = 0; len = 0 }) ≡ after_blank s
  unfolding text_of after_blank
  after_none h = sym (drop_of_length-le s {i = length (before 32 s) + 1} (omega (arith, found_first s 32 e f)))

  pub after_some : e < length s → text_of s (record { at = e + 1; len = length s - (e + 1) }) ≡ after_blank s
  unfolding text_of after_blank
  after_some h =
      rw (← found_first s 32 e f) (take_all (length s - (e + 1)) (drop (e + 1) s) (omega (arith, length-drop (e + 1) s)))

pub ruleset after_blanks = (after_none, after_some)
