-- What the tests of the ranges come to where a list is empty, and octet by octet.
-- Assumes nothing.
use Prim.Native.Nat.{ℕ, ◌<◌}
use mathlib.Core.Path.{◌≡◌, refl}
use mathlib.Core.List.{List, [], ◌∷◌}
use mathlib.Core.Bool.{Bool, true, false}
use lib.ListN.{length, get_or, drop}
use native.Mathlib.Omega.{arith}
use Rattle.codes.specs.Codes.{is_indicator}
use Rattle.std.specs.List.{list_all}
use Rattle.bat.specs.Values.{itu_codec, right_single, single_codec, all_indicators}

-- ---- codecs
pub itu_none : (s : List ℕ) → length s < 1 → true ≡ itu_codec s
unfolding itu_codec
itu_none [] h = refl
itu_none (b ∷ s) h = absurd (omega arith)

pub codec_none : (s : List ℕ) → length s < 1 → false ≡ right_single (single_codec s)
unfolding right_single
codec_none [] h = refl
codec_none (b ∷ s) h = absurd (omega arith)

pub codec_some : (s t : List ℕ) (r : Bool) → t ≡ drop 1 s → r ≡ right_single (record { organisation = get_or s 0 0; information = t }) → r ≡ right_single (single_codec s)
codec_some s t r e p = rw e at p

-- ---- indicators
pub indicators_are : (s : List ℕ) → list_all (λ b. is_indicator b) s ≡ all_indicators s
unfolding all_indicators
indicators_are [] = refl
indicators_are (b ∷ s) = rw (indicators_are s)
