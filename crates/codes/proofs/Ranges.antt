-- The values of each rule over all 256 codes, which its table is (the proof of the function that reads the table
-- computes that), are runs of true and false: document 01's ranges, seen as a whole.
-- Assumes nothing.
use mathlib.Core.Path.{◌≡◌, refl}
use mathlib.Core.Bool.{true, false}
use mathlib.Core.List.{◌++◌}
use lib.ListN.{replicate}
use Rattle.codes.specs.Codes.{is_action, is_indicator, is_signal}
use Rattle.codes.proofs.TableLaws.{values_from}

pub actions : values_from is_action 0 256 ≡ replicate 25 true ++ replicate 231 false
unfolding is_action
actions = refl

pub indicators : values_from is_indicator 0 256 ≡ replicate 12 true ++ replicate 244 false
unfolding is_indicator
indicators = refl

pub signals : values_from is_signal 0 256 ≡ replicate 16 true ++ replicate 48 false ++ replicate 20 true ++ replicate 172 false
unfolding is_signal
signals = refl
