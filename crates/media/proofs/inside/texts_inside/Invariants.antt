-- `inside::texts_inside` meets its contract: the spans that were tested lie inside.
-- Assumes nothing.
use mathlib.Core.Path.{◌≡◌}
use mathlib.Core.Bool.{true}
use lib.ListN.{take}
use Rattle.media.specs.Meaning.{all_in}
use Rattle.media.proofs.inside.texts_inside.Given as goal

abbrev pub invariant-loop-sp : goal.invariant-loop-sp
invariant-loop-sp l = all_in l.m (take l.sp-index l.sp-items) ≡ true
