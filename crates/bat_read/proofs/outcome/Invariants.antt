-- `outcome` meets its contract: the gravest so far and the gravest of those to come are always the gravest of all.
-- Assumes nothing.
use Prim.Native.Nat.{max}
use mathlib.Core.Path.{◌≡◌}
use lib.ListN.{length}
use Rattle.bat.specs.JudgingMeaning.{data_number}
use Rattle.bat_read.specs.Private.{gravest}
use Rattle.bat_read.proofs.outcome.Given as goal

abbrev pub invariant-loop-x : goal.invariant-loop-x
invariant-loop-x l = max (data_number l.worst) (gravest l.pass l.rest) ≡ gravest l.pass l.data

abbrev pub decreases-loop-x : goal.decreases-loop-x
decreases-loop-x l = length l.rest
