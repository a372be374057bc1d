-- `constructors::find_offence` meets its contract: the first offence from the place on is always the first of all.
-- Assumes nothing.
use Prim.Native.Nat.{◌-◌}
use mathlib.Core.Path.{◌≡◌}
use lib.ListN.{length}
use Rattle.bat.specs.Values.{codecs_in}
use Rattle.bat_read.specs.Examining.{offence_of}
use Rattle.bat_read.proofs.ConstructorLaws.{offence_at}
use Rattle.bat_read.proofs.constructors.find_offence.Given as goal

abbrev pub invariant-loop-at : goal.invariant-loop-at
invariant-loop-at l = offence_at l.at l.s ≡ offence_of (codecs_in l.s)

abbrev pub decreases-loop-at : goal.decreases-loop-at
decreases-loop-at l = length l.s - l.at
