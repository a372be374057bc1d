-- `next_listed` meets its contract: what is listed from the place on is always what is listed from the start.
-- Assumes nothing.
use Prim.Native.Nat.{◌-◌}
use mathlib.Core.Path.{◌≡◌}
use lib.ListN.{length, drop}
use Rattle.bat_read.specs.Examining.{listings}
use Rattle.bat_read.proofs.next_listed.Given as goal

abbrev pub invariant-loop-x : goal.invariant-loop-x
invariant-loop-x l = listings l.pass l.at (drop l.at l.data) ≡ listings l.pass l.from (drop l.from l.data)

abbrev pub decreases-loop-x : goal.decreases-loop-x
decreases-loop-x l = length l.data - l.at
