-- `types::read_head` meets its contract: a line that is no ipbcp line leaves version and type to the lines after it.
-- Assumes nothing.
use Rattle.ipbcp.specs.Types.{head_in}
use Prim.Native.Nat.{◌-◌}
use mathlib.Core.Path.{◌≡◌}
use lib.ListN.{length, drop}
use Rattle.ipbcp.proofs.types.read_head.Given as goal

abbrev pub invariant-loop-i : goal.invariant-loop-i
invariant-loop-i l = head_in (drop l.i l.m) ≡ head_in l.m

abbrev pub decreases-loop-i : goal.decreases-loop-i
decreases-loop-i l = length l.m - l.i
