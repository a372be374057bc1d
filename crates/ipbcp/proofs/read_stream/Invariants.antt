-- `read_stream` meets its contract: each step passes over a line that is skipped, up to the media line.
-- Assumes nothing.
use Rattle.ipbcp.proofs.WholeLaws.{Skips}
use Prim.Native.Nat.{◌-◌}
use lib.ListN.{length}
use Rattle.ipbcp.proofs.read_stream.Given as goal

abbrev pub invariant-loop-i : goal.invariant-loop-i
invariant-loop-i l = Skips l.m l.i l.from

abbrev pub decreases-loop-i : goal.decreases-loop-i
decreases-loop-i l = length l.m - l.i
