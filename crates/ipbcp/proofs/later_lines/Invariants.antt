-- `later_lines` meets its contract: each step reads one line, so the lines left make of the stream what all make of the first.
-- Assumes nothing.
use Prim.Native.Nat.{◌-◌}
use lib.ListN.{length}
use Rattle.ipbcp.proofs.WholeLaws.{Leads}
use Rattle.ipbcp.proofs.later_lines.Given as goal

abbrev pub invariant-loop-i : goal.invariant-loop-i
invariant-loop-i l = Leads l.m l.stream l.i l.initial.stream l.from

abbrev pub decreases-loop-i : goal.decreases-loop-i
decreases-loop-i l = length l.m - l.i
