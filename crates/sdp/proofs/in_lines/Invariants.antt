-- `in_lines` meets its contract: the lines passed over are lines, so what is left decides at each step.
-- Assumes nothing.
use Prim.Native.Nat.{◌-◌}
use mathlib.Core.Path.{◌≡◌}
use lib.ListN.{length, drop}
use Rattle.sdp.specs.Lines.{in_lines}
use Rattle.sdp.proofs.in_lines.Given as goal

abbrev pub invariant-loop-i : goal.invariant-loop-i
invariant-loop-i l = in_lines (drop l.i l.m) ≡ in_lines l.m

abbrev pub decreases-loop-i : goal.decreases-loop-i
decreases-loop-i l = length l.m - l.i
