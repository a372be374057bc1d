-- Each turn leaves fewer octets.
use Rattle.std.proofs.Common.{length, ◌≤◌}
use Rattle.inspect.proofs.elements.push_elements.Given as goal

abbrev pub invariant-loop-rest : goal.invariant-loop-rest
invariant-loop-rest l = length l.rest ≤ length l.«data»

abbrev pub decreases-loop-rest : goal.decreases-loop-rest
decreases-loop-rest l = length l.rest
