-- Each turn leaves fewer octets.
use Rattle.std.proofs.Common.{length}
use Rattle.inspect.proofs.values.push_list.Given as goal

abbrev pub decreases-loop-rest : goal.decreases-loop-rest
decreases-loop-rest l = length l.rest
