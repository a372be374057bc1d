-- Each turn goes on in the part.
use Rattle.std.proofs.Common.{length, ◌-◌}
use Rattle.line_run.proofs.feed.Given as goal

abbrev pub decreases-loop-i : goal.decreases-loop-i
decreases-loop-i g l = length l.part - l.i
