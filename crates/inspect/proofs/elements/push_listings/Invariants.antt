-- Each turn goes on in the octets.
use Rattle.std.proofs.Common.{length, ◌-◌}
use Rattle.inspect.proofs.elements.push_listings.Given as goal

abbrev pub decreases-loop-i : goal.decreases-loop-i
decreases-loop-i l = length l.«data» - l.i
