-- `detail::push_force` meets its contract. The bearer is pushed if there is one.
-- Assumes nothing.
use Rattle.trace_write.specs.Detail.{force_shown}
use Rattle.trace_write.proofs.detail.push_force.Goals as goal

pub returns-in-Some : goal.returns-in-Some
unfolding force_shown
returns-in-Some c = rw c.in-Some.is c.push_bearer.ensures

pub returns-in-None : goal.returns-in-None
unfolding force_shown
returns-in-None c = rw c.in-None.is c.push_octet.ensures
