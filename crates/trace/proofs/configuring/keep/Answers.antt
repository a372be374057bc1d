-- `configuring::keep` meets its contract. A configuration that was read goes on, and none is refused.
-- Assumes nothing.
use Rattle.trace.proofs.ConfiguringLaws.{kept_some, kept_none}
use Rattle.trace.proofs.configuring.keep.Goals as goal

pub returns-in-Some : goal.returns-in-Some
returns-in-Some c = kept_some _ _ _ c.in-Some.is

pub returns-in-None : goal.returns-in-None
returns-in-None c = kept_none _ _ _ c.in-None.is c.push_refused_line.ensures
