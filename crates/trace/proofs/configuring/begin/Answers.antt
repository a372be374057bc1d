-- `configuring::begin` meets its contract. The first event follows the header.
-- Assumes nothing.
use Rattle.trace.proofs.ConfiguringLaws.{first_is}
use Rattle.trace.proofs.configuring.begin.Goals as goal

pub returns : goal.returns
returns c = first_is _ _ _ _ _ _ _ _ _ _ c.fresh.ensures c.run.ensures c.push_header.ensures
