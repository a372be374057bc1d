-- `events::pass` meets its contract. The endpoint stays as it was.
-- Assumes nothing.
use Rattle.trace.proofs.EventLaws.{passed_is}
use Rattle.trace.proofs.events.pass.Goals as goal

pub returns : goal.returns
returns c = passed_is _ _ _ _ _ _ c.push_end.ensures c.push_bad.ensures
