-- `events::push_end` meets its contract. The LF follows the detail.
-- Assumes nothing.
use Rattle.trace_write.proofs.PushLaws.{pushes_then}
use Rattle.trace.proofs.events.push_end.Goals as goal

pub returns : goal.returns
returns c = pushes_then c.push_more.ensures c.push_octet.ensures
