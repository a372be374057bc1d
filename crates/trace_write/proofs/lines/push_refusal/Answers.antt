-- `lines::push_refusal` meets its contract. The last fields are pushed after the refusal.
-- Assumes nothing.
use Rattle.trace_write.proofs.PushLaws.{pushes_then}
use Rattle.trace_write.proofs.lines.push_refusal.Goals as goal

pub returns : goal.returns
returns c = pushes_then c.push_refused.ensures c.push.ensures
