-- `lines::push_refused_line` meets its contract. The LF is pushed after the refusal.
-- Assumes nothing.
use Rattle.trace_write.proofs.PushLaws.{pushes_then}
use Rattle.trace_write.proofs.lines.push_refused_line.Goals as goal

pub returns : goal.returns
returns c = pushes_then (rw c.number.ensures at c.push_refused.ensures) c.push_octet.ensures
