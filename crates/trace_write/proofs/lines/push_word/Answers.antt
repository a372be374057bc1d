-- `lines::push_word` meets its contract. The blank is pushed after the word.
-- Assumes nothing.
use Rattle.trace_write.proofs.PushLaws.{pushes_then}
use Rattle.trace_write.proofs.lines.push_word.Goals as goal

pub returns : goal.returns
returns c = pushes_then c.push.ensures c.push_octet.ensures
