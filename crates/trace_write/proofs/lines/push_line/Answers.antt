-- `lines::push_line` meets its contract. The fields are pushed one after the other.
-- Assumes nothing.
use Rattle.trace_write.proofs.PushLaws.{word_then}
use Rattle.trace_write.proofs.lines.push_line.Goals as goal

pub returns : goal.returns
returns c = word_then _ c.push_number_then.ensures (word_then _ c.push_word.ensures c.push_reply.ensures)
