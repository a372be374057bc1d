-- `lines::push_done` meets its contract. The fields are pushed one after the other.
-- Assumes nothing.
use Rattle.trace_write.proofs.PushLaws.{word_then}
use Rattle.trace_write.proofs.lines.push_done.Goals as goal

pub returns : goal.returns
returns c = rw (← c.notice_word.ensures, ← c.dropped_word.ensures) (word_then _ c.push_word.ensures (word_then _ c.push_word-2.ensures c.push_number.ensures))
