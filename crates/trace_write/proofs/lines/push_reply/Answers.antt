-- `lines::push_reply` meets its contract. The last fields are pushed after the state.
-- Assumes nothing.
use Rattle.trace_write.specs.Lines.{reply_text}
use Rattle.trace_write.proofs.PushLaws.{word_then}
use Rattle.trace_write.proofs.lines.push_reply.Goals as goal

pub returns-in-Ok : goal.returns-in-Ok
unfolding reply_text
returns-in-Ok c = rw (c.in-Ok.is, ← c.state_word.ensures) (word_then _ c.push_word.ensures c.push_done.ensures)

pub returns-in-Err : goal.returns-in-Err
unfolding reply_text
returns-in-Err c = rw (c.in-Err.is, ← c.state_word-in-Err.ensures) (word_then _ c.push_word-in-Err.ensures c.push_refusal.ensures)
