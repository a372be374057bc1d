-- `events::push_answer` meets its contract. The detail follows the line of the event.
-- Assumes nothing.
use Rattle.trace.proofs.EventLaws.{answer_line_lem}
use Rattle.trace.proofs.events.push_answer.Goals as goal

pub returns : goal.returns
returns c = answer_line_lem c.args.event c.args.state c.args.answer.now c.args.room.now _ _ _ _ c.args.n _ c.args.detailed c.push_end.ensures (rw c.numbered.ensures at c.push_event.ensures) c.up_to-written.ensures c.written_by.ensures
