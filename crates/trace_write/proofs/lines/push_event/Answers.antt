-- `lines::push_event` meets its contract. It is the line of the event's kind.
-- Assumes nothing.
use mathlib.Core.List.{append_assoc}
use Rattle.trace_write.specs.Lines.{kind_field, number_and_kind, event_text}
use Rattle.trace_write.proofs.lines.push_event.Goals as goal

pub returns : goal.returns
unfolding kind_field number_and_kind event_text
returns c = rw (append_assoc, ← c.kind_word.ensures) c.push_line.ensures
