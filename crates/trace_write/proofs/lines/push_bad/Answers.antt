-- `lines::push_bad` meets its contract. It is the line of no kind.
-- Assumes nothing.
use mathlib.Core.List.{append_assoc}
use Rattle.trace_write.specs.Lines.{kind_field, number_and_kind, event_text}
use Rattle.trace_write.proofs.lines.push_bad.Goals as goal

pub returns : goal.returns
unfolding kind_field number_and_kind event_text
returns c = rw append_assoc (rw c.number.ensures at c.push_line.ensures)
