-- `events::number` meets its contract. It reads the field.
-- Assumes nothing.
use borrow.Author.Rules.{rules}
use Rattle.trace_read.proofs.FieldLaws.{on_fields}
use Rattle.trace_read.proofs.events.number.Goals as goal

pub returns : goal.returns
returns c = search (on_fields, rules)
