-- `push_span` meets its contract. It appends the text of the span.
-- Assumes nothing.
use borrow.Author.Rules.{rules}
use Rattle.notation.proofs.Laws.{span_shown}
use Rattle.notation.proofs.push_span.Goals as goal

pub returns : goal.returns
returns c = record { lent = search rules; appends = search (span_shown, rules) }
