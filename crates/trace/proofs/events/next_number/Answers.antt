-- `events::next_number` meets its contract. The sum saturates where the numbers do.
-- Assumes nothing.
use borrow.Author.Rules.{rules}
use Rattle.trace.proofs.EventLaws.{number_is}
use Rattle.trace.proofs.events.next_number.Goals as goal

pub returns : goal.returns
returns c = search (number_is, rules)
