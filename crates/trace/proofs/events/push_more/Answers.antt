-- `events::push_more` meets its contract. Only a detailed trace prints more.
-- Assumes nothing.
use borrow.Author.Rules.{rules}
use Rattle.trace.proofs.EventLaws.{more_yes, more_no}
use Rattle.trace.proofs.events.push_more.Goals as goal

pub returns-then-detailed : goal.returns-then-detailed
returns-then-detailed c = search (more_yes, rules)

pub returns-else-detailed : goal.returns-else-detailed
returns-else-detailed c = search (more_no, rules)
