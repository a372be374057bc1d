-- `events::other` meets its contract. With two fields the first is not `M`.
-- Assumes nothing.
use borrow.Author.Rules.{rules}
use Rattle.trace_read.proofs.EventLaws.{others}
use Rattle.trace_read.proofs.events.other.Goals as goal

pub returns-in-0 : goal.returns-in-0
returns-in-0 c = search (others, rules)

pub returns-in-3 : goal.returns-in-3
returns-in-3 c = search (others, rules)

pub returns-in_default : goal.returns-in_default
returns-in_default c = search (others, rules)
