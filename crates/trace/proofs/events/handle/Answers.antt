-- `events::handle` meets its contract. What the endpoint promises of the event is what the line prints.
-- Assumes nothing.
use borrow.Author.Rules.{rules}
use Rattle.trace.proofs.EventLaws.{handled_is}
use Rattle.trace.proofs.events.handle.Goals as goal

pub returns : goal.returns
returns c = search (handled_is, rules)
