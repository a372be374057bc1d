-- `events::give` meets its contract. The part of the buffer that is lent is its front.
-- Assumes nothing.
use borrow.Author.Rules.{rules}
use Rattle.trace.proofs.EventLaws.{gave_front}
use Rattle.trace.proofs.events.give.Goals as goal

pub returns : goal.returns
returns c = search (gave_front, rules)
