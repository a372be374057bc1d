-- `events::run` meets its contract. The line is read as the definition reads it.
-- Assumes nothing.
use borrow.Author.Rules.{rules}
use Rattle.trace.proofs.EventLaws.{ran_event, ran_nothing}
use Rattle.trace.proofs.events.run.Goals as goal

pub returns-in-Some : goal.returns-in-Some
returns-in-Some c = search (ran_event, rules)

pub returns-in-None : goal.returns-in-None
returns-in-None c = search (ran_nothing, rules)
