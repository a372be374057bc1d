-- `events::command` meets its contract. The word decides, if each number can be read.
-- Assumes nothing.
use borrow.Author.Rules.{rules}
use Rattle.trace_read.proofs.EventLaws.{commands}
use Rattle.trace_read.proofs.events.command.Goals as goal

pub returns-in_err-entry : goal.returns-in_err-entry
returns-in_err-entry c = search (commands, c.in_err-entry.ensures, rules)

pub returns-in_err-payload : goal.returns-in_err-payload
returns-in_err-payload c = search (commands, c.in_ok-entry.ensures, c.in_err-payload.ensures, rules)

pub returns-in_err-ptime : goal.returns-in_err-ptime
returns-in_err-ptime c = search (commands, c.in_ok-entry.ensures, c.in_ok-payload.ensures, c.in_err-ptime.ensures, rules)

pub returns-then-equals : goal.returns-then-equals
returns-then-equals c = search (commands, c.in_ok-entry.ensures, c.in_ok-payload.ensures, c.in_ok-ptime.ensures, rules)

pub returns-then-equals-2 : goal.returns-then-equals-2
returns-then-equals-2 c = search (commands, c.in_ok-entry.ensures, c.in_ok-payload.ensures, c.in_ok-ptime.ensures, rules)

pub returns : goal.returns
returns c = search (commands, c.in_ok-entry.ensures, c.in_ok-payload.ensures, c.in_ok-ptime.ensures, rules)
