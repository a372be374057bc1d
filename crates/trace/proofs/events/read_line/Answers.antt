-- `events::read_line` meets its contract. What the line asks for is read to its end.
-- Assumes nothing.
use borrow.Author.Rules.{rules}
use Rattle.trace.proofs.EventLaws.{line_broken, line_none, line_named, line_message, line_fits}
use Rattle.trace.proofs.events.read_line.Goals as goal

pub returns-then-not-whole : goal.returns-then-not-whole
returns-then-not-whole c = search (line_broken, rules)

pub returns-in_err-asked : goal.returns-in_err-asked
returns-in_err-asked c = search (line_none, c.in_err-asked.ensures, rules)

pub read_message-requires : goal.read_message-requires
read_message-requires c = search (line_fits, c.in_ok-asked.ensures, rules)

pub returns-in-Event : goal.returns-in-Event
returns-in-Event c = search (line_named, c.in_ok-asked.ensures, rules)

pub returns-in-Digits : goal.returns-in-Digits
returns-in-Digits c = search (line_message, c.in_ok-asked.ensures, rules)
