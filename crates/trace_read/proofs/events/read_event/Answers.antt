-- `events::read_event` meets its contract. A line that is not too long is a message or another event.
-- Assumes nothing.
use borrow.Author.Rules.{rules}
use Rattle.octets.proofs.Pick.{flags}
use Rattle.trace_read.proofs.EventLaws.{lines}
use Rattle.trace_read.proofs.events.read_event.Goals as goal

pub returns-then-s-ge-MOST_LINE : goal.returns-then-s-ge-MOST_LINE
returns-then-s-ge-MOST_LINE c = search (lines, rules)

pub returns-then-starts : goal.returns-then-starts
returns-then-starts c = search (lines, rules)

pub other-requires : goal.other-requires
other-requires c = search (flags, rules)

pub returns-in_err-event : goal.returns-in_err-event
returns-in_err-event c = search (lines, c.in_err-event.ensures, rules)

pub returns : goal.returns
returns c = search (lines, c.in_ok-event.ensures, rules)
