-- `events::read_message` meets its contract. Digits that were read are the octets of a message.
-- Assumes nothing.
use borrow.Author.Rules.{rules}
use Rattle.trace.proofs.EventLaws.{message_ready}
use Rattle.trace.proofs.events.read_message.Goals as goal

pub returns : goal.returns
returns c = search (message_ready, rules)
