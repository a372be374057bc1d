-- `body_of` meets its contract: by the four types.
-- Assumes nothing.
use Rattle.card_packet.proofs.AgainLaws.{bodies}
use borrow.Author.Rules.{rules}
use Rattle.card_packet.proofs.body_of.Goals as goal

pub returns-in-Request : goal.returns-in-Request
returns-in-Request c = search (bodies, rules)

pub returns-in-Accepted : goal.returns-in-Accepted
returns-in-Accepted c = search (bodies, rules)

pub returns-in-Confused : goal.returns-in-Confused
returns-in-Confused c = search (bodies, rules)

pub returns-in-Rejected : goal.returns-in-Rejected
returns-in-Rejected c = search (bodies, rules)
