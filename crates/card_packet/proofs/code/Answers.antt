-- `code` meets its contract: by the two answers.
-- Assumes nothing.
use Rattle.card_packet.proofs.AgainLaws.{codes}
use borrow.Author.Rules.{rules}
use Rattle.card_packet.proofs.code.Goals as goal

pub returns-in-Ok : goal.returns-in-Ok
returns-in-Ok c = search (codes, rules)

pub returns-in-Err : goal.returns-in-Err
returns-in-Err c = search (codes, rules)
