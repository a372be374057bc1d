-- `card_message_read` meets its contract: by the three answers of the reader.
-- Assumes nothing.
use Rattle.card_message.proofs.CodeLaws.{codes}
use borrow.Author.Rules.{rules}
use Rattle.card_message.proofs.card_message_read.Goals as goal

pub returns-in-Err : goal.returns-in-Err
returns-in-Err c = search (codes, rules)

pub returns-in-Ok-Typed : goal.returns-in-Ok-Typed
returns-in-Ok-Typed c = search (codes, rules)

pub returns-in-Ok-Described : goal.returns-in-Ok-Described
returns-in-Ok-Described c = search (codes, rules)
