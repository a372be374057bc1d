-- `check::right_codec` meets its contract. The format says which test is made.
-- Assumes nothing.
use borrow.Author.Rules.{rules}
use Rattle.configuration.proofs.FormatLaws.{formats}
use Rattle.configuration.proofs.check.right_codec.Goals as goal

pub returns-in-Payload : goal.returns-in-Payload
returns-in-Payload c = search (formats, rules)

pub returns-then-n-le-MOST_NAME : goal.returns-then-n-le-MOST_NAME
returns-then-n-le-MOST_NAME c = search (formats, rules)

pub returns-else-n-le-MOST_NAME : goal.returns-else-n-le-MOST_NAME
returns-else-n-le-MOST_NAME c = search (formats, rules)
