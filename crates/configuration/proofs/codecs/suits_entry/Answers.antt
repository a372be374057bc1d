-- `codecs::suits_entry` meets its contract. The format says which test is made.
-- Assumes nothing.
use borrow.Author.Rules.{rules}
use Rattle.configuration.proofs.FormatLaws.{formats}
use Rattle.configuration.proofs.codecs.suits_entry.Goals as goal

pub returns-in-Payload : goal.returns-in-Payload
returns-in-Payload c = search (formats, rules)

pub returns-then-payload-ge96 : goal.returns-then-payload-ge96
returns-then-payload-ge96 c = search (formats, rules)

pub returns-else-payload-ge96 : goal.returns-else-payload-ge96
returns-else-payload-ge96 c = search (formats, rules)
