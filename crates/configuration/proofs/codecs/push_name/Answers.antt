-- `codecs::push_name` meets its contract. The format says which text is appended.
-- Assumes nothing.
use borrow.Author.Rules.{rules}
use Rattle.configuration.proofs.FormatLaws.{formats}
use Rattle.configuration.proofs.codecs.push_name.Goals as goal

pub returns-in-Payload : goal.returns-in-Payload
returns-in-Payload c = record { lent = search rules; appends = search (formats, rules) }

pub returns-in-Named : goal.returns-in-Named
returns-in-Named c = record { lent = search rules; appends = search (formats, rules) }
