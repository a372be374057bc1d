-- `codecs::names_any` meets its contract. Each entry is asked.
-- Assumes nothing.
use borrow.Author.Rules.{rules}
use Rattle.configuration.proofs.EntryLaws.{named_places}
use Rattle.configuration.proofs.codecs.names_any.Goals as goal

pub returns : goal.returns
returns c = search (named_places, rules)
