-- `skip` meets its contract: no part of a text is longer than the text.
-- Assumes nothing.
use borrow.Author.Rules.{rules}
use Rattle.texts.proofs.InnerLaws.{skipped}
use Rattle.texts.proofs.skip.Goals as goal

pub returns : goal.returns
returns c = search (skipped, rules)
