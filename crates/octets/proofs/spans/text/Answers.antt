-- `spans::text` meets its contract: it is the definition's front of an end.
-- Assumes nothing.
use borrow.Author.Rules.{rules}
use Rattle.octets.specs.Spans.{text_of}
use Rattle.octets.proofs.spans.text.Goals as goal

pub returns : goal.returns
unfolding text_of
returns c = search rules
