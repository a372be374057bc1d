-- `lines::is_skipped_letter` meets its contract: it looks for the letter in the definition's list.
-- Assumes nothing.
use Rattle.octets.specs.Split.{has}
use Rattle.description.proofs.lines.is_skipped_letter.Goals as goal

pub returns : goal.returns
unfolding has
returns c = c.contains.ensures.value
