-- `later_line` meets its contract: a line of another letter says nothing, or is wrong.
-- Assumes nothing.
use Rattle.description.proofs.FieldLaws.{later_else}
use Rattle.description.proofs.later_line.Goals as goal

pub returns : goal.returns
returns c = later_else _ _ _ _ c.if-letter-eq97.false _ c.is_skipped_letter.ensures _ c.then_some.ensures
