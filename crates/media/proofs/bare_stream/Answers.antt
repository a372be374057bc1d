-- `bare_stream` meets its contract: each part is found in the whole.
-- Assumes nothing.
use borrow.Author.Rules.{rules}
use Rattle.media.proofs.LineLaws.{media_stored}
use Rattle.media.proofs.bare_stream.Goals as goal

pub returns : goal.returns
returns c = search (media_stored, rules)
