-- `stream::push_media` meets its contract: the two halves of the line.
-- Assumes nothing.
use borrow.Author.Rules.{rules}
use Rattle.ipbcp_write.proofs.StreamLaws.{media_then}
use Rattle.ipbcp_write.proofs.stream.push_media.Goals as goal

pub returns : goal.returns
returns c = record { lent = search rules; appends = search (media_then, rules) }
