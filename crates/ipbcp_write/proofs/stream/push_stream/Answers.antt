-- `stream::push_stream` meets its contract: the media line, and the attributes after it.
-- Assumes nothing.
use borrow.Author.Rules.{rules}
use Rattle.ipbcp_write.proofs.StreamLaws.{stream_then}
use Rattle.ipbcp_write.proofs.stream.push_stream.Goals as goal

pub returns : goal.returns
returns c = record { lent = search rules; appends = search (stream_then, rules) }
