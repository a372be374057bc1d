-- `stream::push_rest` meets its contract: a text and the end of the line.
-- Assumes nothing.
use borrow.Author.Rules.{rules}
use Rattle.octets.proofs.AppendLaws.{append_then}
use Rattle.sdp.specs.Written.{line_text}
use Rattle.ipbcp_write.proofs.stream.push_rest.Goals as goal

pub returns : goal.returns
unfolding line_text
returns c = record { lent = search rules; appends = search (append_then, rules) }
