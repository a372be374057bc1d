-- `stream::push_token` meets its contract: a text and a blank.
-- Assumes nothing.
use borrow.Author.Rules.{rules}
use Rattle.octets.proofs.AppendLaws.{append_then}
use Rattle.ipbcp_write.proofs.stream.push_token.Goals as goal

pub returns : goal.returns
returns c = record { lent = search rules; appends = search (append_then, rules) }
