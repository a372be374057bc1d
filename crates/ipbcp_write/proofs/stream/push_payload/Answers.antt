-- `stream::push_payload` meets its contract: its texts come one after the other.
-- Assumes nothing.
use borrow.Author.Rules.{rules}
use Rattle.ipbcp_write.proofs.StreamLaws.{payload_then}
use Rattle.ipbcp_write.proofs.stream.push_payload.Goals as goal

pub returns : goal.returns
returns c = record { lent = search rules; appends = search (payload_then, rules) }
