-- `stream::push_fmtp` meets its contract: its texts come one after the other.
-- Assumes nothing.
use borrow.Author.Rules.{rules}
use Rattle.ipbcp_write.proofs.StreamLaws.{fmtp_then}
use Rattle.ipbcp_write.proofs.stream.push_fmtp.Goals as goal

pub returns : goal.returns
returns c = record { lent = search rules; appends = search (fmtp_then, rules) }
