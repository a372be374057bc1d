-- `push_message` meets its contract: its three parts come one after the other.
-- Assumes nothing.
use borrow.Author.Rules.{rules}
use Rattle.ipbcp_write.proofs.WriteLaws.{message_then}
use Rattle.ipbcp_write.proofs.push_message.Goals as goal

pub returns : goal.returns
returns c = record { lent = search rules; appends = search (message_then, rules) }
