-- `lines::push_connection` meets its contract: its texts come one after the other.
-- Assumes nothing.
use borrow.Author.Rules.{rules}
use Rattle.ipbcp_write.proofs.LineLaws.{connection_then}
use Rattle.ipbcp_write.proofs.lines.push_connection.Goals as goal

pub returns : goal.returns
returns c = record { lent = search rules; appends = search (connection_then, rules) }
