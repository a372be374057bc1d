-- `lines::push_origin` meets its contract: its texts come one after the other.
-- Assumes nothing.
use borrow.Author.Rules.{rules}
use Rattle.ipbcp_write.proofs.LineLaws.{origin_then}
use Rattle.ipbcp_write.proofs.lines.push_origin.Goals as goal

pub returns : goal.returns
returns c = record { lent = search rules; appends = search (origin_then, rules) }
