-- `lines::push_opening` meets its contract: its lines come one after the other.
-- Assumes nothing.
use borrow.Author.Rules.{rules}
use Rattle.ipbcp_write.proofs.LineLaws.{opening_then}
use Rattle.ipbcp_write.proofs.lines.push_opening.Goals as goal

pub returns : goal.returns
returns c = record { lent = search rules; appends = search (opening_then, rules) }
