-- `write::push_groups` meets its contract. The first group is appended, and the others after it.
-- Assumes nothing.
use borrow.Author.Rules.{rules}
use Rattle.address.proofs.WriteLaws.{groups_none, groups_some}
use Rattle.address.proofs.write.push_groups.Goals as goal

pub returns-then-gs-lt1 : goal.returns-then-gs-lt1
returns-then-gs-lt1 c = record { lent = search rules; appends = search (groups_none, rules) }

pub returns : goal.returns
returns c = record { lent = search rules; appends = search (groups_some, rules) }
