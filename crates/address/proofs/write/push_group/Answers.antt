-- `write::push_group` meets its contract. The last digits of the array are those of the group, as many as it has.
-- Assumes nothing.
use borrow.Author.Rules.{rules}
use Rattle.address.proofs.WriteLaws.{group_pushed}
use Rattle.address.proofs.write.push_group.Goals as goal

pub returns : goal.returns
returns c = record { lent = search rules; appends = search (group_pushed, rules) }
