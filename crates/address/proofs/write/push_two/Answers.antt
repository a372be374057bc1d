-- `write::push_two` meets its contract. The second number is appended after the first and its dot.
-- Assumes nothing.
use borrow.Author.Rules.{rules}
use Rattle.address.proofs.WriteLaws.{two_pushed}
use Rattle.address.proofs.write.push_two.Goals as goal

pub returns : goal.returns
returns c = record { lent = search rules; appends = search (two_pushed, rules) }
