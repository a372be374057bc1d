-- `write::push_address` meets its contract. The family says which text it is.
-- Assumes nothing.
use borrow.Author.Rules.{rules}
use Rattle.address.proofs.WriteLaws.{four_text, six_text}
use Rattle.address.proofs.write.push_address.Goals as goal

pub returns-in-V4 : goal.returns-in-V4
returns-in-V4 c = record { lent = search rules; appends = search (four_text, rules) }

pub returns-in-V6 : goal.returns-in-V6
returns-in-V6 c = record { lent = search rules; appends = search (six_text, rules) }
