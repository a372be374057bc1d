-- `write::push_shortened` meets its contract. The run that was found says where "::" stands, or that there is none.
-- Assumes nothing.
use borrow.Author.Rules.{rules}
use Rattle.address.proofs.WriteLaws.{shortened_full, shortened_gap}
use Rattle.address.proofs.write.push_shortened.Goals as goal

pub returns-then-len-lt2 : goal.returns-then-len-lt2
returns-then-len-lt2 c = record { lent = search rules; appends = search (shortened_full, rules) }

pub returns : goal.returns
returns c = record { lent = search rules; appends = search (shortened_gap, rules) }
