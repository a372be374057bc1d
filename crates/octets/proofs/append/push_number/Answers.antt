-- `append::push_number` meets its contract. The end of the array is the text of the number, and that end is appended.
-- Assumes nothing.
use borrow.Author.Rules.{rules}
use Rattle.octets.proofs.AppendLaws.{number_pushed}
use Rattle.octets.proofs.append.push_number.Goals as goal

pub returns : goal.returns
returns c = search (number_pushed, rules)
