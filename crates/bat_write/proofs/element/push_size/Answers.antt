-- `element::push_size` meets its contract. A length below 128 is one octet, and of any other the low seven bits come before the high ones.
-- Assumes nothing.
use borrow.Author.Rules.{rules}
use Rattle.bat_write.proofs.ElementLaws.{size_one, size_two}
use Rattle.bat_write.proofs.element.push_size.Goals as goal

pub returns-then-n-lt128 : goal.returns-then-n-lt128
returns-then-n-lt128 c = search (size_one, size_two, rules)

pub returns : goal.returns
returns c = search (size_one, size_two, rules)
