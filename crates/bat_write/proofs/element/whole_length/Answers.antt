-- `element::whole_length` meets its contract. Each way the test goes is a case of the definition.
-- Assumes nothing.
use borrow.Author.Rules.{rules}
use Rattle.octets.proofs.Pick.{picks}
use Rattle.bat_write.specs.Private.{element_length}
use Rattle.bat_write.proofs.element.whole_length.Goals as goal

pub returns-then-n-lt127 : goal.returns-then-n-lt127
unfolding element_length
returns-then-n-lt127 c = search (picks, rules)

pub returns : goal.returns
unfolding element_length
returns c = search (picks, rules)
