-- `selected::length_if` meets its contract. Each way the test goes is a case of the definition.
-- Assumes nothing.
use Rattle.octets.proofs.Pick.{picks}
use borrow.Author.Rules.{rules}
use Rattle.bat_write.proofs.selected.length_if.Goals as goal

pub returns-then-flag-eq1 : goal.returns-then-flag-eq1
returns-then-flag-eq1 c = search (picks, rules)

pub returns : goal.returns
returns c = search (picks, rules)
