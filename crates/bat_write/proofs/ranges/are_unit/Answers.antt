-- `ranges::are_unit` meets its contract. Each way the test goes is a case of the definition.
-- Assumes nothing.
use borrow.Author.Rules.{rules}
use Rattle.octets.proofs.Pick.{picks}
use Rattle.bat_write.proofs.ranges.are_unit.Goals as goal

pub returns-then-network-gt255 : goal.returns-then-network-gt255
returns-then-network-gt255 c = search (picks, rules)

pub returns : goal.returns
returns c = search (picks, rules)
