-- `simple::unit` meets its contract: the tests are those of `unit_in`, and the two spans stand for the two ids.
-- Assumes nothing.
use Rattle.bat_read.proofs.SimpleLaws.{units}
use borrow.Author.Rules.{rules}
use Rattle.bat_read.proofs.simple.unit.Goals as goal

pub returns-then-s-lt1 : goal.returns-then-s-lt1
returns-then-s-lt1 c = search (units, rules)

pub returns-then-s-n : goal.returns-then-s-n
returns-then-s-n c = search (units, rules)

pub returns : goal.returns
returns c = search (units, rules)
