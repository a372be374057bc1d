-- `simple::capability` meets its contract: the first marked octet is the last if one less than the length is before it.
-- Assumes nothing.
use Rattle.bat_read.proofs.SimpleLaws.{capabilities}
use borrow.Author.Rules.{rules}
use Rattle.bat_read.proofs.simple.capability.Goals as goal

pub returns-then-s-lt1 : goal.returns-then-s-lt1
returns-then-s-lt1 c = search (capabilities, rules)

pub returns-then-count_unmarked-s : goal.returns-then-count_unmarked-s
returns-then-count_unmarked-s c = search (capabilities, rules)

pub returns : goal.returns
returns c = search (capabilities, rules)
