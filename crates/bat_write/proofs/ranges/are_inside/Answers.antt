-- `ranges::are_inside` meets its contract: the first span is tested, then the second.
-- Assumes nothing.
use Rattle.octets.proofs.Pick.{picks, flags}
use borrow.Author.Rules.{rules}
use Rattle.bat_write.proofs.ranges.are_inside.Goals as goal

pub returns-then-is_inside : goal.returns-then-is_inside
returns-then-is_inside c = search (picks, flags, rules)

pub returns : goal.returns
returns c = search (picks, flags, rules)
