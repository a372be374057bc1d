-- `ranges::are_signal` meets its contract: the type's compatibility is tested, then its code, then the duration.
-- Assumes nothing.
use borrow.Author.Rules.{rules}
use Rattle.octets.proofs.Pick.{picks, flags}
use Rattle.bat_write.proofs.ranges.are_signal.Goals as goal

pub returns-then-kind-ge128 : goal.returns-then-kind-ge128
returns-then-kind-ge128 c = search (picks, flags, rules)

pub returns-then-is_signal : goal.returns-then-is_signal
returns-then-is_signal c = search (picks, flags, rules)

pub returns : goal.returns
returns c = search (picks, flags, rules)
