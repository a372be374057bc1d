-- `ranges::is_duration` meets its contract. No duration has no compatibility, and any other is tested.
-- Assumes nothing.
use borrow.Author.Rules.{rules}
use Rattle.bat_write.proofs.RangeLaws.{duration_none, duration_some}
use Rattle.bat_write.proofs.ranges.is_duration.Goals as goal

pub returns-in-None : goal.returns-in-None
returns-in-None c = search (duration_none, rules)

pub returns-in-Some : goal.returns-in-Some
returns-in-Some c = search (duration_some, rules)
