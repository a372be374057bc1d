-- `constructors::is_duration` meets its contract: the identifier is tested first, then the length.
-- Assumes nothing.
use Rattle.bat_read.proofs.ConstructorLaws.{inners}
use borrow.Author.Rules.{rules}
use Rattle.bat_read.proofs.constructors.is_duration.Goals as goal

pub returns-then-f-ne15 : goal.returns-then-f-ne15
returns-then-f-ne15 c = search (inners, rules)

pub returns : goal.returns
returns c = search (inners, rules)
