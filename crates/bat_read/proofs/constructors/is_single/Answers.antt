-- `constructors::is_single` meets its contract: the identifier is tested first, then the contents.
-- Assumes nothing.
use Rattle.bat_read.proofs.ConstructorLaws.{inners}
use borrow.Author.Rules.{rules}
use Rattle.bat_read.proofs.constructors.is_single.Goals as goal

pub returns-then-f-ne5 : goal.returns-then-f-ne5
returns-then-f-ne5 c = search (inners, rules)

pub returns : goal.returns
returns c = search (inners, rules)
