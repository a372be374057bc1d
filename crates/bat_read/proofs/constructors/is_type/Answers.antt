-- `constructors::is_type` meets its contract: the identifier is tested first, then the contents.
-- Assumes nothing.
use Rattle.bat_read.proofs.ConstructorLaws.{inners}
use borrow.Author.Rules.{rules}
use Rattle.bat_read.proofs.constructors.is_type.Goals as goal

pub returns-then-f-ne14 : goal.returns-then-f-ne14
returns-then-f-ne14 c = search (inners, rules)

pub returns : goal.returns
returns c = search (inners, rules)
