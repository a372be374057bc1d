-- `constructors::last` meets its contract: each way that the code leaves is one case of `last_by`.
-- Assumes nothing.
use Rattle.bat_read.proofs.ConstructorLaws.{lasts}
use borrow.Author.Rules.{rules}
use Rattle.bat_read.proofs.constructors.last.Goals as goal

pub returns-then-n-s : goal.returns-then-n-s
returns-then-n-s c = λ m. search (lasts, rules)

pub returns-then-is_duration : goal.returns-then-is_duration
returns-then-is_duration c = λ m. search (lasts, rules)

pub returns : goal.returns
returns c = λ m. search (lasts, rules)
