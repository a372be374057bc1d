-- `lists` meets its contract: whether the diagnostic is listed decides what is added.
-- Assumes nothing.
use Rattle.bat_read.proofs.ListedLaws.{owning}
use borrow.Author.Rules.{rules}
use Rattle.bat_read.proofs.lists.Goals as goal

pub returns-then-is_listed : goal.returns-then-is_listed
returns-then-is_listed c = λ n ls. search (owning, rules)

pub returns-in-Ok : goal.returns-in-Ok
returns-in-Ok c = λ n ls. search (owning, rules)

pub returns-else-is_listed : goal.returns-else-is_listed
returns-else-is_listed c = λ n ls. search (owning, rules)
