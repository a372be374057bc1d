-- `index` meets its contract: each answer of the reader is one case of `index_in`, and the sum is a small one.
-- Assumes nothing.
use Rattle.bat_read.proofs.FindingLaws.{indexes, index_fits}
use borrow.Author.Rules.{rules}
use Rattle.bat_read.proofs.index.Goals as goal

pub overflow_add-result : goal.overflow_add-result
overflow_add-result c = search (index_fits, rules)

pub returns-in-Ok : goal.returns-in-Ok
returns-in-Ok c = search (indexes, rules)

pub returns-in-None : goal.returns-in-None
returns-in-None c = search (indexes, rules)

pub returns-in-Some : goal.returns-in-Some
returns-in-Some c = search (indexes, rules)
