-- `simple::all` meets its contract: the span of all of a slice stands for it.
-- Assumes nothing.
use Rattle.bat_read.proofs.SimpleLaws.{stands_all}
use borrow.Author.Rules.{rules}
use Rattle.bat_read.proofs.simple.all.Goals as goal

pub returns : goal.returns
returns c = search (stands_all, rules)
