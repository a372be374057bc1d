-- `simple::rest` meets its contract: past the end nothing is left.
-- Assumes nothing.
use Rattle.bat_read.proofs.SimpleLaws.{rests}
use borrow.Author.Rules.{rules}
use Rattle.bat_read.proofs.simple.rest.Goals as goal

pub returns-then-s-n : goal.returns-then-s-n
returns-then-s-n c = search (rests, rules)

pub returns : goal.returns
returns c = search (rests, rules)
