-- `simple::report` meets its contract: octets are diagnostics exactly if they come in threes.
-- Assumes nothing.
use Rattle.bat_read.proofs.SimpleLaws.{reports}
use borrow.Author.Rules.{rules}
use Rattle.bat_read.proofs.simple.report.Goals as goal

pub returns-then-s-lt1 : goal.returns-then-s-lt1
returns-then-s-lt1 c = search (reports, rules)

pub returns-then-s-ne0 : goal.returns-then-s-ne0
returns-then-s-ne0 c = search (reports, rules)

pub returns : goal.returns
returns c = search (reports, rules)
