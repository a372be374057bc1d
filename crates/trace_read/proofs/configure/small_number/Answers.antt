-- `configure::small_number` meets its contract. The code makes the definition's test.
-- Assumes nothing.
use borrow.Author.Rules.{rules}
use Rattle.trace_read.proofs.ConfigureLaws.{smalls}
use Rattle.trace_read.proofs.configure.small_number.Goals as goal

pub returns-in_err-n : goal.returns-in_err-n
returns-in_err-n c = search (smalls, rules)

pub returns-then-n-gt255 : goal.returns-then-n-gt255
returns-then-n-gt255 c = search (smalls, c.in_ok-n.was, rules)

pub returns : goal.returns
returns c = search (smalls, c.in_ok-n.was, rules)
