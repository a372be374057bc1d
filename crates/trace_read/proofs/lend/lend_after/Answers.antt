-- `lend::lend_after` meets its contract. The next tab ends the length.
-- Assumes nothing.
use borrow.Author.Rules.{rules}
use Rattle.trace_read.proofs.LendLaws.{lendings}
use Rattle.trace_read.proofs.lend.lend_after.Goals as goal

pub returns-then-s-e : goal.returns-then-s-e
returns-then-s-e c = search (lendings, rules)

pub returns-in_err-n : goal.returns-in_err-n
returns-in_err-n c = search (lendings, rules)

pub returns : goal.returns
returns c = search (lendings, c.in_ok-n.was, rules)
