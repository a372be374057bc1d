-- `next_line` meets its contract: the tests of the code say which octets are at both ends of the plain part.
-- Assumes nothing.
use borrow.Author.Rules.{rules}
use Rattle.sdp.proofs.EndLaws.{cuts}
use Rattle.sdp.proofs.next_line.Goals as goal

pub returns-then-m-e : goal.returns-then-m-e
returns-then-m-e c = search (cuts, rules)

pub returns-then-len-lt2 : goal.returns-then-len-lt2
returns-then-len-lt2 c = search (cuts, rules)

pub returns-then-b-eq10 : goal.returns-then-b-eq10
returns-then-b-eq10 c = search (cuts, rules)

pub returns-then-b-ne13 : goal.returns-then-b-ne13
returns-then-b-ne13 c = search (cuts, rules)

pub returns-then-m-lf : goal.returns-then-m-lf
returns-then-m-lf c = search (cuts, rules)

pub returns-then-m-lf-eq10 : goal.returns-then-m-lf-eq10
returns-then-m-lf-eq10 c = search (cuts, rules)

pub returns-else-m-lf-eq10 : goal.returns-else-m-lf-eq10
returns-else-m-lf-eq10 c = search (cuts, rules)

pub returns-else-is_start : goal.returns-else-is_start
returns-else-is_start c = search (cuts, rules)
