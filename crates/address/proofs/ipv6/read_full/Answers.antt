-- `ipv6::read_full` meets its contract. The side that was read says whether there are eight groups, and its halves are their number's.
-- Assumes nothing.
use borrow.Author.Rules.{rules}
use Rattle.address.proofs.Ipv6Laws.{full_bad, full_count, full_read}
use Rattle.address.proofs.ipv6.read_full.Goals as goal

pub returns-in_err-side : goal.returns-in_err-side
returns-in_err-side c = search (full_bad, rules)

pub returns-then-side-ne8 : goal.returns-then-side-ne8
returns-then-side-ne8 c = search (full_count, c.in_ok-side.was, rules)

pub returns : goal.returns
returns c = search (full_read, c.in_ok-side.was, rules)
