-- `ipv6::read_gapped` meets its contract. The two sides say whether "::" stands for a group, and the halves at the end are those of the groups and the zeros between them.
-- Assumes nothing.
use borrow.Author.Rules.{rules}
use Rattle.address.proofs.Ipv6Laws.{left_bad, right_bad, many_left, many_both, again_bad, gapped_read}
use Rattle.address.proofs.ipv6.read_gapped.Goals as goal
use Rattle.address.proofs.ipv6.read_gapped.Goals.{then-l-gt7-via-then-l-gt7, then-l-gt7-via-else-l-gt7+then-l-r}

pub returns-in_err-before : goal.returns-in_err-before
returns-in_err-before c = search (left_bad, rules)

pub returns-in_err-after : goal.returns-in_err-after
returns-in_err-after c = search (right_bad, c.in_ok-before.was, rules)

pub returns-then-l-gt7 : goal.returns-then-l-gt7
returns-then-l-gt7 c =
    elim c.then-l-gt7.branch [
      | then-l-gt7-via-then-l-gt7 w ↦ search (many_left, c.in_ok-before.was, c.in_ok-after.was, rules)
      | then-l-gt7-via-else-l-gt7+then-l-r w ↦ search (many_both, c.in_ok-before.was, c.in_ok-after.was, rules)
    ]

pub returns-in_err-all : goal.returns-in_err-all
returns-in_err-all c = search (again_bad, c.in_ok-before.was, c.in_ok-after.was, rules)

pub returns : goal.returns
returns c = search (gapped_read, c.in_ok-before.was, c.in_ok-after.was, c.in_ok-all.was, rules)
