use borrow.Author.Rules.{rules}
use Rattle.octets.proofs.Pick.{picks}
use Rattle.address.specs.Ipv6.{is_group}
use Rattle.address.specs.Private.{read_group}
use Rattle.address.proofs.GroupLaws.{group_read, add_fits}
use Rattle.address.proofs.ipv6.read_group.Goals as goal

pub returns-then-s-lt1 : goal.returns-then-s-lt1
unfolding read_group is_group
returns-then-s-lt1 c = search (picks, rules)

pub loop-b-init : goal.loop-b-init
loop-b-init c = search (group_read, rules)

pub returns-in_err-d : goal.returns-in_err-d
returns-in_err-d c = search (group_read, rules)

pub overflow_add-n : goal.overflow_add-n
overflow_add-n c = search (add_fits, c.in_ok-d.ensures, rules)

pub loop-b-preserved : goal.loop-b-preserved
loop-b-preserved c = search (group_read, c.in_ok-d.ensures, rules)

pub returns : goal.returns
returns c = search (group_read, rules)
