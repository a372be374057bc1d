use borrow.Author.Rules.{rules}
use Rattle.address.proofs.SideLaws.{side_read}
use Rattle.address.proofs.ipv6.read_side.Goals as goal

pub returns-then-s-lt1 : goal.returns-then-s-lt1
returns-then-s-lt1 c = search (side_read, rules)

pub loop-g-init : goal.loop-g-init
loop-g-init c = search (side_read, rules)

pub returns-in_err-g : goal.returns-in_err-g
returns-in_err-g c = search (side_read, rules)

pub returns-then-s-e : goal.returns-then-s-e
returns-then-s-e c = search (side_read, c.in_ok-g.was, rules)

pub loop-g-preserved : goal.loop-g-preserved
loop-g-preserved c = search (side_read, c.in_ok-g.was, rules)
