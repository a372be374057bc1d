use borrow.Author.Rules.{rules}
use Rattle.address.proofs.SideLaws.{zeros_pushed}
use Rattle.address.proofs.ipv6.push_zeros.Goals as goal

pub loop-k-preserved : goal.loop-k-preserved
loop-k-preserved c = search (zeros_pushed, rules)

pub returns : goal.returns
returns c = search (zeros_pushed, rules)
