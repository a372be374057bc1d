use borrow.Author.Rules.{rules}
use Rattle.sdp.proofs.EndLaws.{fours}
use Rattle.sdp.proofs.pass_fours.Goals as goal

pub loop-n-init : goal.loop-n-init
loop-n-init c = search (fours, rules)

pub returns-then-m-n-le13 : goal.returns-then-m-n-le13
returns-then-m-n-le13 c = search (fours, rules)

pub returns-then-m-n-le13-2 : goal.returns-then-m-n-le13-2
returns-then-m-n-le13-2 c = search (fours, rules)

pub returns-then-m-n-le13-3 : goal.returns-then-m-n-le13-3
returns-then-m-n-le13-3 c = search (fours, rules)

pub returns-then-m-n-le13-4 : goal.returns-then-m-n-le13-4
returns-then-m-n-le13-4 c = search (fours, rules)

pub loop-n-preserved : goal.loop-n-preserved
loop-n-preserved c = search (fours, rules)

pub returns : goal.returns
returns c = search (fours, rules)
