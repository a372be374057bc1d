use borrow.Author.Rules.{rules}
use Rattle.octets.proofs.SplitLaws.{fours}
use Rattle.octets.proofs.parts.pass_fours.Goals as goal

pub returns-then-s-n : goal.returns-then-s-n
returns-then-s-n c = search (fours, rules)

pub returns-then-s-n-2 : goal.returns-then-s-n-2
returns-then-s-n-2 c = search (fours, rules)

pub returns-then-s-n-3 : goal.returns-then-s-n-3
returns-then-s-n-3 c = search (fours, rules)

pub returns-then-s-n-4 : goal.returns-then-s-n-4
returns-then-s-n-4 c = search (fours, rules)

pub loop-n-preserved : goal.loop-n-preserved
loop-n-preserved c = search (fours, rules)

pub returns : goal.returns
returns c = search (fours, rules)
