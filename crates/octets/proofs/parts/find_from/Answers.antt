use borrow.Author.Rules.{rules}
use Rattle.octets.proofs.SplitLaws.{finding}
use Rattle.octets.proofs.parts.find_from.Goals as goal

pub returns-then-s-i : goal.returns-then-s-i
returns-then-s-i c = search (finding, rules)

pub loop-i-preserved : goal.loop-i-preserved
loop-i-preserved c = search (finding, rules)

pub returns : goal.returns
returns c = search (finding, rules)
