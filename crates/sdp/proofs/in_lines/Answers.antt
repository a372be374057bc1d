use borrow.Author.Rules.{rules}
use Rattle.sdp.proofs.CutLaws.{walk}
use Rattle.sdp.proofs.in_lines.Goals as goal

pub returns-in_default : goal.returns-in_default
returns-in_default c = search (walk, rules)

pub loop-i-smaller : goal.loop-i-smaller
loop-i-smaller c = search (walk, rules)

pub loop-i-preserved : goal.loop-i-preserved
loop-i-preserved c = search (walk, rules)

pub returns : goal.returns
returns c = search (walk, rules)
