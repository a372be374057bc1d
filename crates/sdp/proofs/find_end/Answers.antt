use borrow.Author.Rules.{rules}
use Rattle.sdp.proofs.EndLaws.{ending}
use Rattle.sdp.proofs.find_end.Goals as goal

pub loop-n-preserved : goal.loop-n-preserved
loop-n-preserved c = search (ending, rules)

pub returns-else-is_plain : goal.returns-else-is_plain
returns-else-is_plain c = search (ending, rules)

pub returns-after-loop-n : goal.returns-after-loop-n
returns-after-loop-n c = search (ending, rules)
