use borrow.Author.Rules.{rules}
use Rattle.octets.proofs.AppendLaws.{push_none, push_start, push_turn, push_some}
use Rattle.octets.proofs.append.push.Goals as goal

pub returns-then-out-at : goal.returns-then-out-at
returns-then-out-at c = search (push_none, rules)

pub loop-j-init : goal.loop-j-init
loop-j-init c = push_start _ _ _

pub loop-j-preserved : goal.loop-j-preserved
loop-j-preserved c = push_turn _ _ _ _ _ _ (search rules) c.min-n.ensures c.loop-j.invariant (search rules) (search rules)

pub returns : goal.returns
returns c = push_some _ _ _ _ _ _ (search rules) c.min-n.ensures c.loop-j.invariant (search rules)
