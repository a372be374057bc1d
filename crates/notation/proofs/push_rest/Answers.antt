use borrow.Author.Rules.{rules}
use Rattle.notation.proofs.Laws.{rests}
use Rattle.notation.proofs.push_rest.Goals as goal

pub loop-sp-init : goal.loop-sp-init
loop-sp-init c = record { lent = search rules; appends = search (rests, rules) }

pub loop-sp-preserved : goal.loop-sp-preserved
loop-sp-preserved c = record { lent = search rules; appends = search (rests, rules) }

pub returns : goal.returns
returns c = record { lent = search rules; appends = search (rests, rules) }
