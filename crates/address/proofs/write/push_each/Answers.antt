use borrow.Author.Rules.{rules}
use Rattle.address.proofs.WriteLaws.{each_pushed}
use Rattle.address.proofs.write.push_each.Goals as goal

pub loop-g-init : goal.loop-g-init
loop-g-init c = record { lent = search rules; appends = search (each_pushed, rules) }

pub loop-g-preserved : goal.loop-g-preserved
loop-g-preserved c = record { lent = search rules; appends = search (each_pushed, rules) }

pub returns : goal.returns
returns c = record { lent = search rules; appends = search (each_pushed, rules) }
