use borrow.Author.Rules.{rules}
use Rattle.address.specs.Canonical.{longest_run}
use Rattle.address.proofs.RunLaws.{longest_found}
use Rattle.address.proofs.write.longest.Goals as goal

pub loop-i-init : goal.loop-i-init
unfolding longest_run
loop-i-init c = search rules

pub loop-i-preserved : goal.loop-i-preserved
loop-i-preserved c = search (longest_found, rules)

pub returns : goal.returns
returns c = search (longest_found, rules)
