-- `write::better_run` meets its contract. The test of the code is that of the definition.
-- Assumes nothing.
use borrow.Author.Rules.{rules}
use Rattle.octets.proofs.Pick.{picks}
use Rattle.address.specs.Canonical.{better}
use Rattle.address.proofs.write.better_run.Goals as goal

pub returns-then-n-z : goal.returns-then-n-z
unfolding better
returns-then-n-z c = search (picks, rules)

pub returns : goal.returns
unfolding better
returns c = search (picks, rules)
