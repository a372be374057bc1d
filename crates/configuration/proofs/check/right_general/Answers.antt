-- `check::right_general` meets its contract. The tests of the code are those of the definition.
-- Assumes nothing.
use native.Mathlib.Omega.{arith}
use Rattle.std.proofs.lemmas.Bool.Decides.{nat_tests}
use Rattle.configuration.specs.Configuration.{right_general}
use Rattle.configuration.specs.Meaning.{configuration_by}
use Rattle.configuration.proofs.check.right_general.Goals as goal

pub returns-then-is_between : goal.returns-then-is_between
unfolding right_general configuration_by
returns-then-is_between c = grind (arith, nat_tests)

pub returns-else-is_between : goal.returns-else-is_between
unfolding right_general configuration_by
returns-else-is_between c = grind (arith, nat_tests)
