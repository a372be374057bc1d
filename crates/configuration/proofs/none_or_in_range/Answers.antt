-- `none_or_in_range` meets its contract. The tests of the code are those of the definition.
-- Assumes nothing.
use native.Mathlib.Omega.{arith}
use Rattle.std.proofs.lemmas.Bool.Decides.{nat_tests}
use Rattle.configuration.specs.Configuration.{ptime_none_or_in_range}
use Rattle.configuration.specs.Meaning.{configuration_by}
use Rattle.configuration.proofs.none_or_in_range.Goals as goal

pub returns-then-n-eq0 : goal.returns-then-n-eq0
unfolding configuration_by ptime_none_or_in_range
returns-then-n-eq0 c = grind (arith, nat_tests)

pub returns-then-c-n : goal.returns-then-c-n
unfolding configuration_by ptime_none_or_in_range
returns-then-c-n c = grind (arith, nat_tests)

pub returns-else-c-n : goal.returns-else-c-n
unfolding configuration_by ptime_none_or_in_range
returns-else-c-n c = grind (arith, nat_tests)
