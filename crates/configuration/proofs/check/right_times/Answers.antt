-- `check::right_times` meets its contract: an octet is at most 255.
-- Assumes nothing.
use native.Mathlib.Omega.{arith}
use Rattle.std.proofs.lemmas.Bool.Decides.{nat_tests}
use Rattle.configuration.specs.Configuration.{right_times}
use Rattle.configuration.proofs.check.right_times.Goals as goal

pub returns-then-least-ge1 : goal.returns-then-least-ge1
unfolding right_times
returns-then-least-ge1 c = grind (arith, nat_tests)

pub returns-else-least-ge1 : goal.returns-else-least-ge1
unfolding right_times
returns-else-least-ge1 c = grind (arith, nat_tests)
