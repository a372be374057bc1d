-- `write::hex_digit` meets its contract. The test of the code is that of the definition.
-- Assumes nothing.
use borrow.Author.Rules.{rules}
use Rattle.octets.proofs.Pick.{picks}
use Rattle.address.specs.Canonical.{low_digit}
use Rattle.address.proofs.write.hex_digit.Goals as goal

pub returns-then-d-lt10 : goal.returns-then-d-lt10
unfolding low_digit
returns-then-d-lt10 c = search (picks, rules)

pub returns : goal.returns
unfolding low_digit
returns c = search (picks, rules)
