-- `hex::hex_digit` meets its contract. The test of the code is that of the definition.
-- Assumes nothing.
use borrow.Author.Rules.{rules}
use Rattle.octets.specs.Hex.{hex_digit}
use Rattle.octets.proofs.Pick.{picks}
use Rattle.octets.proofs.hex.hex_digit.Goals as goal

pub returns-then-d-lt10 : goal.returns-then-d-lt10
unfolding hex_digit
returns-then-d-lt10 c = search (picks, rules)

pub returns : goal.returns
unfolding hex_digit
returns c = search (picks, rules)
