-- `words::is_digit` meets its contract: the kit's range is the definition's.
-- Assumes nothing.
use borrow.Author.Rules.{rules}
use Rattle.octets.specs.Decimal.{is_digit}
use Rattle.octets.proofs.words.is_digit.Goals as goal

pub returns : goal.returns
unfolding is_digit
returns c = search rules
