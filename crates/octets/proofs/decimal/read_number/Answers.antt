-- `decimal::read_number` meets its contract. The tests of the code are those of `shortest`, and the digits give the number.
-- Assumes nothing.
use borrow.Author.Rules.{rules}
use Rattle.octets.proofs.DecimalLaws.{reading}
use Rattle.octets.proofs.decimal.read_number.Goals as goal

pub returns-then-s-eq0 : goal.returns-then-s-eq0
returns-then-s-eq0 c = search (reading, rules)

pub returns-then-s-lt2 : goal.returns-then-s-lt2
returns-then-s-lt2 c = search (reading, rules)

pub returns-then-s-eq48 : goal.returns-then-s-eq48
returns-then-s-eq48 c = search (reading, rules)

pub returns : goal.returns
returns c = search (reading, rules)
