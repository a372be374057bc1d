-- `ipv6::both_colons` meets its contract. The tests of the code are those of the definition.
-- Assumes nothing.
use borrow.Author.Rules.{rules}
use Rattle.octets.proofs.Pick.{picks}
use Rattle.address.proofs.ipv6.both_colons.Goals as goal

pub returns-then-a-eq58 : goal.returns-then-a-eq58
returns-then-a-eq58 c = search (picks, rules)

pub returns-else-a-eq58 : goal.returns-else-a-eq58
returns-else-a-eq58 c = search (picks, rules)
