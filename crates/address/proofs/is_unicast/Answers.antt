-- `is_unicast` meets its contract. The tests of the code are those of the address's family.
-- Assumes nothing.
use borrow.Author.Rules.{rules}
use Rattle.octets.proofs.Pick.{picks}
use Rattle.address.specs.Kinds.{is_unicast}
use Rattle.address.proofs.KindLaws.{unicast_four, unicast_six}
use Rattle.address.proofs.is_unicast.Goals as goal

pub returns-then-high-eq255 : goal.returns-then-high-eq255
unfolding is_unicast
returns-then-high-eq255 c = search (unicast_six, picks, rules)

pub returns-then-high-ne0 : goal.returns-then-high-ne0
unfolding is_unicast
returns-then-high-ne0 c = search (unicast_six, picks, rules)

pub returns-then-first-ge1 : goal.returns-then-first-ge1
unfolding is_unicast
returns-then-first-ge1 c = search (unicast_four, picks, rules)

pub returns-else-first-ge1 : goal.returns-else-first-ge1
unfolding is_unicast
returns-else-first-ge1 c = search (unicast_four, picks, rules)

pub returns-else-high-ne0 : goal.returns-else-high-ne0
unfolding is_unicast
returns-else-high-ne0 c = search (unicast_six, picks, rules)
