-- `if_unicast` meets its contract. It is the definition.
-- Assumes nothing.
use borrow.Author.Rules.{rules}
use Rattle.octets.proofs.Pick.{picks, flags}
use Rattle.address.specs.Kinds.{if_unicast}
use Rattle.address.proofs.if_unicast.Goals as goal

pub returns : goal.returns
unfolding if_unicast
returns c = search (picks, flags, rules)
