-- `ipv6::push` meets its contract. It is the definition.
-- Assumes nothing.
use borrow.Author.Rules.{rules}
use Rattle.address.specs.Private.{pushed}
use Rattle.address.proofs.ipv6.push.Goals as goal

pub returns : goal.returns
unfolding pushed
returns c = search rules
