-- `write::push_ipv6` meets its contract. The groups of the array are those of the two halves.
-- Assumes nothing.
use borrow.Author.Rules.{rules}
use Rattle.address.specs.Canonical.{four_groups, groups_of, ipv6_text}
use Rattle.address.proofs.write.push_ipv6.Goals as goal

pub returns : goal.returns
unfolding ipv6_text groups_of four_groups
returns c = record { lent = search rules; appends = search rules }
