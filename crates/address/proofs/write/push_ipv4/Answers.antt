-- `write::push_ipv4` meets its contract. The last two numbers are appended after the first two.
-- Assumes nothing.
use borrow.Author.Rules.{rules}
use Rattle.address.specs.Canonical.{dotted_numbers, ipv4_text}
use Rattle.address.proofs.WriteLaws.{four_pushed}
use Rattle.address.proofs.write.push_ipv4.Goals as goal

pub returns : goal.returns
unfolding ipv4_text dotted_numbers
returns c = record { lent = search rules; appends = search (four_pushed, rules) }
