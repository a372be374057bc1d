-- `write::push_colon_group` meets its contract. The group is appended after the colon.
-- Assumes nothing.
use borrow.Author.Rules.{rules}
use Rattle.octets.proofs.AppendLaws.{octet_then}
use Rattle.address.proofs.write.push_colon_group.Goals as goal

pub returns : goal.returns
returns c = record { lent = search rules; appends = search (octet_then, rules) }
