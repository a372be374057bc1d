-- `write::push_two_more` meets its contract. The two numbers are appended after the dot.
-- Assumes nothing.
use borrow.Author.Rules.{rules}
use Rattle.octets.proofs.AppendLaws.{octet_then}
use Rattle.address.proofs.write.push_two_more.Goals as goal

pub returns : goal.returns
returns c = record { lent = search rules; appends = search (octet_then, rules) }
