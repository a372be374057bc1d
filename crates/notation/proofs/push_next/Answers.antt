-- `push_next` meets its contract. The text is appended after the comma.
-- Assumes nothing.
use borrow.Author.Rules.{rules}
use Rattle.octets.proofs.AppendLaws.{octet_then}
use Rattle.notation.proofs.push_next.Goals as goal

pub returns : goal.returns
returns c = record { lent = search rules; appends = search (octet_then, rules) }
