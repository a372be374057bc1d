-- `append::push_number_then` meets its contract. The octet is appended after the number.
-- Assumes nothing.
use borrow.Author.Rules.{rules}
use Rattle.octets.proofs.AppendLaws.{append_then}
use Rattle.octets.proofs.append.push_number_then.Goals as goal

pub returns : goal.returns
returns c = search (append_then, rules)
