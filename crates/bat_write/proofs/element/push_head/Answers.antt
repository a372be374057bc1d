-- `element::push_head` meets its contract. The length is appended after the identifier.
-- Assumes nothing.
use borrow.Author.Rules.{rules}
use Rattle.octets.proofs.AppendLaws.{octet_then}
use Rattle.bat_write.proofs.element.push_head.Goals as goal

pub returns : goal.returns
returns c = search (octet_then, rules)
