-- `element::push_counted` meets its contract. The contents are appended after the compatibility octet.
-- Assumes nothing.
use borrow.Author.Rules.{rules}
use Rattle.octets.proofs.AppendLaws.{octet_then}
use Rattle.bat_write.proofs.element.push_counted.Goals as goal

pub returns : goal.returns
returns c = search (octet_then, rules)
