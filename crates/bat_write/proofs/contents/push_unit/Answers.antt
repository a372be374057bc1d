-- `contents::push_unit` meets its contract. Both ids are appended after the length.
-- Assumes nothing.
use borrow.Author.Rules.{rules}
use Rattle.octets.proofs.AppendLaws.{octet_then}
use Rattle.bat_write.proofs.contents.push_unit.Goals as goal

pub returns : goal.returns
returns c = search (octet_then, rules)
