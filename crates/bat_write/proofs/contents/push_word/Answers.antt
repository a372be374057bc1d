-- `contents::push_word` meets its contract. The low eight bits are appended after the high ones.
-- Assumes nothing.
use borrow.Author.Rules.{rules}
use Rattle.octets.proofs.AppendLaws.{octet_then}
use Rattle.bat_write.proofs.contents.push_word.Goals as goal

pub returns : goal.returns
returns c = search (octet_then, rules)
