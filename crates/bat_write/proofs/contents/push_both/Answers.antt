-- `contents::push_both` meets its contract. The second text is appended after the first.
-- Assumes nothing.
use borrow.Author.Rules.{rules}
use Rattle.octets.proofs.AppendLaws.{append_then}
use Rattle.bat_write.proofs.contents.push_both.Goals as goal

pub returns : goal.returns
returns c = search (append_then, rules)
