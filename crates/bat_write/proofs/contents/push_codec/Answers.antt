-- `contents::push_codec` meets its contract. The text of the span is appended after the organisation.
-- Assumes nothing.
use borrow.Author.Rules.{rules}
use Rattle.bat_write.proofs.ContentsLaws.{octet_text}
use Rattle.bat_write.proofs.contents.push_codec.Goals as goal

pub returns : goal.returns
returns c = search (octet_text, rules)
