-- `contents::push_signal` meets its contract. The duration is appended after the element of the type.
-- Assumes nothing.
use borrow.Author.Rules.{rules}
use Rattle.bat_write.proofs.ContentsLaws.{signal_lasts, signal_then}
use Rattle.bat_write.proofs.contents.push_signal.Goals as goal

pub push_lasting-requires : goal.push_lasting-requires
push_lasting-requires c = search (signal_lasts, rules)

pub returns : goal.returns
returns c = search (signal_then, rules)
