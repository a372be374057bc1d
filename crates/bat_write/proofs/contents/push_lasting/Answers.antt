-- `contents::push_lasting` meets its contract. Without a duration nothing is appended, otherwise the element of its two octets.
-- Assumes nothing.
use borrow.Author.Rules.{rules}
use Rattle.bat_write.proofs.ContentsLaws.{lasting_none, lasting_some}
use Rattle.bat_write.proofs.contents.push_lasting.Goals as goal

pub returns-in-None : goal.returns-in-None
returns-in-None c = search (lasting_none, rules)

pub returns-in-Some : goal.returns-in-Some
returns-in-Some c = search (lasting_some, rules)
