-- `constructors::codec_list` meets its contract: the first offence, or that there is none, decides the reading.
-- Assumes nothing.
use Rattle.bat_read.proofs.SimpleLaws.{stands_all}
use Rattle.bat_read.proofs.ConstructorLaws.{lists}
use borrow.Author.Rules.{rules}
use Rattle.bat_read.proofs.constructors.codec_list.Goals as goal

pub returns-then-s-eq0 : goal.returns-then-s-eq0
returns-then-s-eq0 c = search (lists, stands_all, rules)

pub returns-in-Some : goal.returns-in-Some
returns-in-Some c = search (lists, stands_all, rules)

pub returns-in-None : goal.returns-in-None
returns-in-None c = search (lists, stands_all, rules)
