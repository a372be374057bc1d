use Rattle.bat_read.proofs.OutcomeLaws.{seen_fits, seen_falls}
use Rattle.bat_read.proofs.ListedLaws.{list_finds, list_next, list_more}
use Rattle.bat.proofs.CountLaws.{ok_is}
use borrow.Author.Rules.{rules}
use Rattle.bat_read.proofs.next_listed.Goals as goal

pub overflow_add-at : goal.overflow_add-at
overflow_add-at c = search (seen_fits, ok_is, rules)

pub returns-in-Some : goal.returns-in-Some
returns-in-Some c = search (list_next, c.lists.ensures, ok_is, rules)

pub loop-x-smaller : goal.loop-x-smaller
loop-x-smaller c = search (seen_falls, ok_is, rules)

pub loop-x-preserved : goal.loop-x-preserved
loop-x-preserved c = search (list_more, c.lists.ensures, ok_is, rules)

pub returns-in_default : goal.returns-in_default
returns-in_default c = search (list_finds, rules)

pub returns-in_default-2 : goal.returns-in_default-2
returns-in_default-2 c = search (list_finds, rules)
