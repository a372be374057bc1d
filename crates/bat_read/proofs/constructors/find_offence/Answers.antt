use Rattle.bat.proofs.CountLaws.{places}
use Rattle.bat_read.proofs.ConstructorLaws.{offence_start, offences}
use borrow.Author.Rules.{rules}
use Rattle.bat_read.proofs.constructors.find_offence.Goals as goal

pub loop-at-init : goal.loop-at-init
loop-at-init c = search (offence_start, rules)

pub overflow_add-at : goal.overflow_add-at
overflow_add-at c = search (places, rules)

pub loop-at-smaller : goal.loop-at-smaller
loop-at-smaller c = search (places, rules)

pub returns-in_default : goal.returns-in_default
returns-in_default c = search (offences, rules)

pub returns-in_default-2 : goal.returns-in_default-2
returns-in_default-2 c = search (offences, rules)

pub returns-then-not-is_single : goal.returns-then-not-is_single
returns-then-not-is_single c = search (offences, rules)

pub loop-at-preserved : goal.loop-at-preserved
loop-at-preserved c = search (offences, rules)

pub returns : goal.returns
returns c = search (offences, rules)
