use native.Mathlib.Omega.{arith}
use Rattle.bat.specs.JudgingMeaning.{data_number}
use Rattle.bat_read.proofs.OutcomeLaws.{outcomes}
use borrow.Author.Rules.{rules}
use Rattle.bat_read.proofs.outcome.Goals as goal

pub loop-x-init : goal.loop-x-init
unfolding data_number
loop-x-init c = omega arith

pub loop-x-smaller : goal.loop-x-smaller
loop-x-smaller c = search (outcomes, rules)

pub loop-x-preserved : goal.loop-x-preserved
loop-x-preserved c = search (outcomes, rules)

pub returns-in_default : goal.returns-in_default
returns-in_default c = search (outcomes, rules)

pub returns-in_default-2 : goal.returns-in_default-2
returns-in_default-2 c = search (outcomes, rules)
