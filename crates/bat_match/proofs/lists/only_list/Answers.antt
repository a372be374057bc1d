-- `lists::only_list` meets its contract: each way that the code leaves is a case of what the one element of a string can be.
-- Assumes nothing.
use borrow.Author.Rules.{rules}
use Rattle.bat_match.specs.Private.{OneListIs}
use Rattle.bat_match.proofs.ListLaws.{onlies}
use Rattle.bat_match.proofs.lists.only_list.Goals as goal

pub returns-in_default : goal.returns-in_default
unfolding OneListIs
returns-in_default c = search (onlies, rules)

pub returns-then-f-ne4 : goal.returns-then-f-ne4
unfolding OneListIs
returns-then-f-ne4 c = search (onlies, rules)

pub returns-in-Ok : goal.returns-in-Ok
unfolding OneListIs
returns-in-Ok c = search (onlies, rules)

pub returns-in-Err : goal.returns-in-Err
unfolding OneListIs
returns-in-Err c = search (onlies, rules)

pub invariant_of-result : goal.invariant_of-result
invariant_of-result c = record { singles = search (onlies, rules) }
