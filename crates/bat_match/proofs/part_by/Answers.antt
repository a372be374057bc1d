-- `part_by` meets its contract, for a place and for a refusal.
-- Assumes nothing.
use borrow.Author.Rules.{rules}
use Rattle.bat_match.proofs.PartLaws.{part_chosen, part_refused}
use Rattle.bat_match.proofs.part_by.Goals as goal

pub returns-in-Ok : goal.returns-in-Ok
returns-in-Ok c = search (part_chosen, rules)

pub returns-in-Err : goal.returns-in-Err
returns-in-Err c = search (part_refused, rules)
