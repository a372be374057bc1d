-- `steps::step_at` meets its contract: an element that is whole at the place ends inside the data; otherwise the place stays.
-- Assumes nothing.
use Rattle.bat_table.proofs.StepLaws.{steps}
use borrow.Author.Rules.{rules}
use Rattle.bat_table.proofs.steps.step_at.Goals as goal

pub returns-in_default : goal.returns-in_default
returns-in_default c = search (steps, rules)

pub returns-in_default-2 : goal.returns-in_default-2
returns-in_default-2 c = search (steps, rules)

pub overflow_add-result : goal.overflow_add-result
overflow_add-result c = search (steps, rules)

pub returns : goal.returns
returns c = search (steps, rules)
