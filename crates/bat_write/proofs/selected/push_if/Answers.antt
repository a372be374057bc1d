-- `selected::push_if` meets its contract. A codec that is not selected adds nothing.
-- Assumes nothing.
use Rattle.bat_write.proofs.SelectedLaws.{if_selected, if_unselected}
use borrow.Author.Rules.{rules}
use Rattle.bat_write.proofs.selected.push_if.Goals as goal

pub returns-then-flag-eq1 : goal.returns-then-flag-eq1
returns-then-flag-eq1 c = search (if_selected, rules)

pub returns : goal.returns
returns c = search (if_unselected, rules)
