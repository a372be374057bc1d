-- `write_selected` meets its contract. Octets with an offence are no codec list, and one without an octet to write has no codec; any other is in range.
-- Assumes nothing.
use Rattle.bat_write.proofs.SelectedLaws.{selected_offence, selected_no, selected_yes}
use borrow.Author.Rules.{rules}
use Rattle.bat_write.proofs.write_selected.Goals as goal

pub returns-then-is_some : goal.returns-then-is_some
returns-then-is_some c = search (selected_offence, rules)

pub returns-then-n-eq0 : goal.returns-then-n-eq0
returns-then-n-eq0 c = search (selected_no, rules)

pub returns : goal.returns
returns c = search (selected_yes, rules)
