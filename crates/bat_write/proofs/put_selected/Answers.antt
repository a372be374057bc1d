-- `put_selected` meets its contract. The number of octets gives that of the element, which is too long, does not fit, or is put field by field.
-- Assumes nothing.
use Rattle.bat_write.proofs.SelectedLaws.{lists}
use borrow.Author.Rules.{rules}
use Rattle.bat_write.proofs.put_selected.Goals as goal

pub returns-then-n-gt-MOST_CONTENTS : goal.returns-then-n-gt-MOST_CONTENTS
returns-then-n-gt-MOST_CONTENTS c = search (lists, rules)

pub returns-then-out-whole : goal.returns-then-out-whole
returns-then-out-whole c = search (lists, rules)

pub returns : goal.returns
returns c = search (lists, rules)
