-- `put_element` meets its contract. The length of the contents gives that of the element, which is too long, does not fit, or is put.
-- Assumes nothing.
use borrow.Author.Rules.{rules}
use Rattle.bat_write.proofs.PutLaws.{putting}
use Rattle.bat_write.proofs.put_element.Goals as goal

pub returns-then-n-gt-MOST_CONTENTS : goal.returns-then-n-gt-MOST_CONTENTS
returns-then-n-gt-MOST_CONTENTS c = search (putting, rules)

pub returns-then-out-whole : goal.returns-then-out-whole
returns-then-out-whole c = search (putting, rules)

pub returns : goal.returns
returns c = search (putting, rules)
