-- `gather` meets its contract: the octets before the first LF are appended, and where it is says what is answered.
-- Assumes nothing.
use borrow.Author.Rules.{rules}
use Rattle.line_input.proofs.GatherLaws.{gathering}
use Rattle.line_input.proofs.gather.Goals as goal

pub overflow_sub-n : goal.overflow_sub-n
overflow_sub-n c = search (gathering, rules)

pub returns-then-e-part : goal.returns-then-e-part
returns-then-e-part c = search (gathering, rules)

pub returns : goal.returns
returns c = search (gathering, rules)
