-- `configure::read_name` meets its contract. The name is at the front of its array.
-- Assumes nothing.
use borrow.Author.Rules.{rules}
use Rattle.trace_read.proofs.CodecLaws.{names}
use Rattle.trace_read.proofs.configure.read_name.Goals as goal

pub returns-then-t-gt-MOST_NAME : goal.returns-then-t-gt-MOST_NAME
returns-then-t-gt-MOST_NAME c = search (names, rules)

pub returns : goal.returns
returns c = search (names, rules)
