-- `configure::read_general` meets its contract. There is one field more than there are tabs.
-- Assumes nothing.
use borrow.Author.Rules.{rules}
use Rattle.trace_read.proofs.ConfigureLaws.{generals}
use Rattle.trace_read.proofs.configure.read_general.Goals as goal

pub returns-then-separators-ne6 : goal.returns-then-separators-ne6
returns-then-separators-ne6 c = search (generals, rules)

pub returns-then-equals : goal.returns-then-equals
returns-then-equals c = search (generals, rules)

pub returns : goal.returns
returns c = search (generals, rules)
