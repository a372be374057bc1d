-- `configure::read_host` meets its contract. The second family is tried after the first.
-- Assumes nothing.
use borrow.Author.Rules.{rules}
use Rattle.trace_read.proofs.ConfigureLaws.{hosts}
use Rattle.trace_read.proofs.configure.read_host.Goals as goal

pub returns-in-Some : goal.returns-in-Some
returns-in-Some c = search (hosts, rules)

pub returns-in-None : goal.returns-in-None
returns-in-None c = search (hosts, rules)
