-- `Endpoint::failed_if` meets its contract.
-- Assumes nothing.
use borrow.Author.Rules.{rules}
use Rattle.endpoint.proofs.EventLaws.{silent_true, silent_false}
use Rattle.endpoint.proofs.Endpoint.failed_if.Goals as goal

pub returns-then-awaited : goal.returns-then-awaited
returns-then-awaited c = search (silent_true, rules)

pub returns : goal.returns
returns c = search (silent_false, rules)
