-- `Endpoint::change` meets its contract.
-- Assumes nothing.
use borrow.Author.Rules.{rules}
use Rattle.endpoint.proofs.EventLaws.{did_change}
use Rattle.endpoint.proofs.Endpoint.change.Goals as goal

pub returns : goal.returns
returns c = search (did_change, rules)
