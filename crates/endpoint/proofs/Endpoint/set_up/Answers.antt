-- `Endpoint::set_up` meets its contract.
-- Assumes nothing.
use borrow.Author.Rules.{rules}
use Rattle.endpoint.proofs.EventLaws.{did_set_up}
use Rattle.endpoint.proofs.Endpoint.set_up.Goals as goal

pub returns : goal.returns
returns c = search (did_set_up, rules)
