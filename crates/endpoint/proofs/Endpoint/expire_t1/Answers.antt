-- `Endpoint::expire_t1` meets its contract.
-- Assumes nothing.
use borrow.Author.Rules.{rules}
use Rattle.endpoint.proofs.EventLaws.{did_t1}
use Rattle.endpoint.proofs.Endpoint.expire_t1.Goals as goal

pub returns : goal.returns
returns c = search (did_t1, rules)
