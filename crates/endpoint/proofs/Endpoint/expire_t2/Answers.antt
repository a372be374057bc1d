-- `Endpoint::expire_t2` meets its contract.
-- Assumes nothing.
use borrow.Author.Rules.{rules}
use Rattle.endpoint.proofs.EventLaws.{did_t2}
use Rattle.endpoint.proofs.Endpoint.expire_t2.Goals as goal

pub returns : goal.returns
returns c = search (did_t2, rules)
