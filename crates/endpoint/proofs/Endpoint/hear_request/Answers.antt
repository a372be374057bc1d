-- `Endpoint::hear_request` meets its contract.
-- Assumes nothing.
use borrow.Author.Rules.{rules}
use Rattle.endpoint.proofs.MessageLaws.{heard_ignored}
use Rattle.endpoint.proofs.Endpoint.hear_request.Goals as goal

pub returns-then-ignores : goal.returns-then-ignores
returns-then-ignores c = search (heard_ignored, rules)
