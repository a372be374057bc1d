-- `Endpoint::hear_other` meets its contract.
-- Assumes nothing.
use borrow.Author.Rules.{rules}
use Rattle.endpoint.proofs.MessageLaws.{heard_ignored}
use Rattle.endpoint.proofs.Endpoint.hear_other.Goals as goal

pub returns-then-ignores : goal.returns-then-ignores
returns-then-ignores c = search (heard_ignored, rules)
