-- `Endpoint::reject` meets its contract.
-- Assumes nothing.
use borrow.Author.Rules.{rules}
use Rattle.endpoint.proofs.EventLaws.{if_writable_octets, if_writable_refused}
use Rattle.endpoint.proofs.Endpoint.reject.Goals as goal

pub returns-in-Ok : goal.returns-in-Ok
unfolding Rattle.configuration.specs.Meaning.configuration_by Rattle.ipbcp.specs.Meaning.content_in
returns-in-Ok c = search (if_writable_octets, rules)

pub returns-in-Err : goal.returns-in-Err
unfolding Rattle.configuration.specs.Meaning.configuration_by Rattle.ipbcp.specs.Meaning.content_in
returns-in-Err c = search (if_writable_refused, rules)
