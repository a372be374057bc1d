-- `Endpoint::offer` meets its contract.
-- Assumes nothing.
use borrow.Author.Rules.{rules}
use Rattle.endpoint.proofs.EventLaws.{if_writable_octets, if_writable_refused, offered_content}
use Rattle.endpoint.proofs.Endpoint.offer.Goals as goal

pub returns-in-Ok : goal.returns-in-Ok
unfolding Rattle.configuration.specs.Meaning.configuration_by
returns-in-Ok c = search (if_writable_octets, offered_content, rules)

pub returns-in-Err : goal.returns-in-Err
unfolding Rattle.configuration.specs.Meaning.configuration_by
returns-in-Err c = search (if_writable_refused, offered_content, rules)
