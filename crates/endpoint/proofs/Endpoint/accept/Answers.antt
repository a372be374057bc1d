-- `Endpoint::accept` meets its contract.
-- Assumes nothing.
use borrow.Author.Rules.{rules}
use Rattle.endpoint.proofs.MessageLaws.{kept_restated, accept_octets, accept_refused}
use Rattle.endpoint.proofs.Endpoint.accept.Goals as goal

pub request_right-requires : goal.request_right-requires
request_right-requires c = search (kept_restated, rules)

pub returns-in-Ok : goal.returns-in-Ok
returns-in-Ok c = search (accept_octets, rules)

pub returns-in-Err : goal.returns-in-Err
returns-in-Err c = search (accept_refused, rules)
