-- `Endpoint::message` meets its contract.
-- Assumes nothing.
use borrow.Author.Rules.{rules}
use Rattle.endpoint.proofs.MessageLaws.{did_short, request_readable, accepted_readable, did_unreadable, did_other, did_request, did_accepted, did_declined}
use Rattle.endpoint.proofs.Endpoint.message.Goals as goal

pub returns-then-out-lt-LEAST_ROOM : goal.returns-then-out-lt-LEAST_ROOM
returns-then-out-lt-LEAST_ROOM c = search (did_short, rules)

pub hear_request-requires-clause-readable : goal.hear_request-requires-clause-readable
hear_request-requires-clause-readable c = request_readable c.args.self c.args.m.now c.hear.result c.hear.ensures c.in-Request.description c.in-Request.is

pub hear_accepted-requires : goal.hear_accepted-requires
hear_accepted-requires c = accepted_readable c.args.self c.args.m.now c.hear.result c.hear.ensures c.in-Accepted.description c.in-Accepted.is

pub returns-in-Unreadable : goal.returns-in-Unreadable
returns-in-Unreadable c = search (did_unreadable, rules)

pub returns-in-OtherRequest : goal.returns-in-OtherRequest
returns-in-OtherRequest c = search (did_other, rules)

pub returns-in-Request : goal.returns-in-Request
returns-in-Request c = search (did_request, rules)

pub returns-in-Accepted : goal.returns-in-Accepted
returns-in-Accepted c = search (did_accepted, rules)

pub returns-in-Declined : goal.returns-in-Declined
returns-in-Declined c = search (did_declined, rules)
