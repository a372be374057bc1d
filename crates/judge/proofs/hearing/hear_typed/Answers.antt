-- `hear_typed` meets its contract.
-- Assumes nothing.
use borrow.Author.Rules.{rules}
use Rattle.judge.proofs.HearingLaws.{typed_request, typed_accepted, typed_declined}
use Rattle.judge.proofs.hearing.hear_typed.Goals as goal

pub returns-in-Request : goal.returns-in-Request
returns-in-Request c = search (typed_request, rules)

pub returns-in-Accepted : goal.returns-in-Accepted
returns-in-Accepted c = search (typed_accepted, rules)

pub returns-in-Confused : goal.returns-in-Confused
returns-in-Confused c = search (typed_declined, rules)
