-- `hear_described` meets its contract.
-- Assumes nothing.
use borrow.Author.Rules.{rules}
use Rattle.judge.proofs.HearingLaws.{described_request, described_accepted, described_declined}
use Rattle.judge.proofs.hearing.hear_described.Goals as goal

pub returns-in-Request : goal.returns-in-Request
returns-in-Request c = search (described_request, rules)

pub returns-in-Accepted : goal.returns-in-Accepted
returns-in-Accepted c = search (described_accepted, rules)

pub returns-in-Confused : goal.returns-in-Confused
returns-in-Confused c = search (described_declined, rules)
