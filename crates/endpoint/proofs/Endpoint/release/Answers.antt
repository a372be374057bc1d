-- `Endpoint::release` meets its contract.
-- Assumes nothing.
use borrow.Author.Rules.{rules}
use Rattle.endpoint.proofs.EventLaws.{short_release, idle_release, busy_release}
use Rattle.endpoint.proofs.Endpoint.release.Goals as goal

pub returns-then-out-lt-LEAST_ROOM : goal.returns-then-out-lt-LEAST_ROOM
returns-then-out-lt-LEAST_ROOM c = search (short_release, rules)

pub returns-then-eq : goal.returns-then-eq
returns-then-eq c = search (idle_release, rules)

pub returns : goal.returns
returns c = search (busy_release, rules)
