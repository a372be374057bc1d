-- `Endpoint::expire` meets its contract.
-- Assumes nothing.
use borrow.Author.Rules.{rules}
use Rattle.endpoint.proofs.EventLaws.{in_room_short, in_room_silent}
use Rattle.endpoint.proofs.Endpoint.expire.Goals as goal

pub returns-then-out-lt-LEAST_ROOM : goal.returns-then-out-lt-LEAST_ROOM
returns-then-out-lt-LEAST_ROOM c = search (in_room_short, rules)

pub returns : goal.returns
returns c = search (in_room_silent, rules)
