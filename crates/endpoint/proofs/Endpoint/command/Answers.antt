-- `Endpoint::command` meets its contract.
-- Assumes nothing.
use borrow.Author.Rules.{rules}
use Rattle.endpoint.proofs.EventLaws.{in_room_short, suited, unsuited, command_wrong}
use Rattle.endpoint.proofs.Endpoint.command.Goals as goal

pub returns-then-out-lt-LEAST_ROOM : goal.returns-then-out-lt-LEAST_ROOM
returns-then-out-lt-LEAST_ROOM c = search (in_room_short, rules)

pub returns-then-ne : goal.returns-then-ne
returns-then-ne c = search (unsuited, rules)

pub returns-in-None : goal.returns-in-None
returns-in-None c = search (suited, command_wrong, rules)
