-- `payload_for` meets its contract.
-- Assumes nothing.
use Rattle.std.proofs.Common.{rules}
use Rattle.judge.proofs.CommandLaws.{payload_fixed, payload_named}
use Rattle.judge.proofs.commands.payload_for.Goals as goal

pub returns-in-Payload : goal.returns-in-Payload
returns-in-Payload c = search (payload_fixed, rules)

pub overflow_cast-result : goal.overflow_cast-result
overflow_cast-result c = search (payload_named, rules)
