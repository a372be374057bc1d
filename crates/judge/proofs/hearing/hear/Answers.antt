-- `hear` meets its contract.
-- Assumes nothing.
use borrow.Author.Rules.{rules}
use Rattle.judge.proofs.HearingLaws.{read_wrong, read_typed, hear_refused}
use Rattle.judge.proofs.hearing.hear.Goals as goal

pub hear_wrong-requires : goal.hear_wrong-requires
hear_wrong-requires c = search (read_wrong, rules)

pub returns-in-Ok-Typed : goal.returns-in-Ok-Typed
returns-in-Ok-Typed c = c.hear_typed.ensures c.args.m.now c.in-Ok-Typed.field-0-0 (search (read_typed, rules))

pub returns-in_default : goal.returns-in_default
returns-in_default c = search (hear_refused, rules)
