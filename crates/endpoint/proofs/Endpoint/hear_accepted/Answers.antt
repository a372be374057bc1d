-- `Endpoint::hear_accepted` meets its contract.
-- Assumes nothing.
use borrow.Author.Rules.{rules}
use Rattle.endpoint.proofs.MessageLaws.{heard_unawaited, kept_inside, accepted_right, accepted_wrong, accepted_none}
use Rattle.endpoint.proofs.Endpoint.hear_accepted.Goals as goal
use Rattle.endpoint.proofs.Endpoint.hear_accepted.Goals.{in_default-via-in-Some+else-right_accepted, in_default-via-in_default}

pub returns-then-not-awaits : goal.returns-then-not-awaits
returns-then-not-awaits c = search (heard_unawaited, rules)

pub agreed-requires : goal.agreed-requires
agreed-requires c = search (kept_inside, rules)

pub returns-in-Some : goal.returns-in-Some
returns-in-Some c = search (accepted_right, rules)

pub returns-in_default : goal.returns-in_default
returns-in_default c =
    elim c.in_default.branch [
      | in_default-via-in-Some+else-right_accepted w ↦ search (accepted_wrong, rules)
      | in_default-via-in_default w ↦ search (accepted_none, rules)
    ]
