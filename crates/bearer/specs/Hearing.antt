-- Document 01, "One endpoint": what a message is to an endpoint. During an event the numbers 8, 9 and 10 do not refuse: a message
-- with 8 or 9 is discarded, and a Request or Accepted with 10 names no bearer.
use Rattle.std.specs.Prelude.{ℕ, List, cond, length, eqb, leb, Some, None}
use Rattle.std.specs.Prelude as code
use Rattle.std.proofs.Math.Option.{Option, none, some}
use Rattle.ipbcp.specs.declared.MessageType.{MessageType}
use Rattle.ipbcp.specs.declared.MessageType.TheVariants as kind
use Rattle.ipbcp.specs.declared.Head.{Head}
use Rattle.ipbcp.specs.Types.{head_in}
use Rattle.ipbcp.specs.Reading.{Reading, refused, typed, described, most_read, read_message}
use Rattle.bearer.specs.Bearer.{Bearer}

pub data Heard : Type 0 where
  -- number 8 or 9
  nothing_heard : Heard
  -- a Request of another version
  other_version_heard : Heard
  -- a Request of version 1, and the bearer that it names if it can be read
  request_heard : Option Bearer → Heard
  -- an Accepted of any version, and the bearer that it names if it is of version 1 and can be read
  accepted_heard : Option Bearer → Heard
  -- a Rejected or a Confused, of any version
  decline_heard : Heard

-- the bearer that a message names, if it can be read
unfoldable pub bearer_in : Reading → Option Bearer
bearer_in (refused e) = none
bearer_in (typed version k) = none
bearer_in (described k a s) = some (record { address = a; stream = s })

-- by type and version; r is what the whole message was read as
abbrev pub heard_typed : MessageType → ℕ → Reading → Heard
heard_typed kind.Request version r = cond (eqb version 1) (request_heard (bearer_in r)) other_version_heard
heard_typed kind.Accepted version r = accepted_heard (bearer_in r)
heard_typed kind.Confused version r = decline_heard
heard_typed kind.Rejected version r = decline_heard

-- the same, if type and version can be read
unfoldable pub heard_by : code.Option Head → Reading → Heard
heard_by None r = nothing_heard
heard_by (Some h) r = heard_typed h.kind h.version r

-- what the message m is; number 8 comes first
unfoldable pub heard : List ℕ → Heard
heard m = cond (leb (length m) most_read) (heard_by (head_in m) (read_message m)) nothing_heard
