-- What the structs and enums of this crate stand for. The texts of a stream are in the array beside it, those of a message in the
-- message.
use Rattle.std.specs.Prelude.{ℕ, ◌+◌, List, Bool, replicate}
use Rattle.std.specs.Prelude as code
use Rattle.std.specs.Borrow.{Bor}
use Rattle.std.proofs.Math.Option.{Option, none, some, map}
use Rattle.octets.specs.Append.{appended}
use Rattle.media.specs.declared.Stream.{Stream as Places}
use Rattle.media.specs.Stream.{Stream}
use Rattle.media.specs.Meaning.{stream_by, stream_inside, stream_in}
use Rattle.ipbcp.specs.declared.Description.{Description}
use Rattle.ipbcp.specs.Reading.{most_read}
use Rattle.configuration.specs.Configuration.{most_name}
use Rattle.bearer.specs.declared.Request.{Request}
use Rattle.bearer.specs.declared.Bearer as held
use Rattle.bearer.specs.declared.Heard as answer
use Rattle.bearer.specs.declared.Heard.TheVariants as heard
use Rattle.bearer.specs.Bearer.{Bearer}
use Rattle.bearer.specs.Hearing.{Heard, nothing_heard, other_version_heard, request_heard, accepted_heard, decline_heard}

-- room for `audio`, `RTP/AVP` and an encoding name
abbrev pub most_offered : ℕ
most_offered = 12 + most_name

unfoldable pub request_by : Request → Stream
request_by q = stream_by q.text q.stream

unfoldable pub bearer_by : held.Bearer → Bearer
bearer_by b = record { address = b.address; stream = stream_by b.text b.stream }

-- their texts lie inside the array beside them
abbrev pub request_inside : Request → Bool
request_inside q = stream_inside q.text q.stream

abbrev pub bearer_inside : held.Bearer → Bool
bearer_inside b = stream_inside b.text b.stream

-- the bearer that a message names, whose texts are in the message
unfoldable pub named_by : List ℕ → Description → Bearer
named_by m d = record { address = d.address; stream = stream_by m d.stream }

-- the same of a message that may name none
abbrev pub named_if : List ℕ → code.Option Description → Option Bearer
named_if m code.None = none
named_if m (code.Some d) = some (named_by m d)

-- what the code's answer to the message m says; none if a text goes past the end of m
unfoldable pub heard_in : List ℕ → answer.Heard → Option Heard
heard_in m heard.Unreadable = some nothing_heard
heard_in m heard.OtherRequest = some other_version_heard
heard_in m (heard.Request code.None) = some (request_heard none)
heard_in m (heard.Request (code.Some d)) = map (λ (t : Stream). request_heard (some (record { address = d.address; stream = t }))) (stream_in m d.stream)
heard_in m (heard.Accepted code.None) = some (accepted_heard none)
heard_in m (heard.Accepted (code.Some d)) = map (λ (t : Stream). accepted_heard (some (record { address = d.address; stream = t }))) (stream_in m d.stream)
heard_in m heard.Declined = some decline_heard

-- a bearer with the octets of m, as far as there is room, and zeros after them
abbrev pub bearer_as : Description → List ℕ → held.Bearer
bearer_as d m = record { address = d.address; stream = d.stream; text = appended (replicate most_read 0) 0 m }

-- the bearer in force, if there is one
abbrev pub in_force_by : code.Option (Bor held.Bearer) → Option Bearer
in_force_by code.None = none
in_force_by (code.Some b) = some (bearer_by b.now)

-- the places of a stream, with another port and packet time
abbrev pub places_as : ℕ → ℕ → Places → Places
places_as port ptime s = record {
  media = s.media;
  port = port;
  transport = s.transport;
  payload = s.payload;
  rtpmap = s.rtpmap;
  fmtp = s.fmtp;
  ptime = ptime;
}
