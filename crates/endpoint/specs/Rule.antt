-- Document 01, "One endpoint": the rules, as a verdict on each event, given the configuration and the book alone. Book and verdicts
-- are in `Book` of `book`; what a message is to an endpoint is in `Hearing` of `bearer`, and what makes a command, a Request or an
-- Accepted right is in `Judging` there.
use Rattle.std.specs.Prelude.{ℕ, cond, List, ltb}
use Rattle.std.proofs.Math.Option.{Option, none, some}
use Rattle.octets.specs.declared.Refusal.TheVariants.{BufferTooShort, OutOfRange, WrongState}
use Rattle.book.specs.Book.{idle, await_setup, up, await_change, settled, awaited, ignores}
use Rattle.book.specs.Book as book
use Rattle.book.specs.Book.{refused, discarded, opened, agreed, failed, released, request_confused, request_right, request_wrong}
use Rattle.media.specs.Stream.{Stream}
use Rattle.ipbcp.specs.Writing.{request_content, accepted_content, confused_content, rejected_content, message_octets}
use Rattle.configuration.specs.Configuration.{Configuration}
use Rattle.bearer.specs.Bearer.{Bearer}
use Rattle.bearer.specs.Hearing.{Heard, nothing_heard, other_version_heard, request_heard, accepted_heard, decline_heard, heard}
use Rattle.bearer.specs.Judging.{commanded, right_request, granted, accepted_for, right_accepted}

-- a Request of ours is given by its media line and attributes
abbrev pub Book : Type 0
Book = book.Book Bearer Stream

abbrev pub Verdict : Type 0
Verdict = book.Verdict Bearer Stream

pub data Event : Type 0 where
  -- set-up and change name a codec entry, a payload and a packet time
  set_up change : ℕ → ℕ → ℕ → Event
  release : Event
  t1 t2 : Event
  message : List ℕ → Event

-- an event, and the length of the output buffer that is lent with it
pub record Given : Type 0 where
  pub event : Event
  pub room : ℕ

-- The verdict v on the octets of a message that we write; number 5 if a field of it is out of range, which a valid configuration
-- rules out (`Writable` among the proofs of `bearer`).
abbrev pub if_writable : Option (List ℕ) → (List ℕ → Verdict) → Verdict
if_writable none v = refused OutOfRange
if_writable (some o) v = v o

-- ---- set-up and change, in the state that they suit: the Request is written, or number 5 if the command has none
abbrev pub command_verdict : Configuration → Option Stream → Verdict
command_verdict c none = refused OutOfRange
command_verdict c (some q) = if_writable (message_octets c.own (request_content q)) (λ o. opened q o)

-- ---- an Accepted for our open Request q: a right one settles its bearer, any other ends the attempt
-- `force` is the bearer in force, if there is one; the last argument is the bearer that the message names, if it can be read
abbrev pub accepted_verdict : Configuration → Option Bearer → Stream → Option Bearer → Verdict
accepted_verdict c force q none = failed
accepted_verdict c force q (some d) = cond (right_accepted c force q d) (agreed d) failed

-- ---- a peer's Request that is not discarded
abbrev pub answer_confused : Configuration → Verdict
answer_confused c = if_writable (message_octets c.own confused_content) (λ o. request_confused o)

abbrev pub answer_accepted : Configuration → Bearer → Verdict
answer_accepted c d = if_writable (message_octets c.own (accepted_content (accepted_for c d))) (λ o. request_right (granted c d) o)

abbrev pub answer_rejected : Configuration → Verdict
answer_rejected c = if_writable (message_octets c.own rejected_content) (λ o. request_wrong o)

-- one of version 1 is judged: right, Accepted; wrong or unreadable, Rejected. The arguments are as above
abbrev pub request_verdict : Configuration → Option Bearer → Option Bearer → Verdict
request_verdict c force none = answer_rejected c
request_verdict c force (some d) = cond (right_request c force d) (answer_accepted c d) (answer_rejected c)

-- ---- messages
-- an answer is discarded if no Request of ours is open
abbrev pub if_awaited : Option Stream → (Stream → Verdict) → Verdict
if_awaited none v = discarded
if_awaited (some q) v = v q

-- A version 1 Request in awaiting change at R is judged as in up, by the bearer in force: it has cancelled our pending change, which
-- the book then closes (`moved`, `drops`).
abbrev pub message_verdict : Configuration → Book → Heard → Verdict
message_verdict c k nothing_heard = discarded
message_verdict c k other_version_heard = cond (ignores k) discarded (answer_confused c)
message_verdict c k (request_heard d) = cond (ignores k) discarded (request_verdict c (settled k) d)
message_verdict c k (accepted_heard d) = if_awaited (awaited k) (λ q. accepted_verdict c (settled k) q d)
message_verdict c k decline_heard = if_awaited (awaited k) (λ q. failed)

-- ---- every event
-- the verdict on an event whose output buffer is long enough; a command that does not suit the state is refused by 11, before 5
abbrev pub event_verdict : Configuration → Book → Event → Verdict
event_verdict c idle (set_up entry payload ptime) = command_verdict c (commanded c entry payload ptime)
event_verdict c (await_setup q) (set_up entry payload ptime) = refused WrongState
event_verdict c (up s b) (set_up entry payload ptime) = refused WrongState
event_verdict c (await_change s b q) (set_up entry payload ptime) = refused WrongState
event_verdict c idle (change entry payload ptime) = refused WrongState
event_verdict c (await_setup q) (change entry payload ptime) = refused WrongState
event_verdict c (up s b) (change entry payload ptime) = command_verdict c (commanded c entry payload ptime)
event_verdict c (await_change s b q) (change entry payload ptime) = refused WrongState
event_verdict c idle release = refused WrongState
event_verdict c (await_setup q) release = released
event_verdict c (up s b) release = released
event_verdict c (await_change s b q) release = released
event_verdict c idle t1 = discarded
event_verdict c (await_setup q) t1 = failed
event_verdict c (up s b) t1 = discarded
event_verdict c (await_change s b q) t1 = discarded
event_verdict c idle t2 = discarded
event_verdict c (await_setup q) t2 = discarded
event_verdict c (up s b) t2 = discarded
event_verdict c (await_change s b q) t2 = failed
event_verdict c k (message m) = message_verdict c k (heard m)

-- the shortest output buffer that is taken
abbrev pub least_room : ℕ
least_room = 512

-- the verdict on an event: number 4 comes before all else
unfoldable pub rule : Configuration → Book → Given → Verdict
rule c k g = cond (ltb g.room least_room) (refused BufferTooShort) (event_verdict c k g.event)

-- ---- the bearer that an event puts in force if its exchange succeeds
-- for a Request the one that we grant, for an Accepted the one that it names
abbrev pub granted_in : Configuration → Option Bearer → Option Bearer
granted_in c none = none
granted_in c (some d) = some (granted c d)

abbrev pub exchange_by : Configuration → Heard → Option Bearer
exchange_by c nothing_heard = none
exchange_by c other_version_heard = none
exchange_by c (request_heard d) = granted_in c d
exchange_by c (accepted_heard d) = d
exchange_by c decline_heard = none

abbrev pub exchanged_in : Configuration → Event → Option Bearer
exchanged_in c (set_up entry payload ptime) = none
exchanged_in c (change entry payload ptime) = none
exchanged_in c release = none
exchanged_in c t1 = none
exchanged_in c t2 = none
exchanged_in c (message m) = exchange_by c (heard m)

abbrev pub exchanged : Configuration → Given → Option Bearer
exchanged c g = exchanged_in c g.event
