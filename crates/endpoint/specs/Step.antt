-- What the public functions of this crate promise: what a new endpoint is, and what an event does to an endpoint.
use Rattle.std.specs.Prelude.{ℕ, ◌≡◌, Bool, true, List, ◌++◌, length, drop, replicate, Result, Ok, Err}
use Rattle.octets.specs.declared.Refusal.{Refusal}
use Rattle.book.specs.declared.State.{State}
use Rattle.book.specs.declared.State.TheVariants.{Idle, AwaitSetup, Up, AwaitChange}
use Rattle.book.specs.declared.Side.{Side}
use Rattle.book.specs.declared.Side.TheVariants.{I}
use Rattle.book.specs.declared.Notice.{Notice}
use Rattle.book.specs.Book.{idle, await_setup, up, await_change, refused, discarded, opened, agreed, failed, released, request_confused, request_right, request_wrong}
use Rattle.book.specs.Book.{refusal, done, moved, replied}
use Rattle.book.specs.Book as book
use Rattle.address.specs.declared.Address.TheVariants.{V4}
use Rattle.media.specs.declared.Stream.{Stream as Places}
use Rattle.media.specs.Stream.{Stream}
use Rattle.media.specs.Meaning.{bare_places}
use Rattle.ipbcp.specs.Reading.{most_read}
use Rattle.configuration.specs.declared.Config.{Config}
use Rattle.configuration.specs.Meaning.{configuration_by, checked}
use Rattle.bearer.specs.Bearer.{Bearer}
use Rattle.bearer.specs.Meaning.{most_offered, request_by, bearer_by, request_inside, bearer_inside}
use Rattle.endpoint.specs.declared.Endpoint.{Endpoint}
use Rattle.endpoint.specs.declared.Created.{Created}
use Rattle.endpoint.specs.declared.Answer.{Answer}
use Rattle.endpoint.specs.declared.Done.{Done}
use Rattle.endpoint.specs.declared.Event as code
use Rattle.endpoint.specs.declared.Event.TheVariants.{SetUp, Change, Release, T1, T2, Message}
use Rattle.endpoint.specs.Rule.{Book, Verdict, Event, set_up, change, release, t1, t2, message, rule}

-- ---- the book of an endpoint
-- the book that a state, a side, a Request and a bearer stand for
abbrev pub book_by : State → Side → Stream → Bearer → Book
book_by Idle s q b = idle
book_by AwaitSetup s q b = await_setup q
book_by Up s q b = up s b
book_by AwaitChange s q b = await_change s b q

abbrev pub book_of : Endpoint → Book
book_of e = book_by e.state e.side (request_by e.request) (bearer_by e.bearer)

-- the texts of the Request and of the bearer that e holds lie inside the arrays beside them
pub record Inside (e : Endpoint) : Type 0 where
  pub request : request_inside e.request ≡ true
  pub bearer : bearer_inside e.bearer ≡ true

-- ---- a new endpoint
-- a stream that says nothing
abbrev pub blank_stream : Places
blank_stream = bare_places (record { at = 0; len = 0 }) 0 (record { at = 0; len = 0 }) 0

-- a new endpoint, fixed in every field; side, Request and bearer have no meaning while it is idle
abbrev pub new_endpoint : Config → Endpoint
new_endpoint c = record {
  config = c;
  state = Idle;
  side = I;
  request = record { stream = blank_stream; text = replicate most_offered 0 };
  bearer = record { address = V4 0; stream = blank_stream; text = replicate most_read 0 };
}

-- r says whether the configuration c is refused, and has a new endpoint in either case
pub record Creates (c : Config) (r : Created) : Type 0 where
  pub checked : r.checked ≡ checked c
  pub endpoint : r.endpoint ≡ new_endpoint c

-- ---- an event
-- the event that the code's value stands for; m is the octets of a message, ignored for other events
abbrev pub event_by : code.Event → List ℕ → Event
event_by (SetUp entry payload ptime) m = set_up entry payload ptime
event_by (Change entry payload ptime) m = change entry payload ptime
event_by Release m = release
event_by T1 m = t1
event_by T2 m = t2
event_by Message m = message m

-- what the code replies to an event that is not refused
abbrev pub told : State → Notice → ℕ → Bool → Result Done Refusal
told s n w d = Ok (record { state = s; notice = n; written = w; dropped = d })

-- the code's form of a reply: the octets are in the output buffer, and the reply has their number
abbrev pub reply_for : book.Reply → Result Done Refusal
reply_for (refusal e) = Err e
reply_for (done s n o d) = told s n (length o) d

-- xs with the octets o at its front; past them it is unchanged
abbrev pub written : List ℕ → List ℕ → List ℕ
written o xs = o ++ drop (length o) xs

-- the output buffer xs after a reply
abbrev pub out_for : book.Reply → List ℕ → List ℕ
out_for (refusal e) xs = xs
out_for (done s n o d) xs = written o xs

-- an event that is refused, discarded or answered Confused leaves the endpoint as it was, in every field
abbrev pub Unaltered : Verdict → Endpoint → Endpoint → Type 0
Unaltered (refused e) self r = r ≡ self
Unaltered discarded self r = r ≡ self
Unaltered (opened q o) self r = Unit {0}
Unaltered (agreed b) self r = Unit {0}
Unaltered failed self r = Unit {0}
Unaltered released self r = Unit {0}
Unaltered (request_confused o) self r = r ≡ self
Unaltered (request_right b o) self r = Unit {0}
Unaltered (request_wrong o) self r = Unit {0}

-- What an event with the verdict v does: the configuration stays, the book moves, and reply and output buffer are those that the book
-- gives. If the texts lay inside their arrays, they still do.
pub record Gave (self : Endpoint) (v : Verdict) (before after : List ℕ) (r : Answer) : Type 0 where
  pub config : r.endpoint.config ≡ self.config
  pub book : book_of r.endpoint ≡ moved (book_of self) v
  pub reply : r.reply ≡ reply_for (replied (book_of self) v)
  pub out : after ≡ out_for (replied (book_of self) v) before
  pub unaltered : Unaltered v self r.endpoint
  pub inside : Inside self → Inside r.endpoint

-- what an event does: what the rules' verdict on it does
abbrev pub Did : Endpoint → Event → List ℕ → List ℕ → Answer → Type 0
Did self e before after r =
    Gave self (rule (configuration_by self.config) (book_of self) (record { event = e; room = length before })) before after r
