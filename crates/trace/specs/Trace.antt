-- Document 01, "Trace program": a trace, line by line. What a line prints and leaves follows from what the lines before it have left:
-- `verdict_effect` for an event on which a verdict is given, `event_effect` for a line once events come, `configuring_effect` and
-- `first_effect` for the lines before that, `line_effect` for any line.
use Rattle.std.specs.Prelude.{ℕ, ◌+◌, ◌-◌, ◌^◌, min, List, [], ◌∷◌, ◌++◌, Bool, cond, length, take, drop, eqb, ltb, Result}
use Rattle.std.proofs.Math.Option.{Option, none, some}
use Rattle.octets.specs.Chain.{when}
use Rattle.octets.specs.Text.{lf}
use Rattle.octets.specs.declared.Refusal.{Refusal}
use Rattle.octets.specs.declared.Refusal.TheVariants.{BadLine}
use Rattle.book.specs.declared.State.{State}
use Rattle.book.specs.Book.{idle, refusal, done, state_of, settled, refused, moved, replied}
use Rattle.book.specs.Book as book
use Rattle.configuration.specs.Configuration.{Configuration}
use Rattle.bearer.specs.Bearer.{Bearer}
use Rattle.endpoint.specs.declared.Done.{Done}
use Rattle.endpoint.specs.Rule.{Book, Verdict, Event, rule}
use Rattle.endpoint.specs.Step.{reply_for, out_for}
use Rattle.trace_read.specs.Events.{line_event}
use Rattle.trace_read.specs.Configuring.{general_in, is_codec_line, codec_in}
use Rattle.trace_read.specs.Lending.{lent_in}
use Rattle.trace_write.specs.Lines.{header_line, refused_line, numbered, event_text}
use Rattle.trace_write.specs.Detail.{detail_text}

-- what the lines so far have left
pub data Trace : Type 0 where
  -- no line has come
  start : Trace
  -- the configuration, with the codecs that have come
  configuring : Configuration → Trace
  -- the endpoint's configuration and its book, and the number of the last event
  running : Configuration → Book → ℕ → Trace
  -- the configuration was refused
  stopped : Trace

-- A line: its text without the LF, and whether it is whole. A line is not whole if no LF ends it, or if it is too long to be gathered.
pub record TraceLine : Type 0 where
  pub text : List ℕ
  pub whole : Bool

abbrev pub line_of : List ℕ → Bool → TraceLine
line_of text whole = record { text = text; whole = whole }

-- What a line does: what is printed, what the trace then is, and what the output buffer of its event then holds.
pub record Effect : Type 0 where
  pub printed : List ℕ
  pub next : Trace
  pub lent : List ℕ

-- ---- an event, and the verdict on it
-- a line that is no event is refused by 13, `BadLine`; w is the length of the event's output buffer
unfoldable pub verdict_on : Configuration → Book → Option Event → ℕ → Verdict
verdict_on c k none w = refused BadLine
verdict_on c k (some e) w = rule c k (record { event = e; room = w })

-- the octets that a reply writes
unfoldable pub reply_octets : book.Reply → List ℕ
reply_octets (refusal e) = []
reply_octets (done s n o d) = o

-- what only a detailed trace prints: the octets o that were written, and the bearer in force
abbrev pub detail_if : Bool → List ℕ → Option Bearer → List ℕ
detail_if detailed o force = cond detailed (detail_text o force) []

-- the line of event n, with its LF; s is the state before the event
unfoldable pub event_line : Bool → ℕ → Option Event → State → Result Done Refusal → List ℕ → Option Bearer → List ℕ
event_line detailed n e s r o force = event_text n e s (numbered r) ++ (detail_if detailed o force ++ (lf ∷ []))

-- what the verdict v on event n does to the book k; the event gets the first w octets of room
unfoldable pub verdict_effect : Bool → Configuration → Book → ℕ → Option Event → List ℕ → ℕ → Verdict → Effect
verdict_effect detailed c k n e room w v =
    let reply = replied k v in
    let left = moved k v in
    record {
      printed = event_line detailed n e (state_of k) (reply_for reply) (reply_octets reply) (settled left);
      next = running c left n;
      lent = out_for reply (take w room) ++ drop w room;
    }

-- ---- a line once events come
-- the number after n; line numbers saturate at 2^64 - 1
unfoldable pub next_number : ℕ → ℕ
next_number n = cond (ltb n (2 ^ 64 - 1)) (n + 1) n

-- the line after number n: its event gets as many octets of room as the line asks for, or all of them
unfoldable pub event_effect : Bool → Configuration → Book → ℕ → TraceLine → List ℕ → Effect
event_effect detailed c k n l room =
    let asked = lent_in detailed l.text in
    let e = when l.whole (line_event asked.text) in
    let w = min asked.room (length room) in
    verdict_effect detailed c k (next_number n) e room w (verdict_on c k e w)

-- ---- a line before the first event
-- the configuration that a line gives: one that can't be used is refused by 12, and the trace stops
unfoldable pub configuring_effect : List ℕ → Option Configuration → Effect
configuring_effect room none = record { printed = refused_line; next = stopped; lent = room }
configuring_effect room (some c) = record { printed = []; next = configuring c; lent = room }

abbrev pub no_codec : Configuration → Bool
no_codec c = eqb (length c.codecs) 0

-- the first event: the field names are printed before it, and it is given to a fresh endpoint
unfoldable pub first_effect : Bool → Configuration → TraceLine → List ℕ → Effect
first_effect detailed c l room =
    let x = event_effect detailed c idle 0 l room in
    record { printed = header_line ++ x.printed; next = x.next; lent = x.lent }

-- ---- any line
-- the first line is the `G` line, the `K` lines follow it, and the first line after those is the first event
unfoldable pub line_effect : Bool → Trace → TraceLine → List ℕ → Effect
line_effect detailed start l room = configuring_effect room (when l.whole (general_in l.text))
line_effect detailed (configuring c) l room =
    cond (is_codec_line l.text) (configuring_effect room (when l.whole (codec_in c l.text)))
    (cond (no_codec c) (configuring_effect room none)
    (first_effect detailed c l room))
line_effect detailed (running c k n) l room = event_effect detailed c k n l room
line_effect detailed stopped l room = record { printed = []; next = stopped; lent = room }

-- ---- the end of the input
-- a configuration that no event follows is judged too
unfoldable pub ending : Trace → List ℕ
ending start = refused_line
ending (configuring c) = cond (no_codec c) refused_line header_line
ending (running c k n) = []
ending stopped = []
