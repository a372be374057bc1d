-- Private: used only by private functions of this crate.
use Rattle.std.specs.Prelude.{ℕ, min, ◌≡◌, List, [], ◌++◌, Bool, length, take, drop, Result, Ok, Err, Some, None}
use Rattle.std.specs.Prelude as code
use Rattle.std.proofs.Math.Option.{Option, none, some}
use Rattle.octets.specs.declared.Refusal.{Refusal}
use Rattle.octets.specs.declared.append.Cursor.{Cursor}
use Rattle.book.specs.declared.State.{State}
use Rattle.book.specs.Book.{settled}
use Rattle.configuration.specs.declared.Config.{Config}
use Rattle.configuration.specs.Configuration.{Configuration}
use Rattle.configuration.specs.Meaning.{configuration_by, config_inside}
use Rattle.endpoint.specs.declared.Endpoint.{Endpoint}
use Rattle.endpoint.specs.declared.Event as value
use Rattle.endpoint.specs.declared.Answer.{Answer}
use Rattle.endpoint.specs.declared.Done.{Done}
use Rattle.endpoint.specs.Rule.{Event}
use Rattle.endpoint.specs.Step.{book_of, Did, event_by}
use Rattle.trace_read.specs.Meaning.{Configures}
use Rattle.trace.specs.declared.events.Ready.{Ready}
use Rattle.trace.specs.declared.Session.{Session}
use Rattle.trace.specs.Trace.{Effect, verdict_on, event_line, verdict_effect, configuring_effect}
use Rattle.trace.specs.Meaning.{Does}

-- ---- lines that configure
-- a line that gives the configuration z or none, whatever the buffer
abbrev pub Goes : Bool → Option Configuration → Cursor → Cursor → Session → Type 0
Goes before z c d r = (room : List ℕ) → Does before (configuring_effect room z) room c d r

-- a line that gives what was read as g
abbrev pub Keeps : code.Option Config → Cursor → Cursor → Session → Type 0
Keeps g c d r = (before : Bool) (z : Option Configuration) → Configures before z g → Goes before z c d r

-- ---- lines of events
-- what line n does to an endpoint: e is its event, if it has one, and it asks for `wanted` octets of room
abbrev pub effect_on : Bool → Endpoint → ℕ → Option Event → List ℕ → ℕ → Effect
effect_on detailed self n e room wanted =
    let c = configuration_by self.config in
    let w = min wanted (length room) in
    verdict_effect detailed c (book_of self) n e room w (verdict_on c (book_of self) e w)

-- a line that is no event, whatever the buffer
abbrev pub Passes : Bool → Endpoint → ℕ → Cursor → Cursor → Session → Type 0
Passes detailed self n c d r = (room : List ℕ) (wanted : ℕ) → Does (config_inside self.config) (effect_on detailed self n none room wanted) room c d r

-- how many octets a reply says were written
unfoldable pub written_by : Result Done Refusal → ℕ
written_by (Ok d) = d.written
written_by (Err e) = 0

-- the line of event n, whose answer is r and whose octets are at the front of room; s is the state before the event
abbrev pub answer_line : Bool → ℕ → value.Event → State → Answer → List ℕ → List ℕ
answer_line detailed n event s r room =
    event_line detailed n (some (event_by event [])) s r.reply (take (written_by r.reply) room) (settled (book_of r.endpoint))

-- The event e was given to self with the first w octets of a buffer: these then are `front`, and the others stay.
pub record DidFront (self : Endpoint) (e : Event) (w : ℕ) (room room' : List ℕ) (r : Answer) : Type 0 where
  pub front : List ℕ
  pub did : Did self e (take w room) front r
  pub whole : room' ≡ front ++ drop w room

-- the event of a line; f is the buffer that has the octets of a message
unfoldable pub ready_by : List ℕ → code.Option Ready → Option Event
ready_by f (Some r) = some (event_by r.event (take r.len f))
ready_by f None = none
