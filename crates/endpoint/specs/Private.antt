-- Private: used only by private functions of this crate: what they promise and ask of each other.
use Rattle.std.specs.Prelude.{ℕ, ◌≤◌, ◌≡◌, Bool, true, cond, List, length, ltb}
use Rattle.std.proofs.Math.Option.{some}
use Rattle.octets.specs.declared.Refusal.TheVariants.{BufferTooShort, WrongState}
use Rattle.book.specs.declared.State.{State}
use Rattle.book.specs.declared.Notice.{Notice}
use Rattle.book.specs.contracts.StatePartialEq.TheImpl as states
use Rattle.book.specs.Book.{refused}
use Rattle.media.specs.Meaning.{stream_by, stream_in}
use Rattle.ipbcp.specs.declared.Description.{Description}
use Rattle.ipbcp.specs.Reading.{most_read}
use Rattle.configuration.specs.Meaning.{configuration_by}
use Rattle.bearer.specs.declared.Request.{Request}
use Rattle.bearer.specs.Hearing.{Heard}
use Rattle.bearer.specs.Meaning.{request_inside}
use Rattle.endpoint.specs.declared.Endpoint.{Endpoint}
use Rattle.endpoint.specs.declared.Answer.{Answer}
use Rattle.endpoint.specs.Rule.{Book, Verdict, message_verdict, least_room}
use Rattle.endpoint.specs.Step.{book_of, Inside, told, written, Gave}

-- r has the configuration of self and the book k, and its texts lie inside if those of self do
pub record Same (self r : Endpoint) (k : Book) : Type 0 where
  pub config : r.config ≡ self.config
  pub book : book_of r ≡ k
  pub inside : Inside self → Inside r

-- the answer that leaves the endpoint e and tells its state
abbrev pub answer_at : Endpoint → Notice → ℕ → Bool → Answer
answer_at e n w d = record { endpoint = e; reply = told e.state n w d }

-- the verdict on a command that suits the state s alone
abbrev pub in_state : State → State → Verdict → Verdict
in_state at s v = cond ((states.ghosts).eq at s) v (refused WrongState)

-- what an event does whose verdict is v if its output buffer is long enough
abbrev pub InRoom : Endpoint → Verdict → List ℕ → List ℕ → Answer → Type 0
InRoom self v before after r = Gave self (cond (ltb (length before) least_room) (refused BufferTooShort) v) before after r

-- what a verdict that writes nothing does, for every buffer
abbrev pub Silent : Endpoint → Verdict → Answer → Type 0
Silent self v r = (xs : List ℕ) → Gave self v xs xs r

-- what a verdict that writes w octets does, whatever octets they are
abbrev pub Says : Endpoint → (List ℕ → Verdict) → ℕ → Answer → Type 0
Says self v w r = (o xs : List ℕ) → length o ≡ w → Gave self (v o) xs (written o xs) r

-- what a message that is heard as h does
abbrev pub Heeds : Endpoint → Heard → List ℕ → List ℕ → Answer → Type 0
Heeds self h before after r = Gave self (message_verdict (configuration_by self.config) (book_of self) h) before after r

-- the message m is short enough to be read, and the texts of what it says lie inside it
pub record Readable (m : List ℕ) (d : Description) : Type 0 where
  pub short : length m ≤ most_read
  pub inside : stream_in m d.stream ≡ some (stream_by m d.stream)

-- the same, and the output buffer is long enough
pub record Answerable (m : List ℕ) (d : Description) (out : List ℕ) : Type 0 where
  pub room : least_room ≤ length out
  pub readable : Readable m d

-- the output buffer is long enough, and the texts of the Request lie inside its array
pub record Offerable (q : Request) (out : List ℕ) : Type 0 where
  pub room : least_room ≤ length out
  pub inside : request_inside q ≡ true
