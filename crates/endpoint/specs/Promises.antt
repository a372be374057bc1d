-- What is promised about one event, besides demand 3. `proofs/Promises.antt` proves it from the contract of the event's method.
use Rattle.std.specs.Prelude.{ℕ, ◌≡◌, Bool, true, false, List, length}
use Rattle.std.proofs.Math.Option.{Option, none, some}
use Rattle.book.specs.declared.State.{State}
use Rattle.book.specs.declared.State.TheVariants.{Up}
use Rattle.book.specs.declared.Notice.{Notice}
use Rattle.book.specs.Book.{settled, closed, settling, state_of, by_bearer, drops}
use Rattle.ipbcp.specs.Reading.{read_message}
use Rattle.ipbcp.specs.Writing.{Content, accepted_content, confused_content, rejected_content, message_text}
use Rattle.configuration.specs.Meaning.{configuration_by}
use Rattle.media.specs.Stream.{Stream}
use Rattle.bearer.specs.Bearer.{Bearer}
use Rattle.bearer.specs.Hearing.{bearer_in}
use Rattle.bearer.specs.Judging.{right_request, granted, accepted_for, right_accepted}
use Rattle.endpoint.specs.declared.Endpoint.{Endpoint}
use Rattle.endpoint.specs.declared.Answer.{Answer}
use Rattle.endpoint.specs.Step.{book_of, told, written}

-- the message names a bearer, and this bearer is right
abbrev pub right_in : (Bearer → Bool) → Option Bearer → Bool
right_in right none = false
right_in right (some d) = right d

-- the event is discarded: the endpoint is as it was, and nothing is written
pub record Discards (self : Endpoint) (before after : List ℕ) (r : Answer) : Type 0 where
  pub endpoint : r.endpoint ≡ self
  pub reply : r.reply ≡ told (state_of (book_of self)) Notice.Discarded 0 false
  pub out : after ≡ before

-- ---- demand 2: an Accepted
-- m is right for our Request q
abbrev pub is_right_accepted : Endpoint → Stream → List ℕ → Bool
is_right_accepted self q m = right_in (right_accepted (configuration_by self.config) (settled (book_of self)) q) (bearer_in (read_message m))

-- m puts its bearer in force exactly when it is right; nothing is written
pub record Takes (self : Endpoint) (q : Stream) (m before after : List ℕ) (r : Answer) : Type 0 where
  -- right: its bearer is in force
  pub right : (d : Bearer) → bearer_in (read_message m) ≡ some d → is_right_accepted self q m ≡ true
      → (book_of r.endpoint ≡ settling d (book_of self)) × (r.reply ≡ told Up (by_bearer (book_of self) Notice.Up Notice.Changed) 0 false) × (after ≡ before)
  -- wrong: the attempt ends, and the bearer in force, if there is one, stays
  pub wrong : is_right_accepted self q m ≡ false
      → (book_of r.endpoint ≡ closed (book_of self)) × (r.reply ≡ told (state_of (closed (book_of self))) (by_bearer (book_of self) Notice.SetupFailed Notice.ChangeFailed) 0 false) × (after ≡ before)

-- ---- demand 2: a peer's Request
abbrev pub is_right_request : Endpoint → List ℕ → Bool
is_right_request self m = right_in (right_request (configuration_by self.config) (settled (book_of self))) (bearer_in (read_message m))

-- the message is at the front of the buffer, and the reply has its length, this state and this notice
pub record Answers (self : Endpoint) (content : Content) (before after : List ℕ) (r : Answer) (s : State) (n : Notice) : Type 0 where
  pub out : after ≡ written (message_text self.config.own content) before
  pub reply : r.reply ≡ told s n (length (message_text self.config.own content)) (drops (book_of self))

-- m is accepted exactly when it is right; otherwise it is rejected
pub record Judges (self : Endpoint) (m before after : List ℕ) (r : Answer) : Type 0 where
  pub right : (d : Bearer) → bearer_in (read_message m) ≡ some d → is_right_request self m ≡ true
      → (book_of r.endpoint ≡ settling (granted (configuration_by self.config) d) (book_of self))
      × Answers self (accepted_content (accepted_for (configuration_by self.config) d)) before after r Up (by_bearer (book_of self) Notice.Up Notice.Changed)
  pub wrong : is_right_request self m ≡ false
      → (book_of r.endpoint ≡ closed (book_of self)) × Answers self rejected_content before after r (state_of (closed (book_of self))) Notice.Rejected

-- a Request of another version is answered Confused, and alters nothing
pub record Confuses (self : Endpoint) (before after : List ℕ) (r : Answer) : Type 0 where
  pub endpoint : r.endpoint ≡ self
  pub out : after ≡ written (message_text self.config.own confused_content) before
  pub reply : r.reply ≡ told (state_of (book_of self)) Notice.Confused (length (message_text self.config.own confused_content)) false
