-- Demand 3, for the endpoint itself: every list of events on a fresh endpoint, with every message and every buffer.
use Rattle.std.specs.Prelude.{ℕ, ◌≡◌, true, length, take, Result, Ok, Err}
use mathlib.Core.List.{List, [], ◌∷◌, ◌++◌, map, Sublistᴰ}
use Rattle.octets.specs.declared.Refusal.{Refusal}
use Rattle.book.specs.declared.State.TheVariants.{Idle}
use Rattle.book.specs.Book.{settled, refusal, done}
use Rattle.book.specs.Book as book
use Rattle.book.specs.Strike as strike
use Rattle.book.specs.Strike.{undropped, events_of, log_of, kept_of, last_settled}
use Rattle.configuration.specs.declared.Config.{Config}
use Rattle.configuration.specs.Meaning.{configuration_by, right_config}
use Rattle.bearer.specs.Bearer.{Bearer}
use Rattle.endpoint.specs.declared.Endpoint.{Endpoint}
use Rattle.endpoint.specs.declared.Answer.{Answer}
use Rattle.endpoint.specs.declared.Done.{Done}
use Rattle.endpoint.specs.Rule.{Event, Given, rule, exchanged}
use Rattle.endpoint.specs.Step.{book_of, Did}

-- a line of the run: an event with the length of its buffer, what the caller is told, and the bearer then in force
abbrev pub LogLine : Type 0
LogLine = strike.LogLine Bearer Given

-- what the caller is told: the reply, with the octets at the front of the output buffer
abbrev pub reply_by : Result Done Refusal → List ℕ → book.Reply
reply_by (Err e) out = refusal e
reply_by (Ok r) out = done r.state r.notice (take r.written out) r.dropped

-- what is seen of one event, whose buffer held `before` and then `after`
abbrev pub seen : Event → List ℕ → List ℕ → Answer → LogLine
seen x before after r = record { event = record { event = x; room = length before }; reply = reply_by r.reply after; bearer = settled (book_of r.endpoint) }

-- The endpoint e, given the events one after another, each with a buffer of its own, shows the lines and becomes f. Each step is
-- what the contract of the event's method says, `Did`: so this covers every run of the code.
pub data Runs (e : Endpoint) : List Given → List LogLine → Endpoint → Type 0 where
  begun : Runs e [] [] e
  after : {gs : List Given} {ls : List LogLine} {f : Endpoint} → Runs e gs ls f → (x : Event) (buffer out : List ℕ) (r : Answer) → Did f x buffer out r
      → Runs e (gs ++ (record { event = x; room = length buffer } ∷ [])) (ls ++ (seen x buffer out r ∷ [])) r.endpoint

-- Such runs exist, so the claim below is not vacuous: for every endpoint, event and buffer some answer meets `Did`
-- (`answer_exists` in `proofs/RunsExist.antt`), and from every endpoint there is a run through every list of events (`run_exists`).
pub record HasAnswer (e : Endpoint) (x : Event) (buffer : List ℕ) : Type 0 where
  pub out : List ℕ
  pub answer : Answer
  pub did : Did e x buffer out answer

pub record HasRun (e : Endpoint) (gs : List Given) : Type 0 where
  pub lines : List LogLine
  pub left : Endpoint
  pub run : Runs e gs lines left

-- e is a fresh endpoint, and its configuration c is valid
pub record Fresh (c : Config) (e : Endpoint) : Type 0 where
  pub right : right_config c ≡ true
  pub config : e.config ≡ c
  pub idle : e.state ≡ Idle

-- the lines that are left when each failed attempt is struck out
abbrev pub kept : Config → List Given → List LogLine
kept c gs = kept_of (rule (configuration_by c)) gs

-- the claim, for a run of a fresh endpoint through the events gs that shows the lines ls and ends in f
pub record Demand3 (c : Config) (gs : List Given) (ls : List LogLine) (f : Endpoint) : Type 0 where
  -- each reply is the one that the book gives, which is fed only the configuration, the events and the lengths of the buffers
  pub by_book : ls ≡ (log_of (rule (configuration_by c)) gs).lines
  -- the lines that are left are lines of this run, in the same order
  pub part : Sublistᴰ (kept c gs) ls
  -- another fresh endpoint, given the events that are left, shows the same lines, each with the same bearer in force after it; none of
  -- them says `dropped`, since a change that was dropped is struck
  pub same_lines : (e' : Endpoint) (ls' : List LogLine) (f' : Endpoint) → Fresh c e' → Runs e' (events_of (kept c gs)) ls' f' → ls' ≡ map undropped (kept c gs)
  -- and it ends with the same bearer in force
  pub same_bearer : (e' : Endpoint) (ls' : List LogLine) (f' : Endpoint) → Fresh c e' → Runs e' (events_of (kept c gs)) ls' f' → settled (book_of f') ≡ settled (book_of f)
  -- the bearer in force is that of the last successful exchange since the last release that was not refused
  pub in_force : settled (book_of f) ≡ last_settled (exchanged (configuration_by c)) ls
