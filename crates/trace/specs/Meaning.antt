-- What a session stands for, and what a step of the code does.
use Rattle.std.specs.Prelude.{ℕ, ◌≡◌, List, Bool, true}
use Rattle.octets.specs.declared.append.Cursor.{Cursor}
use Rattle.octets.specs.Append.{Pushes}
use Rattle.configuration.specs.Meaning.{configuration_by, config_inside}
use Rattle.endpoint.specs.Step.{book_of}
use Rattle.trace.specs.declared.Session.{Session}
use Rattle.trace.specs.declared.Session.TheVariants.{Start, Configuring, Running, Stopped}
use Rattle.trace.specs.Trace.{Trace, start, configuring, running, stopped, Effect}

-- the trace that a session stands for
unfoldable pub trace_by : Session → Trace
trace_by Start = start
trace_by (Configuring c) = configuring (configuration_by c)
trace_by (Running e n) = running (configuration_by e.config) (book_of e) n
trace_by Stopped = stopped

-- no count or length in its configuration, if it has one, goes past its array
unfoldable pub inside_by : Session → Bool
inside_by Start = true
inside_by (Configuring c) = config_inside c
inside_by (Running e n) = config_inside e.config
inside_by Stopped = true

-- a session before its first line
pub record Begins (r : Session) : Type 0 where
  pub is : trace_by r ≡ start
  pub inside : inside_by r ≡ true

-- The effect x: r has the trace that it leaves, what it prints is pushed on the cursor c, which is then d, and the lent buffer holds
-- what it leaves. No count or length in the configuration goes past its array, if none did before.
pub record Does (before : Bool) (x : Effect) (room' : List ℕ) (c d : Cursor) (r : Session) : Type 0 where
  pub session : trace_by r ≡ x.next
  pub printed : Pushes c d x.printed
  pub lent : room' ≡ x.lent
  pub inside : before ≡ true → inside_by r ≡ true
