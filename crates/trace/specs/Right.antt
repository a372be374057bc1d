-- What holds of the configuration that the lines of a trace have made so far.
use Rattle.std.specs.Prelude.{◌≤◌, ◌≡◌, true, length}
use Rattle.configuration.specs.Configuration.{Configuration, most_codecs, all_right, right_general, right_configuration}
use Rattle.trace.specs.declared.Session.{Session}
use Rattle.trace.specs.Meaning.{trace_by, inside_by}
use Rattle.trace.specs.Trace.{Trace, start, configuring, running, stopped}

-- the configuration is valid, except that it may have no codec yet
pub record Begun (c : Configuration) : Type 0 where
  pub general : right_general c ≡ true
  pub codecs : all_right c.codecs ≡ true
  pub few : length c.codecs ≤ most_codecs

-- what holds of a trace's configuration
abbrev pub Right : Trace → Type 0
Right start = Unit {0}
Right (configuring c) = Begun c
Right (running c k n) = right_configuration c ≡ true
Right stopped = Unit {0}

-- the same of a session of the code; no count or length in its configuration goes past its array
pub record Sound (s : Session) : Type 0 where
  pub right : Right (trace_by s)
  pub inside : inside_by s ≡ true
