-- What the structs and enums of this crate stand for.
use Rattle.std.specs.Prelude.{ℕ, ◌<◌, ◌≡◌, List, [], Bool, true, length, drop, Some, None, IfSome}
use Rattle.std.specs.Prelude as code
use Rattle.std.proofs.Math.Option.{Option, none, some}
use Rattle.configuration.specs.declared.Config.{Config}
use Rattle.configuration.specs.Configuration.{Configuration}
use Rattle.configuration.specs.Meaning.{configuration_by, config_inside}
use Rattle.endpoint.specs.declared.Event as value
use Rattle.endpoint.specs.Rule.{Event}
use Rattle.endpoint.specs.Step.{event_by}
use Rattle.trace_read.specs.declared.Asked.{Asked}
use Rattle.trace_read.specs.declared.Asked.TheVariants.{Event as Named, Digits}
use Rattle.trace_read.specs.declared.Lent as places
use Rattle.trace_read.specs.Words.{most_line}
use Rattle.trace_read.specs.Events.{line_event, message_by}
use Rattle.trace_read.specs.Lending.{Lent}

-- the event that was read, if one was; it is no message
unfoldable pub named_by : code.Option value.Event → Option Event
named_by (Some event) = some (event_by event [])
named_by None = none

-- the event that was read from the line s
unfoldable pub asked_by : List ℕ → code.Option Asked → Option Event
asked_by s (Some (Named event)) = some (event_by event [])
asked_by s (Some Digits) = message_by (drop 2 s)
asked_by s None = none

-- r is the event of the line s; whoever reads the digits of a message need not look at the line's length again
pub record Asks (s : List ℕ) (r : code.Option Asked) : Type 0 where
  pub is : asked_by s r ≡ line_event s
  pub short : r ≡ Some Digits → length s < most_line

-- the configuration that was read
unfoldable pub configured_by : code.Option Config → Option Configuration
configured_by (Some c) = some (configuration_by c)
configured_by None = none

-- r is the configuration x, or none; no count or length in it goes past its array, if none did before
pub record Configures (before : Bool) (x : Option Configuration) (r : code.Option Config) : Type 0 where
  pub is : configured_by r ≡ x
  pub inside : before ≡ true → IfSome r (λ c. config_inside c ≡ true)

-- the length that was asked for, and the text of the event in the line s
unfoldable pub lent_by : List ℕ → places.Lent → Lent
lent_by s r = record { room = r.room; text = drop r.at s }

-- the same, if a length was asked for
unfoldable pub lent_if : List ℕ → code.Option places.Lent → Option Lent
lent_if s (Some r) = some (lent_by s r)
lent_if s None = none
