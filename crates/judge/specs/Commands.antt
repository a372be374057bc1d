-- The Request of a command, if its fields suit the configuration.
use Rattle.std.specs.Prelude.{ℕ, ◌≡◌, true, Option, Some, None, IfSome}
use Rattle.std.proofs.Math.Option as math
use Rattle.media.specs.Stream.{Stream}
use Rattle.configuration.specs.Configuration.{Configuration}
use Rattle.bearer.specs.declared.Request.{Request}
use Rattle.bearer.specs.Judging.{commanded}
use Rattle.bearer.specs.Meaning.{request_by, request_inside}

abbrev pub command_by : Option Request → math.Option Stream
command_by None = math.none
command_by (Some q) = math.some (request_by q)

-- r is the command's Request. Where its texts stand in the array beside it is left to the program; they lie inside.
pub record Commands (c : Configuration) (entry payload ptime : ℕ) (r : Option Request) : Type 0 where
  pub is : command_by r ≡ commanded c entry payload ptime
  pub inside : IfSome r (λ q. request_inside q ≡ true)
