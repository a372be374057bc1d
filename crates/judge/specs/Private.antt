-- Private: used only by private functions of this crate.
use Rattle.std.specs.Prelude.{ℕ, ◌≡◌, true, List}
use Rattle.std.specs.Prelude as code
use Rattle.std.proofs.Math.Option.{some}
use Rattle.octets.specs.declared.Refusal.TheVariants.{WrongLine}
use Rattle.ipbcp.specs.declared.MessageType.{MessageType}
use Rattle.ipbcp.specs.declared.Description.{Description}
use Rattle.ipbcp.specs.declared.Message.TheVariants as answer
use Rattle.ipbcp.specs.Types.{head_in}
use Rattle.ipbcp.specs.Reading.{refused, read_message}
use Rattle.ipbcp.specs.Meaning.{reading_in}
use Rattle.configuration.specs.Configuration.{Codec, Configuration}
use Rattle.bearer.specs.declared.Request.{Request}
use Rattle.bearer.specs.Judging.{offered}
use Rattle.bearer.specs.Meaning.{request_by, request_inside}

-- r is the Request for the entry k, with this port, and its texts lie inside the array beside it
pub record Offers (port : ℕ) (k : Codec) (payload ptime : ℕ) (r : Request) : Type 0 where
  pub is : (c : Configuration) → c.port ≡ port → request_by r ≡ offered c k payload ptime
  pub inside : request_inside r ≡ true

-- the message m is refused for a wrong line, and this is its type
pub record Wrong (m : List ℕ) (k : MessageType) : Type 0 where
  pub version : ℕ
  pub why : read_message m ≡ refused WrongLine
  pub head : head_in m ≡ code.Some (record { version = version; kind = k })

-- m is of version 1 and of this type, a Request or an Accepted; it says d, or it has a wrong line
abbrev pub Describes : List ℕ → MessageType → code.Option Description → Type 0
Describes m k code.None = Wrong m k
Describes m k (code.Some d) = reading_in m (code.Ok (answer.Described k d)) ≡ some (read_message m)
