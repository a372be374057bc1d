-- Private: used only by private functions of this crate.
use Rattle.std.specs.Prelude.{ℕ, ◌≡◌, List, true, cond, leb, Some, None, IfSome}
use Rattle.std.specs.Prelude as code
use Rattle.std.proofs.Math.Option.{Option, none}
use Rattle.octets.specs.Chain.{number}
use Rattle.octets.specs.Decimal.{read_number, on_number}
use Rattle.octets.specs.Split.{part_at}
use Rattle.address.specs.Kinds.{unicast}
use Rattle.configuration.specs.declared.Codec.{Codec as Place}
use Rattle.configuration.specs.Configuration.{Codec, Configuration}
use Rattle.configuration.specs.Meaning.{found_by, format_inside}
use Rattle.trace_read.specs.Configuring.{either_family, general, usable}

-- ---- the packet times and timers of a `G` line: fields 3 to 6
-- a number that fits in an octet
unfoldable pub small_of : List ℕ → code.Option ℕ
small_of t = on_number (read_number t) (λ n. cond (leb n 255) (Some n) None) None

-- the rest, given the number that t stands for, if it fits in an octet
abbrev pub small : {X : Type 0} → List ℕ → (ℕ → Option X) → Option X
small t rest = on_number (small_of t) rest none

-- what `general_fields` makes of a `G` line's fields: a number that doesn't fit in an octet is above every valid one
unfoldable pub small_fields : List (List ℕ) → Option Configuration
small_fields ps =
    unicast (either_family (part_at 1 ps))
    (λ own. number (part_at 2 ps)
    (λ port. small (part_at 3 ps)
    (λ least. small (part_at 4 ps)
    (λ most. small (part_at 5 ps)
    (λ t1. small (part_at 6 ps)
    (λ t2. usable (general own port least most t1 t2)))))))

-- ---- answers
-- r is the codec x, or none; the length of one that is found lies inside its array
pub record Finds (x : Option Codec) (r : code.Option Place) : Type 0 where
  pub is : found_by r ≡ x
  pub inside : IfSome r (λ k. format_inside k.format ≡ true)
