-- Private: used only by private functions of this crate.
use Rattle.std.specs.Prelude.{ℕ, List, length, Result, Ok, Err}
use Rattle.std.proofs.Math.Option.{Option, none, some}
use Rattle.octets.specs.declared.Refusal.{Refusal}
use Rattle.octets.specs.declared.Refusal.TheVariants.{Unframed}
use Rattle.bat.specs.Framing.{Element}

-- the count of elements, or the refusal if they can't be framed
unfoldable pub count_in : Option (List Element) → Result ℕ Refusal
count_in none = Err Unframed
count_in (some es) = Ok (length es)
