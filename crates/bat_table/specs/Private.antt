-- Private: used only by private functions of this crate. The step from one element of the data to the next.
use Rattle.std.specs.Prelude.{ℕ, ◌+◌, List, length, drop}
use Rattle.bat.specs.Framing.{whole, front, on_front}
use Rattle.bat_table.specs.declared.Step.{Step}
use Rattle.bat_table.specs.Table.{entry_of, no_entry}

-- the step if there is no element
abbrev pub stay_at : ℕ → Step
stay_at at = record { entry = no_entry; next = at }

-- the step at a place: the entry of the element there, and the place after it
unfoldable pub step_at : List ℕ → ℕ → Step
step_at s at = on_front (front (drop at s)) (λ e t. record { entry = entry_of at e; next = at + length (whole e) }) (stay_at at) (stay_at at)
