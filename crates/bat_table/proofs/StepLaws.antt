-- The step that finds the element at a place and goes to the place after it.
-- Assumes nothing.
use Prim.Native.Nat.{ℕ, ◌+◌, ◌^◌, ◌<◌}
use mathlib.Core.Path.{◌≡◌}
use mathlib.Core.List.{List}
use mathlib.Core.Option.{some}
use lib.ListN.{length, drop}
use mir.Syntax.{w64}
use mir.Val.{Fits}
use Rattle.std.specs.Prelude.{Option, Result, Ok, Err, Some, None}
use Rattle.bat.specs.declared.Frame.{Frame}
use Rattle.bat.specs.declared.Unframed.{Unframed}
use Rattle.bat.specs.Framing.{front, on_front}
use Rattle.bat.specs.FramingMeaning.{element_in, front_in, WholeLength}
use Rattle.bat.proofs.CountLaws.{frame_ended, frame_unframed, frame_first, frame_length, place_fits, ok_is}
use Rattle.bat_table.specs.declared.Step.{Step}
use Rattle.bat_table.specs.Private.{stay_at, step_at}

module _ (s : List ℕ) (at : ℕ) (t : List ℕ) (here : t ≡ drop at s) (x : Result (Option Frame) Unframed) (is : front_in t x ≡ some (front t)) where
  -- no element is whole there
  pub step_ended : x ≡ Ok None → stay_at at ≡ step_at s at
  unfolding step_at on_front
  step_ended e = rw (← here, frame_ended t x is e)

  pub step_unframed : (u : Unframed) → x ≡ Err u → stay_at at ≡ step_at s at
  unfolding step_at on_front
  step_unframed u e = rw (← here, frame_unframed t x is u e)

  module _ (f : Frame) (e : x ≡ Ok (Some f)) (w : ℕ) (l : WholeLength f w) where
    pub step_fits : length s < 2 ^ 64 → Fits w64 (at + w)
    step_fits h = place_fits s at t here x is f e w l h

    pub step_whole : ◌≡◌ {A = Step} (record { entry = record { identifier = f.identifier; start = at; length = w }; next = at + w }) (step_at s at)
    unfolding step_at on_front element_in
    step_whole = rw (← here, frame_first t x is f e w l, frame_length t x is f e w l)

pub ruleset steps = (step_ended, step_unframed, step_fits, step_whole, ok_is)
