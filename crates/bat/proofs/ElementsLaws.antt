-- The elements of octets with their places, from one to the next.
-- Assumes nothing.
use Prim.Native.Nat.{ℕ, ◌+◌, ◌^◌, ◌<◌}
use mathlib.Core.Path.{◌≡◌, ap, ◌∙◌}
use mathlib.Core.List.{List, [], ◌∷◌}
use mathlib.Core.Option.{some}
use lib.ListN.{length, drop, length-drop}
use mir.Syntax.{w64}
use mir.Val.{Fits}
use native.Mathlib.Omega.{arith}
use Rattle.std.specs.Prelude.{Option, Result, Ok, Err, Some, None}
use Rattle.bat.specs.declared.Frame.{Frame}
use Rattle.bat.specs.declared.Unframed.{Unframed}
use Rattle.bat.specs.FramingMeaning.{element_in, front_in, WholeLength}
use Rattle.bat.specs.Framing.{Element, whole, front, first, unframed, ended}
use Rattle.bat.specs.Elements.{placed_element, placed_elements}
use Rattle.bat.proofs.WalkLaws.{walk_ended, walk_unframed, walk_first}
use Rattle.bat.proofs.CountLaws.{frame_ended, frame_unframed, frame_first, frame_length, frame_inside, ok_is}

module _ (d : ℕ) (s : List ℕ) where
  pub placed_ended : front s ≡ ended → placed_elements d s ≡ []
  unfolding placed_elements
  placed_ended q = walk_ended (λ e at ps. placed_element at e ∷ ps) (λ at. []) [] d s q

  pub placed_unframed : front s ≡ unframed → placed_elements d s ≡ []
  unfolding placed_elements
  placed_unframed q = walk_unframed (λ e at ps. placed_element at e ∷ ps) (λ at. []) [] d s q

  pub placed_first : (e : Element) (t : List ℕ) → front s ≡ first e t → placed_elements d s ≡ placed_element d e ∷ placed_elements (d + length (whole e)) t
  unfolding placed_elements
  placed_first e t q = walk_first (λ e at ps. placed_element at e ∷ ps) (λ at. []) [] d s e t q

-- at a place d
module _ (d : ℕ) (s : List ℕ) (x : Result (Option Frame) Unframed) (is : front_in s x ≡ some (front s)) where
  pub left_ended : x ≡ Ok None → placed_elements d s ≡ []
  left_ended e = placed_ended d s (frame_ended s x is e)

  pub left_unframed : (u : Unframed) → x ≡ Err u → placed_elements d s ≡ []
  left_unframed u e = placed_unframed d s (frame_unframed s x is u e)

  module _ (f : Frame) (e : x ≡ Ok (Some f)) (w : ℕ) (l : WholeLength f w) where
    pub left_first : (t : List ℕ) → t ≡ drop w s → placed_elements d s ≡ record { at = d; length = w; element = element_in s f } ∷ placed_elements (d + w) t
    left_first t after =
        let n : w ≡ length (whole (element_in s f)) = frame_length s x is f e w l in
        rw after (placed_first d s (element_in s f) (drop w s) (frame_first s x is f e w l) ∙ rw (← n))

    pub left_falls : (t : List ℕ) → t ≡ drop w s → length (placed_elements (d + w) t) < length (placed_elements d s)
    left_falls t after = rw (left_first t after) (omega arith)

    pub left_fits : d + length s < 2 ^ 64 → Fits w64 (d + w)
    left_fits h = omega (arith, frame_inside s x is f e w l)

    pub left_bound : (t : List ℕ) → t ≡ drop w s → d + length s < 2 ^ 64 → d + w + length t < 2 ^ 64
    left_bound t after h = omega (arith, frame_inside s x is f e w l, ap (λ (z : List ℕ). length z) after, length-drop w s)

pub ruleset lefts = (left_ended, left_unframed, left_first, left_falls, left_fits, left_bound, ok_is)
