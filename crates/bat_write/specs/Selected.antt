-- Document 02, E1, on writing: a codec list of which only some codecs are written. A codec is written if its flag is 1.
use Rattle.std.specs.Prelude.{ℕ, List, [], ◌∷◌, cond, eqb}
use Rattle.std.proofs.Math.Option.{Option, none, some}
use Rattle.bat.specs.Values.{Value, codecs, codecs_in, on_codecs}

-- Those of xs whose flag is 1, in their order. One without a flag is left out.
unfoldable pub selected : {X : Type 0} → List ℕ → List X → List X
selected [] xs = []
selected (m ∷ ms) [] = []
selected (m ∷ ms) (x ∷ xs) = cond (eqb m 1) (x ∷ selected ms xs) (selected ms xs)

-- The codec list of the selected codecs of s, if s is single codecs and nothing else.
unfoldable pub selected_list : List ℕ → List ℕ → Option Value
selected_list ms s = on_codecs (codecs_in s) (λ cs. some (codecs (selected ms cs))) (λ d. none)
