-- Lines as they are written (document 01, "Message, version 1"): a written line ends in CRLF.
use Rattle.std.specs.Prelude.{ℕ, List, [], ◌∷◌, ◌++◌}
use Rattle.octets.specs.Text.{lf, cr}

-- the line t with its end
unfoldable pub line_text : List ℕ → List ℕ
line_text t = t ++ (cr ∷ lf ∷ [])

-- the lines ts, one after the other
unfoldable pub lines_text : List (List ℕ) → List ℕ
lines_text [] = []
lines_text (t ∷ ts) = line_text t ++ lines_text ts
