-- What the code's `Line` stands for, in terms of `Lines`: the first line of a text, and the text after it. `CutLaws` ties
-- them: the lines of a text are its first line and the lines of the text after it (`lines_first`, `in_lines_first`), and a text
-- with no first line is not made of lines unless it is empty (`in_lines_none`).
use Rattle.std.specs.Prelude.{ℕ, ◌+◌, List, ◌∷◌, ◌&&◌, cond, length, drop, leb, Some, None}
use Rattle.std.specs.Prelude as code
use Rattle.std.proofs.Math.Option.{Option, some}
use Rattle.octets.specs.Chain.{when}
use Rattle.octets.specs.Split.{has, before}
use Rattle.octets.specs.Spans.{text_of, inside}
use Rattle.octets.specs.Text.{char, lf}
use Rattle.sdp.specs.Lines.{without_cr, is_line}
use Rattle.sdp.specs.declared.Line.{Line}

pub data FirstLine : Type 0 where
  -- the line without its end, and the text after that end
  line : List ℕ → List ℕ → FirstLine
  -- the text is empty, has no line end, or what comes before the first one is no line
  no_line : FirstLine

-- the first line of s
unfoldable pub first_line : List ℕ → FirstLine
first_line s =
    cond (has lf s && is_line (without_cr (before lf s)))
    (line (without_cr (before lf s)) (drop (length (before lf s) + 1) s))
    no_line

-- What an answer stands for in m: the line's letter, `=` and its value, and the text from `next` on. Value and `next` lie inside m.
unfoldable pub line_in : List ℕ → code.Option Line → Option FirstLine
line_in m (Some l) =
    when (inside m l.value && leb l.next (length m))
    (some (line (l.letter ∷ char "=" ∷ text_of m l.value) (drop l.next m)))
line_in m None = some no_line
