-- What is written as lines is cut into the same lines: a line has no CR or LF, so its own end is the first.
-- Assumes nothing.
use Prim.Native.Nat.{ℕ}
use mathlib.Core.Path.{◌≡◌, ap, ◌∙◌}
use mathlib.Core.List.{List, [], ◌∷◌, ◌++◌, append_assoc}
use mathlib.Core.Bool.{true, and-eq-true_iff}
use Rattle.sdp.specs.Lines.{lines, is_line, all_lines, in_lines}
use Rattle.sdp.specs.Meaning.{line, first_line}
use Rattle.sdp.specs.Written.{line_text, lines_text}
use Rattle.sdp.proofs.PlainLaws.{first_crlf}
use Rattle.sdp.proofs.CutLaws.{lines_nil, in_lines_nil, lines_first, in_lines_first}

-- a written line is the first line, and what is written after it is the rest
written_first : (t r : List ℕ) → is_line t ≡ true → first_line (line_text t ++ r) ≡ line t r
unfolding line_text
written_first t r h = rw (append_assoc t (13 ∷ 10 ∷ []) r) (first_crlf t r h)

module _ (t : List ℕ) (ts : List (List ℕ)) (h : all_lines (t ∷ ts) ≡ true) where
  each : (is_line t ≡ true) × (all_lines ts ≡ true)
  unfolding all_lines
  each = (and-eq-true_iff (is_line t) (all_lines ts)).0 h

  front : first_line (lines_text (t ∷ ts)) ≡ line t (lines_text ts)
  unfolding lines_text
  front = written_first t (lines_text ts) each.0

pub lines_written : (ts : List (List ℕ)) → all_lines ts ≡ true → lines (lines_text ts) ≡ ts
unfolding lines_text
lines_written [] h = lines_nil
lines_written (t ∷ ts) h =
    lines_first (lines_text (t ∷ ts)) t (lines_text ts) (front t ts h)
    ∙ ap (λ (us : List (List ℕ)). t ∷ us) (lines_written ts (each t ts h).1)

pub in_lines_written : (ts : List (List ℕ)) → all_lines ts ≡ true → in_lines (lines_text ts) ≡ true
unfolding lines_text
in_lines_written [] h = in_lines_nil
in_lines_written (t ∷ ts) h =
    in_lines_first (lines_text (t ∷ ts)) t (lines_text ts) (front t ts h) ∙ in_lines_written ts (each t ts h).1
