-- Document 01, "Message, version 1": the lines that a message is made of (RFC 4566), and the part of number 9 that is about
-- lines.
use Rattle.std.specs.Prelude.{ℕ, List, [], ◌∷◌, Bool, true, false, not, ◌&&◌, cond, length, eqb, leb}
use Rattle.octets.specs.Split.{split_on}
use Rattle.octets.specs.Text.{char, lf, cr}

-- ---- a line, the last one too, ends in LF or in CR and LF
-- p without the CR at its end, if it has one
unfoldable pub without_cr : List ℕ → List ℕ
without_cr [] = []
without_cr (b ∷ []) = cond (eqb b cr) [] (b ∷ [])
without_cr (b ∷ c ∷ bs) = b ∷ without_cr (c ∷ bs)

-- of the parts between LFs, those that an LF ends, without the CR before it
unfoldable pub ended_parts : List (List ℕ) → List (List ℕ)
ended_parts [] = []
ended_parts (p ∷ []) = []
ended_parts (p ∷ q ∷ ps) = without_cr p ∷ ended_parts (q ∷ ps)

-- of the parts between LFs, the one that no LF ends
unfoldable pub last_part : List (List ℕ) → List ℕ
last_part [] = []
last_part (p ∷ []) = p
last_part (p ∷ q ∷ ps) = last_part (q ∷ ps)

-- the lines of m, without their ends
unfoldable pub lines : List ℕ → List (List ℕ)
lines m = ended_parts (split_on lf m)

-- nothing comes after the last LF
unfoldable pub all_ended : List ℕ → Bool
all_ended m = eqb (length (last_part (split_on lf m))) 0

-- ---- a line is a lower-case letter, `=`, and octets that are not 0, CR or LF
unfoldable pub is_plain : ℕ → Bool
is_plain b = not (eqb b 0) && (not (eqb b cr) && not (eqb b lf))

unfoldable pub all_plain : List ℕ → Bool
all_plain [] = true
all_plain (b ∷ bs) = is_plain b && all_plain bs

unfoldable pub is_line : List ℕ → Bool
is_line [] = false
is_line (a ∷ []) = false
is_line (a ∷ e ∷ v) = leb (char "a") a && (leb a (char "z") && (eqb e (char "=") && all_plain v))

unfoldable pub all_lines : List (List ℕ) → Bool
all_lines [] = true
all_lines (t ∷ ts) = is_line t && all_lines ts

-- m is made of such lines
unfoldable pub in_lines : List ℕ → Bool
in_lines m = all_ended m && all_lines (lines m)
