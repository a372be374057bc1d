-- Laws of `lines` and `in_lines` for callers, one line after another: the first LF separates the first line from the rest, which
-- is cut in the same way.
-- Assumes nothing.
use Prim.Native.Nat.{ℕ, ◌+◌, ◌-◌, ◌≤◌, ◌<◌}
use mathlib.Core.Path.{◌≡◌, refl, sym, ap, ◌∙◌}
use mathlib.Core.List.{List, [], ◌∷◌}
use mathlib.Core.Bool.{Bool, true, false, ◌&&◌, cond, and-false, and-eq-true_iff}
use mathlib.Core.Option.{none, some}
use lib.ListN.{length, drop, length-drop, drop_of_length-le}
use lib.Dec.{eqb, leb}
use native.Mathlib.Omega.{arith}
use borrow.Author.Tests.{ne_eqb}
use Rattle.octets.specs.Split.{has, before, on_first, split_on}
use Rattle.octets.specs.Spans.{text_of, inside}
use Rattle.octets.proofs.CaseLaws.{by_bool}
use Rattle.octets.proofs.SplitLaws.{has_before, has_not, split_dot, split_last}
use Rattle.sdp.specs.declared.Line.{Line}
use Rattle.std.specs.Prelude.{Option, Some, None}
use Rattle.sdp.specs.Lines.{without_cr, ended_parts, last_part, lines, all_ended, is_line, all_lines, in_lines}
use Rattle.sdp.specs.Meaning.{FirstLine, line, no_line, first_line, line_in}

pub lines_nil : lines [] ≡ []
unfolding lines ended_parts split_on
lines_nil = refl

pub in_lines_nil : in_lines [] ≡ true
unfolding in_lines all_ended all_lines lines ended_parts last_part split_on
in_lines_nil = refl

-- a part before others: an LF ends it, and it is not the last
parts_cons : (p s : List ℕ)
    → (ended_parts (p ∷ split_on 10 s) ≡ without_cr p ∷ ended_parts (split_on 10 s)) × (last_part (p ∷ split_on 10 s) ≡ last_part (split_on 10 s))
unfolding ended_parts last_part split_on on_first
parts_cons p [] = (refl, refl)
parts_cons p (b ∷ bs) = go (eqb b 10) (split_on 10 bs)
  where
    go : (t : Bool) (ps : List (List ℕ))
        → (ended_parts (p ∷ cond t ([] ∷ ps) (on_first b ps)) ≡ without_cr p ∷ ended_parts (cond t ([] ∷ ps) (on_first b ps)))
        × (last_part (p ∷ cond t ([] ∷ ps) (on_first b ps)) ≡ last_part (cond t ([] ∷ ps) (on_first b ps)))
    go true ps = (refl, refl)
    go false [] = (refl, refl)
    go false (q ∷ ps) = (refl, refl)

-- s has an LF
module _ (s : List ℕ) (h : has 10 s ≡ true) where
  abbrev rest : List ℕ
  rest = drop (length (before 10 s) + 1) s

  split_is : split_on 10 s ≡ before 10 s ∷ split_on 10 rest
  split_is = split_dot 10 s (has_before 10 s h)

  cut_lines : lines s ≡ without_cr (before 10 s) ∷ lines rest
  unfolding lines
  cut_lines = ap ended_parts split_is ∙ (parts_cons (before 10 s) rest).0

  cut_ended : all_ended s ≡ all_ended rest
  unfolding all_ended
  cut_ended = ap (λ (ps : List (List ℕ)). eqb (length (last_part ps)) 0) split_is ∙ rw (parts_cons (before 10 s) rest).1

-- s has no LF, and is not empty
ended_not : (s : List ℕ) → has 10 s ≡ false → 0 < length s → all_ended s ≡ false
unfolding all_ended last_part
ended_not s h l =
    let e = has_not 10 s h in
    let k : split_on 10 s ≡ s ∷ [] = split_last 10 s (omega (arith, ap length e)) ∙ rw e in
    rw (k, ne_eqb (length s) 0 (λ z. omega arith))

-- ---- a line at the front
told_line : (b : Bool) (t u r v : List ℕ) → cond b (line t r) no_line ≡ line u v → (b ≡ true) × (t ≡ u) × (r ≡ v)
told_line true t u r v q = (refl, cc, cc)
told_line false t u r v q = let z : ◌≡◌ {A = ℕ} 0 1 = cc in absurd (omega arith)

module _ (s t r : List ℕ) (q : first_line s ≡ line t r) where
  told : ((has 10 s && is_line (without_cr (before 10 s))) ≡ true) × (without_cr (before 10 s) ≡ t) × (drop (length (before 10 s) + 1) s ≡ r)
  unfolding first_line
  told = told_line _ _ _ _ _ q

  tests : (has 10 s ≡ true) × (is_line (without_cr (before 10 s)) ≡ true)
  tests = (and-eq-true_iff (has 10 s) (is_line (without_cr (before 10 s)))).0 told.0

  pub is_line_first : is_line t ≡ true
  is_line_first = rw (← told.1) tests.1

  pub lines_first : lines s ≡ t ∷ lines r
  lines_first = rw (← told.1, ← told.2) (cut_lines s tests.0)

  pub in_lines_first : in_lines s ≡ in_lines r
  unfolding in_lines all_lines
  in_lines_first =
      let e : all_ended s ≡ all_ended r = rw (← told.2) (cut_ended s tests.0) in
      rw (lines_first, e, is_line_first)

  rest_less : length r < length s
  rest_less = omega (arith, has_before 10 s tests.0, ap length told.2, length-drop (length (before 10 s) + 1) s)

-- ---- no line at the front
told_none : (b : Bool) (t r : List ℕ) → cond b (line t r) no_line ≡ no_line → b ≡ false
told_none true t r q = let z : ◌≡◌ {A = ℕ} 0 1 = cc in absurd (omega arith)
told_none false t r q = refl

pub in_lines_none : (s : List ℕ) → first_line s ≡ no_line → 0 < length s → in_lines s ≡ false
unfolding first_line in_lines all_lines
in_lines_none s q l =
    let b : (has 10 s && is_line (without_cr (before 10 s))) ≡ false = told_none _ _ _ q in
    by_bool (has 10 s) _
    (λ h. let k : is_line (without_cr (before 10 s)) ≡ false = rw h at b in rw (cut_lines s h, k, and-false (all_ended s)))
    (λ h. rw (ended_not s h l))

-- ---- for loops over lines: y is what `next_line` answers at i
told_some : (b : Bool) (x y : FirstLine) → cond b (some x) none ≡ some y → x ≡ y
told_some true x y q = cc
told_some false x y q = let z : ◌≡◌ {A = ℕ} 0 1 = cc in absurd (omega arith)

told_other : (x : FirstLine) → some no_line ≡ some x → x ≡ no_line
told_other x q = cc

module _ (m : List ℕ) (i : ℕ) (y : Option Line) (w : line_in m y ≡ some (first_line (drop i m))) where
  module _ (l : Line) (q : y ≡ Some l) where
    abbrev t : List ℕ
    t = l.letter ∷ 61 ∷ text_of m l.value

    is_first : first_line (drop i m) ≡ line (l.letter ∷ 61 ∷ text_of m l.value) (drop l.next m)
    unfolding line_in
    is_first = sym (told_some (inside m l.value && leb l.next (length m)) _ _ (rw q at w))

    pub loop_lines : lines (drop i m) ≡ (l.letter ∷ 61 ∷ text_of m l.value) ∷ lines (drop l.next m)
    loop_lines = lines_first (drop i m) t (drop l.next m) is_first

    pub loop_in_lines : in_lines (drop i m) ≡ in_lines (drop l.next m)
    loop_in_lines = in_lines_first (drop i m) t (drop l.next m) is_first

    pub loop_falls : length m - l.next < length m - i
    loop_falls = omega (arith, rest_less (drop i m) t (drop l.next m) is_first, length-drop i m, length-drop l.next m)

  pub loop_none : y ≡ None → i < length m → in_lines (drop i m) ≡ false
  unfolding line_in
  loop_none q h = in_lines_none (drop i m) (told_other (first_line (drop i m)) (rw q at w)) (omega (arith, length-drop i m))

pub loop_end : (m : List ℕ) (i : ℕ) → length m ≤ i → lines (drop i m) ≡ []
loop_end m i h = rw (drop_of_length-le m h) lines_nil

pub loop_ended : (m : List ℕ) (i : ℕ) → length m ≤ i → in_lines (drop i m) ≡ true
loop_ended m i h = rw (drop_of_length-le m h) in_lines_nil

-- `in_lines`, at i: x is its answer
module _ (m : List ℕ) (i : ℕ) (x : Bool) (inv : in_lines (drop i m) ≡ x) where
  module _ (y : Option Line) (w : line_in m y ≡ some (first_line (drop i m))) where
    pub in_more : (l : Line) → y ≡ Some l → in_lines (drop l.next m) ≡ x
    in_more l q = sym (loop_in_lines m i y w l q) ∙ inv

    pub in_none : y ≡ None → i < length m → false ≡ x
    in_none q h = sym (loop_none m i y w q h) ∙ inv

  pub in_end : length m ≤ i → true ≡ x
  in_end h = sym (loop_ended m i h) ∙ inv

pub ruleset walk = (in_more, in_none, in_end, loop_falls)
