-- Laws of the version and the type: each line that is no ipbcp line leaves the first one to the lines after it.
-- Assumes nothing.
use Prim.Native.Nat.{ℕ, ◌-◌, ◌≤◌, ◌<◌}
use mathlib.Core.Path.{◌≡◌, refl, sym, ap, ◌∙◌}
use mathlib.Core.List.{List, [], ◌∷◌}
use mathlib.Core.Bool.{Bool, true, false, cond}
use mathlib.Core.Option.{none, some, Option-elim}
use lib.ListN.{length, get_or, take, drop}
use native.Mathlib.Omega.{arith}
use borrow.Author.Tests.{le-leb, lt-leb, eq-eqb, ne_eqb}
use Rattle.std.specs.Prelude.{Option, Some, None}
use Rattle.octets.specs.declared.Span.{Span}
use Rattle.octets.specs.Decimal.{read_number, on_number}
use Rattle.octets.specs.Spans.{text_of}
use Rattle.octets.specs.Words.{begins}
use Rattle.octets.proofs.CaseLaws.{by_bool}
use Rattle.octets.proofs.Laws.{tail_is}
use Rattle.texts.specs.Tokens.{token, tokens_of}
use Rattle.texts.specs.Meaning.{cut_in}
use Rattle.texts.proofs.CutLaws.{cut_isnt, cut_count, cut_token}
use Rattle.sdp.specs.declared.Line.{Line}
use Rattle.sdp.specs.Lines.{in_lines}
use Rattle.sdp.specs.Meaning.{first_line, line_in}
use Rattle.sdp.proofs.CutLaws.{loop_lines, loop_in_lines, loop_none, loop_end}
use Rattle.description.specs.Meaning.{is_ipbcp}
use Rattle.ipbcp.specs.declared.MessageType.{MessageType}
use Rattle.ipbcp.specs.declared.Head.{Head}
use Rattle.ipbcp.specs.Types.{type_named, typed_from, head_from, without_blank, first_head, head_in}
use Rattle.ipbcp.specs.Private.{named_in}

-- ---- a version and a type: y is the cut into two tokens
module _ (s : List ℕ) (y : Option (List Span)) (cut : cut_in s y ≡ tokens_of 2 s) (r : Option Head) where
  pub head_few : y ≡ None → r ≡ None → r ≡ head_from s
  unfolding head_from typed_from Option-elim
  head_few e h = rw (cut_isnt 2 s y cut e, h)

  -- z is the number that the first token x was read as
  module _ (xs : List Span) (q : y ≡ Some xs) (x : List ℕ) (first : x ≡ text_of s (get_or xs 0 (record { at = 0; len = 0 }))) (z : Option ℕ) (is : z ≡ read_number x) where
    number : (w : Option ℕ) → z ≡ w → read_number (token 0 s) ≡ w
    number w e = rw (cut_token 2 s y cut xs q 0 (omega arith), ← first) (sym is ∙ e)

    pub head_bad_number : z ≡ None → r ≡ None → r ≡ head_from s
    unfolding head_from typed_from on_number Option-elim
    head_bad_number e h = rw (cut_count 2 s y cut xs q, number None e, h)

    module _ (n : ℕ) (e : z ≡ Some n) where
      pub head_large : 255 < n → r ≡ None → r ≡ head_from s
      unfolding head_from typed_from on_number Option-elim
      head_large g h = rw (cut_count 2 s y cut xs q, number (Some n) e, lt-leb n 255 g, h)

      module _ (small : n ≤ 255) (b : List ℕ) (second : b ≡ text_of s (get_or xs 1 (record { at = 0; len = 0 }))) (w : Option MessageType) (word : named_in w ≡ type_named b) where
        kind : type_named (token 1 s) ≡ named_in w
        kind = rw (cut_token 2 s y cut xs q 1 (omega arith), ← second) (sym word)

        pub head_unknown : w ≡ None → r ≡ None → r ≡ head_from s
        unfolding head_from typed_from on_number named_in Option-elim
        head_unknown u h =
            let k : type_named (token 1 s) ≡ none = kind ∙ ap named_in u in
            rw (cut_count 2 s y cut xs q, number (Some n) e, le-leb n 255 small, k, h)

        pub head_known : (d : MessageType) → w ≡ Some d → r ≡ Some (record { version = n; kind = d }) → r ≡ head_from s
        unfolding head_from typed_from on_number named_in Option-elim
        head_known d u h =
            let k : type_named (token 1 s) ≡ some d = kind ∙ ap named_in u in
            rw (cut_count 2 s y cut xs q, number (Some n) e, le-leb n 255 small, k, h)

-- ---- a blank at the start
pub blank_none : (s : List ℕ) → length s < 1 → s ≡ without_blank s
unfolding without_blank
blank_none [] h = refl
blank_none (b ∷ bs) h = absurd (omega arith)

pub blank_yes : (s : List ℕ) → 1 ≤ length s → get_or s 0 0 ≡ 32 → take (length s - 1) (drop 1 s) ≡ without_blank s
unfolding without_blank
blank_yes [] h e = absurd (omega arith)
blank_yes (b ∷ bs) h e = tail_is (b ∷ bs) 1 ∙ rw (eq-eqb b 32 e)

pub blank_no : (s : List ℕ) → 1 ≤ length s → (get_or s 0 0 ≡ 32 → ⊥) → s ≡ without_blank s
unfolding without_blank
blank_no [] h e = absurd (omega arith)
blank_no (b ∷ bs) h e = rw (ne_eqb b 32 e)

pub ruleset blanks = (blank_none, blank_yes, blank_no)

-- ---- the walk to the ipbcp line: y is the line at i
module _ (m : List ℕ) (i : ℕ) (y : Option Line) (w : line_in m y ≡ some (first_line (drop i m))) (ln : Line) (q : y ≡ Some ln) where
  -- the ipbcp line says version and type, if lines come after it; another line leaves them to those
  pub head_moved : head_in (drop i m)
      ≡ cond (is_ipbcp ln.letter (text_of m ln.value)) (cond (in_lines (drop ln.next m)) (head_from (without_blank (drop 6 (text_of m ln.value)))) None) (head_in (drop ln.next m))
  unfolding head_in first_head is_ipbcp begins
  head_moved =
      by_bool (is_ipbcp ln.letter (text_of m ln.value)) _
      (λ h. rw (loop_in_lines m i y w ln q, loop_lines m i y w ln q, h))
      (λ h. rw (loop_in_lines m i y w ln q, loop_lines m i y w ln q, h))

module _ (m : List ℕ) (i : ℕ) (x : Option Head) (inv : head_in (drop i m) ≡ x) where
  pub head_end : length m ≤ i → None ≡ x
  unfolding head_in first_head
  head_end h = go (in_lines (drop i m)) (rw (loop_end m i h) at inv)
    where
      go : (b : Bool) → cond b None None ≡ x → None ≡ x
      go true p = p
      go false p = p

  module _ (y : Option Line) (w : line_in m y ≡ some (first_line (drop i m))) where
    pub head_none : y ≡ None → i < length m → None ≡ x
    unfolding head_in
    head_none q h = rw (loop_none m i y w q h) at inv

    -- its value is s, and t says whether it is the ipbcp line
    module _ (ln : Line) (q : y ≡ Some ln) (s : List ℕ) (at : s ≡ text_of m ln.value) (t : Bool) (is : t ≡ is_ipbcp ln.letter s) where
      ipbcp : (b : Bool) → t ≡ b → is_ipbcp ln.letter (text_of m ln.value) ≡ b
      ipbcp b e = rw (← at) (sym is ∙ e)

      pub head_more : t ≡ false → head_in (drop ln.next m) ≡ x
      head_more e = sym (head_moved m i y w ln q ∙ rw (ipbcp false e)) ∙ inv

      -- what is after it is r, and u says whether it is made of lines
      module _ (r : List ℕ) (rest : r ≡ drop ln.next m) (u : Bool) (lined : u ≡ in_lines r) (e : t ≡ true) where
        said : cond u (head_from (without_blank (drop 6 s))) None ≡ x
        said =
            let z : in_lines (drop ln.next m) ≡ u = rw (← rest) (sym lined) in
            rw at (sym (head_moved m i y w ln q ∙ rw (ipbcp true e, z)) ∙ inv)

        pub head_bad : u ≡ false → None ≡ x
        head_bad b = rw b at said

        pub head_found : u ≡ true → (h : Option Head) → h ≡ head_from (without_blank (drop 6 s)) → h ≡ x
        head_found b h d = d ∙ (rw b at said)

pub ruleset heads = (head_end, head_none, head_more, head_bad, head_found)
