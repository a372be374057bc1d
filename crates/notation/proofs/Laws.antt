-- Laws of what the programs show: an empty list is shown as a word, and texts are appended one after the other.
-- Assumes nothing.
use Prim.Native.Nat.{ℕ, ◌+◌, ◌-◌, ◌≤◌, ◌<◌, min}
use native.Mathlib.Numerals.{add-one}
use mathlib.Core.Path.{◌≡◌, refl, sym, ◌∙◌}
use mathlib.Core.List.{List, [], ◌∷◌, ◌++◌, map, append-nil, append_assoc, map-append}
use mathlib.Core.Bool.{Bool, true, false, ◌&&◌, cond, true≢false, and-eq-true_iff}
use lib.ListN.{length, get_or, take, drop}
use lib.Seq.{take_all, take-suc}
use lib.Dec.{leb, eqb}
use native.Mathlib.Omega.{arith}
use borrow.Author.Tests.{lt-ltb, le-ltb, eq-eqb, ne_eqb, le-leb, lt-leb, leb-true, eqb-true}
use Rattle.std.specs.declared.option.Option.{Option}
use Rattle.std.specs.declared.option.Option.TheVariants.{Some, None}
use Rattle.octets.specs.declared.Span.{Span}
use Rattle.octets.specs.Append.{Appends, number_text}
use Rattle.octets.specs.Decimal.{is_digit, all_digits, value_from, shortest, number_from, read_number}
use Rattle.octets.specs.Hex.{hex_text}
use Rattle.octets.specs.Spans.{text_of}
use Rattle.octets.specs.Words.{digit_run}
use Rattle.octets.specs.Text.{ascii}
use Rattle.octets.proofs.CaseLaws.{by_bool, by_le}
use Rattle.octets.proofs.AppendLaws.{append_nil as appends_nil, append_then}
use Rattle.media.specs.declared.Texts.{Texts}
use Rattle.media.specs.Meaning.{spans_of, texts_by}
use Rattle.notation.specs.Notation.{octets_shown, text_shown, texts_after, texts_shown, refused_shown, length_in, text_after}
use Rattle.notation.specs.Private.{large_in, shown}

-- ---- octets and texts
module _ (w s l f : List ℕ) (at r : ℕ) where
  pub shown_none : eqb (length s) 0 ≡ true → Appends l at w r f → Appends l at (shown w s) r f
  unfolding shown
  shown_none h a = rw h a

  pub shown_some : eqb (length s) 0 ≡ false → Appends l at (hex_text s) r f → Appends l at (shown w s) r f
  unfolding shown
  shown_some h a = rw h a

pub ruleset shows = (shown_none, shown_some)

pub octets_word : (s l f : List ℕ) (at r : ℕ) → Appends l at (shown (ascii "-") s) r f → Appends l at (octets_shown s) r f
unfolding shown octets_shown
octets_word s l f at r a = a

-- the text of a span
pub span_shown : (t m l f : List ℕ) (sp : Span) (at r : ℕ) → t ≡ text_of m sp → Appends l at (shown (ascii "empty") t) r f → Appends l at (text_shown (text_of m sp)) r f
unfolding shown text_shown
span_shown t m l f sp at r e a = rw (← e) a

-- a refusal
pub refused_shown_lem : (n at k r : ℕ) (l g f : List ℕ) → Appends g k (number_text n) r f → Appends l at (ascii "refused-") k g → Appends l at (refused_shown n) r f
unfolding refused_shown
refused_shown_lem n at k r l g f q p = append_then l g f _ (number_text n) at k r q p

-- ---- texts
texts_append : (xs ys : List (List ℕ)) → texts_after (xs ++ ys) ≡ texts_after xs ++ texts_after ys
unfolding texts_after
texts_append [] ys = refl
texts_append (x ∷ xs) ys = rw (texts_append xs ys, append_assoc)

texts_one : (t : List ℕ) → texts_after (t ∷ []) ≡ text_after t
unfolding texts_after
texts_one t = append-nil (text_after t)

pub rest_start : (m l : List ℕ) (xs : List Span) (at : ℕ) → Appends l at (texts_after (map (text_of m) (take 0 xs))) at l
unfolding texts_after
rest_start m l xs at = appends_nil l at

-- The texts of j spans are appended, and the buffer has l. The call was `push_rest(m, xs, l₀, at)`.
module _ (m l₀ l : List ℕ) (xs : List Span) (at j k : ℕ) (inv : Appends l₀ at (texts_after (map (text_of m) (take j xs))) k l) where
  pub rest_turn : (f : List ℕ) (r : ℕ) (d : Span) → j < length xs → Appends l k (text_after (text_of m (get_or xs j d))) r f
      → Appends l₀ at (texts_after (map (text_of m) (take (j + 1) xs))) r f
  rest_turn f r d h u =
      let e : texts_after (map (text_of m) (take (j + 1) xs)) ≡ texts_after (map (text_of m) (take j xs)) ++ text_after (text_of m (get_or xs j d)) =
      rw (add-one, take-suc xs j d h, map-append, texts_append, texts_one) in
      rw e (append_then l₀ l f (texts_after (map (text_of m) (take j xs))) (text_after (text_of m (get_or xs j d))) at k r u inv)

  pub rest_done : length xs ≤ j → Appends l₀ at (texts_after (map (text_of m) xs)) k l
  rest_done h = rw (take_all j xs h) at inv

pub ruleset rests = (rest_start, rest_turn, rest_done)

module _ (m l f : List ℕ) (x : Texts) (xs : List Span) (e : xs ≡ spans_of x) (at r : ℕ) where
  pub texts_none : eqb (length xs) 0 ≡ true → Appends l at (ascii "-") r f → Appends l at (texts_shown (texts_by m x)) r f
  unfolding texts_shown texts_by
  texts_none h a = rw (← e) (go xs h)
    where
      go : (ys : List Span) → eqb (length ys) 0 ≡ true → Appends l at (texts_shown (map (text_of m) ys)) r f
      go [] h = a
      go (y ∷ ys) h = absurd (omega (arith, eqb-true (length (y ∷ ys)) 0 h))

  pub texts_some : (k : ℕ) (g : List ℕ) (d : Span) → eqb (length xs) 0 ≡ false → Appends g k (texts_after (map (text_of m) (take (length xs - 1) (drop 1 xs)))) r f
      → Appends l at (text_shown (text_of m (get_or xs 0 d))) k g → Appends l at (texts_shown (texts_by m x)) r f
  unfolding texts_shown texts_by
  texts_some k g d h b a = rw (← e) (go xs h b a)
    where
      go : (ys : List Span) → eqb (length ys) 0 ≡ false → Appends g k (texts_after (map (text_of m) (take (length ys - 1) (drop 1 ys)))) r f
          → Appends l at (text_shown (text_of m (get_or ys 0 d))) k g → Appends l at (texts_shown (map (text_of m) ys)) r f
      go [] h b a = absurd (true≢false (sym (eq-eqb 0 0 refl) ∙ h))
      go (y ∷ ys) h b a =
          let n : take (length (y ∷ ys) - 1) (drop 1 (y ∷ ys)) ≡ ys = take_all (length (y ∷ ys) - 1) ys (omega arith) in
          append_then l g f (text_shown (text_of m y)) (texts_after (map (text_of m) ys)) at k r (rw n at b) a

pub ruleset joins = (texts_none, texts_some)

-- ---- a length
short_small : (t : List ℕ) → length t < 2 → shortest t ≡ true → all_digits t ≡ true → value_from 0 t ≤ 65535
unfolding shortest all_digits is_digit value_from
short_small [] h s d = omega arith
short_small (b ∷ []) h s d =
    let a = ((and-eq-true_iff (leb 48 b && leb b 57) true).0 d).0 in
    omega (arith, leb-true b 57 ((and-eq-true_iff (leb 48 b) (leb b 57)).0 a).1)
short_small (b ∷ c ∷ t) h s d = absurd (omega arith)

module _ (t : List ℕ) where
  pub length_value : (y : Option ℕ) (n : ℕ) → y ≡ read_number t → y ≡ Some n → y ≡ length_in t
  unfolding read_number number_from length_in
  length_value y n p q =
      by_bool (shortest t) _
      (λ s. by_bool (all_digits t) _
      (λ d. by_le (value_from 0 t) 65535 _
      (λ k. let w : min 65535 (value_from 0 t) ≡ value_from 0 t = omega arith in rw (s, d, w) (rw (s, d, le-leb (value_from 0 t) 65535 k) at p))
      (λ k. let z : y ≡ None = rw (s, d, lt-leb (value_from 0 t) 65535 k) at p in absurd (bad_value n (sym z ∙ q))))
      (λ d. rw (s, d) (rw (s, d) at p)))
      (λ s. rw s (rw s at p))
    where
      bad_value : (n : ℕ) → ◌≡◌ {A = Option ℕ} None (Some n) → ⊥
      bad_value n e = let z : ◌≡◌ {A = ℕ} 0 1 = cc in absurd (omega arith)

  pub length_large : (y x : Option ℕ) → y ≡ read_number t → y ≡ None → x ≡ large_in t → x ≡ length_in t
  unfolding read_number number_from length_in large_in
  length_large y x p q e =
      by_bool (shortest t) _
      (λ s. by_bool (all_digits t) _
      (λ d. by_le (value_from 0 t) 65535 _
      (λ k. let z : y ≡ Some (value_from 0 t) = rw (s, d, le-leb (value_from 0 t) 65535 k) at p in absurd (value_bad (value_from 0 t) (sym z ∙ q)))
      (λ k. by_le 2 (length t) _
      (λ l. let w : min 65535 (value_from 0 t) ≡ 65535 = omega arith in rw (s, d, w) (rw (le-ltb (length t) 2 l, s, d) at e))
      (λ l. absurd (omega (arith, short_small t l s d)))))
      (λ d. by_le 2 (length t) _ (λ l. rw (s, d) (rw (le-ltb (length t) 2 l, s, d) at e)) (λ l. rw (s, d) (rw (lt-ltb (length t) 2 l) at e))))
      (λ s. by_le 2 (length t) _ (λ l. rw s (rw (le-ltb (length t) 2 l, s) at e)) (λ l. rw s (rw (lt-ltb (length t) 2 l) at e)))
    where
      value_bad : (n : ℕ) → ◌≡◌ {A = Option ℕ} (Some n) None → ⊥
      value_bad n e = let z : ◌≡◌ {A = ℕ} 0 1 = cc in absurd (omega arith)

pub ruleset lengths = (length_value, length_large)

-- a length of two digits or more
pub large_short : (t : List ℕ) → length t < 2 → None ≡ large_in t
unfolding large_in
large_short t h = rw (lt-ltb (length t) 2 h)

pub large_zero : (t : List ℕ) → 2 ≤ length t → get_or t 0 0 ≡ 48 → None ≡ large_in t
unfolding large_in shortest
large_zero [] h e = absurd (omega arith)
large_zero (b ∷ []) h e = absurd (omega arith)
large_zero (b ∷ c ∷ t) h e = rw (le-ltb (length (b ∷ c ∷ t)) 2 h, eq-eqb b 48 e)

module _ (t : List ℕ) (u : Bool) (h : 2 ≤ length t) (e : get_or t 0 0 ≡ 48 → ⊥) (r : u ≡ digit_run t) where
  run_is : large_in t ≡ cond u (Some 65535) None
  unfolding large_in digit_run shortest
  run_is =
      let z : u ≡ all_digits t = rw (lt-ltb 0 (length t) (omega arith)) at r in
      rw (le-ltb (length t) 2 h, first_not t h e, z)
    where
      first_not : (t : List ℕ) → 2 ≤ length t → (get_or t 0 0 ≡ 48 → ⊥) → shortest t ≡ true
      first_not [] h e = absurd (omega arith)
      first_not (b ∷ []) h e = absurd (omega arith)
      first_not (b ∷ c ∷ t) h e = rw (ne_eqb b 48 e)

  pub large_yes : u ≡ true → Some 65535 ≡ large_in t
  large_yes q = sym (rw q at run_is)

  pub large_no : u ≡ false → None ≡ large_in t
  large_no q = sym (rw q at run_is)

pub ruleset larges = (large_short, large_zero, large_yes, large_no)
