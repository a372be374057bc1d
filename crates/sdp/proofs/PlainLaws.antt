-- Laws of plain text, and of the line at the front of a text that begins with it: what is plain is neither LF nor CR, so
-- cutting at an LF and taking a CR off the end leave it as it is, and what comes after it decides.
-- Assumes nothing.
use Prim.Native.Nat.{ℕ, ◌+◌, ◌≤◌, ◌<◌}
use mathlib.Core.Path.{◌≡◌, refl, sym, ap, ◌∙◌}
use mathlib.Core.List.{List, [], ◌∷◌, ◌++◌, append-nil}
use mathlib.Core.Bool.{Bool, true, false, ◌&&◌, and-false, and_assoc, and-eq-true_iff}
use lib.ListN.{length, get_or, drop, length-append}
use lib.Seq.{drop-append-add}
use lib.Dec.{eqb, leb}
use native.Mathlib.Nat.{add_assoc}
use native.Mathlib.Omega.{arith}
use borrow.Author.Tests.{eq-eqb, ne_eqb, leb-true, eqb-true}
use Rattle.octets.specs.Split.{has, before}
use Rattle.octets.proofs.CaseLaws.{by_bool, by_eq}
use Rattle.octets.proofs.SplitLaws.{before_here, before_more}
use Rattle.sdp.specs.Lines.{without_cr, is_plain, all_plain, is_line}
use Rattle.sdp.specs.Meaning.{line, no_line, first_line}
use Rattle.sdp.specs.Private.{is_start}

-- ---- plain text
pub plain_append : (xs ys : List ℕ) → all_plain (xs ++ ys) ≡ (all_plain xs && all_plain ys)
unfolding all_plain
plain_append [] ys = refl
plain_append (b ∷ xs) ys =
    ap (λ (t : Bool). is_plain b && t) (plain_append xs ys) ∙ sym (and_assoc (is_plain b) (all_plain xs) (all_plain ys))

pub plain_parts : (b : ℕ) (bs : List ℕ) → all_plain (b ∷ bs) ≡ true → (is_plain b ≡ true) × (all_plain bs ≡ true)
unfolding all_plain
plain_parts b bs h = (and-eq-true_iff (is_plain b) (all_plain bs)).0 h

-- a plain octet differs from one that is not plain
plain_ne : (b c : ℕ) → is_plain b ≡ true → is_plain c ≡ false → b ≡ c → ⊥
plain_ne b c h k e = let z : ◌≡◌ {A = ℕ} 0 1 = cc in absurd (omega arith)

lf_ends : is_plain 10 ≡ false
unfolding is_plain
lf_ends = refl

cr_ends : is_plain 13 ≡ false
unfolding is_plain
cr_ends = refl

-- an octet above CR is plain
pub is_plain_lem : (b : ℕ) → 13 < b → is_plain b ≡ true
unfolding is_plain
is_plain_lem b h = simp (ne_eqb b 0 (λ e. omega arith), ne_eqb b 13 (λ e. omega arith), ne_eqb b 10 (λ e. omega arith))

-- ---- lines are plain
start_and : (x y z w : Bool) → (x && (y && (z && w))) ≡ (x && (y && z) && w)
start_and true true true w = refl
start_and true true false w = refl
start_and true false z w = refl
start_and false y z w = refl

line_parts : (a e : ℕ) (v : List ℕ) → is_line (a ∷ e ∷ v) ≡ (is_start a e && all_plain v)
unfolding is_line
line_parts a e v = start_and (leb 97 a) (leb a 122) (eqb e 61) (all_plain v)

line_plain : (t : List ℕ) → is_line t ≡ true → all_plain t ≡ true
unfolding is_line all_plain
line_plain [] h = refl
line_plain (a ∷ []) h = let z : ◌≡◌ {A = ℕ} 0 1 = cc in absurd (omega arith)
line_plain (a ∷ e ∷ v) h =
    let p = (and-eq-true_iff (leb 97 a) (leb a 122 && (eqb e 61 && all_plain v))).0 h in
    let q = (and-eq-true_iff (leb a 122) (eqb e 61 && all_plain v)).0 p.1 in
    let r = (and-eq-true_iff (eqb e 61) (all_plain v)).0 q.1 in
    simp (is_plain_lem a (omega (arith, leb-true 97 a p.0)), is_plain_lem e (omega (arith, eqb-true e 61 r.0)), r.1)

-- a line of its letter, '=' and a plain value
pub line_is : (a : ℕ) (v : List ℕ) → is_start a 61 ≡ true → all_plain v ≡ true → is_line (a ∷ 61 ∷ v) ≡ true
line_is a v s h = line_parts a 61 v ∙ rw (s, h)

line_short : (t : List ℕ) → length t < 2 → is_line t ≡ false
unfolding is_line
line_short [] h = refl
line_short (a ∷ []) h = refl
line_short (a ∷ e ∷ v) h = absurd (omega arith)

line_not : (p : List ℕ) (c : ℕ) (w : List ℕ) → is_plain c ≡ false → is_line (p ++ (c ∷ w)) ≡ false
unfolding all_plain
line_not p c w h =
    by_bool (is_line (p ++ (c ∷ w))) _
    (λ t. let k : all_plain (p ++ (c ∷ w)) ≡ false = plain_append p (c ∷ w) ∙ rw (h, and-false (all_plain p)) in
    let g = line_plain (p ++ (c ∷ w)) t in
    let z : ◌≡◌ {A = ℕ} 0 1 = cc in absurd (omega arith))
    (λ t. t)

-- two or more octets are a line if the first two start one and the others are plain
pub line_start : (p : List ℕ) → 2 ≤ length p → is_start (get_or p 0 0) (get_or p 1 0) ≡ true → all_plain p ≡ true → is_line p ≡ true
line_start [] s e h = absurd (omega arith)
line_start (a ∷ []) s e h = absurd (omega arith)
line_start (a ∷ b ∷ v) s e h = line_parts a b v ∙ rw e (plain_parts b v (plain_parts a (b ∷ v) h).1).1

-- they are a letter, '=' and the others
pub start_front : (p : List ℕ) → 2 ≤ length p → is_start (get_or p 0 0) (get_or p 1 0) ≡ true → p ≡ get_or p 0 0 ∷ 61 ∷ drop 2 p
start_front [] s e = absurd (omega arith)
start_front (a ∷ []) s e = absurd (omega arith)
start_front (a ∷ b ∷ v) s e =
    let f = (and-eq-true_iff (leb 97 a) (leb a 122 && eqb b 61)).0 e in
    let g = (and-eq-true_iff (leb a 122) (eqb b 61)).0 f.1 in
    rw (eqb-true b 61 g.1)

line_other : (p w : List ℕ) → 2 ≤ length p → is_start (get_or p 0 0) (get_or p 1 0) ≡ false → is_line (p ++ w) ≡ false
line_other [] w s e = absurd (omega arith)
line_other (a ∷ []) w s e = absurd (omega arith)
line_other (a ∷ b ∷ v) w s e = line_parts a b (v ++ w) ∙ rw e

-- ---- the part before an LF, without a CR
before_plain : (p q : List ℕ) → all_plain p ≡ true → before 10 (p ++ q) ≡ p ++ before 10 q
before_plain [] q h = refl
before_plain (b ∷ p) q h =
    let k = plain_parts b p h in
    before_more 10 b (p ++ q) (plain_ne b 10 k.0 lf_ends) ∙ ap (λ (l : List ℕ). b ∷ l) (before_plain p q k.1)

has_plain : (p q : List ℕ) → all_plain p ≡ true → has 10 (p ++ q) ≡ has 10 q
unfolding has
has_plain [] q h = refl
has_plain (b ∷ p) q h =
    let k = plain_parts b p h in
    rw (ne_eqb b 10 (plain_ne b 10 k.0 lf_ends)) (has_plain p q k.1)

without_plain : (p w : List ℕ) → all_plain p ≡ true → without_cr (p ++ w) ≡ p ++ without_cr w
unfolding without_cr
without_plain [] w h = refl
without_plain (b ∷ []) [] h = rw (ne_eqb b 13 (plain_ne b 13 (plain_parts b [] h).0 cr_ends))
without_plain (b ∷ []) (c ∷ w) h = refl
without_plain (b ∷ d ∷ p) w h = ap (λ (l : List ℕ). b ∷ l) (without_plain (d ∷ p) w (plain_parts b (d ∷ p) h).1)

-- an octet at the front stays, unless it is a CR at the end
without_first : (c : ℕ) (b : List ℕ) (X : Type 0)
    → (c ≡ 13 → b ≡ [] → without_cr (c ∷ b) ≡ [] → X)
    → ((w : List ℕ) → without_cr (c ∷ b) ≡ c ∷ w → X)
    → X
unfolding without_cr
without_first c [] X f g = by_eq c 13 _ (λ e. f e refl (rw (eq-eqb c 13 e))) (λ e. g [] (rw (ne_eqb c 13 e)))
without_first c (d ∷ b) X f g = g (without_cr (d ∷ b)) refl

-- ---- the line at the front of p and q, with p plain
module _ (p q : List ℕ) (h : all_plain p ≡ true) where
  text_is : without_cr (before 10 (p ++ q)) ≡ p ++ without_cr (before 10 q)
  text_is = rw (before_plain p q h) (without_plain p (before 10 q) h)

  first_none : has 10 q ≡ false → first_line (p ++ q) ≡ no_line
  unfolding first_line
  first_none e = rw (has_plain p q h, e)

  first_not : is_line (p ++ without_cr (before 10 q)) ≡ false → first_line (p ++ q) ≡ no_line
  unfolding first_line
  first_not e = rw (text_is, e, and-false (has 10 (p ++ q)))

  first_is : has 10 q ≡ true → without_cr (before 10 q) ≡ [] → is_line p ≡ true → first_line (p ++ q) ≡ line p (drop (length (before 10 q) + 1) q)
  unfolding first_line
  first_is t e i =
      rw (text_is, e, append-nil p, has_plain p q h, t, i, before_plain p q h, length-append p (before 10 q), add_assoc (length p) (length (before 10 q)) 1)
      (ap (line p) (drop-append-add p q (length (before 10 q) + 1)))

pub first_lf : (t r : List ℕ) → is_line t ≡ true → first_line (t ++ (10 ∷ r)) ≡ line t r
unfolding has before without_cr
first_lf t r h = first_is t (10 ∷ r) (line_plain t h) refl refl h

pub first_crlf : (t r : List ℕ) → is_line t ≡ true → first_line (t ++ (13 ∷ 10 ∷ r)) ≡ line t r
unfolding has before without_cr
first_crlf t r h = first_is t (13 ∷ 10 ∷ r) (line_plain t h) refl refl h

pub first_open : (p : List ℕ) → all_plain p ≡ true → first_line p ≡ no_line
unfolding has
first_open p h = rw (append-nil p) at (first_none p [] h refl)

pub first_last : (p : List ℕ) (c : ℕ) → all_plain p ≡ true → (c ≡ 10 → ⊥) → first_line (p ++ (c ∷ [])) ≡ no_line
unfolding has
first_last p c h e = first_none p (c ∷ []) h (rw (ne_eqb c 10 e))

-- p is followed by c, which is not plain
module _ (p : List ℕ) (h : all_plain p ≡ true) (c : ℕ) (k : is_plain c ≡ false) (r : List ℕ) where
  pub first_short : length p < 2 → first_line (p ++ (c ∷ r)) ≡ no_line
  unfolding without_cr
  first_short s =
      let bare : without_cr (before 10 (c ∷ r)) ≡ [] → first_line (p ++ (c ∷ r)) ≡ no_line =
      λ e. first_not p (c ∷ r) h (rw (e, append-nil p) (line_short p s)) in
      by_eq c 10 _
      (λ e. bare (rw (before_here 10 c r e)))
      (λ e. without_first c (before 10 r) _
      (λ _ _ g. bare (rw (before_more 10 c r e) g))
      (λ w g. first_not p (c ∷ r) h (rw (before_more 10 c r e, g) (line_not p c w k))))

  pub first_start : 2 ≤ length p → is_start (get_or p 0 0) (get_or p 1 0) ≡ false → first_line (p ++ (c ∷ r)) ≡ no_line
  first_start s e = first_not p (c ∷ r) h (line_other p (without_cr (before 10 (c ∷ r))) s e)

  -- no line end: c is neither an LF nor the CR before one
  pub first_wrong : (c ≡ 10 → ⊥) → (c ≡ 13 → before 10 r ≡ [] → ⊥) → first_line (p ++ (c ∷ r)) ≡ no_line
  first_wrong e f =
      without_first c (before 10 r) _
      (λ a b _. absurd (f a b))
      (λ w g. first_not p (c ∷ r) h (rw (before_more 10 c r e, g) (line_not p c w k)))
