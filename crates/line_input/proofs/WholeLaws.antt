-- However the octets arrive, the lines handed out are the lines of all of them: a call adds to the last part of the cut, and an LF opens the next.
-- Assumes nothing.
use Prim.Native.Nat.{ℕ, ◌+◌, ◌-◌, ◌≤◌, ◌<◌, min}
use mathlib.Core.Path.{◌≡◌, refl, sym, ap, ◌∙◌}
use mathlib.Core.List.{List, [], ◌∷◌, ◌++◌, append-nil, append_assoc}
use mathlib.Core.Bool.{Bool, true, false, ◌||◌}
use lib.ListN.{length, take, drop, length-append, length-take}
use lib.Seq.{take_all, take_at, length-take-le}
use lib.Dec.{ltb}
use native.Mathlib.Omega.{arith}
use borrow.Author.Tests.{eq-eqb, ne_eqb, lt-ltb, le-ltb, le-leb, lt-leb}
use Rattle.octets.specs.Split.{has, before, on_first, split_on}
use Rattle.octets.specs.Append.{put, appended}
use Rattle.octets.proofs.Laws.{length_put}
use Rattle.octets.proofs.CaseLaws.{by_eq, by_lt}
use Rattle.octets.proofs.SplitLaws.{split_some, has_not}
use Rattle.line_input.specs.declared.Gathered.{Gathered}
use Rattle.line_input.specs.Gather.{gathered, Gathers}
use Rattle.line_input.specs.Fed.{LineText, Held, Over, fit, fit_all, held_text, Fed}

-- b put after the last part
unfoldable add_last : ℕ → List (List ℕ) → List (List ℕ)
add_last b [] = (b ∷ []) ∷ []
add_last b (p ∷ []) = (p ++ (b ∷ [])) ∷ []
add_last b (p ∷ q ∷ ps) = p ∷ add_last b (q ∷ ps)

last_cons : (b : ℕ) (p : List ℕ) (ps : List (List ℕ)) → 0 < length ps → add_last b (p ∷ ps) ≡ p ∷ add_last b ps
unfolding add_last
last_cons b p [] h = absurd (omega arith)
last_cons b p (q ∷ ps) h = refl

first_last : (a b : ℕ) (ps : List (List ℕ)) → 0 < length ps → on_first a (add_last b ps) ≡ add_last b (on_first a ps)
unfolding add_last on_first
first_last a b [] h = absurd (omega arith)
first_last a b (p ∷ []) h = refl
first_last a b (p ∷ q ∷ ps) h = refl

first_append : (a : ℕ) (ps qs : List (List ℕ)) → 0 < length ps → on_first a (ps ++ qs) ≡ on_first a ps ++ qs
unfolding on_first
first_append a [] qs h = absurd (omega arith)
first_append a (p ∷ ps) qs h = refl

split_snoc : (c b : ℕ) (s : List ℕ) → (b ≡ c → ⊥) → split_on c (s ++ (b ∷ [])) ≡ add_last b (split_on c s)
unfolding split_on add_last on_first
split_snoc c b [] h = rw (ne_eqb b c h)
split_snoc c b (a ∷ s) h =
    by_eq a c _
    (λ e. rw (eq-eqb a c e) (ap (λ (z : List (List ℕ)). [] ∷ z) (split_snoc c b s h) ∙ sym (last_cons b [] (split_on c s) (split_some c s))))
    (λ e. rw (ne_eqb a c e) (ap (on_first a) (split_snoc c b s h) ∙ first_last a b (split_on c s) (split_some c s)))

split_end : (c : ℕ) (s : List ℕ) → split_on c (s ++ (c ∷ [])) ≡ split_on c s ++ ([] ∷ [])
unfolding split_on
split_end c [] = rw (eq-eqb c c refl)
split_end c (a ∷ s) =
    by_eq a c _
    (λ e. rw (eq-eqb a c e) (ap (λ (z : List (List ℕ)). [] ∷ z) (split_end c s)))
    (λ e. rw (ne_eqb a c e) (ap (on_first a) (split_end c s) ∙ first_append a (split_on c s) ([] ∷ []) (split_some c s)))

last_is : (b : ℕ) (ts : List (List ℕ)) (t : List ℕ) → add_last b (ts ++ (t ∷ [])) ≡ ts ++ ((t ++ (b ∷ [])) ∷ [])
unfolding add_last
last_is b [] t = refl
last_is b (p ∷ ts) t =
    last_cons b p (ts ++ (t ∷ [])) (rw length-append (omega arith)) ∙ ap (λ (z : List (List ℕ)). p ∷ z) (last_is b ts t)

-- a text with no LF goes to the last part
cut_more : (s p : List ℕ) (ts : List (List ℕ)) (t : List ℕ) → has 10 p ≡ false → split_on 10 s ≡ ts ++ (t ∷ []) → split_on 10 (s ++ p) ≡ ts ++ ((t ++ p) ∷ [])
unfolding has
cut_more s [] ts t h e = simp append-nil e
cut_more s (b ∷ p) ts t h e =
    by_eq b 10 _
    (λ q. let k : true ≡ false = rw (eq-eqb b 10 q) at h in let z : ◌≡◌ {A = ℕ} 0 1 = cc in absurd (omega arith))
    (λ q.
    let k : has 10 p ≡ false = rw (ne_eqb b 10 q) at h in
    let one : split_on 10 (s ++ (b ∷ [])) ≡ ts ++ ((t ++ (b ∷ [])) ∷ []) = split_snoc 10 b s q ∙ ap (add_last b) e ∙ last_is b ts t in
    let all : split_on 10 (s ++ (b ∷ []) ++ p) ≡ ts ++ ((t ++ (b ∷ []) ++ p) ∷ []) = cut_more (s ++ (b ∷ [])) p ts (t ++ (b ∷ [])) k one in
    simp append_assoc at all)

before_clean : (c : ℕ) (s : List ℕ) → has c (before c s) ≡ false
unfolding has before
before_clean c [] = refl
before_clean c (b ∷ bs) = by_eq b c _ (λ e. rw (eq-eqb b c e)) (λ e. rw (ne_eqb b c e) (rw (ne_eqb b c e) (before_clean c bs)))

fit_yes : (cap : ℕ) (t : List ℕ) → length t ≤ cap → fit cap t ≡ Held t
unfolding fit
fit_yes cap t h = rw (le-leb (length t) cap h)

fit_no : (cap : ℕ) (t : List ℕ) → cap < length t → fit cap t ≡ Over
unfolding fit
fit_no cap t h = rw (lt-leb (length t) cap h)

-- the buffer after p, where it held as much of t as it can
holds_over : (cap : ℕ) (t p : List ℕ) → Over ≡ fit cap t → Over ≡ fit cap (t ++ p)
holds_over cap t p e =
    by_lt cap (length t) _
    (λ h. sym (fit_no cap (t ++ p) (rw length-append (omega arith))))
    (λ h. let k = fit_yes cap t h in let z : ◌≡◌ {A = ℕ} 0 1 = cc in absurd (omega arith))

held_is : (cap : ℕ) (t u : List ℕ) → Held u ≡ fit cap t → (u ≡ t) × (length t ≤ cap)
held_is cap t u e =
    by_lt cap (length t) _
    (λ h. let k = fit_no cap t h in let z : ◌≡◌ {A = ℕ} 0 1 = cc in absurd (omega arith))
    (λ h. let k = fit_yes cap t h in (cc, h))

take_put : (l p : List ℕ) (n : ℕ) → n ≤ length l → take (n + length p) (put l n p) ≡ take n l ++ p
unfolding put
take_put l p n h = take_at (take n l ++ p) (drop (n + length p) l) (n + length p) (rw length-append (omega (arith, length-take-le n l h)))

holds_more : (l t p : List ℕ) (n : ℕ) → n ≤ length l → take n l ≡ t → length p ≤ length l - n
    → held_text (appended l n p) (n + min (length l - n) (length p)) (ltb (length l - n) (length p)) ≡ fit (length l) (t ++ p)
unfolding held_text appended
holds_more l t p n h e k =
    let m : n + min (length l - n) (length p) ≡ n + length p = omega arith in
    let lt : length t ≡ n = ap (λ (z : List ℕ). length z) (sym e) ∙ length-take-le n l h in
    rw (le-ltb (length l - n) (length p) k, take_all (length l - n) p k, m, take_put l p n h, e)
    (sym (fit_yes (length l) (t ++ p) (rw length-append (omega arith))))

holds_past : (l t p : List ℕ) (n : ℕ) → n ≤ length l → take n l ≡ t → length l - n < length p
    → held_text (appended l n p) (n + min (length l - n) (length p)) (ltb (length l - n) (length p)) ≡ fit (length l) (t ++ p)
unfolding held_text
holds_past l t p n h e k =
    let lt : length t ≡ n = ap (λ (z : List ℕ). length z) (sym e) ∙ length-take-le n l h in
    rw (lt-ltb (length l - n) (length p) k)
    (sym (fit_no (length l) (t ++ p) (rw length-append (omega arith))))

holds_after : (l t p : List ℕ) (n : ℕ) (over : Bool) → n ≤ length l → held_text l n over ≡ fit (length l) t
    → held_text (appended l n p) (n + min (length l - n) (length p)) (over || ltb (length l - n) (length p)) ≡ fit (length l) (t ++ p)
unfolding held_text
holds_after l t p n true h e = holds_over (length l) t p e
holds_after l t p n false h e =
    let (u, k) = held_is (length l) t (take n l) e in
    by_lt (length l - n) (length p) _ (holds_past l t p n h u) (holds_more l t p n h u)

-- A call of `gather`: what it makes of what is held.
module _ (part l f : List ℕ) (from n : ℕ) (over : Bool) (r : Gathered) (g : Gathers part from l n over r f) (h : n ≤ length l) where
  pub length_gathered : length f ≡ length l
  unfolding appended
  length_gathered =
      let p = take (length l - n) (before 10 (drop from part)) in
      ap (λ (z : List ℕ). length z) g.leaves ∙ length_put l n p (omega (arith, length-take (length l - n) (before 10 (drop from part))))

  pub held_gathered : (t : List ℕ) → held_text l n over ≡ fit (length l) t → held_text f r.len r.over ≡ fit (length l) (t ++ before 10 (drop from part))
  unfolding gathered
  held_gathered t e = rw (g.answers, g.leaves) (holds_after l t (before 10 (drop from part)) n over h e)

fit_snoc : (cap : ℕ) (ts : List (List ℕ)) (t : List ℕ) → fit_all cap (ts ++ (t ∷ [])) ≡ fit_all cap ts ++ (fit cap t ∷ [])
unfolding fit_all
fit_snoc cap [] t = refl
fit_snoc cap (u ∷ ts) t = ap (λ (z : List LineText). fit cap u ∷ z) (fit_snoc cap ts t)

-- The theorem, as three laws: they hold of every chain of calls of `gather`, however the octets are parted.
-- Before the first call nothing is fed, and nothing is held.
pub fed_start : (l : List ℕ) → Fed (length l) [] [] (held_text l 0 false)
unfolding split_on fit_all held_text
fed_start l = record { ended = []; open_line = []; cut = refl; handed = refl; holds = sym (fit_yes (length l) [] (omega arith)) }

module _ (part l f s : List ℕ) (ts : List LineText) (from n : ℕ) (over : Bool) (r : Gathered) (g : Gathers part from l n over r f) (h : n ≤ length l)
    (fed : Fed (length l) s ts (held_text l n over)) where
  -- a call that met no LF: all of the part is fed, and no line is handed out
  pub fed_more : r.ended ≡ false → Fed (length f) (s ++ drop from part) ts (held_text f r.len r.over)
  unfolding gathered
  fed_more e =
      let q = drop from part in
      let x = held_gathered part l f from n over r g h fed.open_line fed.holds in
      let none : has 10 q ≡ false = sym (ap (λ (z : Gathered). z.ended) g.answers) ∙ e in
      rw (length_gathered part l f from n over r g h)
      (record {
        ended = fed.ended;
        open_line = fed.open_line ++ q;
        cut = cut_more s q fed.ended fed.open_line none fed.cut;
        handed = fed.handed;
        holds = x ∙ ap (λ (z : List ℕ). fit (length l) (fed.open_line ++ z)) (has_not 10 q none);
      })

  -- a call that met an LF: the octets to it are fed, the line is handed out as it is held, and the next begins
  pub fed_line : r.ended ≡ true → Fed (length f) (s ++ before 10 (drop from part) ++ (10 ∷ [])) (ts ++ (held_text f r.len r.over ∷ [])) (held_text f 0 false)
  unfolding held_text
  fed_line e =
      let p = before 10 (drop from part) in
      let x = held_gathered part l f from n over r g h fed.open_line fed.holds in
      let c = cut_more s p fed.ended fed.open_line (before_clean 10 (drop from part)) fed.cut in
      rw (length_gathered part l f from n over r g h)
      (record {
        ended = fed.ended ++ ((fed.open_line ++ p) ∷ []);
        open_line = [];
        cut = split_end 10 (s ++ p) ∙ ap (λ (z : List (List ℕ)). z ++ ([] ∷ [])) c;
        handed = rw (x, fed.handed) (sym (fit_snoc (length l) fed.ended (fed.open_line ++ p)));
        holds = sym (fit_yes (length l) [] (omega arith));
      })
