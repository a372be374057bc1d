-- Laws of a text cut into tokens: its first blank separates the first token from the others.
-- Assumes nothing.
use Prim.Native.Nat.{ℕ, zero, suc, ◌+◌, ◌-◌, ◌≤◌, ◌<◌}
use mathlib.Core.Path.{◌≡◌, refl, sym, ap, ◌∙◌}
use mathlib.Core.List.{List, [], ◌∷◌, ◌++◌, append-nil}
use mathlib.Core.List as list
use mathlib.Core.Bool.{Bool, true, false, not, beq, ◌&&◌, cond}
use mathlib.Core.Option.{Option, none, some, map}
use lib.ListN.{length, take, drop, set, get_or, length-drop, drop_of_length-le}
use lib.Seq.{take_all, length-take-le, drop-drop}
use lib.Dec.{eqb, leb, ltb}
use native.Mathlib.Omega.{arith}
use borrow.Author.Tests.{eqb-true, lt-ltb, le-ltb, le-leb, lt-leb, eq-eqb, ne_eqb}
use Rattle.std.proofs.Common.{append_assoc}
use Rattle.std.proofs.lemmas.List.{take_more_set, map-append, length-map}
use Rattle.std.specs.Prelude.{Some, None}
use Rattle.std.specs.Prelude as code
use Rattle.octets.specs.declared.Span.{Span}
use Rattle.octets.specs.Spans.{text_of}
use Rattle.octets.specs.Split.{before, split_on, find_at, Found, part_at}
use Rattle.octets.proofs.CaseLaws.{by_eq, by_le, by_lt, by_bool}
use Rattle.octets.proofs.SplitLaws.{found_first, found, split_some, part_is, part_dot, part_last}
use Rattle.texts.specs.Tokens.{token, none_empty, token_count, after_blank, after_token, tokens_of}
use Rattle.texts.specs.Meaning.{cut_in, places_from}

-- ---- the first blank, at e
module _ (s : List ℕ) (e : ℕ) (f : Found s 32 0 e) where
  first_is : take e s ≡ before 32 s
  first_is = let z : e - 0 ≡ e = omega arith in rw z at (part_is s 32 0 e f.is)

  cut_dot : e < length s → split_on 32 s ≡ take e s ∷ split_on 32 (drop (e + 1) s)
  cut_dot h = part_dot s 32 0 e f.is h ∙ rw first_is

  cut_last : length s ≤ e → split_on 32 s ≡ take e s ∷ []
  cut_last h = part_last s 32 0 e f.is h ∙ rw first_is

  -- the first token is empty
  tokens_empty : e < 1 → (n : ℕ) → tokens_of (suc n) s ≡ none
  unfolding tokens_of token_count none_empty
  tokens_empty h n =
      let z : e ≡ 0 = omega arith in
      by_lt e (length s) _
      (λ l. rw (cut_dot l, z, ne_eqb 0 (suc n) (λ k. omega arith)))
      (λ l. rw (cut_last l, z, ne_eqb 0 (suc n) (λ k. omega arith)))

  -- it is the last
  tokens_last : length s ≤ e → (n : ℕ) → tokens_of (suc (suc n)) s ≡ none
  unfolding tokens_of token_count none_empty
  tokens_last h n =
      by_bool (ltb 0 (length (take e s))) _
      (λ b. rw (cut_last h, b, ne_eqb 1 (suc (suc n)) (λ k. omega arith)))
      (λ b. rw (cut_last h, b, ne_eqb 0 (suc (suc n)) (λ k. omega arith)))

  module _ (l : e < length s) where
    -- others come after it
    tokens_more : 1 ≤ e → (n : ℕ) → tokens_of (suc (suc n)) s ≡ map (λ (qs : List (List ℕ)). take e s ∷ qs) (tokens_of (suc n) (drop (e + 1) s))
    unfolding tokens_of token_count none_empty
    tokens_more h n =
        let k : ltb 0 (length (take e s)) ≡ true = lt-ltb 0 (length (take e s)) (omega (arith, length-take-le e s (omega arith))) in
        let qs = split_on 32 (drop (e + 1) s) in
        by_bool (none_empty qs) _
        (λ b. by_eq (length qs) (suc n) _
        (λ c. rw (cut_dot l, k, b, eq-eqb (suc (length qs)) (suc (suc n)) (omega arith), eq-eqb (length qs) (suc n) c))
        (λ c. rw (cut_dot l, k, b, ne_eqb (suc (length qs)) (suc (suc n)) (λ d. c (omega arith)), ne_eqb (length qs) (suc n) c)))
        (λ b. rw (cut_dot l, k, b, ne_eqb 0 (suc (suc n)) (λ d. omega arith), ne_eqb 0 (suc n) (λ d. omega arith)))

    -- so it is not the only one
    tokens_not_one : tokens_of 1 s ≡ none
    unfolding tokens_of token_count none_empty
    tokens_not_one =
        let qs = split_on 32 (drop (e + 1) s) in
        let z : 0 < length qs = split_some 32 (drop (e + 1) s) in
        by_bool (ltb 0 (length (take e s)) && none_empty qs) _
        (λ b. rw (cut_dot l, b, ne_eqb (suc (length qs)) 1 (λ d. omega arith)))
        (λ b. rw (cut_dot l, b))

-- ---- `cut`: how n tokens are read from s, none of them at first
unfoldable pub tokens_left : ℕ → List ℕ → Option (List (List ℕ))
tokens_left zero s = some []
tokens_left (suc n) s = tokens_of (suc n) s

-- the token from `from` on ends at e
module _ (s : List ℕ) (from e : ℕ) (f : Found s 32 from e) where
  abbrev t : List ℕ
  t = text_of s (record { at = from; len = e - from })

  here : Found (drop from s) 32 0 (e - from)
  unfolding find_at
  here = found (drop from s) 32 0 (e - from) (omega (arith, f.is))

  rest : drop (e - from + 1) (drop from s) ≡ drop (e + 1) s
  rest =
      let z : from + (e - from + 1) ≡ e + 1 = omega (arith, f.low) in
      drop-drop (e - from + 1) from s ∙ rw z

  none_here : e ≤ from → (n : ℕ) → tokens_left (suc n) (drop from s) ≡ none
  unfolding tokens_left
  none_here h n = tokens_empty (drop from s) (e - from) here (omega arith) n

  none_early : length s ≤ e → (n : ℕ) → tokens_left (suc (suc n)) (drop from s) ≡ none
  unfolding tokens_left
  none_early h n = tokens_last (drop from s) (e - from) here (omega (arith, length-drop from s)) n

  none_late : e < length s → tokens_left 1 (drop from s) ≡ none
  unfolding tokens_left
  none_late h = tokens_not_one (drop from s) (e - from) here (omega (arith, length-drop from s, f.low))

  module _ (h : from < e) where
    last_one : length s ≤ e → tokens_left 1 (drop from s) ≡ some (t ∷ [])
    unfolding tokens_left tokens_of token_count none_empty text_of
    last_one l =
        let k : ltb 0 (length t) ≡ true = lt-ltb 0 (length t) (omega (arith, length-take-le (e - from) (drop from s) (omega (arith, length-drop from s)))) in
        rw (cut_last (drop from s) (e - from) here (omega (arith, length-drop from s)), k)

    one_more : e < length s → (n : ℕ) → tokens_left (suc (suc n)) (drop from s) ≡ map (λ (qs : List (List ℕ)). t ∷ qs) (tokens_left (suc n) (drop (e + 1) s))
    unfolding tokens_left text_of
    one_more l n = rw (← rest) (tokens_more (drop from s) (e - from) here (omega (arith, length-drop from s, f.low)) (omega arith) n)

-- ds are the tokens read before i, and the next starts at `from`
module _ (s : List ℕ) (N i from e : ℕ) (f : Found s 32 from e) (ds : List (List ℕ)) (inv : map (λ (qs : List (List ℕ)). ds ++ qs) (tokens_left (N - i) (drop from s)) ≡ tokens_of N s) where
  no_more : tokens_left (N - i) (drop from s) ≡ none → cut_in s None ≡ tokens_of N s
  unfolding cut_in
  no_more z = rw z at inv

  pub cut_none : i < N → e ≤ from → cut_in s None ≡ tokens_of N s
  cut_none l h =
      let z : N - i ≡ suc (N - (i + 1)) = omega arith in
      no_more (rw z (none_here s from e f h (N - (i + 1))))

  pub cut_early : i + 1 < N → length s ≤ e → cut_in s None ≡ tokens_of N s
  cut_early l h =
      let z : N - i ≡ suc (suc (N - (i + 2))) = omega arith in
      no_more (rw z (none_early s from e f h (N - (i + 2))))

  pub cut_late : i + 1 ≡ N → e < length s → cut_in s None ≡ tokens_of N s
  cut_late l h =
      let z : N - i ≡ 1 = omega arith in
      no_more (rw z (none_late s from e f h))

  pub cut_wrong : not (beq (eqb (i + 1) N) (leb (length s) e)) ≡ true → i < N → cut_in s None ≡ tokens_of N s
  cut_wrong k l =
      by_eq (i + 1) N _
      (λ x. by_le (length s) e _
      (λ y. let w : false ≡ true = rw (eq-eqb (i + 1) N x, le-leb (length s) e y) at k in absurd (cc))
      (λ y. cut_late x y))
      (λ x. by_le (length s) e _
      (λ y. cut_early (omega arith) y)
      (λ y. let w : false ≡ true = rw (ne_eqb (i + 1) N x, lt-leb (length s) e y) at k in absurd (cc)))

  module _ (h : from < e) (k : not (beq (eqb (i + 1) N) (leb (length s) e)) ≡ false) (l : i < N) where
    abbrev p : List ℕ
    p = text_of s (record { at = from; len = e - from })

    left_more : tokens_left (N - i) (drop from s) ≡ map (λ (qs : List (List ℕ)). p ∷ qs) (tokens_left (N - (i + 1)) (drop (e + 1) s))
    unfolding tokens_left
    left_more =
        by_eq (i + 1) N _
        (λ x. by_le (length s) e _
        (λ y. let z : N - i ≡ 1 = omega arith in
        let v : N - (i + 1) ≡ 0 = omega arith in
        rw (z, v) (last_one s from e f h y))
        (λ y. let w : true ≡ false = rw (eq-eqb (i + 1) N x, lt-leb (length s) e y) at k in absurd (cc)))
        (λ x. by_le (length s) e _
        (λ y. let w : true ≡ false = rw (ne_eqb (i + 1) N x, le-leb (length s) e y) at k in absurd (cc))
        (λ y. let z : N - i ≡ suc (suc (N - (i + 2))) = omega arith in
        let v : N - (i + 1) ≡ suc (N - (i + 2)) = omega arith in
        rw (z, v) (one_more s from e f h y (N - (i + 2)))))

    joined : (o : Option (List (List ℕ))) → map (λ (qs : List (List ℕ)). ds ++ qs) (map (λ (qs : List (List ℕ)). p ∷ qs) o) ≡ map (λ (qs : List (List ℕ)). (ds ++ (p ∷ [])) ++ qs) o
    joined none = refl
    joined (some qs) = simp append_assoc

    more : map (λ (qs : List (List ℕ)). (ds ++ (p ∷ [])) ++ qs) (tokens_left (N - (i + 1)) (drop (e + 1) s)) ≡ tokens_of N s
    more = sym (joined (tokens_left (N - (i + 1)) (drop (e + 1) s))) ∙ rw left_more at inv

-- the same with the places of ds
module _ (s : List ℕ) (N : ℕ) (xs : List Span) where
  -- the tokens of the first i places, and those from `from` on
  abbrev pub Cut : (i from : ℕ) → Type 0
  Cut i from = map (λ (qs : List (List ℕ)). list.map (text_of s) (take i xs) ++ qs) (tokens_left (N - i) (drop from s)) ≡ tokens_of N s

  pub cut_first : 0 < N → Cut 0 0
  unfolding tokens_left
  cut_first h =
      let z : N ≡ suc (N - 1) = omega arith in
      let v : N - 0 ≡ suc (N - 1) = omega arith in
      rw v (whole (tokens_of (suc (N - 1)) s) ∙ rw (← z))
    where
      whole : (o : Option (List (List ℕ))) → map (λ (qs : List (List ℕ)). qs) o ≡ o
      whole none = refl
      whole (some qs) = refl

pub cut_next : (s : List ℕ) (N i from e : ℕ) (f : Found s 32 from e) (xs : List Span) → Cut s N xs i from → length xs ≡ N → from < e → not (beq (eqb (i + 1) N) (leb (length s) e)) ≡ false → i < N
    → Cut s N (set xs i (record { at = from; len = e - from })) (i + 1) (e + 1)
cut_next s N i from e f xs inv all h k l =
    rw (take_more_set xs i (record { at = from; len = e - from }) (omega arith), map-append (text_of s) (take i xs) (record { at = from; len = e - from } ∷ []))
    (more s N i from e f (list.map (text_of s) (take i xs)) inv h k l)

pub cut_all : (s : List ℕ) (N i from : ℕ) (xs : List Span) → Cut s N xs i from → length xs ≡ N → i ≡ N → cut_in s (Some xs) ≡ tokens_of N s
unfolding cut_in tokens_left
cut_all s N i from xs inv all is =
    let z : N - i ≡ 0 = omega arith in
    let w : take i xs ≡ xs = take_all i xs (omega arith) in
    ap (λ (l : List (List ℕ)). some l) (sym (append-nil (list.map (text_of s) xs))) ∙ rw (z, w) at inv

-- ---- the places of the tokens: those of the first i are in xs, and the others start at `from`
unfoldable pub places_left : ℕ → ℕ → List ℕ → List Span
places_left zero from s = []
places_left (suc n) from s = places_from from (split_on 32 (drop from s))

module _ (s : List ℕ) (N : ℕ) (xs : List Span) where
  abbrev pub Placed : (i from : ℕ) → Type 0
  Placed i from = take i xs ++ places_left (N - i) from s ≡ places_from 0 (split_on 32 s)

  pub placed_first : 0 < N → Placed 0 0
  unfolding places_left
  placed_first h =
      let z : N - 0 ≡ suc (N - 1) = omega arith in
      rw z

module _ (s : List ℕ) (N i from e : ℕ) (f : Found s 32 from e) where
  abbrev here_at : Span
  here_at = record { at = from; len = e - from }

  places_more : not (beq (eqb (i + 1) N) (leb (length s) e)) ≡ false → i < N → places_left (N - i) from s ≡ here_at ∷ places_left (N - (i + 1)) (e + 1) s
  unfolding places_left places_from find_at
  places_more k l =
      let len : length (before 32 (drop from s)) ≡ e - from = omega (arith, f.is) in
      let next : from + length (before 32 (drop from s)) + 1 ≡ e + 1 = omega (arith, f.is) in
      by_eq (i + 1) N _
      (λ x. by_le (length s) e _
      (λ y. let z : N - i ≡ 1 = omega arith in
      let v : N - (i + 1) ≡ 0 = omega arith in
      rw (z, v, part_last s 32 from e f.is y, len))
      (λ y. let w : true ≡ false = rw (eq-eqb (i + 1) N x, lt-leb (length s) e y) at k in absurd (cc)))
      (λ x. by_le (length s) e _
      (λ y. let w : true ≡ false = rw (ne_eqb (i + 1) N x, le-leb (length s) e y) at k in absurd (cc))
      (λ y. let z : N - i ≡ suc (suc (N - (i + 2))) = omega arith in
      let v : N - (i + 1) ≡ suc (N - (i + 2)) = omega arith in
      rw (z, v, part_dot s 32 from e f.is y, next, len)))

  pub placed_next : (xs : List Span) → Placed s N xs i from → length xs ≡ N → not (beq (eqb (i + 1) N) (leb (length s) e)) ≡ false → i < N
      → Placed s N (set xs i (record { at = from; len = e - from })) (i + 1) (e + 1)
  placed_next xs inv all k l =
      rw (take_more_set xs i here_at (omega arith), append_assoc (take i xs) (here_at ∷ []) (places_left (N - (i + 1)) (e + 1) s), ← places_more k l)
      inv

pub placed_all : (s : List ℕ) (N i from : ℕ) (xs : List Span) → Placed s N xs i from → length xs ≡ N → i ≡ N → xs ≡ places_from 0 (split_on 32 s)
unfolding places_left
placed_all s N i from xs inv all is =
    let z : N - i ≡ 0 = omega arith in
    let w : take i xs ≡ xs = take_all i xs (omega arith) in
    sym (append-nil xs) ∙ rw (z, w) at inv

-- ---- for callers: what such a cut tells of the tokens
told_some : (b : Bool) (xs ps : List (List ℕ)) → cond b (some xs) none ≡ some ps → (b ≡ true) × (xs ≡ ps)
told_some true xs ps q = (refl, cc)
told_some false xs ps q = let z : ◌≡◌ {A = ℕ} 0 1 = cc in absurd (omega arith)

told_none : (b : Bool) (xs : List (List ℕ)) → cond b (some xs) none ≡ none → b ≡ false
told_none true xs q = let z : ◌≡◌ {A = ℕ} 0 1 = cc in absurd (omega arith)
told_none false xs q = refl

isnt : (n : ℕ) (s : List ℕ) → none ≡ tokens_of n s → eqb (token_count s) n ≡ false
unfolding tokens_of
isnt n s e = told_none (eqb (token_count s) n) (split_on 32 s) (sym e)

are : (n : ℕ) (s : List ℕ) (ps : List (List ℕ)) → some ps ≡ tokens_of n s → (eqb (token_count s) n ≡ true) × (split_on 32 s ≡ ps)
unfolding tokens_of
are n s ps e = told_some (eqb (token_count s) n) (split_on 32 s) ps (sym e)

tokens_there : (n : ℕ) (s : List ℕ) → eqb (token_count s) n ≡ true → tokens_of n s ≡ some (split_on 32 s)
unfolding tokens_of
tokens_there n s h = rw h

part_map : (s : List ℕ) (k : ℕ) (xs : List Span) → k < length xs → part_at k (list.map (text_of s) xs) ≡ text_of s (get_or xs k (record { at = 0; len = 0 }))
unfolding part_at
part_map s k [] h = absurd (omega arith)
part_map s zero (y ∷ ys) h = refl
part_map s (suc k) (y ∷ ys) h = part_map s k ys (omega arith)

module _ (n : ℕ) (s : List ℕ) (y : code.Option (List Span)) (is : cut_in s y ≡ tokens_of n s) where
  pub cut_isnt : y ≡ None → eqb (token_count s) n ≡ false
  unfolding cut_in
  cut_isnt e = isnt n s (rw e at is)

  module _ (xs : List Span) (q : y ≡ Some xs) where
    texts_are : some (list.map (text_of s) xs) ≡ tokens_of n s
    unfolding cut_in
    texts_are = rw q at is

    pub cut_count : eqb (token_count s) n ≡ true
    cut_count = (are n s _ texts_are).0

    many : 0 < n → length xs ≡ n
    unfolding token_count
    many h =
        let f = are n s _ texts_are in
        by_bool (none_empty (list.map (text_of s) xs)) _
        (λ b. let z : eqb (length (list.map (text_of s) xs)) n ≡ true = rw (f.1, b) at f.0 in
        sym (length-map xs (text_of s)) ∙ eqb-true _ n z)
        (λ b. let z : eqb 0 n ≡ true = rw (f.1, b) at f.0 in absurd (omega (arith, eqb-true 0 n z)))

    -- the token at place k
    pub cut_token : (k : ℕ) → k < n → token k s ≡ text_of s (get_or xs k (record { at = 0; len = 0 }))
    unfolding part_at
    cut_token k h = rw (are n s _ texts_are).1 (part_map s k xs (omega (arith, many (omega arith))))

-- ---- `after_token`
module _ (s : List ℕ) (e : ℕ) (f : Found s 32 0 e) where
  pub after_empty : e < 1 → take 0 (drop 0 s) ≡ after_token s
  unfolding after_token
  after_empty h = rw (le-ltb 0 (length (before 32 s)) (omega (arith, found_first s 32 e f)))

  after_is : 1 ≤ e → after_token s ≡ drop (e + 1) s
  unfolding after_token after_blank
  after_is h = rw (lt-ltb 0 (length (before 32 s)) (omega (arith, found_first s 32 e f)), ← found_first s 32 e f)

  pub after_there : 1 ≤ e → (r : List ℕ) → r ≡ drop (e + 1) s → r ≡ after_token s
  after_there h r p = p ∙ sym (after_is h)

pub ruleset after_tokens_rules = (after_empty, after_there)

none_left : (n : ℕ) → tokens_of (suc n) [] ≡ none
unfolding tokens_of token_count none_empty split_on
none_left n = rw (ne_eqb 0 (suc n) (λ k. omega arith))

-- the tokens of s are its first and those after it
after_tokens : (s : List ℕ) (n : ℕ)
    → tokens_of (suc (suc n)) s ≡ map (λ (qs : List (List ℕ)). take (find_at s 32 0) s ∷ qs) (tokens_of (suc n) (after_token s))
after_tokens s n =
    let e = find_at s 32 0 in
    let f : Found s 32 0 e = found s 32 0 e refl in
    by_lt e 1 _
    (λ h. let z : after_token s ≡ [] = sym (after_empty s e f h) in
    tokens_empty s e f h (suc n) ∙ rw (z, none_left n))
    (λ h. by_lt e (length s) _
    (λ l. rw (after_is s e f h) (tokens_more s e f l h n))
    (λ l. let z : after_token s ≡ [] = after_is s e f h ∙ drop_of_length-le s {i = e + 1} (omega arith) in
    tokens_last s e f l n ∙ rw (z, none_left n)))

module _ (s : List ℕ) (n : ℕ) where
  pub after_more : eqb (token_count (after_token s)) (suc n) ≡ true
      → (eqb (token_count s) (suc (suc n)) ≡ true) × ((k : ℕ) → token (suc k) s ≡ token k (after_token s))
  unfolding part_at
  after_more h =
      let z : tokens_of (suc n) (after_token s) ≡ some (split_on 32 (after_token s)) = tokens_there (suc n) (after_token s) h in
      let y : some (take (find_at s 32 0) s ∷ split_on 32 (after_token s)) ≡ tokens_of (suc (suc n)) s = sym (after_tokens s n ∙ rw z) in
      ((are (suc (suc n)) s _ y).0, λ k. rw (are (suc (suc n)) s _ y).1)

  pub after_other : eqb (token_count (after_token s)) (suc n) ≡ false → eqb (token_count s) (suc (suc n)) ≡ false
  unfolding tokens_of
  after_other h =
      let z : tokens_of (suc n) (after_token s) ≡ none = rw h in
      isnt (suc (suc n)) s (sym (after_tokens s n ∙ rw z))
