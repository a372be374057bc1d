-- Laws of spans that lie inside their source: by how many texts there are, and where the end of the source cuts a span.
-- Assumes nothing.
use Prim.Native.Nat.{ℕ, zero, suc, ◌+◌, ◌-◌, ◌≤◌, ◌<◌, min}
use mathlib.Core.Path.{◌≡◌, refl, sym, ap, ◌∙◌}
use mathlib.Core.List.{List, [], ◌∷◌, ◌++◌, map}
use mathlib.Core.Bool.{Bool, true, false, ◌&&◌, and-false, and_assoc, and-eq-true_iff}
use lib.ListN.{length, take, get_or, set}
use Rattle.std.proofs.lemmas.List.{take_more, take-map}
use lib.Seq.{take-take}
use native.Mathlib.Omega.{arith}
use borrow.Author.Tests.{le-leb, lt-leb}
use Rattle.octets.specs.declared.Span.{Span}
use Rattle.octets.specs.Spans.{text_of, inside}
use Rattle.octets.proofs.CaseLaws.{by_le}
use Rattle.octets.proofs.SpanLaws.{text_past, text_cut, inside_yes}
use Rattle.media.specs.declared.Texts.{Texts}
use Rattle.media.specs.declared.Stream.{Stream as Places}
use Rattle.media.specs.Meaning.{spans_of, texts_by, stream_by, all_in, texts_inside, stream_inside, KeptInside}
use Rattle.media.specs.Private.{KeptSpan, KeptTexts}

-- ---- the test of several spans
module _ (m : List ℕ) where
  all_append : (xs ys : List Span) → all_in m (xs ++ ys) ≡ (all_in m xs && all_in m ys)
  unfolding all_in
  all_append [] ys = refl
  all_append (x ∷ xs) ys = rw (all_append xs ys) (sym (and_assoc (inside m x) (all_in m xs) (all_in m ys)))

  out_at : (d : Span) (xs : List Span) (i : ℕ) → i < length xs → inside m (get_or xs i d) ≡ false → all_in m xs ≡ false
  unfolding all_in
  out_at d [] i l e = absurd (omega arith)
  out_at d (x ∷ xs) zero l e = rw e
  out_at d (x ∷ xs) (suc i) l e = rw (out_at d xs i (omega arith) e) (and-false (inside m x))

  -- at place i of xs; t is the test of the span there
  module _ (xs : List Span) (i : ℕ) (d : Span) (l : i < length xs) (t : Bool) (p : t ≡ inside m (get_or xs i d)) where
    pub all_on : t ≡ true → all_in m (take i xs) ≡ true → all_in m (take (i + 1) xs) ≡ true
    unfolding all_in
    all_on q h = rw (take_more xs i d l, all_append (take i xs) (get_or xs i d ∷ []), h, ← p, q)

    pub all_out : t ≡ false → all_in m xs ≡ false
    all_out q = out_at d xs i l (sym p ∙ q)

  module _ (x : Texts) (xs : List Span) (e : xs ≡ spans_of x) where
    pub texts_in : x.count ≤ 3 → all_in m xs ≡ true → true ≡ texts_inside m x
    texts_in h a = rw (le-leb x.count 3 h, ← e) (sym a)

    pub texts_out : x.count ≤ 3 → all_in m xs ≡ false → false ≡ texts_inside m x
    texts_out h a = rw (le-leb x.count 3 h, ← e) (sym a)

  pub texts_many : (x : Texts) → 3 < x.count → false ≡ texts_inside m x
  texts_many x h = rw (lt-leb x.count 3 h)

-- ---- a span cut to its source
module _ (m : List ℕ) (sp : Span) where
  pub kept_none : length m < sp.at → KeptSpan m sp (record { at = 0; len = 0 })
  unfolding text_of
  kept_none h = record { same = text_past m sp h; inside = le-leb (0 + 0) (length m) (omega arith) }

  module _ (h : sp.at ≤ length m) where
    kept_cut : length m - sp.at < sp.len → KeptSpan m sp (record { at = sp.at; len = length m - sp.at })
    unfolding text_of
    kept_cut k = record { same = text_cut m sp h k; inside = le-leb (sp.at + (length m - sp.at)) (length m) (omega arith) }

    kept_whole : sp.len ≤ length m - sp.at → KeptSpan m sp sp
    kept_whole k = record { same = refl; inside = sym (inside_yes m sp h k) }

    pub kept_part : KeptSpan m sp (record { at = sp.at; len = min sp.len (length m - sp.at) })
    kept_part =
        by_le sp.len (length m - sp.at) _
        (λ k. let z : min sp.len (length m - sp.at) ≡ sp.len = omega arith in rw z (kept_whole k))
        (λ k. let z : min sp.len (length m - sp.at) ≡ length m - sp.at = omega arith in rw z (kept_cut k))

-- ---- the spans of several texts
module _ (m : List ℕ) where
  -- r is kept of the span at place i of xs
  module _ (d : Span) (r : Span) where
    pub same_set : (xs : List Span) (i : ℕ) → KeptSpan m (get_or xs i d) r → map (text_of m) (set xs i r) ≡ map (text_of m) xs
    same_set [] i k = refl
    same_set (x ∷ xs) zero k = rw k.same
    same_set (x ∷ xs) (suc i) k = rw (same_set xs i k)

    in_set : (xs : List Span) (i : ℕ) → KeptSpan m (get_or xs i d) r → all_in m (take i xs) ≡ true → all_in m (take (suc i) (set xs i r)) ≡ true
    unfolding all_in
    in_set [] i k h = refl
    in_set (x ∷ xs) zero k h = rw k.inside
    in_set (x ∷ xs) (suc i) k h =
        let f = (and-eq-true_iff (inside m x) (all_in m (take i xs))).0 h in
        rw (f.0) (in_set xs i k f.1)

    pub in_more : (xs : List Span) (i : ℕ) → KeptSpan m (get_or xs i d) r → all_in m (take i xs) ≡ true → all_in m (take (i + 1) (set xs i r)) ≡ true
    in_more xs i k h = let z : i + 1 ≡ suc i = omega arith in rw z (in_set xs i k h)

  in_front : (n : ℕ) (xs : List Span) → all_in m xs ≡ true → all_in m (take n xs) ≡ true
  unfolding all_in
  in_front zero xs h = refl
  in_front (suc n) [] h = refl
  in_front (suc n) (x ∷ xs) h =
      let f = (and-eq-true_iff (inside m x) (all_in m xs)).0 h in
      rw (f.0) (in_front n xs f.1)

  -- ys are kept of the spans of x, and n is how many texts there are
  pub kept_texts : (x : Texts) (n : ℕ) (ys : List Span) (i : ℕ) → n ≡ length (spans_of x) → n ≤ 3 → 3 ≤ i → map (text_of m) ys ≡ map (text_of m) x.spans → all_in m (take i ys) ≡ true
      → KeptTexts m x (record { count = n; spans = ys })
  unfolding texts_by spans_of
  kept_texts x n ys i e l h s a = record {
    same = sym (take-map (text_of m) n ys) ∙ rw s (take-map (text_of m) n x.spans ∙ rw e (ap (map (text_of m)) (front x.count x.spans)));
    inside = rw (le-leb n 3 l, ← take-take n i ys (omega arith)) (in_front n (take i ys) a);
  }
    where
      front : (k : ℕ) (xs : List Span) → take (length (take k xs)) xs ≡ take k xs
      front zero xs = refl
      front (suc k) [] = refl
      front (suc k) (x ∷ xs) = ap (λ (l : List Span). x ∷ l) (front k xs)

-- ---- a stream
pub kept_stream : (m : List ℕ) (s : Places) (a b d : Span) (x : Texts)
    → KeptSpan m s.media a → KeptSpan m s.transport b → KeptSpan m s.rtpmap d → KeptTexts m s.fmtp x
    → KeptInside m s (record { media = a; port = s.port; transport = b; payload = s.payload; rtpmap = d; fmtp = x; ptime = s.ptime })
unfolding stream_by stream_inside
kept_stream m s a b d x p q r f =
    record { same = rw (p.same, q.same, r.same, f.same); inside = rw (p.inside, q.inside, r.inside, f.inside) }
