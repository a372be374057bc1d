-- Laws of the lengths of attribute lines: a line's length is its text's and that of the fixed octets around it, and counts that
-- stop one over the limit tell whether the sum is over it.
-- Assumes nothing.
use Prim.Native.Nat.{ℕ, ◌+◌, ◌/◌, ◌≤◌, ◌<◌}
use mathlib.Core.Path.{◌≡◌, sym, ◌∙◌}
use mathlib.Core.List.{List, [], ◌∷◌, ◌++◌, map}
use lib.ListN.{length, take, get_or, length-append}
use lib.Dec.{leb}
use native.Mathlib.Omega.{arith}
use Rattle.std.proofs.lemmas.List.{take_more, map-append}
use borrow.Author.Tests.{le-leb, lt-leb, eq-eqb, ne_eqb}
use Rattle.octets.specs.declared.Span.{Span}
use Rattle.octets.specs.Append.{width_from, number_text}
use Rattle.octets.specs.Spans.{text_of}
use Rattle.octets.proofs.AppendLaws.{width_one, width_suc, length_last}
use Rattle.octets.proofs.CaseLaws.{by_le}
use Rattle.media.specs.declared.Stream.{Stream as Places}
use Rattle.media.specs.Stream.{most_attributes, attribute_text, rtpmap_text, fmtp_text, rtpmap_lines, fmtp_lines, octets_together, attributes_fit}
use Rattle.media.specs.Meaning.{texts_by, stream_by}
use Rattle.media.specs.Private.{capped, Width}

-- ---- how many digits a payload has
pub width_1 : (n : ℕ) → n < 10 → Width n 1
width_1 n h = record { is = sym (width_one 19 n h); few = omega arith }

pub width_2 : (n : ℕ) → 10 ≤ n → n < 100 → Width n 2
width_2 n g h = record { is = rw (width_suc 18 n g, width_one 18 (n / 10) (omega arith)); few = omega arith }

pub width_3 : (n : ℕ) → 10 ≤ n → 100 ≤ n → n < 256 → Width n 3
width_3 n f g h =
    record { is = rw (width_suc 18 n f, width_suc 17 (n / 10) (omega arith), width_one 17 (n / 10 / 10) (omega arith)); few = omega arith }

pub ruleset widths = (width_1, width_2, width_3)

-- ---- the lines
length_number : (n : ℕ) → length (number_text n) ≡ width_from 19 n
unfolding number_text
length_number n = length_last (width_from 19 n) n

length_rtpmap : (n : ℕ) (t : List ℕ) → length (rtpmap_text n t) ≡ length t + width_from 19 n + 10
unfolding rtpmap_text attribute_text
length_rtpmap n t = simp (length-append, length_number) (omega arith)

length_fmtp : (t : List ℕ) → length (fmtp_text t) ≡ length t + 7
unfolding fmtp_text attribute_text
length_fmtp t = omega arith

module _ (m : List ℕ) (s : Places) (t : List ℕ) (e : t ≡ text_of m s.rtpmap) where
  pub rtpmap_none : length t ≡ 0 → 0 ≡ capped (octets_together (rtpmap_lines (stream_by m s)))
  unfolding rtpmap_lines stream_by octets_together
  rtpmap_none h = rw (← e, eq-eqb (length t) 0 h)

  pub rtpmap_some : (a w r : ℕ) → (length t ≡ 0 → ⊥) → a ≡ capped (length t) → Width s.payload w → r ≡ capped (a + w + 10)
      → r ≡ capped (octets_together (rtpmap_lines (stream_by m s)))
  unfolding rtpmap_lines stream_by octets_together
  rtpmap_some a w r h p q f = rw (← e, ne_eqb (length t) 0 h) (let k : w ≡ width_from 19 s.payload = q.is in omega (arith, length_rtpmap s.payload t))

pub ruleset rtpmaps = (rtpmap_none, rtpmap_some)

pub fmtp_capped : (m : List ℕ) (sp : Span) (t : List ℕ) (a r : ℕ) → t ≡ text_of m sp → a ≡ capped (length t) → r ≡ capped (a + 7)
    → r ≡ capped (length (fmtp_text (text_of m sp)))
fmtp_capped m sp t a r e p q = rw (← e) (omega (arith, length_fmtp t))

pub together_append : (xs ys : List (List ℕ)) → octets_together (xs ++ ys) ≡ octets_together xs + octets_together ys
unfolding octets_together
together_append [] ys = omega arith
together_append (x ∷ xs) ys = rw (together_append xs ys) (omega arith)

-- the fmtp lines of the first i spans, and of one more; a is that line's count
pub fmtps_more : (m : List ℕ) (xs : List Span) (i : ℕ) (d : Span) (n a r : ℕ) → i < length xs
    → n ≡ capped (octets_together (map fmtp_text (map (text_of m) (take i xs)))) → a ≡ capped (length (fmtp_text (text_of m (get_or xs i d)))) → r ≡ capped (n + a)
    → r ≡ capped (octets_together (map fmtp_text (map (text_of m) (take (i + 1) xs))))
unfolding octets_together
fmtps_more m xs i d n a r h e f g =
    rw (take_more xs i d h, map-append (text_of m) (take i xs) (get_or xs i d ∷ []), map-append fmtp_text (map (text_of m) (take i xs)) (text_of m (get_or xs i d) ∷ []), together_append _ _)
    (omega arith)

-- ---- all of them together
sum_fits : (p q a b : ℕ) → a ≡ capped p → b ≡ capped q → leb (a + b) most_attributes ≡ leb (p + q) most_attributes
sum_fits p q a b e f =
    by_le (p + q) most_attributes _
    (λ h. le-leb (a + b) most_attributes (omega arith) ∙ sym (le-leb (p + q) most_attributes h))
    (λ h. lt-leb (a + b) most_attributes (omega arith) ∙ sym (lt-leb (p + q) most_attributes h))

pub all_fit : (m : List ℕ) (s : Places) (a b : ℕ)
    → a ≡ capped (octets_together (rtpmap_lines (stream_by m s))) → b ≡ capped (octets_together (map fmtp_text (texts_by m s.fmtp)))
    → leb (a + b) most_attributes ≡ attributes_fit (stream_by m s)
unfolding attributes_fit fmtp_lines stream_by
all_fit m s a b e f = rw together_append (sum_fits _ _ a b e f)
