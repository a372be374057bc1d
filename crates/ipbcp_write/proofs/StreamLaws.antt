-- The media line and its attributes: each line is appended as its parts are, one after the other.
-- Assumes nothing.
use Prim.Native.Nat.{ℕ, ◌+◌, ◌≤◌, ◌<◌}
use mathlib.Core.Path.{◌≡◌}
use mathlib.Core.List.{List, [], ◌∷◌, ◌++◌, map, append_assoc}
use lib.ListN.{length, take, get_or}
use lib.Seq.{take_all}
use Rattle.std.proofs.lemmas.List.{take_more, map-append}
use borrow.Author.Tests.{eq-eqb, ne_eqb}
use Rattle.octets.specs.Append.{Appends, number_text}
use Rattle.octets.specs.declared.Span.{Span}
use Rattle.octets.specs.Spans.{text_of}
use Rattle.octets.proofs.AppendLaws.{append_nil, append_then}
use Rattle.sdp.specs.Written.{line_text, lines_text}
use Rattle.media.specs.declared.Texts.{Texts}
use Rattle.media.specs.declared.Stream.{Stream as Places}
use Rattle.media.specs.Stream.{media_text, attribute_text, rtpmap_text, fmtp_text, ptime_text, rtpmap_lines, fmtp_lines}
use Rattle.media.specs.Meaning.{spans_of, texts_by, stream_by}
use Rattle.ipbcp.specs.Writing.{ptime_lines, stream_lines, attribute_lines}
use Rattle.ipbcp_write.proofs.LineLaws.{lines_one, lines_append}

-- ---- the media line; u is its media or transport, and n its port or payload
module _ (t u : List ℕ) (n : ℕ) (l f g h : List ℕ) (at a b r : ℕ) (e : t ≡ u) where
  pub port_then : Appends g b (number_text n ++ (32 ∷ [])) r h → Appends f a (t ++ (32 ∷ [])) b g → Appends l at (109 ∷ 61 ∷ []) a f
      → Appends l at (109 ∷ 61 ∷ (u ++ (32 ∷ (number_text n ++ (32 ∷ []))))) r h
  port_then z y x =
      rw (← e)
      (simp append_assoc at (append_then l f h (109 ∷ 61 ∷ []) _ at a r (append_then f g h (t ++ (32 ∷ [])) (number_text n ++ (32 ∷ [])) a b r z y) x))

  pub payload_then : Appends g b (13 ∷ 10 ∷ []) r h → Appends f a (number_text n) b g → Appends l at (t ++ (32 ∷ [])) a f
      → Appends l at (line_text (u ++ (32 ∷ number_text n))) r h
  unfolding line_text
  payload_then z y x =
      rw (← e)
      (simp append_assoc
      (simp append_assoc at (append_then l f h (t ++ (32 ∷ [])) _ at a r (append_then f g h (number_text n) (13 ∷ 10 ∷ []) a b r z y) x)))

pub media_then : (m : List ℕ) (s : Places) (l f g : List ℕ) (at a r : ℕ)
    → Appends f a (line_text (text_of m s.transport ++ (32 ∷ number_text s.payload))) r g
    → Appends l at (109 ∷ 61 ∷ (text_of m s.media ++ (32 ∷ (number_text s.port ++ (32 ∷ []))))) a f
    → Appends l at (line_text (109 ∷ 61 ∷ media_text (stream_by m s))) r g
unfolding line_text media_text stream_by
media_then m s l f g at a r y x = simp append_assoc (simp append_assoc at (append_then l f g _ _ at a r y x))

-- ---- rtpmap; t is the text
module _ (m : List ℕ) (s : Places) (t l : List ℕ) (at : ℕ) (e : t ≡ text_of m s.rtpmap) where
  pub rtpmap_none : length t ≡ 0 → Appends l at (lines_text (rtpmap_lines (stream_by m s))) at l
  unfolding rtpmap_lines stream_by lines_text
  rtpmap_none n = rw (← e, eq-eqb (length t) 0 n) (append_nil l at)

  pub rtpmap_some : (f g h : List ℕ) (a b r : ℕ) → (length t ≡ 0 → ⊥) → Appends g b (line_text t) r h → Appends f a (number_text s.payload ++ (32 ∷ [])) b g
      → Appends l at (97 ∷ 61 ∷ 114 ∷ 116 ∷ 112 ∷ 109 ∷ 97 ∷ 112 ∷ 58 ∷ []) a f → Appends l at (lines_text (rtpmap_lines (stream_by m s))) r h
  unfolding rtpmap_lines stream_by line_text rtpmap_text attribute_text
  rtpmap_some f g h a b r n z y x =
      let u = append_then f g h (number_text s.payload ++ (32 ∷ [])) (line_text t) a b r z y in
      rw (← e, ne_eqb (length t) 0 n, lines_one)
      (simp append_assoc (simp append_assoc at (append_then l f h (97 ∷ 61 ∷ 114 ∷ 116 ∷ 112 ∷ 109 ∷ 97 ∷ 112 ∷ 58 ∷ []) _ at a r u x)))

-- ---- fmtp
pub fmtp_then : (t l f g : List ℕ) (at a r : ℕ) → Appends f a (line_text t) r g → Appends l at (97 ∷ 61 ∷ 102 ∷ 109 ∷ 116 ∷ 112 ∷ 58 ∷ []) a f
    → Appends l at (line_text (fmtp_text t)) r g
unfolding line_text fmtp_text attribute_text
fmtp_then t l f g at a r y x = append_then l f g (97 ∷ 61 ∷ 102 ∷ 109 ∷ 116 ∷ 112 ∷ 58 ∷ []) (line_text t) at a r y x

module _ (m : List ℕ) (xs : List Span) (l : List ℕ) (at : ℕ) where
  -- the lines of the first i texts
  abbrev pub Fmtps : (i k : ℕ) (f : List ℕ) → Type 0
  Fmtps i k f = Appends l at (lines_text (map fmtp_text (map (text_of m) (take i xs)))) k f

  pub fmtps_none : Fmtps 0 at l
  unfolding lines_text
  fmtps_none = append_nil l at

  -- t is the text at i
  pub fmtps_more : (i k r : ℕ) (f g t : List ℕ) (d : Span) → i < length xs → t ≡ text_of m (get_or xs i d) → Appends f k (line_text (fmtp_text t)) r g → Fmtps i k f → Fmtps (i + 1) r g
  fmtps_more i k r f g t d h e q p =
      rw (take_more xs i d h, map-append (text_of m) (take i xs) (get_or xs i d ∷ []), map-append fmtp_text (map (text_of m) (take i xs)) (text_of m (get_or xs i d) ∷ []), lines_append, lines_one, ← e)
      (append_then l f g _ _ at k r q p)

  pub fmtps_all : (x : Texts) (i k : ℕ) (f : List ℕ) → xs ≡ spans_of x → length xs ≤ i → Fmtps i k f → Appends l at (lines_text (map fmtp_text (texts_by m x))) k f
  unfolding texts_by
  fmtps_all x i k f e h p = rw (← e) (rw (take_all i xs h) at p)

-- ---- ptime
module _ (n : ℕ) (l : List ℕ) (at : ℕ) where
  pub ptime_none : n ≡ 0 → Appends l at (lines_text (ptime_lines n)) at l
  unfolding ptime_lines lines_text
  ptime_none e = rw (eq-eqb n 0 e) (append_nil l at)

  pub ptime_some : (f g h : List ℕ) (a b r : ℕ) → (n ≡ 0 → ⊥) → Appends g b (13 ∷ 10 ∷ []) r h → Appends f a (number_text n) b g
      → Appends l at (97 ∷ 61 ∷ 112 ∷ 116 ∷ 105 ∷ 109 ∷ 101 ∷ 58 ∷ []) a f → Appends l at (lines_text (ptime_lines n)) r h
  unfolding ptime_lines line_text ptime_text attribute_text
  ptime_some f g h a b r e y x w =
      rw (ne_eqb n 0 e, lines_one)
      (append_then l f h (97 ∷ 61 ∷ 112 ∷ 116 ∷ 105 ∷ 109 ∷ 101 ∷ 58 ∷ []) _ at a r (append_then f g h (number_text n) (13 ∷ 10 ∷ []) a b r y x) w)

-- ---- all of them
module _ (m : List ℕ) (s : Places) (l f g h : List ℕ) (at a b r : ℕ) where
  pub attributes_then : Appends g b (lines_text (ptime_lines s.ptime)) r h → Appends f a (lines_text (map fmtp_text (texts_by m s.fmtp))) b g
      → Appends l at (lines_text (rtpmap_lines (stream_by m s))) a f → Appends l at (lines_text (attribute_lines (stream_by m s))) r h
  unfolding stream_by fmtp_lines
  attributes_then z y x = rw (lines_append, lines_append) (append_then l f h _ _ at a r (append_then f g h _ _ a b r z y) x)

  pub stream_then : Appends f a (lines_text (attribute_lines (stream_by m s))) r g → Appends l at (line_text (109 ∷ 61 ∷ media_text (stream_by m s))) a f
      → Appends l at (lines_text (stream_lines (stream_by m s))) r g
  unfolding stream_lines lines_text
  stream_then y x = append_then l f g _ _ at a r y x
