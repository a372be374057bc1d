-- Laws of the ranges: what the code found of each field, in the order of the definitions, tells whether all are right.
-- Assumes nothing.
use Prim.Native.Nat.{ℕ, zero, suc, ◌+◌, ◌≤◌, ◌<◌}
use mir.Syntax.{w8, w16}
use mir.Val.{Fits}
use mathlib.Core.Path.{◌≡◌, sym, ◌∙◌}
use mathlib.Core.List.{List, [], ◌∷◌, ◌++◌, map}
use mathlib.Core.Bool.{Bool, true, false, ◌&&◌, and-true, and-false, and_assoc}
use lib.ListN.{length, take, get_or}
use Rattle.std.proofs.lemmas.List.{take_more, length-map}
use lib.Dec.{leb}
use native.Mathlib.Omega.{arith}
use borrow.Author.Tests.{lt-ltb, le-ltb, le-leb, lt-leb}
use Rattle.octets.specs.declared.Span.{Span}
use Rattle.octets.specs.Split.{has, Found}
use Rattle.octets.specs.Spans.{text_of}
use Rattle.sdp.specs.Lines.{all_plain}
use Rattle.media.specs.declared.Stream.{Stream as Places}
use Rattle.media.specs.Stream.{attributes_fit}
use Rattle.media.specs.Meaning.{spans_of, texts_by, stream_by}
use Rattle.description.proofs.LineLaws.{found_has}
use Rattle.ipbcp.specs.declared.Body.{Body}
use Rattle.ipbcp.specs.Writing.{is_token, all_texts_plain, right_media, right_attributes}
use Rattle.ipbcp_write.specs.Private.{writable_body}

-- ---- tokens
module _ (t : List ℕ) where
  pub token_empty : length t < 1 → false ≡ is_token t
  unfolding is_token
  token_empty h = rw (le-ltb 0 (length t) (omega arith))

  module _ (some : 1 ≤ length t) (e : ℕ) (f : Found t 32 0 e) where
    pub token_blank : e < length t → false ≡ is_token t
    unfolding is_token
    token_blank h =
        let b : has 32 t ≡ true = sym (found_has t 32 e f true (sym (lt-ltb e (length t) h))) in
        rw (lt-ltb 0 (length t) (omega arith), b)

    pub token_is : length t ≤ e → (p : Bool) → p ≡ all_plain t → p ≡ is_token t
    unfolding is_token
    token_is h p q =
        let b : has 32 t ≡ false = sym (found_has t 32 e f false (sym (le-ltb e (length t) h))) in
        rw (lt-ltb 0 (length t) (omega arith), b) q

pub ruleset tokens = (token_empty, token_blank, token_is)

-- ---- the media line, whose texts the code has as a and b
module _ (m : List ℕ) (s : Places) (a : List ℕ) (at : a ≡ text_of m s.media) (t : Bool) (is : t ≡ is_token a) where
  pub media_none : t ≡ false → false ≡ right_media (stream_by m s)
  unfolding right_media stream_by
  media_none e = let x : is_token (text_of m s.media) ≡ false = rw (← at) (sym is ∙ e) in rw x

  module _ (yes : t ≡ true) where
    media_token : is_token (text_of m s.media) ≡ true
    media_token = rw (← at) (sym is ∙ yes)

    pub port_none : s.port < 1 → false ≡ right_media (stream_by m s)
    unfolding right_media stream_by
    port_none h = rw (media_token, lt-leb 1 s.port h)

    module _ (low : 1 ≤ s.port) (high : Fits w16 s.port) (b : List ℕ) (bt : b ≡ text_of m s.transport) (u : Bool) (be : u ≡ is_token b) where
      pub transport_none : u ≡ false → false ≡ right_media (stream_by m s)
      unfolding right_media stream_by
      transport_none e =
          let x : is_token (text_of m s.transport) ≡ false = rw (← bt) (sym be ∙ e) in
          rw (media_token, le-leb 1 s.port low, le-leb s.port 65535 (omega arith), x)

      pub payload_is : u ≡ true → (w : Bool) → w ≡ leb s.payload 127 → w ≡ right_media (stream_by m s)
      unfolding right_media stream_by
      payload_is e w p =
          let x : is_token (text_of m s.transport) ≡ true = rw (← bt) (sym be ∙ e) in
          rw (media_token, le-leb 1 s.port low, le-leb s.port 65535 (omega arith), x) p

pub ruleset medias = (media_none, port_none, transport_none, payload_is)

-- ---- the texts at the places xs; t says whether the text a at i may be part of lines
module _ (m : List ℕ) where
  abbrev plain : List Span → Bool
  plain xs = all_texts_plain (map (text_of m) xs)

  plain_append : (xs : List Span) (x : Span) → plain (xs ++ (x ∷ [])) ≡ (plain xs && all_plain (text_of m x))
  unfolding all_texts_plain
  plain_append [] x = and-true (all_plain (text_of m x))
  plain_append (y ∷ xs) x = rw (plain_append xs x) (sym (and_assoc (all_plain (text_of m y)) (plain xs) (all_plain (text_of m x))))

  out_at : (d : Span) (xs : List Span) (i : ℕ) → i < length xs → all_plain (text_of m (get_or xs i d)) ≡ false → plain xs ≡ false
  unfolding all_texts_plain
  out_at d [] i l e = absurd (omega arith)
  out_at d (x ∷ xs) zero l e = rw e
  out_at d (x ∷ xs) (suc i) l e = rw (out_at d xs i (omega arith) e) (and-false (all_plain (text_of m x)))

  module _ (xs : List Span) (i : ℕ) (d : Span) (l : i < length xs) (a : List ℕ) (at : a ≡ text_of m (get_or xs i d)) (t : Bool) (is : t ≡ all_plain a) where
    pub plain_more : t ≡ true → plain (take i xs) ≡ true → plain (take (i + 1) xs) ≡ true
    plain_more e h = rw (take_more xs i d l, plain_append (take i xs) (get_or xs i d), h, ← at, ← is, e)

    pub plain_out : t ≡ false → false ≡ plain xs
    plain_out e = sym (out_at d xs i l (rw (← at) (sym is ∙ e)))

-- ---- the attributes, whose rtpmap the code has as a, and the fmtp texts at xs
module _ (m : List ℕ) (s : Places) (a : List ℕ) (at : a ≡ text_of m s.rtpmap) (t : Bool) (is : t ≡ all_plain a) where
  pub rtpmap_none : t ≡ false → false ≡ right_attributes (stream_by m s)
  unfolding right_attributes stream_by
  rtpmap_none e = let x : all_plain (text_of m s.rtpmap) ≡ false = rw (← at) (sym is ∙ e) in rw x

  module _ (yes : t ≡ true) (xs : List Span) (places : xs ≡ spans_of s.fmtp) (few : length xs ≤ 3) (u : Bool) (be : u ≡ all_texts_plain (map (text_of m) xs)) where
    texts_are : map (text_of m) xs ≡ texts_by m s.fmtp
    unfolding texts_by
    texts_are = rw places

    few_texts : length (texts_by m s.fmtp) ≤ 3
    few_texts = rw (← texts_are, length-map xs (text_of m)) few

    rtpmap_plain : all_plain (text_of m s.rtpmap) ≡ true
    rtpmap_plain = rw (← at) (sym is ∙ yes)

    pub fmtp_none : u ≡ false → false ≡ right_attributes (stream_by m s)
    unfolding right_attributes stream_by
    fmtp_none e =
        let x : all_texts_plain (texts_by m s.fmtp) ≡ false = rw (← texts_are) (sym be ∙ e) in
        rw (rtpmap_plain, le-leb (length (texts_by m s.fmtp)) 3 few_texts, x)

    pub attributes_are : u ≡ true → Fits w8 s.ptime → (w : Bool) → w ≡ attributes_fit (stream_by m s) → w ≡ right_attributes (stream_by m s)
    unfolding right_attributes stream_by
    attributes_are e h w p =
        let x : all_texts_plain (texts_by m s.fmtp) ≡ true = rw (← texts_are) (sym be ∙ e) in
        rw (rtpmap_plain, le-leb (length (texts_by m s.fmtp)) 3 few_texts, x, le-leb s.ptime 255 (omega arith)) p

pub ruleset attributes = (rtpmap_none, fmtp_none, attributes_are)

-- ---- a body that the code has matched
pub right_of : (m : List ℕ) (b c : Body) (t : Bool) → b ≡ c → t ≡ writable_body m c → t ≡ writable_body m b
right_of m b c t e p = rw e p
