-- Laws of reading a media line and its attributes: what the code's tests leave, in their order, gives the definition's tests
-- their values, and a stored span stands for the text that the definition has.
-- Assumes nothing.
use Prim.Native.Nat.{ℕ, ◌≤◌, ◌<◌}
use mathlib.Core.Path.{◌≡◌, sym, ap, ◌∙◌, refl}
use mathlib.Core.List.{List, [], ◌∷◌, ◌++◌}
use mathlib.Core.Bool.{Bool, true, false}
use mathlib.Core.Option.{Option, some}
use lib.ListN.{length, get_or, drop}
use lib.Dec.{eqb, ltb}
use native.Mathlib.Omega.{arith}
use borrow.Author.Tests.{eqb-true, eqb-false, lt-ltb, le-ltb, le-leb, lt-leb, eq-eqb}
use Rattle.octets.specs.declared.Span.{Span}
use Rattle.std.specs.Prelude.{Some, None}
use Rattle.std.specs.Prelude as code
use Rattle.octets.specs.Decimal.{read_number, on_number}
use Rattle.octets.specs.Spans.{text_of}
use Rattle.octets.specs.Words.{begins}
use Rattle.texts.specs.Tokens.{token, after_blank, tokens_of}
use Rattle.texts.specs.Meaning.{cut_in}
use Rattle.texts.proofs.CutLaws.{cut_isnt, cut_count, cut_token}
use Rattle.media.specs.declared.Texts.{Texts}
use Rattle.media.specs.declared.Stream.{Stream as Places}
use Rattle.media.specs.Stream.{Stream, bare_stream, rtpmap_word, fmtp_word, ptime_word}
use Rattle.media.specs.Attributes.{fitting, with_rtpmap, with_fmtp, media_of, rtpmap_of, fmtp_of, ptime_of, attribute_of}
use Rattle.media.specs.Meaning.{spans_of, texts_by, stream_by, taken_by, bare_places}
use Rattle.media.proofs.TextsLaws.{map_snoc}

-- ---- the media line
-- what a stream without attributes says
bare_says : (m : List ℕ) (sp r : Span) (port payload : ℕ) → stream_by m (bare_places sp port r payload) ≡ bare_stream (text_of m sp) port (text_of m r) payload
unfolding stream_by texts_by spans_of text_of
bare_says m sp r port payload = refl

-- the stream y of a media line with the media a, at sp, and the transport b, at r
pub media_stored : (m : List ℕ) (sp r : Span) (a b : List ℕ) (port payload : ℕ) (y : Places) → y ≡ bare_places sp port r payload → text_of m sp ≡ a → text_of m r ≡ b
    → stream_by m y ≡ bare_stream a port b payload
media_stored m sp r a b port payload y e p q = rw (e, ← p, ← q) (bare_says m sp r port payload)

-- the media line t, which is cut into tokens, or not
module _ (m t : List ℕ) (y : code.Option (List Span)) (is : cut_in t y ≡ tokens_of 4 t) (x : code.Option Places) where
  pub media_few : y ≡ None → x ≡ None → taken_by m x ≡ media_of t
  unfolding media_of taken_by
  media_few e p = rw (cut_isnt 4 t y is e, p)

  -- b is the port's text, and z the number that it was read as; d and w are the payload's
  module _ (xs : List Span) (q : y ≡ Some xs) (b : List ℕ) (bs : b ≡ text_of t (get_or xs 1 (record { at = 0; len = 0 }))) (z : code.Option ℕ) (f : z ≡ read_number b) where
    port_is : read_number (token 1 t) ≡ z
    port_is = rw (cut_token 4 t y is xs q 1 (omega arith), ← bs) (sym f)

    pub media_no_port : z ≡ None → x ≡ None → taken_by m x ≡ media_of t
    unfolding media_of taken_by on_number
    media_no_port e p = rw (cut_count 4 t y is xs q, port_is, e, p)

    module _ (port : ℕ) (g : z ≡ Some port) (d : List ℕ) (ds : d ≡ text_of t (get_or xs 3 (record { at = 0; len = 0 }))) (w : code.Option ℕ) (h : w ≡ read_number d) where
      payload_is : read_number (token 3 t) ≡ w
      payload_is = rw (cut_token 4 t y is xs q 3 (omega arith), ← ds) (sym h)

      pub media_no_payload : w ≡ None → x ≡ None → taken_by m x ≡ media_of t
      unfolding media_of taken_by on_number
      media_no_payload e p = rw (cut_count 4 t y is xs q, port_is, g, payload_is, e, p)

      module _ (payload : ℕ) (k : w ≡ Some payload) where
        pub media_low : port < 1 → x ≡ None → taken_by m x ≡ media_of t
        unfolding media_of taken_by on_number
        media_low l p = rw (cut_count 4 t y is xs q, port_is, g, payload_is, k, lt-leb 1 port l, p)

        pub media_high : 1 ≤ port → 127 < payload → x ≡ None → taken_by m x ≡ media_of t
        unfolding media_of taken_by on_number
        media_high l o p = rw (cut_count 4 t y is xs q, port_is, g, payload_is, k, le-leb 1 port l, lt-leb payload 127 o, p)

        pub media_read : (v : Span) (s : Places) → 1 ≤ port → payload ≤ 127 → t ≡ text_of m v
            → stream_by m s ≡ bare_stream (text_of (text_of m v) (get_or xs 0 (record { at = 0; len = 0 }))) port (text_of (text_of m v) (get_or xs 2 (record { at = 0; len = 0 }))) payload
            → x ≡ Some s → taken_by m x ≡ media_of t
        unfolding media_of taken_by on_number
        media_read v s l o at e p =
            let first = cut_token 4 t y is xs q 0 (omega arith) in
            let third = cut_token 4 t y is xs q 2 (omega arith) in
            rw (cut_count 4 t y is xs q, port_is, g, payload_is, k, le-leb 1 port l, le-leb payload 127 o, p, first, third) (ap (λ (u : Stream). some u) (rw (← at) at e))

pub ruleset medias = (media_few, media_no_port, media_no_payload, media_low, media_high, media_read)

-- ---- the attributes
-- i, the test for an empty text, where that text is a
module _ (m : List ℕ) (sp : Span) (a : List ℕ) (p : text_of m sp ≡ a) (i : Bool) (e : i ≡ eqb (length (text_of m sp)) 0) where
  is_none : i ≡ true → ltb 0 (length a) ≡ false
  is_none h = rw (← p) (le-ltb 0 (length (text_of m sp)) (omega (arith, eqb-true (length (text_of m sp)) 0 (sym e ∙ h))))

  is_some : i ≡ false → ltb 0 (length a) ≡ true
  is_some h = rw (← p) (lt-ltb 0 (length (text_of m sp)) (omega (arith, eqb-false (length (text_of m sp)) 0 (sym e ∙ h))))

-- a first rtpmap line with the media line's payload: i and j are the tests for the text before and for the new one, at sp
module _ (m t : List ℕ) (s : Places) (sp : Span) (i j : Bool) (z : code.Option ℕ) (n : ℕ)
    (e : i ≡ eqb (length (text_of m s.rtpmap)) 0) (h : i ≡ true) (f : z ≡ read_number (token 0 t)) (g : z ≡ Some n) (k : n ≡ s.payload)
    (p : text_of m sp ≡ after_blank t) (q : j ≡ eqb (length (text_of m sp)) 0) where
  pub rtpmap_empty : j ≡ true → taken_by m None ≡ rtpmap_of (stream_by m s) t
  unfolding rtpmap_of on_number taken_by stream_by
  rtpmap_empty l = rw (← e, h, ← f, g, eq-eqb n s.payload k, is_none m sp (after_blank t) p j q l)

  pub rtpmap_read : (y : Option Stream) → j ≡ false
      → y ≡ fitting (stream_by m (record {
        media = s.media;
        port = s.port;
        transport = s.transport;
        payload = s.payload;
        rtpmap = sp;
        fmtp = s.fmtp;
        ptime = s.ptime;
      }))
      → y ≡ rtpmap_of (stream_by m s) t
  unfolding rtpmap_of on_number with_rtpmap stream_by
  rtpmap_read y l r = rw (← e, h, ← f, g, eq-eqb n s.payload k, is_some m sp (after_blank t) p j q l, ← p) r

-- one fmtp line more
pub fmtp_stored : (m : List ℕ) (s : Places) (y : Option Stream) (x : Texts) (sp : Span) → spans_of x ≡ spans_of s.fmtp ++ (sp ∷ [])
    → y ≡ fitting (stream_by m (record {
      media = s.media;
      port = s.port;
      transport = s.transport;
      payload = s.payload;
      rtpmap = s.rtpmap;
      fmtp = x;
      ptime = s.ptime;
    }))
    → y ≡ fitting (with_fmtp (text_of m sp) (stream_by m s))
unfolding stream_by with_fmtp texts_by
fmtp_stored m s y x sp p q = rw (← map_snoc (text_of m) (spans_of s.fmtp) sp, ← p) q

-- ---- an attribute by its word; a is the text of v
module _ (m a : List ℕ) (v : Span) (st : Stream) (y : Option Stream) (e : a ≡ text_of m v) where
  -- the text of w is what comes after n octets
  behind : (n : ℕ) (w : Span) → text_of m w ≡ drop n (text_of m v) → text_of m w ≡ drop n a
  behind n w p = p ∙ ap (drop n) (sym e)

  module _ (i : Bool) (f : i ≡ begins rtpmap_word a) where
    pub by_rtpmap : (w : Span) (t : List ℕ) → i ≡ true → text_of m w ≡ drop (length rtpmap_word) (text_of m v) → t ≡ text_of m w → y ≡ rtpmap_of st t → y ≡ attribute_of st (text_of m v)
    unfolding attribute_of
    by_rtpmap w t h p q r = rw (← e, ← f, h) (r ∙ ap (rtpmap_of st) (q ∙ behind (length rtpmap_word) w p))

    module _ (h : i ≡ false) (j : Bool) (g : j ≡ begins fmtp_word a) where
      pub by_fmtp : (w : Span) → j ≡ true → text_of m w ≡ drop (length fmtp_word) (text_of m v) → y ≡ fmtp_of st (text_of m w) → y ≡ attribute_of st (text_of m v)
      unfolding attribute_of
      by_fmtp w k p r = rw (← e, ← f, h, ← g, k) (r ∙ ap (fmtp_of st) (behind (length fmtp_word) w p))

      module _ (k : j ≡ false) (o : Bool) (u : o ≡ begins ptime_word a) where
        pub by_ptime : (t : List ℕ) → o ≡ true → t ≡ drop (length ptime_word) a → y ≡ ptime_of st t → y ≡ attribute_of st (text_of m v)
        unfolding attribute_of
        by_ptime t l q r = rw (← e, ← f, h, ← g, k, ← u, l) (r ∙ ap (ptime_of st) q)

        pub by_none : o ≡ false → y ≡ some st → y ≡ attribute_of st (text_of m v)
        unfolding attribute_of
        by_none l r = rw (← e, ← f, h, ← g, k, ← u, l) r

pub ruleset by_word = (by_rtpmap, by_fmtp, by_ptime, by_none)
