-- Document 01, "Message, version 1": how a media line and the attributes after it are read, from what comes after `m=` and
-- `a=`. `none` means that the message is wrong (number 10).
use Rattle.std.specs.Prelude.{ℕ, List, [], ◌∷◌, ◌++◌, Bool, ◌&&◌, ◌||◌, cond, length, drop, eqb, leb, ltb}
use Rattle.std.proofs.Math.Option.{Option, some}
use Rattle.octets.specs.Chain.{when, number}
use Rattle.octets.specs.Words.{begins}
use Rattle.texts.specs.Tokens.{token, token_count, after_blank}
use Rattle.media.specs.Stream.{Stream, bare_stream, rtpmap_word, fmtp_word, ptime_word, attributes_fit}

-- `m=`: media, port 1 to 65535, transport and one payload 0 to 127; `number` reads none above 65535
unfoldable pub media_of : List ℕ → Option Stream
media_of v =
    when (eqb (token_count v) 4)
    (number (token 1 v) λ port.
    number (token 3 v) λ payload.
    when (leb 1 port && leb payload 127)
    (some (bare_stream (token 0 v) port (token 2 v) payload)))

-- s, if its rtpmap and fmtp lines are not too long
unfoldable pub fitting : Stream → Option Stream
fitting s = when (attributes_fit s) (some s)

unfoldable pub with_rtpmap : List ℕ → Stream → Stream
with_rtpmap text s = record {
  media = s.media;
  port = s.port;
  transport = s.transport;
  payload = s.payload;
  rtpmap = text;
  fmtp = s.fmtp;
  ptime = s.ptime;
}

unfoldable pub with_fmtp : List ℕ → Stream → Stream
with_fmtp text s = record {
  media = s.media;
  port = s.port;
  transport = s.transport;
  payload = s.payload;
  rtpmap = s.rtpmap;
  fmtp = s.fmtp ++ (text ∷ []);
  ptime = s.ptime;
}

unfoldable pub with_ptime : ℕ → Stream → Stream
with_ptime n s = record {
  media = s.media;
  port = s.port;
  transport = s.transport;
  payload = s.payload;
  rtpmap = s.rtpmap;
  fmtp = s.fmtp;
  ptime = n;
}

-- `a=rtpmap:`, at most one: the media line's payload, one blank, and a text, which is not empty
unfoldable pub rtpmap_of : Stream → List ℕ → Option Stream
rtpmap_of s v =
    when (eqb (length s.rtpmap) 0)
    (number (token 0 v) λ payload.
    when (eqb payload s.payload && ltb 0 (length (after_blank v)))
    (fitting (with_rtpmap (after_blank v) s)))

-- `a=fmtp:`, at most three, with any text
unfoldable pub fmtp_of : Stream → List ℕ → Option Stream
fmtp_of s v = when (ltb (length s.fmtp) 3) (fitting (with_fmtp v s))

-- `a=ptime:`, at most one: 1 to 255
unfoldable pub ptime_of : Stream → List ℕ → Option Stream
ptime_of s v =
    when (eqb s.ptime 0)
    (number v λ ptime.
    when (leb 1 ptime && leb ptime 255)
    (some (with_ptime ptime s)))

-- one of these three attributes
unfoldable pub is_attribute : List ℕ → Bool
is_attribute a = begins rtpmap_word a || (begins fmtp_word a || begins ptime_word a)

-- `a=` after the media line; other attributes are skipped
unfoldable pub attribute_of : Stream → List ℕ → Option Stream
attribute_of s a =
    cond (begins rtpmap_word a) (rtpmap_of s (drop (length rtpmap_word) a))
    (cond (begins fmtp_word a) (fmtp_of s (drop (length fmtp_word) a))
    (cond (begins ptime_word a) (ptime_of s (drop (length ptime_word) a)) (some s)))
