-- Document 01, "Message, version 1": what a media line and the attributes after it say, as one record, and the texts of
-- these lines. Each of them has one form in which it is read and written, so the text of a line follows from what it says.
use Rattle.std.specs.Prelude.{ℕ, ◌+◌, List, [], ◌∷◌, ◌++◌, map, Bool, cond, length, eqb, leb}
use Rattle.octets.specs.Append.{number_text}
use Rattle.octets.specs.Text.{ascii, blank}

pub record Stream : Type 0 where
  pub media : List ℕ
  pub port : ℕ
  pub transport : List ℕ
  pub payload : ℕ
  -- the text after the payload and its blank; empty if there is no such line, since the text of one is not empty
  pub rtpmap : List ℕ
  -- the texts after `a=fmtp:`, in order
  pub fmtp : List (List ℕ)
  -- 0 if there is none, since a packet time is not 0
  pub ptime : ℕ

-- what a media line says by itself
abbrev pub bare_stream : List ℕ → ℕ → List ℕ → ℕ → Stream
bare_stream media port transport payload = record {
  media = media;
  port = port;
  transport = transport;
  payload = payload;
  rtpmap = [];
  fmtp = [];
  ptime = 0;
}

-- what comes after `m=`: media, port, transport and payload, separated by one blank each
unfoldable pub media_text : Stream → List ℕ
media_text s = s.media ++ (blank ∷ (number_text s.port ++ (blank ∷ (s.transport ++ (blank ∷ number_text s.payload)))))

-- ---- the texts of the attributes' lines, without their ends
abbrev pub rtpmap_word : List ℕ
rtpmap_word = ascii "rtpmap:"

abbrev pub fmtp_word : List ℕ
fmtp_word = ascii "fmtp:"

abbrev pub ptime_word : List ℕ
ptime_word = ascii "ptime:"

unfoldable pub attribute_text : List ℕ → List ℕ
attribute_text a = ascii "a=" ++ a

-- the payload, one blank, and the text
unfoldable pub rtpmap_text : ℕ → List ℕ → List ℕ
rtpmap_text payload text = attribute_text (rtpmap_word ++ (number_text payload ++ (blank ∷ text)))

unfoldable pub fmtp_text : List ℕ → List ℕ
fmtp_text text = attribute_text (fmtp_word ++ text)

unfoldable pub ptime_text : ℕ → List ℕ
ptime_text n = attribute_text (ptime_word ++ number_text n)

-- ---- the limit of the rtpmap and fmtp lines together
abbrev pub most_attributes : ℕ
most_attributes = 256

unfoldable pub rtpmap_lines : Stream → List (List ℕ)
rtpmap_lines s = cond (eqb (length s.rtpmap) 0) [] (rtpmap_text s.payload s.rtpmap ∷ [])

unfoldable pub fmtp_lines : Stream → List (List ℕ)
fmtp_lines s = map fmtp_text s.fmtp

-- the octets of several lines together
unfoldable pub octets_together : List (List ℕ) → ℕ
octets_together [] = 0
octets_together (t ∷ ts) = length t + octets_together ts

unfoldable pub attributes_fit : Stream → Bool
attributes_fit s = leb (octets_together (rtpmap_lines s ++ fmtp_lines s)) most_attributes
