-- Document 01, "Message, version 1": the one form in which a message is written, and which fields are in range (number 5
-- otherwise).
use Rattle.std.specs.Prelude.{ℕ, ◌+◌, ◌≤◌, List, [], ◌∷◌, ◌++◌, Bool, true, not, ◌&&◌, cond, length, eqb, leb, ltb}
use Rattle.std.proofs.Math.Option.{Option, none, some}
use Rattle.octets.specs.Chain.{when}
use Rattle.octets.specs.Split.{has}
use Rattle.octets.specs.Text.{ascii, blank}
use Rattle.sdp.specs.Lines.{all_plain}
use Rattle.sdp.specs.Written.{lines_text}
use Rattle.address.specs.declared.Address.{Address}
use Rattle.address.specs.declared.Address.TheVariants.{V4, V6}
use Rattle.address.specs.Kinds.{is_unicast}
use Rattle.address.specs.Canonical.{address_text}
use Rattle.media.specs.Stream.{Stream, media_text, rtpmap_lines, fmtp_lines, ptime_text, attributes_fit}
use Rattle.description.specs.Draft.{in_word, ip4_word, ip6_word}
use Rattle.ipbcp.specs.declared.MessageType.{MessageType}
use Rattle.ipbcp.specs.declared.MessageType.TheVariants.{Request, Accepted, Confused, Rejected}
use Rattle.ipbcp.specs.Types.{ipbcp_start, type_word}
use Rattle.ipbcp.specs.Reading.{Reading, typed, described}

-- what is to be written: one of the four types, a Request or Accepted with a media line
pub data Content : Type 0 where
  request_content : Stream → Content
  accepted_content : Stream → Content
  confused_content : Content
  rejected_content : Content

-- ---- the lines, without their ends
unfoldable pub family_word : Address → List ℕ
family_word (V4 n) = ip4_word
family_word (V6 h l) = ip6_word

-- IN, the family and the address
unfoldable pub host_text : Address → List ℕ
host_text a = in_word ++ (blank ∷ (family_word a ++ (blank ∷ address_text a)))

abbrev pub version_text : List ℕ
version_text = ascii "v=0"

-- our own address
unfoldable pub origin_text : Address → List ℕ
origin_text a = ascii "o=- 0 0 " ++ host_text a

-- a blank, since RFC 4566 allows no empty `s=`
abbrev pub session_text : List ℕ
session_text = ascii "s= "

-- our own address
unfoldable pub connection_text : Address → List ℕ
connection_text a = ascii "c=" ++ host_text a

abbrev pub time_text : List ℕ
time_text = ascii "t=0 0"

-- version 1 and the type
unfoldable pub ipbcp_text : MessageType → List ℕ
ipbcp_text k = ipbcp_start ++ (ascii "1 " ++ type_word k)

-- one ptime line, or none for a packet time of 0
unfoldable pub ptime_lines : ℕ → List (List ℕ)
ptime_lines n = cond (eqb n 0) [] (ptime_text n ∷ [])

-- rtpmap, fmtp in order, and ptime
abbrev pub attribute_lines : Stream → List (List ℕ)
attribute_lines s = rtpmap_lines s ++ (fmtp_lines s ++ ptime_lines s.ptime)

-- the media line, and the attributes
unfoldable pub stream_lines : Stream → List (List ℕ)
stream_lines s = (ascii "m=" ++ media_text s) ∷ attribute_lines s

unfoldable pub content_type : Content → MessageType
content_type (request_content s) = Request
content_type (accepted_content s) = Accepted
content_type confused_content = Confused
content_type rejected_content = Rejected

unfoldable pub media_lines : Content → List (List ℕ)
media_lines (request_content s) = stream_lines s
media_lines (accepted_content s) = stream_lines s
media_lines confused_content = []
media_lines rejected_content = []

unfoldable pub message_lines : Address → Content → List (List ℕ)
message_lines own c =
    version_text ∷ origin_text own ∷ session_text ∷ connection_text own ∷ time_text ∷ ipbcp_text (content_type c) ∷ media_lines c

unfoldable pub message_text : Address → Content → List ℕ
message_text own c = lines_text (message_lines own c)

-- ---- what is in range: exactly what is read back
-- not empty, without a blank, and of octets that may be part of a line
unfoldable pub is_token : List ℕ → Bool
is_token t = ltb 0 (length t) && (not (has blank t) && all_plain t)

unfoldable pub all_texts_plain : List (List ℕ) → Bool
all_texts_plain [] = true
all_texts_plain (t ∷ ts) = all_plain t && all_texts_plain ts

-- media and transport are tokens, port and payload in range
unfoldable pub right_media : Stream → Bool
right_media s = is_token s.media && (leb 1 s.port && (leb s.port 65535 && (is_token s.transport && leb s.payload 127)))

-- rtpmap and at most three fmtp texts that may be part of lines, a packet time in range, and lines that are not too long
unfoldable pub right_attributes : Stream → Bool
right_attributes s =
    all_plain s.rtpmap && (leb (length s.fmtp) 3 && (all_texts_plain s.fmtp && (leb s.ptime 255 && attributes_fit s)))

unfoldable pub right_content : Content → Bool
right_content (request_content s) = right_media s && right_attributes s
right_content (accepted_content s) = right_media s && right_attributes s
right_content confused_content = true
right_content rejected_content = true

-- the longest message that is written
abbrev pub most_written : ℕ
most_written = 447

-- the octets to write, if all fields are in range and the message is not too long
unfoldable pub message_octets : Address → Content → Option (List ℕ)
message_octets own c =
    when (is_unicast own && (right_content c && leb (length (message_text own c)) most_written))
    (some (message_text own c))

-- the same if there is any content
unfoldable pub message_octets_in : Address → Option Content → Option (List ℕ)
message_octets_in own none = none
message_octets_in own (some c) = message_octets own c

-- what such a message is read as
unfoldable pub reading_of : Address → Content → Reading
reading_of own (request_content s) = described Request own s
reading_of own (accepted_content s) = described Accepted own s
reading_of own confused_content = typed 1 Confused
reading_of own rejected_content = typed 1 Rejected

-- if there is a media line, its media and transport have at most twelve octets together
unfoldable pub voice : Content → Type 0
voice (request_content s) = length s.media + length s.transport ≤ 12
voice (accepted_content s) = length s.media + length s.transport ≤ 12
voice confused_content = 0 ≤ 0
voice rejected_content = 0 ≤ 0
