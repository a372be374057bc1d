-- What a detailed trace adds to the line of an event: the octets written and the bearer in force, with a blank before each.
use Rattle.std.specs.Prelude.{ℕ, List, ◌∷◌, ◌++◌}
use Rattle.std.proofs.Math.Option.{Option, none, some}
use Rattle.octets.specs.Append.{number_text}
use Rattle.octets.specs.Text.{ascii, char, blank}
use Rattle.address.specs.Canonical.{address_text}
use Rattle.media.specs.Stream.{Stream}
use Rattle.bearer.specs.Bearer.{Bearer}
use Rattle.notation.specs.Notation.{octets_shown, texts_shown}

-- ---- the bearer in force: address, port, media, transport, payload, rtpmap, fmtp and packet time, with semicolons between them
-- a field after a semicolon
abbrev pub field : List ℕ → List ℕ
field t = char ";" ∷ t

unfoldable pub media_shown : Stream → List ℕ
media_shown s = field (number_text s.port) ++ (field s.media ++ (field s.transport ++ field (number_text s.payload)))

unfoldable pub attributes_shown : Stream → List ℕ
attributes_shown s = field (octets_shown s.rtpmap) ++ (field (texts_shown s.fmtp) ++ field (number_text s.ptime))

abbrev pub stream_shown : Stream → List ℕ
stream_shown s = media_shown s ++ attributes_shown s

unfoldable pub bearer_shown : Bearer → List ℕ
bearer_shown b = address_text b.address ++ stream_shown b.stream

-- `-` if there is none
unfoldable pub force_shown : Option Bearer → List ℕ
force_shown none = ascii "-"
force_shown (some b) = bearer_shown b

-- ---- both; o are the octets written
unfoldable pub detail_text : List ℕ → Option Bearer → List ℕ
detail_text o force = (blank ∷ octets_shown o) ++ (blank ∷ force_shown force)
