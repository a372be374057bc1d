-- What the structs and enums of this crate stand for. The code's `Stream` (here `code.Stream`) and the definition's are the same
-- thing: the code's has places in a source, as spans, where the definition's has the texts.
use Rattle.std.specs.Prelude.{ℕ, ◌≡◌, List, [], ◌∷◌, map, Bool, true, ◌&&◌, take, leb, replicate, Some, None}
use Rattle.std.specs.Prelude as answer
use Rattle.std.proofs.Math.Option.{Option, none, some}
use Rattle.octets.specs.declared.Span.{Span}
use Rattle.octets.specs.Chain.{when}
use Rattle.octets.specs.Spans.{text_of, inside}
use Rattle.media.specs.declared.Texts.{Texts}
use Rattle.media.specs.declared.Stream as code
use Rattle.media.specs.Stream.{Stream}

-- the spans that a `Texts` holds
unfoldable pub spans_of : Texts → List Span
spans_of x = take x.count x.spans

-- their texts
unfoldable pub texts_by : List ℕ → Texts → List (List ℕ)
texts_by m x = map (text_of m) (spans_of x)

-- what a stream says, by the octets of m in its spans
unfoldable pub stream_by : List ℕ → code.Stream → Stream
stream_by m s = record {
  media = text_of m s.media;
  port = s.port;
  transport = text_of m s.transport;
  payload = s.payload;
  rtpmap = text_of m s.rtpmap;
  fmtp = texts_by m s.fmtp;
  ptime = s.ptime;
}

-- a media line with these places and numbers, and no attributes
abbrev pub bare_places : Span → ℕ → Span → ℕ → code.Stream
bare_places media port transport payload = record {
  media = media;
  port = port;
  transport = transport;
  payload = payload;
  rtpmap = record { at = 0; len = 0 };
  fmtp = record { count = 0; spans = replicate 3 (record { at = 0; len = 0 }) };
  ptime = 0;
}

-- the stream with the line that was read, if the line is right
unfoldable pub taken_by : List ℕ → answer.Option code.Stream → Option Stream
taken_by m (Some s) = some (stream_by m s)
taken_by m None = none

-- ---- spans that all lie inside their source
unfoldable pub all_in : List ℕ → List Span → Bool
all_in m [] = true
all_in m (p ∷ ps) = inside m p && all_in m ps

abbrev pub texts_inside : List ℕ → Texts → Bool
texts_inside m x = leb x.count 3 && all_in m (spans_of x)

unfoldable pub stream_inside : List ℕ → code.Stream → Bool
stream_inside m s =
    inside m s.media && (inside m s.transport && (inside m s.rtpmap && texts_inside m s.fmtp))

-- r says the same in m as the stream s, and its spans lie inside m
pub record KeptInside (m : List ℕ) (s r : code.Stream) : Type 0 where
  pub same : stream_by m r ≡ stream_by m s
  pub inside : stream_inside m r ≡ true

-- what a stream says, if its spans lie inside m
unfoldable pub stream_in : List ℕ → code.Stream → Option Stream
stream_in m s = when (stream_inside m s) (some (stream_by m s))
