-- What the structs and enums of this crate stand for: a draft before the ipbcp line, between it and the media line, or after the
-- media line. `code.Stream` is a stream with places in the message (media, `Meaning`).
use Rattle.std.specs.Prelude.{ℕ, min, ◌≡◌, List, [], Bool, not, ◌&&◌, cond, eqb, Some, None}
use Rattle.std.specs.Prelude as answer
use Rattle.std.proofs.Math.Option.{Option, none, some, map}
use Rattle.octets.specs.declared.Span.{Span}
use Rattle.octets.specs.Spans.{text_of}
use Rattle.octets.specs.Split.{has}
use Rattle.octets.specs.Text.{char}
use Rattle.octets.specs.Words.{begins}
use Rattle.address.specs.declared.Address.{Address}
use Rattle.media.specs.declared.Stream as code
use Rattle.media.specs.Stream.{Stream, bare_stream}
use Rattle.media.specs.Attributes.{is_attribute}
use Rattle.media.specs.Meaning.{stream_by, taken_by}
use Rattle.description.specs.declared.Preamble.{Preamble}
use Rattle.description.specs.Draft.{Draft, ipbcp_word, skipped_letters, after_field}

-- before the ipbcp line
unfoldable pub preamble_by : Preamble → Draft
preamble_by o = record { had = min o.had 5; address = o.address; stream = bare_stream [] 0 [] 0 }

-- what a line made of it, if the line is right
unfoldable pub preamble_in : answer.Option Preamble → Option Draft
preamble_in (Some o) = some (preamble_by o)
preamble_in None = none

-- between the ipbcp line and the media line
unfoldable pub after_ipbcp : Address → Draft
after_ipbcp a = record { had = 6; address = a; stream = bare_stream [] 0 [] 0 }

-- a line of this letter and value is an ipbcp line
unfoldable pub is_ipbcp : ℕ → List ℕ → Bool
is_ipbcp letter v = eqb letter (char "a") && begins ipbcp_word v

-- a line of this letter and value is skipped, if it comes before the media line
unfoldable pub is_skipped : ℕ → List ℕ → Bool
is_skipped letter v = cond (eqb letter (char "a")) (not (begins ipbcp_word v) && not (is_attribute v)) (has letter skipped_letters)

-- the preamble d with a line of this letter and value; an ipbcp line is not part of it
unfoldable pub preamble_line : Draft → ℕ → List ℕ → Option Draft
preamble_line d letter v = cond (is_ipbcp letter v) none (after_field d letter v)

-- after the media line
unfoldable pub after_media : Address → Stream → Draft
after_media a s = record { had = 7; address = a; stream = s }

-- what was taken, by the octets of m in its spans
unfoldable pub after_media_by : Address → List ℕ → answer.Option code.Stream → Option Draft
after_media_by a m r = map (after_media a) (taken_by m r)

-- r is the stream s with the line of this letter and value after its media line, whatever the address is
pub record LaterLine (m : List ℕ) (s : code.Stream) (letter : ℕ) (v : Span) (r : answer.Option code.Stream) : Type 0 where
  pub is : (a : Address) → after_media_by a m r ≡ after_field (after_media a (stream_by m s)) letter (text_of m v)
