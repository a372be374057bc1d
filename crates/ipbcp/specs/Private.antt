-- Private: used only by private functions of this crate. They read a message once, from its first line to its last:
-- the lines before the ipbcp line, those up to the media line, and those after it.
use Rattle.std.specs.Prelude.{ℕ, ◌≡◌, List, true, cond, drop, eqb, Some, None}
use Rattle.std.specs.Prelude as answer
use Rattle.std.proofs.Math.Option.{Option, none, some, Option-elim}
use Rattle.octets.specs.declared.Span.{Span}
use Rattle.octets.specs.Chain.{when}
use Rattle.octets.specs.Spans.{text_of}
use Rattle.sdp.specs.Lines.{lines, in_lines}
use Rattle.address.specs.declared.Address.{Address}
use Rattle.media.specs.declared.Stream as code
use Rattle.media.specs.Meaning.{stream_by}
use Rattle.description.specs.Draft.{Draft, empty_draft, media_line}
use Rattle.description.specs.Meaning.{after_ipbcp, after_media, after_media_by}
use Rattle.ipbcp.specs.declared.MessageType.{MessageType}
use Rattle.ipbcp.specs.declared.Head.{Head}
use Rattle.ipbcp.specs.Types.{head_in}
use Rattle.ipbcp.specs.Reading.{typed, after_lines, is_described, by_head}

-- the type that a word names, if it names one
unfoldable pub named_in : answer.Option MessageType → Option MessageType
named_in (Some k) = some k
named_in None = none

-- the draft d with all lines of m, if m is made of lines
unfoldable pub after_text : Draft → List ℕ → Option Draft
after_text d m = when (in_lines m) (after_lines d (lines m))

-- the same after a line that may be wrong
unfoldable pub after_text_if : Option Draft → List ℕ → Option Draft
after_text_if o m = Option-elim o none λ d. after_text d m

-- o, if it has all seven needed lines
unfoldable pub complete : Option Draft → Option Draft
complete none = none
complete (some d) = when (eqb d.had 7) (some d)

-- r is the stream s with the lines of m from `from` on after its media line, whatever the address is
pub record ReadsLater (m : List ℕ) (s : code.Stream) (from : ℕ) (r : answer.Option code.Stream) : Type 0 where
  pub is : (a : Address) → after_media_by a m r ≡ after_text (after_media a (stream_by m s)) (drop from m)

-- r is the stream of the media line with the value of v, and of the lines of m from `from` on after it
pub record ReadsMedia (m : List ℕ) (v : Span) (from : ℕ) (r : answer.Option code.Stream) : Type 0 where
  pub is : (a : Address) → after_media_by a m r ≡ after_text_if (media_line (after_ipbcp a) (text_of m v)) (drop from m)

-- r is the stream of the lines of m from `from` on, after an ipbcp line
pub record ReadsStream (m : List ℕ) (from : ℕ) (r : answer.Option code.Stream) : Type 0 where
  pub is : (a : Address) → after_media_by a m r ≡ complete (after_text (after_ipbcp a) (drop from m))

-- the lines of m before `from` are right; the last is the ipbcp line, which says h, and `c=` has the address
pub record Reached (m : List ℕ) (h : answer.Option Head) (address : Address) (from : ℕ) : Type 0 where
  pub lines : after_text (after_ipbcp address) (drop from m) ≡ after_text empty_draft m
  pub head : cond (in_lines (drop from m)) h None ≡ head_in m

-- the lines of m before `from` are right and say this version and type, and nothing more is read
pub record TypeAlone (m : List ℕ) (h : Head) (from : ℕ) : Type 0 where
  pub head : cond (in_lines (drop from m)) (Some h) None ≡ head_in m
  pub alone : by_head m (Some h) ≡ typed h.version h.kind

-- the lines of m before `from` are right, and are those of a Request or Accepted of version 1
pub record Describes (m : List ℕ) (kind : MessageType) (address : Address) (from : ℕ) : Type 0 where
  pub reached : Reached m (Some (record { version = 1; kind = kind })) address from
  pub more : is_described kind ≡ true
