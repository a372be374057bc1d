-- Private: used only by private functions of this crate, on the way from a body, whose texts are places in a source,
-- to the octets of its message.
use Rattle.std.specs.Prelude.{ℕ, List, ◌++◌, Bool, true, ◌&&◌}
use Rattle.octets.specs.Text.{ascii}
use Rattle.address.specs.declared.Address.{Address}
use Rattle.media.specs.declared.Stream as code
use Rattle.media.specs.Meaning.{stream_by, stream_inside}
use Rattle.ipbcp.specs.declared.Body.{Body}
use Rattle.ipbcp.specs.declared.Body.TheVariants as body
use Rattle.ipbcp.specs.declared.MessageType.{MessageType}
use Rattle.ipbcp.specs.declared.MessageType.TheVariants as kind
use Rattle.ipbcp.specs.Writing.{Content, request_content, accepted_content, confused_content, rejected_content, family_word, right_media, right_attributes}

-- the content of a body by the octets of m in its spans, which may go past the end
unfoldable pub content_by : List ℕ → Body → Content
content_by m (body.Request s) = request_content (stream_by m s)
content_by m (body.Accepted s) = accepted_content (stream_by m s)
content_by m body.Confused = confused_content
content_by m body.Rejected = rejected_content

-- a body's type
unfoldable pub body_type : Body → MessageType
body_type (body.Request s) = kind.Request
body_type (body.Accepted s) = kind.Accepted
body_type body.Confused = kind.Confused
body_type body.Rejected = kind.Rejected

-- the spans lie inside m, and all fields are in range
unfoldable pub writable_stream : List ℕ → code.Stream → Bool
writable_stream m s = stream_inside m s && (right_media (stream_by m s) && right_attributes (stream_by m s))

unfoldable pub writable_body : List ℕ → Body → Bool
writable_body m (body.Request s) = writable_stream m s
writable_body m (body.Accepted s) = writable_stream m s
writable_body m body.Confused = true
writable_body m body.Rejected = true

-- IN and the family, with a blank after each
abbrev pub host_start : Address → List ℕ
host_start a = ascii "IN " ++ (family_word a ++ ascii " ")
