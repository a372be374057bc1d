-- What the enums of this crate stand for: the spans of a stream are places in the message that was read, or in the source
-- that is written from. If one goes past the end, the enum stands for nothing.
use Rattle.std.specs.Prelude.{ℕ, List, Ok, Err, Result}
use Rattle.std.proofs.Math.Option.{Option, some, map}
use Rattle.octets.specs.declared.Refusal.{Refusal}
use Rattle.media.specs.Meaning.{stream_in}
use Rattle.ipbcp.specs.declared.Message.{Message}
use Rattle.ipbcp.specs.declared.Message.TheVariants as answer
use Rattle.ipbcp.specs.declared.Body.{Body}
use Rattle.ipbcp.specs.declared.Body.TheVariants as body
use Rattle.ipbcp.specs.Reading.{Reading, refused, typed, described}
use Rattle.ipbcp.specs.Writing.{Content, request_content, accepted_content, confused_content, rejected_content}

-- document 01's refusal or values for each answer to the message m
unfoldable pub reading_in : List ℕ → Result Message Refusal → Option Reading
reading_in m (Err e) = some (refused e)
reading_in m (Ok (answer.Typed version kind)) = some (typed version kind)
reading_in m (Ok (answer.Described kind d)) = map (described kind d.address) (stream_in m d.stream)

-- what a body says, by its places in the source
unfoldable pub content_in : List ℕ → Body → Option Content
content_in source (body.Request s) = map request_content (stream_in source s)
content_in source (body.Accepted s) = map accepted_content (stream_in source s)
content_in source body.Confused = some confused_content
content_in source body.Rejected = some rejected_content
