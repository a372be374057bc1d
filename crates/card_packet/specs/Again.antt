-- A message is read and written again: in a tunnel packet, in the form in which the card writes messages, with the address
-- of its `c=` as the own address. For C an answer is one number.
use Rattle.std.specs.Prelude.{ℕ, ◌+◌, ◌≡◌, List, length, Result, Ok, Err}
use Rattle.std.proofs.Math.Option.{Option, map}
use Rattle.octets.specs.declared.Refusal.{Refusal}
use Rattle.octets.specs.Refusals.{refusal_number}
use Rattle.octets.specs.Puts.{put_answer, put_leaves, refused_from}
use Rattle.address.specs.declared.Address.{Address}
use Rattle.media.specs.Stream.{Stream}
use Rattle.ipbcp.specs.declared.MessageType.{MessageType}
use Rattle.ipbcp.specs.declared.MessageType.TheVariants.{Request, Accepted, Confused, Rejected}
use Rattle.ipbcp.specs.Reading.{Reading, refused, typed, described}
use Rattle.ipbcp.specs.Writing.{Content, request_content, accepted_content, confused_content, rejected_content, message_octets}
use Rattle.bctp.specs.Packet.{packet_text}

-- the content of a message of this type
unfoldable pub content_of : MessageType → Stream → Content
content_of Request s = request_content s
content_of Accepted s = accepted_content s
content_of Confused s = confused_content
content_of Rejected s = rejected_content

-- its packet, if its fields are in range and the message is not too long
unfoldable pub packet_of : MessageType → Address → Stream → Option (List ℕ)
packet_of kind address stream = map packet_text (message_octets address (content_of kind stream))

-- a writer's answer for C (`refused_from`)
abbrev pub put_for_c : Result ℕ Refusal → ℕ
put_for_c (Ok n) = n
put_for_c (Err e) = refused_from + refusal_number e

-- the answer for a buffer of so many octets; for a version and type alone nothing is written
unfoldable pub rewrite_for_c : ℕ → Reading → ℕ
rewrite_for_c room (refused e) = refused_from + refusal_number e
rewrite_for_c room (typed version kind) = 0
rewrite_for_c room (described kind address stream) = put_for_c (put_answer room (packet_of kind address stream))

-- what is left in the buffer l
unfoldable pub buffer_after_rewrite : List ℕ → Reading → List ℕ
buffer_after_rewrite l (refused e) = l
buffer_after_rewrite l (typed version kind) = l
buffer_after_rewrite l (described kind address stream) = put_leaves l (packet_of kind address stream)

-- A call with a message that is read as x and with the buffer l answers r and leaves f in it.
pub record Rewrites (x : Reading) (l : List ℕ) (r : ℕ) (f : List ℕ) : Type 0 where
  pub answers : r ≡ rewrite_for_c (length l) x
  pub leaves : f ≡ buffer_after_rewrite l x
