-- What `Packet` stands for: the message is the packet from its third octet on, the reply the first two octets of the buffer.
use Rattle.std.specs.Prelude.{ℕ, ◌≡◌, List, ◌++◌, length, take, drop, Result, Ok, Err}
use Rattle.octets.specs.declared.Refusal.{Refusal}
use Rattle.bctp.specs.declared.Packet.{Packet}
use Rattle.bctp.specs.declared.Packet.TheVariants as answer
use Rattle.bctp.specs.Packet.{Opened, refused, tunnel_notice, tunnel_reply, tunnel_message, with_room}

-- document 01's refusal and values for each answer; p is the packet, and f the buffer after the call
unfoldable pub opened_in : List ℕ → List ℕ → Result Packet Refusal → Opened
opened_in p f (Err e) = refused e
opened_in p f (Ok answer.Notice) = tunnel_notice
opened_in p f (Ok answer.Reply) = tunnel_reply (take 2 f)
opened_in p f (Ok answer.Message) = tunnel_message (drop 2 p)

-- what is left in the buffer l: a reply at its front; otherwise it is unchanged
unfoldable pub buffer_after : List ℕ → Opened → List ℕ
buffer_after l (refused e) = l
buffer_after l tunnel_notice = l
buffer_after l (tunnel_reply t) = t ++ drop (length t) l
buffer_after l (tunnel_message m) = l

-- Opening the packet p with the buffer l, where document 01 asks for o, answers r and leaves f in the buffer.
pub record Opens (p l : List ℕ) (o : Opened) (r : Result Packet Refusal) (f : List ℕ) : Type 0 where
  pub answers : opened_in p f r ≡ with_room (length l) o
  pub fills : f ≡ buffer_after l (with_room (length l) o)
