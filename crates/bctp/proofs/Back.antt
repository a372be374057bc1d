-- What a packet's writer wrote, opened again, is the message that was written, and is read as what it says.
-- Assumes nothing.
use Prim.Native.Nat.{ℕ}
use mathlib.Core.Path.{◌≡◌, refl}
use mathlib.Core.List.{List}
use mathlib.Core.Option.{Option, none, some, map}
use lib.ListN.{take}
use Rattle.std.specs.Prelude.{Ok}
use Rattle.octets.specs.Puts.{Puts}
use Rattle.octets.proofs.PutsLaws.{puts_no}
use Rattle.address.specs.declared.Address.{Address}
use Rattle.address.specs.Back.{fits}
use Rattle.ipbcp.specs.declared.Body.{Body}
use Rattle.ipbcp.specs.Writing.{Content, message_octets_in}
use Rattle.ipbcp.specs.Meaning.{content_in}
use Rattle.ipbcp_write.proofs.Back.{puts_front, said}
use Rattle.bctp.specs.Back.{Carried}
use Rattle.bctp.specs.Packet.{right_first, right_second, has_error, version_of, protocol_of, version_indicator, protocol_indicator, tunnel_message, opened_by, opened_packet, packet_text}

-- a packet around a message holds it
pub packet_back : (m : List ℕ) → opened_packet (packet_text m) ≡ tunnel_message m
unfolding opened_packet opened_by right_first right_second has_error version_of protocol_of version_indicator protocol_indicator packet_text
packet_back m = refl

carried : (own : Address) → fits own → (o : Option Content) (t : Option (List ℕ)) → message_octets_in own o ≡ t → (l : List ℕ) (n : ℕ) (f : List ℕ)
    → Puts (map packet_text t) l (Ok n) f → Carried own o (take n f)
carried own fit o none e l n f p = absurd (puts_no l n f p)
carried own fit o (some t) e l n f p =
    let q : some (packet_text t) ≡ some (take n f) = puts_front (some (packet_text t)) l n f p in
    let z : packet_text t ≡ take n f = cc in
    record { text = t; opens = rw (← z) (packet_back t); says = said own fit o t e }

-- from the contract of `write_packet`, where it answers n octets
pub packet_written_back : (own : Address) → fits own → (source : List ℕ) (b : Body) (l : List ℕ) (n : ℕ) (f : List ℕ)
    → Puts (map packet_text (message_octets_in own (content_in source b))) l (Ok n) f → Carried own (content_in source b) (take n f)
packet_written_back own fit source b l n f p = carried own fit (content_in source b) (message_octets_in own (content_in source b)) refl l n f p
