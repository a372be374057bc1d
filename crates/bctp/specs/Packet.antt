-- Document 01, "Tunnel": Q.1990 packets. Two octets, then the message.
-- Octet 1: bit 8 is 0, bit 7 the version error, bit 6 is 1, bits 5 to 1 the version; 0 means version 1.
-- Octet 2: bit 8 is 0, bit 7 the protocol error, bits 6 to 1 the protocol; 32 means IPBCP.
use Rattle.std.specs.Prelude.{ℕ, ◌+◌, ◌*◌, ◌/◌, ◌%◌, List, [], ◌∷◌, Bool, not, ◌&&◌, ◌||◌, cond, eqb, ltb}
use Rattle.octets.specs.declared.Refusal.{Refusal}
use Rattle.octets.specs.declared.Refusal.TheVariants.{BufferTooShort, PacketTooShort, WrongIndicators}

-- ---- the two indicators
-- bit 8 clear and bit 6 set
unfoldable pub right_first : ℕ → Bool
right_first a = eqb (a / 128) 0 && eqb (a / 32 % 2) 1

-- bit 8 clear
unfoldable pub right_second : ℕ → Bool
right_second b = eqb (b / 128) 0

-- bit 7, of either
unfoldable pub has_error : ℕ → Bool
has_error a = eqb (a / 64 % 2) 1

unfoldable pub version_of : ℕ → ℕ
version_of a = a % 32

unfoldable pub protocol_of : ℕ → ℕ
protocol_of b = b % 64

-- octet 1 with this error bit and version 1
unfoldable pub version_indicator : ℕ → ℕ
version_indicator e = e * 64 + 32

-- octet 2 with this error bit and protocol
unfoldable pub protocol_indicator : ℕ → ℕ → ℕ
protocol_indicator e p = e * 64 + p

-- IPBCP's number
abbrev pub ipbcp : ℕ
ipbcp = 32

-- ---- opening a packet
pub data Opened : Type 0 where
  refused : Refusal → Opened
  -- an error bit is set: the peer found an error in what it was sent, and there is no reply
  tunnel_notice : Opened
  -- a packet to send back
  tunnel_reply : List ℕ → Opened
  tunnel_message : List ℕ → Opened

-- the octets a and b, then m; the checks are in document 01's order
unfoldable pub opened_by : ℕ → ℕ → List ℕ → Opened
opened_by a b m =
    cond (not (right_first a && right_second b)) (refused WrongIndicators)
    (cond (has_error a || has_error b) tunnel_notice
    (cond (not (eqb (version_of a) 0)) (tunnel_reply (version_indicator 1 ∷ protocol_indicator 0 (protocol_of b) ∷ []))
    (cond (not (eqb (protocol_of b) ipbcp)) (tunnel_reply (version_indicator 0 ∷ protocol_indicator 1 (protocol_of b) ∷ []))
    (tunnel_message m))))

unfoldable pub opened_packet : List ℕ → Opened
opened_packet [] = refused PacketTooShort
opened_packet (a ∷ []) = refused PacketTooShort
opened_packet (a ∷ b ∷ m) = opened_by a b m

-- BufferTooShort if a reply is due and the buffer has no room for it
unfoldable pub with_room : ℕ → Opened → Opened
with_room room (refused e) = refused e
with_room room tunnel_notice = tunnel_notice
with_room room (tunnel_reply t) = cond (ltb room 2) (refused BufferTooShort) (tunnel_reply t)
with_room room (tunnel_message m) = tunnel_message m

-- ---- writing a packet: version 1, IPBCP, no errors, and the message
unfoldable pub packet_text : List ℕ → List ℕ
packet_text m = version_indicator 0 ∷ protocol_indicator 0 ipbcp ∷ m
