-- Document 01, "One endpoint": which commands, Requests and Accepteds are right, the bearer that they put in force, and what is
-- written. A Request of ours is given by its media line and attributes: a stream. `force` is the bearer in force, if there is one.
use Rattle.std.specs.Prelude.{ℕ, List, [], Bool, true, false, ◌&&◌, cond, eqb, ltb}
use Rattle.std.proofs.Math.Option.{Option, none, some, Option-elim}
use Rattle.octets.specs.Text.{ascii}
use Rattle.octets.specs.Words.{same}
use Rattle.address.specs.declared.Address.{Address}
use Rattle.address.specs.declared.Address.TheVariants.{V4, V6}
use Rattle.media.specs.Stream.{Stream}
use Rattle.configuration.specs.Configuration.{Codec, Configuration, entry_in, suits, name_of, named_in, ptime_none_or_in_range}
use Rattle.bearer.specs.Bearer.{Bearer}

abbrev pub audio : List ℕ
audio = ascii "audio"

abbrev pub rtp_avp : List ℕ
rtp_avp = ascii "RTP/AVP"

-- ---- addresses
unfoldable pub same_family : Address → Address → Bool
same_family (V4 m) (V4 n) = true
same_family (V4 m) (V6 h l) = false
same_family (V6 h l) (V4 n) = false
same_family (V6 h l) (V6 i m) = true

unfoldable pub same_address : Address → Address → Bool
same_address (V4 m) (V4 n) = eqb m n
same_address (V4 m) (V6 h l) = false
same_address (V6 h l) (V4 n) = false
same_address (V6 h l) (V6 i m) = eqb h i && eqb l m

-- ---- commands
-- the Request for codec entry k: audio, own port, RTP/AVP, this payload and packet time, and the name of a named entry as rtpmap
unfoldable pub offered : Configuration → Codec → ℕ → ℕ → Stream
offered c k payload ptime = record {
  media = audio;
  port = c.port;
  transport = rtp_avp;
  payload = payload;
  rtpmap = name_of k;
  fmtp = [];
  ptime = ptime;
}

-- the Request that a command asks for; none if there is no such entry, if the payload does not suit it, or if the packet time is
-- neither 0 nor in range
unfoldable pub commanded : Configuration → ℕ → ℕ → ℕ → Option Stream
commanded c entry payload ptime =
    Option-elim (entry_in c.codecs entry) none
    (λ k. cond (suits k payload && ptime_none_or_in_range c ptime) (some (offered c k payload ptime)) none)

-- ---- a peer's Request
-- if a bearer is in force, the peer's address and port are the same
unfoldable pub unmoved : Option Bearer → Bearer → Bool
unmoved none d = true
unmoved (some b) d = same_address b.address d.address && eqb b.stream.port d.stream.port

-- audio, RTP/AVP, and a payload that is configured
unfoldable pub right_stream : Configuration → Stream → Bool
right_stream c s = same audio s.media && (same rtp_avp s.transport && named_in c.codecs s.payload s.rtpmap)

-- the Request that names d: family ours, media, transport and payload right, address and port as in force
unfoldable pub right_request : Configuration → Option Bearer → Bearer → Bool
right_request c force d = same_family c.own d.address && (right_stream c d.stream && unmoved force d)

-- a packet time brought into range; 0, for none, stays 0
unfoldable pub nearest : Configuration → ℕ → ℕ
nearest c n = cond (eqb n 0) 0 (cond (ltb n c.least) c.least (cond (ltb c.most n) c.most n))

-- a stream with another port and packet time, all else copied
unfoldable pub restated : ℕ → ℕ → Stream → Stream
restated port ptime s = record {
  media = s.media;
  port = port;
  transport = s.transport;
  payload = s.payload;
  rtpmap = s.rtpmap;
  fmtp = s.fmtp;
  ptime = ptime;
}

-- the bearer that a right Request puts in force: address and port are the peer's, the rest is that of our Accepted
unfoldable pub granted : Configuration → Bearer → Bearer
granted c d = record { address = d.address; stream = restated d.stream.port (nearest c d.stream.ptime) d.stream }

-- our Accepted for such a Request, with own port
unfoldable pub accepted_for : Configuration → Bearer → Stream
accepted_for c d = restated c.port (nearest c d.stream.ptime) d.stream

-- ---- an Accepted for our Request q
-- media, transport, payload and rtpmap as in the Request; an rtpmap that is absent is empty here
unfoldable pub same_offer : Stream → Stream → Bool
same_offer q s =
    same q.media s.media
    && (same q.transport s.transport && (eqb q.payload s.payload && same q.rtpmap s.rtpmap))

-- for a change, the peer's address is as in force; its port may differ
unfoldable pub unmoved_address : Option Bearer → Bearer → Bool
unmoved_address none d = true
unmoved_address (some b) d = same_address b.address d.address

-- the Accepted that names d: family ours, all as in the Request, packet time absent or in range, address as in force
unfoldable pub right_accepted : Configuration → Option Bearer → Stream → Bearer → Bool
right_accepted c force q d =
    same_family c.own d.address
    && (same_offer q d.stream && (ptime_none_or_in_range c d.stream.ptime && unmoved_address force d))
