-- Document 01, "One endpoint": a bearer is the peer's address and what a media line and its attributes say: the peer's port, media,
-- transport, payload, rtpmap, fmtp and packet time. A Request or Accepted that can be read names one.
use Rattle.address.specs.declared.Address.{Address}
use Rattle.media.specs.Stream.{Stream}

pub record Bearer : Type 0 where
  pub address : Address
  pub stream : Stream
