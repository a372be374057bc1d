-- Document 01, "One endpoint", first paragraph: an endpoint's configuration, when it is valid (otherwise it is refused by 12), and
-- which codec a command or a message names.
use Rattle.std.specs.Prelude.{ℕ, zero, suc, List, [], ◌∷◌, Bool, ◌&&◌, ◌||◌, length, eqb, leb}
use Rattle.std.specs.List.{list_all, list_any}
use Rattle.std.proofs.Math.Option.{Option, none, some}
use Rattle.octets.specs.Words.{same}
use Rattle.address.specs.declared.Address.{Address}
use Rattle.address.specs.Kinds.{is_unicast}

-- a codec entry: one payload of at most 95, or an encoding name such as AMR/8000, which any payload from 96 to 127 can carry
pub data Codec : Type 0 where
  fixed : ℕ → Codec
  named : List ℕ → Codec

pub record Configuration : Type 0 where
  pub own : Address
  pub port : ℕ
  -- the packet times that are in range
  pub least : ℕ
  pub most : ℕ
  -- the timers, in seconds
  pub t1 : ℕ
  pub t2 : ℕ
  pub codecs : List Codec

-- n is from a to b
abbrev pub between : ℕ → ℕ → ℕ → Bool
between a b n = leb a n && leb n b

-- ---- valid configurations
-- each octet is 33 to 126
unfoldable pub all_visible : List ℕ → Bool
all_visible s = list_all (between 33 126) s

-- the longest encoding name
abbrev pub most_name : ℕ
most_name = 32

unfoldable pub right_codec : Codec → Bool
right_codec (fixed n) = leb n 95
right_codec (named t) = between 1 most_name (length t) && all_visible t

unfoldable pub all_right : List Codec → Bool
all_right ks = list_all right_codec ks

-- packet times: 1 ≤ least ≤ most ≤ 255
unfoldable pub right_times : ℕ → ℕ → Bool
right_times least most = leb 1 least && (leb least most && leb most 255)

-- the most codecs
abbrev pub most_codecs : ℕ
most_codecs = 8

unfoldable pub right_codecs : List Codec → Bool
right_codecs ks = between 1 most_codecs (length ks) && all_right ks

-- all but the codecs: own address unicast, port not 0, packet times, T1 and T2
unfoldable pub right_general : Configuration → Bool
right_general c =
    is_unicast c.own
    && (between 1 65535 c.port && (right_times c.least c.most && (between 1 30 c.t1 && between 1 30 c.t2)))

unfoldable pub right_configuration : Configuration → Bool
right_configuration c = right_general c && right_codecs c.codecs

-- ---- what a configuration says of codecs and packet times
-- codec entry n, counted from 1
unfoldable pub entry_in : List Codec → ℕ → Option Codec
entry_in ks zero = none
entry_in [] (suc n) = none
entry_in (k ∷ ks) (suc zero) = some k
entry_in (k ∷ ks) (suc (suc n)) = entry_in ks (suc n)

-- a payload that a command names suits the entry
unfoldable pub suits : Codec → ℕ → Bool
suits (fixed n) payload = eqb payload n
suits (named t) payload = between 96 127 payload

-- the rtpmap text that goes with the entry; empty for none
unfoldable pub name_of : Codec → List ℕ
name_of (fixed n) = []
name_of (named t) = t

-- A message names a fixed entry by its payload, and a named one by a payload from 96 on (a message has none over 127) and an
-- rtpmap text that is the name in every octet.
unfoldable pub names : Codec → ℕ → List ℕ → Bool
names (fixed n) payload text = eqb payload n
names (named t) payload text = leb 96 payload && same t text

-- payload and rtpmap text name one of the entries
unfoldable pub named_in : List Codec → ℕ → List ℕ → Bool
named_in ks payload text = list_any (λ k. names k payload text) ks

-- a packet time is in range
abbrev pub ptime_in_range : Configuration → ℕ → Bool
ptime_in_range c n = between c.least c.most n

-- the same, or 0 for none
unfoldable pub ptime_none_or_in_range : Configuration → ℕ → Bool
ptime_none_or_in_range c n = eqb n 0 || ptime_in_range c n
