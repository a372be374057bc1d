-- Document 01, "Trace program": the lines that configure the endpoint. `none` is refused by 12.
use Rattle.std.specs.Prelude.{ℕ, List, [], ◌∷◌, ◌++◌, Bool, ◌&&◌, cond, length, eqb, ltb}
use Rattle.std.specs.Prelude as code
use Rattle.std.proofs.Math.Option.{Option, none, some, Option-elim}
use Rattle.octets.specs.Chain.{when, number}
use Rattle.octets.specs.Decimal.{all_digits}
use Rattle.octets.specs.Split.{part_at}
use Rattle.address.specs.declared.Address.{Address}
use Rattle.address.specs.Kinds.{on_address, unicast}
use Rattle.address.specs.Ipv4.{read_v4}
use Rattle.address.specs.Ipv6.{read_v6}
use Rattle.configuration.specs.Configuration.{Codec, fixed, named, Configuration, most_codecs, right_codec, right_general}
use Rattle.trace_read.specs.Words.{fields_of, first_is, general_word, codec_word}

-- ---- `G`: own address, port, least and greatest packet time, T1 and T2
-- an address of either family
unfoldable pub either_family : List ℕ → code.Option Address
either_family s = on_address (read_v4 s) code.Some (read_v6 s)

-- a configuration with no codec yet
unfoldable pub general : Address → ℕ → ℕ → ℕ → ℕ → ℕ → Configuration
general own port least most t1 t2 = record {
  own = own;
  port = port;
  least = least;
  most = most;
  t1 = t1;
  t2 = t2;
  codecs = [];
}

-- c, if everything in it except the codecs is valid
unfoldable pub usable : Configuration → Option Configuration
usable c = when (right_general c) (some c)

unfoldable pub general_fields : List (List ℕ) → Option Configuration
general_fields ps =
    unicast (either_family (part_at 1 ps))
    (λ own. number (part_at 2 ps)
    (λ port. number (part_at 3 ps)
    (λ least. number (part_at 4 ps)
    (λ most. number (part_at 5 ps)
    (λ t1. number (part_at 6 ps)
    (λ t2. usable (general own port least most t1 t2)))))))

unfoldable pub general_of : List (List ℕ) → Option Configuration
general_of ps = when (eqb (length ps) 7 && first_is general_word ps) (general_fields ps)

abbrev pub general_in : List ℕ → Option Configuration
general_in s = general_of (fields_of s)

-- ---- `K`: one codec entry
-- k, if it is valid
unfoldable pub rightly : Codec → Option Codec
rightly k = when (right_codec k) (some k)

unfoldable pub payload_of : List ℕ → Option Codec
payload_of t = number t (λ n. rightly (fixed n))

-- only digits are a payload, anything else is an encoding name
unfoldable pub codec_of : List ℕ → Option Codec
codec_of t = cond (all_digits t) (payload_of t) (rightly (named t))

-- the configuration with one codec more
unfoldable pub with_codec : Configuration → Codec → Configuration
with_codec c k = record {
  own = c.own;
  port = c.port;
  least = c.least;
  most = c.most;
  t1 = c.t1;
  t2 = c.t2;
  codecs = c.codecs ++ (k ∷ []);
}

-- c with one codec more, if there is room for it
unfoldable pub added_to : Configuration → Codec → Option Configuration
added_to c k = when (ltb (length c.codecs) most_codecs) (some (with_codec c k))

unfoldable pub codec_for : Configuration → List (List ℕ) → Option Configuration
codec_for c ps = when (eqb (length ps) 2) (Option-elim (codec_of (part_at 1 ps)) none (added_to c))

-- the line is one of the `K` lines, right or wrong
abbrev pub is_codec_line : List ℕ → Bool
is_codec_line s = first_is codec_word (fields_of s)

-- the configuration after a `K` line
abbrev pub codec_in : Configuration → List ℕ → Option Configuration
codec_in c s = codec_for c (fields_of s)
