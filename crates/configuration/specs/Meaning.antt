-- What the structs of this crate stand for. A count or a length that goes past its array stands for the whole array; such a
-- configuration is refused.
use Rattle.std.specs.Prelude.{ℕ, ◌-◌, ◌≡◌, List, [], ◌∷◌, map, Bool, true, ◌&&◌, cond, take, get_or, replicate, leb, Some, None, Result, Ok, Err, IfSome}
use Rattle.std.specs.Prelude as code
use Rattle.std.specs.List.{list_all}
use Rattle.std.proofs.Math.Option.{Option, none, some}
use Rattle.octets.specs.declared.Refusal.{Refusal}
use Rattle.octets.specs.declared.Refusal.TheVariants.{BadConfiguration}
use Rattle.configuration.specs.declared.Format.{Format}
use Rattle.configuration.specs.declared.Format.TheVariants.{Payload, Named}
use Rattle.configuration.specs.declared.Codec.{Codec as Place}
use Rattle.configuration.specs.declared.Config.{Config}
use Rattle.configuration.specs.Configuration.{Codec, fixed, named, Configuration, most_name, most_codecs, right_configuration, entry_in}

-- an entry whose name is in the array beside its format
unfoldable pub format_by : Format → List ℕ → Codec
format_by (Payload n) name = fixed n
format_by (Named n) name = named (take n name)

abbrev pub codec_by : Place → Codec
codec_by k = format_by k.format k.name

unfoldable pub codecs_by : Config → List Codec
codecs_by c = map codec_by (take c.count c.codecs)

unfoldable pub configuration_by : Config → Configuration
configuration_by c = record {
  own = c.own;
  port = c.port;
  least = c.least;
  most = c.most;
  t1 = c.t1;
  t2 = c.t2;
  codecs = codecs_by c;
}

-- an entry that says nothing: the payload 0, with zeros for a name
abbrev pub blank_codec : Place
blank_codec = record { format = Payload 0; name = replicate most_name 0 }

-- the entry that was looked for, if it was found
abbrev pub found_by : code.Option Place → Option Codec
found_by (Some k) = some (codec_by k)
found_by None = none

-- r is codec entry n of c, counted from 1, as the array has it
pub record FoundAt (c : Config) (n : ℕ) (r : code.Option Place) : Type 0 where
  pub is : found_by r ≡ entry_in (codecs_by c) n
  pub codec : IfSome r (λ k. k ≡ get_or c.codecs (n - 1) blank_codec)

-- ---- no count and no length goes past its array
unfoldable pub format_inside : Format → Bool
format_inside (Payload n) = true
format_inside (Named n) = leb n most_name

unfoldable pub all_formats_inside : List Place → Bool
all_formats_inside ks = list_all (λ k. format_inside k.format) ks

unfoldable pub config_inside : Config → Bool
config_inside c = leb c.count most_codecs && all_formats_inside (take c.count c.codecs)

-- ---- number 12
unfoldable pub right_config : Config → Bool
right_config c = config_inside c && right_configuration (configuration_by c)

unfoldable pub checked : Config → Result Unit Refusal
checked c = cond (right_config c) (Ok tt) (Err BadConfiguration)
