-- Private: used only by private functions of this crate.
use Rattle.std.specs.Prelude.{Bool, ◌&&◌}
use Rattle.configuration.specs.declared.Codec.{Codec as Place}
use Rattle.configuration.specs.Configuration.{right_codec}
use Rattle.configuration.specs.Meaning.{codec_by, format_inside}

-- an entry is valid, and its name lies inside its array
abbrev pub right_place : Place → Bool
right_place k = format_inside k.format && right_codec (codec_by k)
