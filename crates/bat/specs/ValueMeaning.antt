-- What decoded values mean, by the definitions of `Values`; spans are places in s. `code.X` is the code's type X (see `Code`).
use Rattle.std.specs.Prelude.{ℕ, List, Bool, true, ◌&&◌, cond, Result, Ok, Err, Some, None}
use Rattle.std.specs.Prelude as std
use Rattle.std.proofs.Math.Option.{Option, none, some, map}
use Rattle.octets.specs.Spans.{text_of, inside}
use Rattle.bat.specs.Code as code
use Rattle.bat.specs.Values.{SingleCodec, InnerType, InnerDuration, untimed, lasting, Value, action, backbone, address, codecs, single, report, characteristics, control, tunnelling, control_unit, signal, capability, indicators, signal_type, duration, Decoding, decoded, unrecognised, diagnostics_in, codecs_in, on_codecs}

abbrev pub single_codec_in : List ℕ → code.SingleCodec → SingleCodec
single_codec_in s c = record { organisation = c.organisation; information = text_of s c.information }

abbrev pub inner_type_in : code.InnerType → InnerType
inner_type_in k = record { compatibility = k.compatibility; kind = k.kind }

unfoldable pub inner_duration_in : std.Option code.InnerDuration → InnerDuration
inner_duration_in None = untimed
inner_duration_in (Some t) = lasting t.compatibility t.duration

-- What a value means, by the octets of s in its spans; none if a span that should hold codecs or diagnostics does not.
unfoldable pub value_by : List ℕ → code.Value → Option Value
value_by s (code.Action n) = some (action n)
value_by s (code.Backbone p) = some (backbone (text_of s p))
value_by s (code.Address p) = some (address (text_of s p))
value_by s (code.Codecs p) = on_codecs (codecs_in (text_of s p)) (λ cs. some (codecs cs)) (λ d. none)
value_by s (code.Single c) = some (single (single_codec_in s c))
value_by s (code.Report r p) = map (report r) (diagnostics_in (text_of s p))
value_by s (code.Characteristics n) = some (characteristics n)
value_by s (code.Control p) = some (control (text_of s p))
value_by s (code.Tunnelling b) = some (tunnelling b)
value_by s (code.Unit n l) = some (control_unit (text_of s n) (text_of s l))
value_by s (code.Signal k t) = some (signal (inner_type_in k) (inner_duration_in t))
value_by s (code.Capability b) = some (capability b)
value_by s (code.Indicators p) = some (indicators (text_of s p))
value_by s (code.SignalType n) = some (signal_type n)
value_by s (code.Duration n) = some (duration n)

-- its spans are inside s
unfoldable pub value_inside : List ℕ → code.Value → Bool
value_inside s (code.Action n) = true
value_inside s (code.Backbone p) = inside s p
value_inside s (code.Address p) = inside s p
value_inside s (code.Codecs p) = inside s p
value_inside s (code.Single c) = inside s c.information
value_inside s (code.Report r p) = inside s p
value_inside s (code.Characteristics n) = true
value_inside s (code.Control p) = inside s p
value_inside s (code.Tunnelling b) = true
value_inside s (code.Unit n l) = inside s n && inside s l
value_inside s (code.Signal k t) = true
value_inside s (code.Capability b) = true
value_inside s (code.Indicators p) = inside s p
value_inside s (code.SignalType n) = true
value_inside s (code.Duration n) = true

-- What a value means whose spans are inside s; none if one goes past the end.
unfoldable pub value_in : List ℕ → code.Value → Option Value
value_in s v = cond (value_inside s v) (value_by s v) none

unfoldable pub decoding_in : List ℕ → Result code.Value code.Unrecognised → Option Decoding
decoding_in s (Ok v) = map decoded (value_in s v)
decoding_in s (Err u) = some (unrecognised u.inner)
