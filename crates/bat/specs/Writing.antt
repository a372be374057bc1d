-- Document 01, "Elements" and "Refusal numbers", on writing: the one form in which an element is written, and numbers 5
-- and 4. The length is the shortest, ignored bits are 0, and there is one compatibility octet.
use Rattle.std.specs.Prelude.{ℕ, suc, ◌+◌, ◌/◌, ◌%◌, List, [], ◌∷◌, ◌++◌, Bool, true, ◌&&◌, cond, length, leb, ltb}
use Rattle.std.proofs.Math.Option.{Option, none, some}
use Rattle.codes.specs.Codes.{is_action, is_signal}
use Rattle.bat.specs.Framing.{most_octets}
use Rattle.bat.specs.Values.{Diagnostic, SingleCodec, InnerCodec, InnerType, InnerDuration, untimed, lasting, Value, action, backbone, address, codecs, single, report, characteristics, control, tunnelling, control_unit, signal, capability, indicators, signal_type, duration, right_single, right_indicators}

-- ---- an element's octets
-- the shortest form of a length
unfoldable pub size_text : ℕ → List ℕ
size_text n = cond (ltb n 128) ((128 + n) ∷ []) (n % 128 ∷ (128 + n / 128) ∷ [])

-- the element with identifier i, compatibility bits c and contents s
unfoldable pub element_text : ℕ → ℕ → List ℕ → List ℕ
element_text i c s = i ∷ (size_text (suc (length s)) ++ ((128 + c) ∷ s))

-- a flag as a bit
abbrev pub bit_text : Bool → ℕ
bit_text b = cond b 1 0

-- sixteen bits, the high octet first
abbrev pub sixteen_bits_text : ℕ → List ℕ
sixteen_bits_text n = n / 256 ∷ n % 256 ∷ []

abbrev pub codec_text : SingleCodec → List ℕ
codec_text c = c.organisation ∷ c.information

unfoldable pub codecs_text : List InnerCodec → List ℕ
codecs_text [] = []
codecs_text (c ∷ cs) = element_text 5 c.compatibility (codec_text c.codec) ++ codecs_text cs

unfoldable pub diagnostics_text : List Diagnostic → List ℕ
diagnostics_text [] = []
diagnostics_text (d ∷ ds) = d.identifier ∷ (sixteen_bits_text d.index ++ diagnostics_text ds)

unfoldable pub inner_duration_text : InnerDuration → List ℕ
inner_duration_text untimed = []
inner_duration_text (lasting c n) = element_text 15 c (sixteen_bits_text n)

-- ---- identifier, contents and ranges of a value
unfoldable pub identifier_of : Value → ℕ
identifier_of (action n) = 1
identifier_of (backbone s) = 2
identifier_of (address s) = 3
identifier_of (codecs cs) = 4
identifier_of (single c) = 5
identifier_of (report r ds) = 6
identifier_of (characteristics n) = 7
identifier_of (control s) = 8
identifier_of (tunnelling b) = 9
identifier_of (control_unit n l) = 10
identifier_of (signal k t) = 11
identifier_of (capability b) = 12
identifier_of (indicators s) = 13
identifier_of (signal_type n) = 14
identifier_of (duration n) = 15

unfoldable pub contents_text : Value → List ℕ
contents_text (action n) = n ∷ []
contents_text (backbone s) = s
contents_text (address s) = s
contents_text (codecs cs) = codecs_text cs
contents_text (single c) = codec_text c
contents_text (report r ds) = r ∷ diagnostics_text ds
contents_text (characteristics n) = n ∷ []
contents_text (control s) = s
contents_text (tunnelling b) = bit_text b ∷ []
contents_text (control_unit n l) = length n ∷ (n ++ l)
contents_text (signal k t) = element_text 14 k.compatibility (k.kind ∷ []) ++ inner_duration_text t
contents_text (capability b) = (128 + bit_text b) ∷ []
contents_text (indicators s) = s
contents_text (signal_type n) = n ∷ []
contents_text (duration n) = sixteen_bits_text n

-- the compatibility of an inner element: bits 7 to 1 of its octet, bit 8 of which is always written set
abbrev pub seven_bits : ℕ → Bool
seven_bits c = ltb c 128

abbrev pub inner_codec_in_range : InnerCodec → Bool
inner_codec_in_range c = seven_bits c.compatibility && right_single c.codec

unfoldable pub inner_codecs_in_range : List InnerCodec → Bool
inner_codecs_in_range [] = true
inner_codecs_in_range (c ∷ cs) = inner_codec_in_range c && inner_codecs_in_range cs

abbrev pub inner_type_in_range : InnerType → Bool
inner_type_in_range k = seven_bits k.compatibility && is_signal k.kind

unfoldable pub inner_duration_in_range : InnerDuration → Bool
inner_duration_in_range untimed = true
inner_duration_in_range (lasting c n) = seven_bits c

-- Every field is in the range in which it is decoded. A field that is held in just the bits in which it is
-- written (an octet, sixteen bits) has no other range.
unfoldable pub value_in_range : Value → Bool
value_in_range (action n) = is_action n
value_in_range (backbone s) = leb 1 (length s) && leb (length s) 4
value_in_range (address s) = leb 1 (length s) && leb (length s) 20
value_in_range (codecs cs) = leb 1 (length cs) && inner_codecs_in_range cs
value_in_range (single c) = right_single c
value_in_range (report r ds) = true
value_in_range (characteristics n) = leb n 4
value_in_range (control s) = leb 1 (length s)
value_in_range (tunnelling b) = true
value_in_range (control_unit n l) = leb (length n) 255 && leb 1 (length l)
value_in_range (signal k t) = inner_type_in_range k && inner_duration_in_range t
value_in_range (capability b) = true
value_in_range (indicators s) = right_indicators s
value_in_range (signal_type n) = is_signal n
value_in_range (duration n) = true

-- the octets of a value's element, with compatibility bits c
unfoldable pub value_text : ℕ → Value → List ℕ
value_text c v = element_text (identifier_of v) c (contents_text v)

-- ---- what a writer puts into its buffer (`Puts`)
-- the octets to write: none if a field is out of range or the element is too long
unfoldable pub element_octets : ℕ → Value → Option (List ℕ)
element_octets c v = cond (value_in_range v && leb (length (value_text c v)) most_octets) (some (value_text c v)) none

-- the same if there may be no value
unfoldable pub element_octets_in : ℕ → Option Value → Option (List ℕ)
element_octets_in c none = none
element_octets_in c (some v) = element_octets c v
