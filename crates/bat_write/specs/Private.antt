-- Private: used only by private functions of this crate, on the way from a value with spans to the octets of its element.
use Rattle.std.specs.Prelude.{ℕ, ◌+◌, List, [], ◌++◌, Bool, false, cond, drop, ltb, eqb}
use Rattle.std.proofs.Math.Option.{Option, none, some, map}
use Rattle.bat_write.specs.Code as code
use Rattle.bat.specs.Framing.{octet, Element, fold}
use Rattle.bat.specs.Values.{Value, codecs, Codecs, codecs_in, on_codecs, report, diagnostics_in, meant}
use Rattle.bat.specs.Writing.{element_text, contents_text, value_in_range}

-- ---- a value, if there is one
-- the codec list, if there is no offence
abbrev pub list_of : Codecs → Option Value
list_of x = on_codecs x (λ cs. some (codecs cs)) (λ d. none)

-- the codec list that s is
abbrev pub codecs_of : List ℕ → Option Value
codecs_of s = list_of (codecs_in s)

-- the report with the reason r whose diagnostics are s
abbrev pub report_of : ℕ → List ℕ → Option Value
report_of r s = map (report r) (diagnostics_in s)

unfoldable pub value_in_range_in : Option Value → Bool
value_in_range_in none = false
value_in_range_in (some v) = value_in_range v

unfoldable pub contents_in : Option Value → List ℕ
contents_in none = []
contents_in (some v) = contents_text v

-- the identifier of its element
unfoldable pub identifier_in : code.Value → ℕ
identifier_in (code.Action n) = 1
identifier_in (code.Backbone p) = 2
identifier_in (code.Address p) = 3
identifier_in (code.Codecs p) = 4
identifier_in (code.Single c) = 5
identifier_in (code.Report r p) = 6
identifier_in (code.Characteristics n) = 7
identifier_in (code.Control p) = 8
identifier_in (code.Tunnelling b) = 9
identifier_in (code.Unit n l) = 10
identifier_in (code.Signal k t) = 11
identifier_in (code.Capability b) = 12
identifier_in (code.Indicators p) = 13
identifier_in (code.SignalType n) = 14
identifier_in (code.Duration n) = 15

-- ---- its octets
-- The elements of s, each written again as a single codec, with the shortest length and one compatibility octet.
unfoldable pub codecs_anew : List ℕ → List ℕ
codecs_anew s = fold (λ e t. element_text 5 (meant e.compatibility) e.contents ++ t) [] [] s

-- a codec with compatibility bits c and contents s, if its flag is 1
unfoldable pub codec_if : ℕ → ℕ → List ℕ → List ℕ
codec_if m c s = cond (eqb m 1) (element_text 5 c s) []

-- e by the first flag, then what `rest` makes of the other flags
abbrev pub selected_then : Element → (List ℕ → List ℕ) → List ℕ → List ℕ
selected_then e rest ms = codec_if (octet 0 ms) (meant e.compatibility) e.contents ++ rest (drop 1 ms)

-- The elements of s whose flag is 1, written again in the same way.
unfoldable pub selected_anew : List ℕ → List ℕ → List ℕ
selected_anew ms s = fold selected_then (λ ms. []) (λ ms. []) s ms

-- how many octets an element with n octets of contents has
unfoldable pub element_length : ℕ → ℕ
element_length n = cond (ltb n 127) (n + 3) (n + 4)
