-- Document 01, "Elements", the list of identifiers (YD/T 1193.4 after Q.765.5, 4.6.1.2 to 4.6.1.17): what the contents of
-- an element are decoded as. Simple elements come in the order of their numbers, then the two constructors. Where
-- Q.765.5 leaves a code spare or a length open, document 01's ranges decide: outside them the element is unrecognised.
use Rattle.std.specs.Prelude.{ℕ, suc, ◌+◌, ◌*◌, ◌%◌, List, [], ◌∷◌, Bool, true, ◌&&◌, cond, length, take, drop, leb, ltb, eqb, Some, None}
use Rattle.std.proofs.Math.Option.{Option, none, some, map, Option-elim}
use Rattle.codes.specs.Codes.{is_action, is_indicator, is_signal}
use Rattle.std.specs.Prelude as std
use Rattle.bat.specs.Framing.{octet, unmarked, Element, whole, front, on_front, walk}

-- ---- values
-- What a compatibility report says about one element: its identifier, and the distance in octets from it to the
-- identifier of the inner element at fault; 0 if the element itself is at fault.
pub record Diagnostic : Type 0 where
  pub identifier : ℕ
  pub index : ℕ

-- Organisation, and the octets after it: type and configuration.
pub record SingleCodec : Type 0 where
  pub organisation : ℕ
  pub information : List ℕ

-- An inner element of a constructor: what it holds, and its own compatibility, which is bits 7 to 1 of its first
-- compatibility octet.
pub record InnerCodec : Type 0 where
  pub compatibility : ℕ
  pub codec : SingleCodec

pub record InnerType : Type 0 where
  pub compatibility : ℕ
  pub kind : ℕ

pub data InnerDuration : Type 0 where
  untimed : InnerDuration
  -- compatibility, duration
  lasting : ℕ → ℕ → InnerDuration

-- What an element says, by its identifier.
pub data Value : Type 0 where
  -- 1
  action : ℕ → Value
  -- 2
  backbone : List ℕ → Value
  -- 3
  address : List ℕ → Value
  -- 4
  codecs : List InnerCodec → Value
  -- 5
  single : SingleCodec → Value
  -- 6: reason, diagnostics
  report : ℕ → List Diagnostic → Value
  -- 7
  characteristics : ℕ → Value
  -- 8
  control : List ℕ → Value
  -- 9
  tunnelling : Bool → Value
  -- 10: network id, local id
  control_unit : List ℕ → List ℕ → Value
  -- 11
  signal : InnerType → InnerDuration → Value
  -- 12
  capability : Bool → Value
  -- 13
  indicators : List ℕ → Value
  -- 14
  signal_type : ℕ → Value
  -- 15
  duration : ℕ → Value

-- What is at fault in an unrecognised element: its first faulty inner element, given by its position in the contents, or if
-- there is none the element itself.
abbrev pub Place : Type 0
Place = std.Option ℕ

-- An element is decoded as a value, or it is unrecognised. The place says what is at fault.
pub data Decoding : Type 0 where
  decoded : Value → Decoding
  unrecognised : Place → Decoding

-- the element itself is at fault
abbrev pub wrong : Decoding
wrong = unrecognised None

-- x if b holds, otherwise wrong
abbrev pub or_wrong : Bool → Decoding → Decoding
or_wrong b x = cond b x wrong

-- bits 7 to 1 of a compatibility octet; bit 8 only says whether another follows
abbrev pub meant : ℕ → ℕ
meant c = c % 128

-- bit 1 of an octet
abbrev pub bit1 : ℕ → Bool
bit1 b = eqb (b % 2) 1

-- the sixteen bits at the front of s, the high octet first
abbrev pub sixteen_bits : List ℕ → ℕ
sixteen_bits s = octet 0 s * 256 + octet 1 s

-- ---- simple elements
-- 1, action (4.6.1.3): a single octet, an action code
unfoldable pub action_in : List ℕ → Decoding
action_in s = or_wrong (eqb (length s) 1) (or_wrong (is_action (octet 0 s)) (decoded (action (octet 0 s))))

-- 2, backbone connection identifier (4.6.1.4): at least one octet, at most four
unfoldable pub backbone_in : List ℕ → Decoding
backbone_in s = or_wrong (leb 1 (length s) && leb (length s) 4) (decoded (backbone s))

-- 3, address of the interworking function (4.6.1.5): at least one octet, at most twenty
unfoldable pub address_in : List ℕ → Decoding
address_in s = or_wrong (leb 1 (length s) && leb (length s) 20) (decoded (address s))

-- 5, single codec (4.6.1.7): an organisation, at most 2, and at least one octet of codec information. For the ITU-T (1)
-- the information begins with a type, at most 12, and types 1 to 6 have no configuration. Any other configuration is
-- kept unread.
unfoldable pub itu_codec : List ℕ → Bool
itu_codec s = leb (octet 0 s) 12 && cond (leb 1 (octet 0 s) && leb (octet 0 s) 6) (eqb (length s) 1) true

unfoldable pub right_single : SingleCodec → Bool
right_single c =
    leb 1 (length c.information) && leb c.organisation 2 && cond (eqb c.organisation 1) (itu_codec c.information) true

abbrev pub single_codec : List ℕ → SingleCodec
single_codec s = record { organisation = octet 0 s; information = drop 1 s }

unfoldable pub single_in : List ℕ → Decoding
single_in s = or_wrong (right_single (single_codec s)) (decoded (single (single_codec s)))

-- 6, compatibility report (4.6.1.8): a reason, with any code, and any number of diagnostics, each an identifier and a
-- 16-bit index
unfoldable pub diagnostics_in : List ℕ → Option (List Diagnostic)
diagnostics_in [] = some []
diagnostics_in (i ∷ []) = none
diagnostics_in (i ∷ a ∷ []) = none
diagnostics_in (i ∷ a ∷ b ∷ s) =
    map (λ (r : List Diagnostic). record { identifier = i; index = sixteen_bits (a ∷ b ∷ []) } ∷ r) (diagnostics_in s)

unfoldable pub report_in : List ℕ → Decoding
report_in [] = wrong
report_in (r ∷ s) = Option-elim (diagnostics_in s) wrong (λ ds. decoded (report r ds))

-- 7, bearer network connection characteristics (4.6.1.9): a single octet, at most 4
unfoldable pub characteristics_in : List ℕ → Decoding
characteristics_in s = or_wrong (eqb (length s) 1) (or_wrong (leb (octet 0 s) 4) (decoded (characteristics (octet 0 s))))

-- 8, bearer control information (4.6.1.10): any octets, at least one
unfoldable pub control_in : List ℕ → Decoding
control_in s = or_wrong (leb 1 (length s)) (decoded (control s))

-- 9, bearer control tunnelling (4.6.1.11): a single octet; bits 8 to 2 are ignored
unfoldable pub tunnelling_in : List ℕ → Decoding
tunnelling_in s = or_wrong (eqb (length s) 1) (decoded (tunnelling (bit1 (octet 0 s))))

-- 10, bearer control unit identifier (4.6.1.12): the length of the network id, which may be 0, the network id, and a
-- local id, which is not empty
unfoldable pub unit_in : List ℕ → Decoding
unit_in [] = wrong
unit_in (n ∷ s) = or_wrong (ltb n (length s)) (decoded (control_unit (take n s) (drop n s)))

-- 12, bearer redirection capability (4.6.1.14): the first octet with bit 8 set is the last one; the capability is
-- bit 1 of the first octet
unfoldable pub capability_in : List ℕ → Decoding
capability_in s = or_wrong (eqb (suc (unmarked s)) (length s)) (decoded (capability (bit1 (octet 0 s))))

-- 13, bearer redirection indicators (4.6.1.15): one to sixteen indicator codes
unfoldable pub all_indicators : List ℕ → Bool
all_indicators [] = true
all_indicators (b ∷ s) = is_indicator b && all_indicators s

unfoldable pub right_indicators : List ℕ → Bool
right_indicators s = leb 1 (length s) && leb (length s) 16 && all_indicators s

unfoldable pub indicators_in : List ℕ → Decoding
indicators_in s = or_wrong (right_indicators s) (decoded (indicators s))

-- 14, signal type (4.6.1.16): a single octet, a signal code
unfoldable pub right_type : List ℕ → Bool
right_type s = eqb (length s) 1 && is_signal (octet 0 s)

unfoldable pub type_in : List ℕ → Decoding
type_in s = or_wrong (right_type s) (decoded (signal_type (octet 0 s)))

-- 15, duration (4.6.1.17): sixteen bits
unfoldable pub duration_in : List ℕ → Decoding
duration_in s = or_wrong (eqb (length s) 2) (decoded (duration (sixteen_bits s)))

-- ---- constructors
-- A constructor is decoded only if all of its inner elements are right. An empty one is itself at fault. Otherwise the
-- fault is at the first inner element that is not allowed there: it has another identifier or wrong contents, or it
-- can't be framed.

-- 4, codec list (4.6.1.6): one or more single codecs.
-- The codecs, or the position in the contents of the first offence.
pub data Codecs : Type 0 where
  all_codecs : List InnerCodec → Codecs
  offence : ℕ → Codecs

unfoldable pub with_single : InnerCodec → Codecs → Codecs
with_single c (all_codecs cs) = all_codecs (c ∷ cs)
with_single c (offence d) = offence d

unfoldable pub on_codecs : {X : Type 0} → Codecs → (List InnerCodec → X) → (ℕ → X) → X
on_codecs (all_codecs cs) go bad = go cs
on_codecs (offence d) go bad = bad d

unfoldable pub is_single : Element → Bool
is_single e = eqb e.identifier 5 && right_single (single_codec e.contents)

abbrev pub inner_codec : Element → InnerCodec
inner_codec e = record { compatibility = meant e.compatibility; codec = single_codec e.contents }

unfoldable pub codec_then : Element → ℕ → Codecs → Codecs
codec_then e d rest = cond (is_single e) (with_single (inner_codec e) rest) (offence d)

unfoldable pub codecs_in : List ℕ → Codecs
codecs_in s = walk codec_then offence (all_codecs []) 0 s

unfoldable pub codec_list_in : List ℕ → Decoding
codec_list_in s =
    cond (eqb (length s) 0) wrong (on_codecs (codecs_in s) (λ cs. decoded (codecs cs)) (λ d. unrecognised (Some d)))

-- 11, signal (4.6.1.13): a signal type, then at most one duration.
unfoldable pub is_type : Element → Bool
is_type e = eqb e.identifier 14 && right_type e.contents

unfoldable pub is_duration : Element → Bool
is_duration e = eqb e.identifier 15 && eqb (length e.contents) 2

abbrev pub inner_type : Element → InnerType
inner_type e = record { compatibility = meant e.compatibility; kind = octet 0 e.contents }

abbrev pub inner_duration : Element → InnerDuration
inner_duration e = lasting (meant e.compatibility) (sixteen_bits e.contents)

-- after the 14, which has d octets, and the 15 e comes t
unfoldable pub last_by : InnerType → ℕ → Element → List ℕ → Decoding
last_by k d e t =
    cond (is_duration e)
    (cond (eqb (length t) 0) (decoded (signal k (inner_duration e))) (unrecognised (Some (d + length (whole e)))))
    (unrecognised (Some d))

-- after the 14, which has d octets, comes t
unfoldable pub timed_by : InnerType → ℕ → List ℕ → Decoding
timed_by k d t = on_front (front t) (last_by k d) (unrecognised (Some d)) (decoded (signal k untimed))

unfoldable pub signal_by : Element → List ℕ → Decoding
signal_by e t = cond (is_type e) (timed_by (inner_type e) (length (whole e)) t) (unrecognised (Some 0))

unfoldable pub signal_in : List ℕ → Decoding
signal_in s = on_front (front s) signal_by (unrecognised (Some 0)) wrong

-- ---- by identifier
-- Any other identifier, national ones included, is unrecognised whatever its contents.
unfoldable pub decoding : ℕ → List ℕ → Decoding
decoding i s =
    cond (eqb i 1) (action_in s)
    (cond (eqb i 2) (backbone_in s)
    (cond (eqb i 3) (address_in s)
    (cond (eqb i 4) (codec_list_in s)
    (cond (eqb i 5) (single_in s)
    (cond (eqb i 6) (report_in s)
    (cond (eqb i 7) (characteristics_in s)
    (cond (eqb i 8) (control_in s)
    (cond (eqb i 9) (tunnelling_in s)
    (cond (eqb i 10) (unit_in s)
    (cond (eqb i 11) (signal_in s)
    (cond (eqb i 12) (capability_in s)
    (cond (eqb i 13) (indicators_in s)
    (cond (eqb i 14) (type_in s)
    (cond (eqb i 15) (duration_in s)
    wrong))))))))))))))
