-- Document 01, "Examples on each side", those marked P, as one table: what is asked, and the answer. The
-- two sides compute to the same list.
-- Assumes nothing.
use Prim.Native.Nat.{ℕ}
use mathlib.Core.Path.{◌≡◌, refl}
use mathlib.Core.List.{List, [], ◌∷◌, map}
use mathlib.Core.Bool.{Bool, true, false}
use mathlib.Core.Option.{Option, none, some, Option-elim}
use Rattle.std.specs.Prelude as code
use Rattle.octets.specs.declared.Refusal.TheVariants.{Unframed}
use Rattle.octets.specs.Split.{on_first, split_on}
use Rattle.octets.specs.Decimal.{is_digit, all_digits, value_from, shortest, number_from, read_number, on_number}
use Rattle.codes.specs.Codes.{is_action}
use Rattle.bat.specs.Framing.{Length, sized, unsized, length_of, unmarked, header, whole, counted_by, element_by, sized_by, front, on_front, walk_from, walk, fold, elements, room_for, cut}
use Rattle.bat.specs.Values.{Diagnostic, action, itu_codec, right_single, action_in, with_single, on_codecs, is_single, codec_then, codecs_in, codec_list_in, decoding}
use Rattle.bat.specs.Judging.{index_by, second_choice, outcome_of, notice_of, judgement, Finding, known, unknown, finding_by, finding, JudgedData, refused_data, judged_elements, judged_by, judged_data}
use Rattle.address.specs.declared.Address.TheVariants.{V4}
use Rattle.address.specs.declared.Address.{Address}
use Rattle.address.specs.Kinds.{is_unicast, if_unicast}
use Rattle.address.specs.Parts.{all_parts, in_base}
use Rattle.address.specs.Ipv4.{is_octet, octet_value, is_dotted, dotted_value, read_v4}
use Rattle.bctp.specs.Packet.{right_first, right_second, has_error, version_of, protocol_of, version_indicator, protocol_indicator, Opened, tunnel_reply, opened_by, opened_packet}

-- what the number of a length field is, if it is one
length_number : Length → Option ℕ
length_number (sized octets n rest) = some n
length_number unsized = none

-- the diagnostics of unrecognised elements, listed or not
diagnostics : List Finding → List Diagnostic
diagnostics [] = []
diagnostics (known v ∷ vs) = diagnostics vs
diagnostics (unknown j ∷ vs) = j.diagnostic ∷ diagnostics vs

diagnosed : JudgedData → Option (List Diagnostic)
diagnosed (refused_data e) = none
diagnosed (judged_elements vs) = some (diagnostics vs)

data Question : Type 0 where
  -- the length that these octets are
  asks_length : List ℕ → Question
  -- what is made of this data, where passing on is possible
  answer_to : List ℕ → Question
  -- the diagnostics of its unrecognised elements
  diagnosed_in : List ℕ → Question
  -- what an element with this compatibility octet asks for, where passing on is not possible: outcome and notice
  asked_by : ℕ → Question
  -- what a tunnel packet is
  packet : List ℕ → Question
  -- what this text is read as, as an IPv4 address
  address : List ℕ → Question

data Reply : Type 0 where
  a_length : Option ℕ → Reply
  an_answer : JudgedData → Reply
  the_diagnostics : Option (List Diagnostic) → Reply
  an_outcome : ℕ → Bool → Reply
  a_packet : Opened → Reply
  an_address : code.Option Address → Reply

given : Question → Reply
unfolding length_number diagnosed
given (asks_length s) = a_length (length_number (length_of s))
given (answer_to s) = an_answer (judged_data true 16 s)
given (diagnosed_in s) = the_diagnostics (diagnosed (judged_data true 16 s))
given (asked_by c) = an_outcome (outcome_of false c) (notice_of false c)
given (packet s) = a_packet (opened_packet s)
given (address s) = an_address (read_v4 s)

record Example : Type 0 where
  pub asked : Question
  pub right : Reply

examples : List Example
examples =
    record { asked = answer_to (0x01 ∷ 0x82 ∷ 0x81 ∷ 0x08 ∷ []); right = an_answer (judged_elements (known (action 8) ∷ [])) }
    ∷ record { asked = diagnosed_in (0xE0 ∷ 0x81 ∷ 0x85 ∷ []); right = the_diagnostics (some (record { identifier = 0xE0; index = 0 } ∷ [])) }
    ∷ record {
      asked = diagnosed_in (0x04 ∷ 0x8B ∷ 0x85 ∷ 0x05 ∷ 0x83 ∷ 0x80 ∷ 0x01 ∷ 0x01 ∷ 0x05 ∷ 0x83 ∷ 0x80 ∷ 0x01 ∷ 0x0D ∷ []);
      right = the_diagnostics (some (record { identifier = 0x04; index = 8 } ∷ []));
    }
    ∷ record { asked = asks_length (0x00 ∷ 0x81 ∷ []); right = a_length (some 128) }
    ∷ record { asked = asks_length (0x7F ∷ 0x8F ∷ []); right = a_length (some 2047) }
    ∷ record { asked = answer_to (0x01 ∷ 0x80 ∷ []); right = an_answer (refused_data Unframed) }
    ∷ record { asked = answer_to (0x01 ∷ 0x00 ∷ 0x01 ∷ []); right = an_answer (refused_data Unframed) }
    ∷ record { asked = asked_by 0xB0; right = an_outcome 3 false }
    ∷ record { asked = asked_by 0xD0; right = an_outcome 1 true }
    ∷ record { asked = packet (0x20 ∷ 0x21 ∷ []); right = a_packet (tunnel_reply (0x20 ∷ 0x61 ∷ [])) }
    ∷ record { asked = packet (0x21 ∷ 0x20 ∷ []); right = a_packet (tunnel_reply (0x60 ∷ 0x20 ∷ [])) }
    -- "223.255.255.255" and "224.0.0.1"
    ∷ record {
      asked = address (50 ∷ 50 ∷ 51 ∷ 46 ∷ 50 ∷ 53 ∷ 53 ∷ 46 ∷ 50 ∷ 53 ∷ 53 ∷ 46 ∷ 50 ∷ 53 ∷ 53 ∷ []);
      right = an_address (code.Some (V4 0xDFFFFFFF));
    }
    ∷ record { asked = address (50 ∷ 50 ∷ 52 ∷ 46 ∷ 48 ∷ 46 ∷ 48 ∷ 46 ∷ 49 ∷ []); right = an_address code.None }
    ∷ []

all_right : map (λ x. given x.asked) examples ≡ map (λ x. x.right) examples
unfolding given examples length_number diagnostics diagnosed is_action length_of unmarked header whole counted_by element_by sized_by front on_front walk_from walk fold elements room_for cut itu_codec right_single action_in with_single on_codecs is_single codec_then codecs_in codec_list_in decoding index_by second_choice outcome_of notice_of judgement finding_by finding judged_by judged_data Option-elim on_first split_on is_digit all_digits value_from shortest number_from read_number on_number is_unicast if_unicast all_parts in_base is_octet octet_value is_dotted dotted_value read_v4 right_first right_second has_error version_of protocol_of version_indicator protocol_indicator opened_by opened_packet
all_right = refl
