-- Document 01, "Trace program": the event that a line names, if it names one.
use Rattle.std.specs.Prelude.{ℕ, List, cond, length, eqb, ltb}
use Rattle.std.proofs.Math.Option.{Option, some}
use Rattle.octets.specs.Chain.{when, number}
use Rattle.octets.specs.Hex.{is_hex, hex_octets}
use Rattle.octets.specs.Split.{part_at}
use Rattle.endpoint.specs.Rule.{Event, set_up, change, release, t1, t2, message}
use Rattle.trace_read.specs.Words.{fields_of, first_is, most_line, set_up_word, change_word, release_word, t1_word, t2_word, message_word}

-- one field: a release or a timer
unfoldable pub bare_of : List (List ℕ) → Option Event
bare_of ps =
    cond (first_is release_word ps) (some release)
    (cond (first_is t1_word ps) (some t1)
    (when (first_is t2_word ps) (some t2)))

-- the message whose octets are the pairs of digits t
unfoldable pub message_by : List ℕ → Option Event
message_by t = when (is_hex t) (some (message (hex_octets t)))

-- two fields: a message
unfoldable pub message_of : List (List ℕ) → Option Event
message_of ps = when (first_is message_word ps) (message_by (part_at 1 ps))

-- the numbers of a command: a codec entry, a payload and a packet time
unfoldable pub command_numbers : (ℕ → ℕ → ℕ → Event) → List (List ℕ) → Option Event
command_numbers command ps =
    number (part_at 1 ps)
    (λ entry. number (part_at 2 ps)
    (λ payload. number (part_at 3 ps)
    (λ ptime. some (command entry payload ptime))))

-- four fields: a set-up or a change
unfoldable pub command_of : List (List ℕ) → Option Event
command_of ps = cond (first_is set_up_word ps) (command_numbers set_up ps) (when (first_is change_word ps) (command_numbers change ps))

-- the event that the fields name, by how many there are
unfoldable pub fields_event : List (List ℕ) → Option Event
fields_event ps =
    cond (eqb (length ps) 1) (bare_of ps)
    (cond (eqb (length ps) 2) (message_of ps)
    (when (eqb (length ps) 4) (command_of ps)))

-- the event that a line names; s is its text without the LF
unfoldable pub line_event : List ℕ → Option Event
line_event s = when (ltb (length s) most_line) (fields_event (fields_of s))
