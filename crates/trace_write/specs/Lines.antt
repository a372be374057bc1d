-- Document 01, "Trace program": the lines that are printed, with one blank between their fields. The line of an event is defined
-- without its LF, since a detailed trace has more fields before it.
use Rattle.std.specs.Prelude.{ℕ, List, [], ◌∷◌, ◌++◌, Result, Ok, Err}
use Rattle.std.proofs.Math.Option.{Option, none, some}
use Rattle.octets.specs.declared.Refusal.{Refusal}
use Rattle.octets.specs.declared.Refusal.TheVariants.{BadConfiguration}
use Rattle.octets.specs.Append.{number_text}
use Rattle.octets.specs.Refusals.{refusal_number}
use Rattle.octets.specs.Text.{ascii, blank, lf}
use Rattle.notation.specs.Notation.{refused_shown}
use Rattle.book.specs.declared.State.{State}
use Rattle.endpoint.specs.declared.Done.{Done}
use Rattle.endpoint.specs.Rule.{Event}
use Rattle.trace_write.specs.Words.{kind_word, bad_word, state_word, notice_word, dropped_word}

-- the names of the fields
abbrev pub header_line : List ℕ
header_line = ascii "n event state notice dropped written" ++ (lf ∷ [])

-- what is printed for a configuration that is refused
abbrev pub refused_line : List ℕ
refused_line = refused_shown (refusal_number BadConfiguration) ++ (lf ∷ [])

-- ---- the line of an event
-- the kind of an event, or that the line is no event
unfoldable pub kind_field : Option Event → List ℕ
kind_field none = bad_word
kind_field (some e) = kind_word e

-- the event's number and its kind
unfoldable pub number_and_kind : ℕ → Option Event → List ℕ
number_and_kind n e = number_text n ++ (blank ∷ kind_field e)

-- the last three fields: `notice`, `dropped` and `written`
abbrev pub refusal_text : ℕ → List ℕ
refusal_text n = refused_shown n ++ ascii " no 0"

abbrev pub done_text : Done → List ℕ
done_text d = notice_word d.notice ++ (blank ∷ (dropped_word d.dropped ++ (blank ∷ number_text d.written)))

-- a reply, with the number that refuses in place of the refusal
unfoldable pub numbered : Result Done Refusal → Result Done ℕ
numbered (Ok d) = Ok d
numbered (Err e) = Err (refusal_number e)

-- the state after the event, and those fields; a refusal leaves the state s
unfoldable pub reply_text : State → Result Done ℕ → List ℕ
reply_text s (Ok d) = state_word d.state ++ (blank ∷ done_text d)
reply_text s (Err n) = state_word s ++ (blank ∷ refusal_text n)

unfoldable pub event_text : ℕ → Option Event → State → Result Done ℕ → List ℕ
event_text n e s r = number_and_kind n e ++ (blank ∷ reply_text s r)
