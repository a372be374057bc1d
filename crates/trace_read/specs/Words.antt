-- Document 01, "Trace program": the fields of a line, with tabs between them, the words of the first one, and the longest line.
use Rattle.std.specs.Prelude.{ℕ, List, Bool}
use Rattle.octets.specs.Split.{split_on, part_at}
use Rattle.octets.specs.Text.{ascii, tab}
use Rattle.octets.specs.Words.{same}

abbrev pub fields_of : List ℕ → List (List ℕ)
fields_of s = split_on tab s

-- the first field is the word
abbrev pub first_is : List ℕ → List (List ℕ) → Bool
first_is word ps = same word (part_at 0 ps)

-- the most octets of a line, with its LF
abbrev pub most_line : ℕ
most_line = 1200

-- ---- the first words of lines that configure
abbrev pub general_word : List ℕ
general_word = ascii "G"

abbrev pub codec_word : List ℕ
codec_word = ascii "K"

-- ---- the first words of events
abbrev pub set_up_word : List ℕ
set_up_word = ascii "U"

abbrev pub change_word : List ℕ
change_word = ascii "C"

abbrev pub release_word : List ℕ
release_word = ascii "X"

abbrev pub t1_word : List ℕ
t1_word = ascii "T1"

abbrev pub t2_word : List ℕ
t2_word = ascii "T2"

abbrev pub message_word : List ℕ
message_word = ascii "M"
