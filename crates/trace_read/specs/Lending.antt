-- The output buffer that is lent to an event: 2,048 octets. In a detailed trace a line may begin with `B`, a tab, a length and a tab,
-- which are not part of the line's 1,200 octets; then the buffer has that length, if it is less.
use Rattle.std.specs.Prelude.{ℕ, ◌+◌, List, [], ◌∷◌, Bool, ◌&&◌, length, drop}
use Rattle.std.proofs.Math.Option.{Option, none, some, Option-elim}
use Rattle.octets.specs.Chain.{when}
use Rattle.octets.specs.Decimal.{on_number}
use Rattle.octets.specs.Split.{has, before}
use Rattle.octets.specs.Text.{char, tab}
use Rattle.octets.specs.Words.{begins}
use Rattle.notation.specs.Notation.{length_in}

-- how a line begins that says the length of the buffer
abbrev pub lend_word : List ℕ
lend_word = char "B" ∷ tab ∷ []

-- the octets that are lent if the line doesn't say how many
abbrev pub usual_room : ℕ
usual_room = 2048

-- the length that a line asks for, and the text of its event
pub record Lent : Type 0 where
  pub room : ℕ
  pub text : List ℕ

-- the usual length, and the line as it is
unfoldable pub usual : List ℕ → Lent
usual s = record { room = usual_room; text = s }

-- t follows `B` and its tab: a length, a tab and the event
unfoldable pub lent_after : List ℕ → Option Lent
lent_after t =
    when (has tab t)
    (on_number (length_in (before tab t)) (λ n. some (record { room = n; text = drop (length (before tab t) + 1) t })) none)

-- the usual, if nothing is asked for
abbrev pub or_usual : List ℕ → Option Lent → Lent
or_usual s x = Option-elim x (usual s) (λ (l : Lent). l)

-- A line whose prefix is wrong is no event, since no event begins with `B`.
unfoldable pub lent_in : Bool → List ℕ → Lent
lent_in detailed s = or_usual s (when (detailed && begins lend_word s) (lent_after (drop (length lend_word) s)))
