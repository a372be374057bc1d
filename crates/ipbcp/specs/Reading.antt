-- Document 01, "Message, version 1": what a message says. Its lines are in `Lines` of `sdp`, each line's meaning in `Draft`
-- of `description` and `Attributes` of `media`, its version and type in `Types`.
use Rattle.std.specs.Prelude.{ℕ, List, [], ◌∷◌, Bool, true, false, ◌&&◌, cond, length, eqb, leb, Some, None}
use Rattle.std.specs.Prelude as code
use Rattle.std.proofs.Math.Option.{Option, none, some, Option-elim}
use Rattle.octets.specs.declared.Refusal.{Refusal}
use Rattle.octets.specs.declared.Refusal.TheVariants.{MessageTooLong, Unreadable, WrongLine}
use Rattle.sdp.specs.Lines.{lines}
use Rattle.address.specs.declared.Address.{Address}
use Rattle.media.specs.Stream.{Stream}
use Rattle.description.specs.Draft.{Draft, empty_draft, after_line}
use Rattle.ipbcp.specs.declared.MessageType.{MessageType}
use Rattle.ipbcp.specs.declared.MessageType.TheVariants.{Request, Accepted, Confused, Rejected}
use Rattle.ipbcp.specs.declared.Head.{Head}
use Rattle.ipbcp.specs.Types.{head_in}

-- The answer to a message: document 01's refusal; or version and type, if nothing more is read; or a Request or Accepted of
-- version 1, with the address of `c=` and what the media line and its attributes say.
pub data Reading : Type 0 where
  refused : Refusal → Reading
  typed : ℕ → MessageType → Reading
  described : MessageType → Address → Stream → Reading

-- the draft of all lines, if none is wrong
unfoldable pub after_lines : Draft → List (List ℕ) → Option Draft
after_lines d [] = some d
after_lines d (t ∷ ts) = Option-elim (after_line d t) none λ e. after_lines e ts

-- number 10: a wrong line, or not all seven that are needed
unfoldable pub concluded : MessageType → Option Draft → Reading
concluded k none = refused WrongLine
concluded k (some d) = cond (eqb d.had 7) (described k d.address d.stream) (refused WrongLine)

-- of Confused and Rejected, only version and type are read
unfoldable pub is_described : MessageType → Bool
is_described Request = true
is_described Accepted = true
is_described Confused = false
is_described Rejected = false

-- number 9, or what m says, given its version and type
unfoldable pub by_head : List ℕ → code.Option Head → Reading
by_head m None = refused Unreadable
by_head m (Some h) =
    cond (eqb h.version 1 && is_described h.kind) (concluded h.kind (after_lines empty_draft (lines m)))
    (typed h.version h.kind)

-- the longest message that is read; a longer one is refused by 8
abbrev pub most_read : ℕ
most_read = 512

unfoldable pub read_message : List ℕ → Reading
read_message m = cond (leb (length m) most_read) (by_head m (head_in m)) (refused MessageTooLong)
