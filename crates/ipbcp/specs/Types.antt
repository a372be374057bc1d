-- Document 01, "Message, version 1": the version and the type of a message, and number 9 (`Unreadable`).
use Rattle.std.specs.Prelude.{ℕ, List, [], ◌∷◌, ◌++◌, cond, drop, length, eqb, leb, Some, None}
use Rattle.std.specs.Prelude as code
use Rattle.std.proofs.Math.Option.{Option, some, Option-elim, map}
use Rattle.octets.specs.Chain.{when, number}
use Rattle.octets.specs.Text.{ascii, blank}
use Rattle.octets.specs.Words.{begins, same}
use Rattle.texts.specs.Tokens.{token, token_count}
use Rattle.sdp.specs.Lines.{lines, in_lines}
use Rattle.description.specs.Draft.{ipbcp_word}
use Rattle.ipbcp.specs.declared.MessageType.{MessageType}
use Rattle.ipbcp.specs.declared.MessageType.TheVariants.{Request, Accepted, Confused, Rejected}
use Rattle.ipbcp.specs.declared.Head.{Head}

-- how the ipbcp line begins
abbrev pub ipbcp_start : List ℕ
ipbcp_start = ascii "a=" ++ ipbcp_word

-- the word of a message type
unfoldable pub type_word : MessageType → List ℕ
type_word Request = ascii "Request"
type_word Accepted = ascii "Accepted"
type_word Confused = ascii "Confused"
type_word Rejected = ascii "Rejected"

-- the type whose word w is
unfoldable pub type_named : List ℕ → Option MessageType
type_named w =
    cond (same (type_word Request) w) (some Request)
    (cond (same (type_word Accepted) w) (some Accepted)
    (cond (same (type_word Confused) w) (some Confused)
    (when (same (type_word Rejected) w) (some Rejected))))

-- a version of at most 255, a blank, and the word of a type
unfoldable pub typed_from : List ℕ → Option Head
typed_from s =
    when (eqb (token_count s) 2)
    (number (token 0 s) λ version.
    when (leb version 255)
    (map (λ kind. record { version = version; kind = kind }) (type_named (token 1 s))))

-- the same for the code; `Unreadable` refuses `None`
unfoldable pub head_from : List ℕ → code.Option Head
head_from s = Option-elim (typed_from s) None (λ h. Some h)

-- s without the blank at its start, if it has one
unfoldable pub without_blank : List ℕ → List ℕ
without_blank [] = []
without_blank (b ∷ bs) = cond (eqb b blank) bs (b ∷ bs)

-- what the first line that begins `a=ipbcp:` says after that
unfoldable pub first_head : List (List ℕ) → code.Option Head
first_head [] = None
first_head (t ∷ ts) = cond (begins ipbcp_start t) (head_from (without_blank (drop (length ipbcp_start) t))) (first_head ts)

-- the version and the type of m, if it is made of lines
unfoldable pub head_in : List ℕ → code.Option Head
head_in m = cond (in_lines m) (first_head (lines m)) None
