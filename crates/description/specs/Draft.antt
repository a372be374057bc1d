-- Document 01, "Message, version 1": what a Request or Accepted says, line by line. A draft is what the lines so far have
-- said; each line makes the next draft, or is wrong (`none`: number 10).
use Rattle.std.specs.Prelude.{ℕ, ◌+◌, List, [], ◌∷◌, Bool, true, ◌&&◌, ◌||◌, cond, eqb, None}
use Rattle.std.specs.Prelude as code
use Rattle.std.proofs.Math.Option.{Option, none, some, map}
use Rattle.octets.specs.Chain.{when}
use Rattle.octets.specs.Split.{has}
use Rattle.octets.specs.Text.{ascii, char}
use Rattle.octets.specs.Words.{begins, same, digit_run}
use Rattle.texts.specs.Tokens.{token, token_count}
use Rattle.address.specs.declared.Address.{Address}
use Rattle.address.specs.declared.Address.TheVariants.{V4}
use Rattle.address.specs.Kinds.{unicast}
use Rattle.address.specs.Ipv4.{read_v4}
use Rattle.address.specs.Ipv6.{read_v6}
use Rattle.media.specs.Stream.{Stream, bare_stream}
use Rattle.media.specs.Attributes.{media_of, is_attribute, attribute_of}

pub record Draft : Type 0 where
  -- how many of the seven needed lines there were: v, o, s, c, t, ipbcp and m
  pub had : ℕ
  -- from `c=`
  pub address : Address
  -- from `m=` and the attributes after it
  pub stream : Stream

-- before the first line
unfoldable pub empty_draft : Draft
empty_draft = record { had = 0; address = V4 0; stream = bare_stream [] 0 [] 0 }

-- ---- the needed lines, each exactly once and in order; v is a line's value, after its letter and `=`
-- d, after n needed lines
unfoldable pub reached : ℕ → Draft → Draft
reached n d = record { had = n; address = d.address; stream = d.stream }

-- the needed line after n others, if it is right
unfoldable pub needed : ℕ → Bool → Draft → Option Draft
needed n right d = when (eqb d.had n) (when right (some (reached (n + 1) d)))

-- `v=0`, the first
unfoldable pub version_line : Draft → List ℕ → Option Draft
version_line d v = needed 0 (same (ascii "0") v) d

-- the words of `o=` and `c=`
abbrev pub in_word : List ℕ
in_word = ascii "IN"

abbrev pub ip4_word : List ℕ
ip4_word = ascii "IP4"

abbrev pub ip6_word : List ℕ
ip6_word = ascii "IP6"

-- `o=`: six tokens, of which only the fourth and the fifth are checked
unfoldable pub is_origin : List ℕ → Bool
is_origin v = eqb (token_count v) 6 && (same in_word (token 3 v) && (same ip4_word (token 4 v) || same ip6_word (token 4 v)))

-- after v
unfoldable pub origin_line : Draft → List ℕ → Option Draft
origin_line d v = needed 1 (is_origin v) d

-- `s=`, after v and o: any value, empty too
unfoldable pub session_line : Draft → Option Draft
session_line d = needed 2 true d

-- the address s of the family that the word names
unfoldable pub address_of : List ℕ → List ℕ → code.Option Address
address_of family s = cond (same ip4_word family) (read_v4 s) (cond (same ip6_word family) (read_v6 s) None)

-- `c=`: IN, a family, and a unicast address of it
unfoldable pub connection_of : List ℕ → code.Option Address
connection_of v = cond (eqb (token_count v) 3 && same in_word (token 0 v)) (address_of (token 1 v) (token 2 v)) None

unfoldable pub with_address : Draft → Address → Draft
with_address d a = record { had = 4; address = a; stream = d.stream }

-- after v, o and s
unfoldable pub connection_line : Draft → List ℕ → Option Draft
connection_line d v =
    when (eqb d.had 3)
    (unicast (connection_of v) λ a.
    some (with_address d a))

-- `t=`: two runs of digits, which may have leading zeros
unfoldable pub is_time : List ℕ → Bool
is_time v = eqb (token_count v) 2 && (digit_run (token 0 v) && digit_run (token 1 v))

-- after v, o, s and c
unfoldable pub time_line : Draft → List ℕ → Option Draft
time_line d v = needed 4 (is_time v) d

-- The ipbcp line, after v, o, s, c and t. There it can only be the first such line, from which version and type were read
-- (number 9).
unfoldable pub ipbcp_line : Draft → Option Draft
ipbcp_line d = needed 5 true d

unfoldable pub with_stream : Draft → Stream → Draft
with_stream d s = record { had = 7; address = d.address; stream = s }

-- `m=`, the last
unfoldable pub media_line : Draft → List ℕ → Option Draft
media_line d v = when (eqb d.had 6) (map (with_stream d) (media_of v))

-- ---- attributes; a is what comes after `a=`
abbrev pub ipbcp_word : List ℕ
ipbcp_word = ascii "ipbcp:"

-- The three attributes of a media line come only after it; other attributes are skipped.
unfoldable pub attribute_line : Draft → List ℕ → Option Draft
attribute_line d a =
    cond (begins ipbcp_word a) (ipbcp_line d)
    (cond (is_attribute a) (when (eqb d.had 7) (map (with_stream d) (attribute_of d.stream a)))
    (some d))

-- ---- any line
-- the letters of lines that are skipped
abbrev pub skipped_letters : List ℕ
skipped_letters = ascii "iuepbzkr"

-- by the letter; a letter that is not listed here is wrong
unfoldable pub after_field : Draft → ℕ → List ℕ → Option Draft
after_field d letter v =
    cond (eqb letter (char "v")) (version_line d v)
    (cond (eqb letter (char "o")) (origin_line d v)
    (cond (eqb letter (char "s")) (session_line d)
    (cond (eqb letter (char "c")) (connection_line d v)
    (cond (eqb letter (char "t")) (time_line d v)
    (cond (eqb letter (char "m")) (media_line d v)
    (cond (eqb letter (char "a")) (attribute_line d v)
    (when (has letter skipped_letters) (some d))))))))

-- a line is a letter, `=`, and a value
unfoldable pub after_line : Draft → List ℕ → Option Draft
after_line d [] = none
after_line d (letter ∷ []) = none
after_line d (letter ∷ _ ∷ v) = after_field d letter v
