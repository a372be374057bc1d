-- What the answers of this crate mean, by the definitions of `Matching`.
use Rattle.std.specs.Prelude.{ℕ, ◌+◌, ◌≡◌, List, Bool, true, false, not, cond, length, take, drop, leb, eqb, Result, Ok, Err}
use Rattle.std.proofs.Math.Option.{some}
use Rattle.std.specs.Borrow.{Bor}
use Rattle.octets.specs.declared.Span.{Span}
use Rattle.octets.specs.declared.Refusal.{Refusal}
use Rattle.octets.specs.Refusals.{refusal_number}
use Rattle.octets.specs.Puts.{put_answer, put_leaves}
use Rattle.bat_match.specs.declared.MatchAnswer.{MatchAnswer}
use Rattle.bat_match.specs.declared.AnswerForC.{AnswerForC}
use Rattle.bat_match.specs.Matching.{PlacedCodec, reduced_text, MatchResult, refused, matched, matching}

-- ---- which list leads
-- the first of two if the flag is set, otherwise the second
abbrev pub leader : {A : Type 0} → Bool → A → A → A
leader true x y = x
leader false x y = y

-- the match of two strings, of which the own one leads if the flag is set
unfoldable pub matching_led : Bool → List ℕ → List ℕ → MatchResult
matching_led b own offered = matching (leader b own offered) (leader b offered own)

-- ---- the choice
-- the place of a codec's whole element in its string
abbrev pub place_of : PlacedCodec → Span
place_of c = record { at = c.start; len = c.length }

-- what refuses the strings, or the place of the chosen codec in the leading one
unfoldable pub choice_of : MatchResult → Result Span Refusal
choice_of (refused e) = Err e
choice_of (matched m) = Ok (place_of m.chosen)

-- r is the part of s that begins at `at` and has n octets: it lies there in the caller's own memory, and is not a copy
pub record PartOf (s : Bor (List ℕ)) (at n : ℕ) (r : Bor (List ℕ)) : Type 0 where
  pub octets : r.now ≡ take n (drop at s.now)
  pub block : r.ref_ptr.0 ≡ s.ref_ptr.0
  pub place : r.ref_ptr.1 ≡ at + s.ref_ptr.1

-- the same if s has such a part; otherwise r is the empty part at the front of s
unfoldable pub PartAt : Bor (List ℕ) → ℕ → ℕ → Bor (List ℕ) → Type 0
PartAt s at n r = PartOf s (cond (leb (at + n) (length s.now)) at 0) (cond (leb (at + n) (length s.now)) n 0) r

-- r is the part of s that a choice names; for a refusal, or if s has no such part, the empty part at the front of s
unfoldable pub PartBy : {E : Type 0} → Bor (List ℕ) → Result Span E → Bor (List ℕ) → Type 0
PartBy s (Ok p) r = PartAt s p.at p.len r
PartBy s (Err e) r = PartOf s 0 0 r

-- r is the chosen codec's whole element, in its place in the list that leads; the empty part at the front of that list if the two
-- are refused
unfoldable pub Chosen : Bor (List ℕ) → Bor (List ℕ) → Bor (List ℕ) → Type 0
Chosen leading other r = PartBy leading (choice_of (matching leading.now other.now)) r

-- ---- the reduced list
-- the answer of its writer, for a buffer of so many octets: number 4 comes after all others
unfoldable pub reduced_answer : ℕ → MatchResult → Result ℕ Refusal
reduced_answer room (refused e) = Err e
reduced_answer room (matched m) = put_answer room (some (reduced_text m))

-- what it leaves in the buffer l
unfoldable pub reduced_leaves : List ℕ → MatchResult → List ℕ
reduced_leaves l (refused e) = l
reduced_leaves l (matched m) = put_leaves l (some (reduced_text m))

-- ---- both
-- the choice, and the answer of the writer
abbrev pub answer_of : ℕ → MatchResult → MatchAnswer
answer_of room x = record { choice = choice_of x; reduced = reduced_answer room x }

-- A match with the result x, with the buffer l, answers r and leaves f in it.
pub record Matches (x : MatchResult) (l : List ℕ) (r : MatchAnswer) (f : List ℕ) : Type 0 where
  pub answers : r ≡ answer_of (length l) x
  pub leaves : f ≡ reduced_leaves l x

-- ---- for C
-- Numbers for a choice and a writer's answer. A field that does not apply is 0: the refusal if there is none; the place if the
-- strings are refused; how many octets are written if nothing is.
unfoldable pub numbers_for : Result Span Refusal → Result ℕ Refusal → AnswerForC
numbers_for (Err e) w = record { refusal = refusal_number e; start = 0; length = 0; written = 0 }
numbers_for (Ok p) (Ok n) = record { refusal = 0; start = p.at; length = p.len; written = n }
numbers_for (Ok p) (Err e) = record { refusal = refusal_number e; start = p.at; length = p.len; written = 0 }

abbrev pub for_c : MatchAnswer → AnswerForC
for_c m = numbers_for m.choice m.reduced

pub record MatchesForC (x : MatchResult) (l : List ℕ) (r : AnswerForC) (f : List ℕ) : Type 0 where
  pub answers : r ≡ for_c (answer_of (length l) x)
  pub leaves : f ≡ reduced_leaves l x

-- the own list leads unless the number is 0
abbrev pub own_leads_of : ℕ → Bool
own_leads_of n = not (eqb n 0)
