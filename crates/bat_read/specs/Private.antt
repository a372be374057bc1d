-- Private: used only by private functions of this crate.
use Rattle.std.specs.Prelude.{ℕ, max, ◌≡◌, List, ◌∷◌, Bool, true, cond, eqb, Option, Some, None, Ok, Err}
use Rattle.octets.specs.declared.Span.{Span}
use Rattle.octets.specs.Spans.{text_of, inside}
use Rattle.bat_read.specs.Code as code
use Rattle.bat.specs.Framing.{fold}
use Rattle.bat.specs.Judging.{index_by, Finding, known, unknown, finding, is_listed}
use Rattle.bat.specs.JudgingMeaning.{outcome_number, diagnostic_in, judgement_in}
use Rattle.bat_read.specs.Examining.{Listing}

-- the span p is t in s, and is inside s
pub record Stands (s t : List ℕ) (p : Span) : Type 0 where
  pub is : text_of s p ≡ t
  pub within : inside s p ≡ true

-- the index of an answer's diagnostic, for an element with n octets before its contents
unfoldable pub index_in : ℕ → code.Decoding → ℕ
index_in n (Ok v) = 0
index_in n (Err u) = index_by n u.inner

-- what an outcome asks for the data as a whole, by the numbers of `data_outcome`
abbrev pub data_asked : ℕ → ℕ
data_asked n =
    cond (eqb n 3) 3
    (cond (eqb n 2) 2
    0)

unfoldable pub data_asked_in : code.Finding → ℕ
data_asked_in (Ok v) = 0
data_asked_in (Err j) = data_asked (outcome_number j.outcome)

unfoldable pub data_asked_by : Finding → ℕ
data_asked_by (known v) = 0
data_asked_by (unknown j) = data_asked j.outcome

-- the gravest that the elements of s ask for, as far as s can be framed
unfoldable pub gravest : Bool → List ℕ → ℕ
gravest pass s = fold (λ e n. max (data_asked_by (finding pass e)) n) 0 0 s

-- the listings ls, and before them that of an element that ends at n
unfoldable pub own_in : Option code.Diagnostic → ℕ → List Listing → List Listing
own_in (Some d) n ls = record { diagnostic = diagnostic_in d; next = n } ∷ ls
own_in None n ls = ls

unfoldable pub own_of : code.Finding → ℕ → List Listing → List Listing
own_of (Ok v) n ls = ls
own_of (Err j) n ls = cond (is_listed (judgement_in j)) (record { diagnostic = diagnostic_in j.diagnostic; next = n } ∷ ls) ls
