-- What the public functions of this crate promise, and what their answers mean.
use Rattle.std.specs.Prelude.{ℕ, ◌+◌, List, [], ◌∷◌, Bool, cond, length, drop, leb, Result, Ok, Err, Some, None}
use Rattle.std.specs.Prelude as std
use Rattle.std.proofs.Math.Option.{Option, none, some, map}
use Rattle.bat.specs.Framing.{Element, whole, front, on_front, walk}
use Rattle.bat.specs.Values.{Diagnostic, Codecs, all_codecs, offence}
use Rattle.bat.specs.Judging.{Finding, known, unknown, finding, is_listed}
use Rattle.bat.specs.FramingMeaning.{whole_length, element_in}
use Rattle.bat.specs.JudgingMeaning.{diagnostic_in, finding_in}
use Rattle.bat_read.specs.Code as code
use Rattle.bat_read.specs.declared.Listed.{Listed}

-- ---- codecs
-- where a codec list is at fault, if it is
unfoldable pub offence_of : Codecs → std.Option ℕ
offence_of (all_codecs cs) = None
offence_of (offence d) = Some d

-- ---- the front
-- What is at the front of octets: an element, the finding on it, and what follows it; octets that can't be framed; or
-- nothing.
pub data Examination : Type 0 where
  element : Element → Finding → List ℕ → Examination
  no_frame : Examination
  no_more : Examination

unfoldable pub examine : Bool → List ℕ → Examination
examine pass s = on_front (front s) (λ e t. element e (finding pass e) t) no_frame no_more

-- What an answer means at the front of s; none if s has fewer octets than the element, or if the finding means none.
unfoldable pub examined_in : List ℕ → Result (std.Option code.Examined) code.Unframed → Option Examination
examined_in s (Ok (Some x)) =
    cond (leb (whole_length x.frame) (length s))
    (map (λ (w : Finding). element (element_in s x.frame) w (drop (whole_length x.frame) s)) (finding_in (element_in s x.frame).contents x.finding))
    none
examined_in s (Ok None) = some no_more
examined_in s (Err e) = some no_frame

-- ---- what is listed
-- A listed diagnostic, and the place in the data after its element.
pub record Listing : Type 0 where
  pub diagnostic : Diagnostic
  pub next : ℕ

-- the listings ls, and before them that of this finding if it is listed; its element ends at n
unfoldable pub listing_with : Finding → ℕ → List Listing → List Listing
listing_with (known v) n ls = ls
listing_with (unknown j) n ls = cond (is_listed j) (record { diagnostic = j.diagnostic; next = n } ∷ ls) ls

-- The listings of the elements of s, which starts at d of the data, as far as it can be framed.
unfoldable pub listings : Bool → ℕ → List ℕ → List Listing
listings pass d s = walk (λ e d ls. listing_with (finding pass e) (d + length (whole e)) ls) (λ d. []) [] d s

-- What an answer means in s: a listing and those after it, or none.
unfoldable pub listings_in : Bool → List ℕ → std.Option Listed → List Listing
listings_in pass s (Some x) = record { diagnostic = diagnostic_in x.diagnostic; next = x.next } ∷ listings pass x.next (drop x.next s)
listings_in pass s None = []
