-- Document 01, "Elements", the last two paragraphs (YD/T 1193.4 after Q.765.5, 4.6.1.1, figure 9, and 4.6.1.8 b):
-- what an unrecognised element asks for by its first compatibility octet, and what becomes of the data.
use Rattle.std.specs.Prelude.{ℕ, ◌+◌, ◌/◌, ◌%◌, List, [], ◌∷◌, map, Bool, false, not, ◌&&◌, ◌||◌, cond, length, eqb, Some, None}
use Rattle.octets.specs.declared.Refusal.{Refusal}
use Rattle.bat.specs.Framing.{Element, header, Cut, refused, taken, cut}
use Rattle.bat.specs.Values.{Diagnostic, Value, Place, Decoding, decoded, unrecognised, decoding}

-- ---- the diagnostic
-- Its index: 0 if the element itself is at fault. Otherwise the position in the contents, plus the octets before the
-- contents, since the index counts from the element's identifier.
unfoldable pub index_by : ℕ → Place → ℕ
index_by n None = 0
index_by n (Some d) = n + d

-- ---- the outcome
-- An outcome is a number: 0 pass the element on, 1 discard the element, 2 discard the data, 3 release the call.

-- the element asks to be passed on, and that is not possible
abbrev pub no_pass : Bool → ℕ → Bool
no_pass pass c = eqb (c % 4) 0 && not pass

-- the second choice, for that case; 0 means release, since the element can't be passed on
unfoldable pub second_choice : ℕ → ℕ
second_choice n = cond (eqb n 0) 3 n

-- the first choice of the compatibility octet c is its bits 2 and 1, the second its bits 6 and 5
unfoldable pub outcome_of : Bool → ℕ → ℕ
outcome_of pass c = cond (no_pass pass c) (second_choice (c / 16 % 4)) (c % 4)

-- whether notice is asked for: bit 3 with the first choice, bit 7 with the second
unfoldable pub notice_of : Bool → ℕ → Bool
notice_of pass c = cond (no_pass pass c) (eqb (c / 64 % 2) 1) (eqb (c / 4 % 2) 1)

-- ---- a judged element
pub record Judgement : Type 0 where
  pub outcome : ℕ
  pub notice : Bool
  pub diagnostic : Diagnostic

-- the judgement of an element with this identifier, compatibility octet and index
unfoldable pub judgement : Bool → ℕ → ℕ → ℕ → Judgement
judgement pass i c index =
    record { outcome = outcome_of pass c; notice = notice_of pass c; diagnostic = record { identifier = i; index = index } }

-- The finding on an element: its value, or the judgement of an unrecognised one.
pub data Finding : Type 0 where
  known : Value → Finding
  unknown : Judgement → Finding

-- An element is judged by its own compatibility octet; those of its inner elements are ignored.
unfoldable pub finding_by : Bool → Element → Decoding → Finding
finding_by pass e (decoded v) = known v
finding_by pass e (unrecognised place) = unknown (judgement pass e.identifier e.compatibility (index_by (length (header e)) place))

unfoldable pub finding : Bool → Element → Finding
finding pass e = finding_by pass e (decoding e.identifier e.contents)

-- ---- the data
-- A diagnostic is listed if the element asks for notice, and is discarded alone or with the data.
unfoldable pub is_listed : Judgement → Bool
is_listed j = (eqb j.outcome 1 || eqb j.outcome 2) && j.notice

-- the diagnostics ds, and before them that of this finding if it is listed
unfoldable pub listed_with : Finding → List Diagnostic → List Diagnostic
listed_with (known v) ds = ds
listed_with (unknown j) ds = cond (is_listed j) (j.diagnostic ∷ ds) ds

unfoldable pub listed : List Finding → List Diagnostic
listed [] = []
listed (v ∷ vs) = listed_with v (listed vs)

-- the element's outcome is n
unfoldable pub says : ℕ → Finding → Bool
says n (known v) = false
says n (unknown j) = eqb j.outcome n

unfoldable pub some_says : ℕ → List Finding → Bool
some_says n [] = false
some_says n (v ∷ vs) = says n v || some_says n vs

-- One element that asks for release (3) is enough for it. Without one, an element that asks for the data to be discarded
-- (2) is enough for that. Without either, nothing is done to the data as a whole (0).
unfoldable pub data_outcome : List Finding → ℕ
data_outcome vs = cond (some_says 3 vs) 3 (cond (some_says 2 vs) 2 0)

-- Application data is refused, or judged: one finding for each element.
pub data JudgedData : Type 0 where
  refused_data : Refusal → JudgedData
  judged_elements : List Finding → JudgedData

unfoldable pub judged_by : Bool → Cut → JudgedData
judged_by pass (refused e) = refused_data e
judged_by pass (taken es) = judged_elements (map (finding pass) es)

unfoldable pub judged_data : Bool → ℕ → List ℕ → JudgedData
judged_data pass entries s = judged_by pass (cut entries s)
