-- What the answers of judging mean, by the definitions of `Judging`. `code.X` is the code's type X (see `Code`).
use Rattle.std.specs.Prelude.{ℕ, List, length, Result, Ok, Err}
use Rattle.std.proofs.Math.Option.{Option, some, map}
use Rattle.bat.specs.Code as code
use Rattle.octets.specs.declared.Refusal.{Refusal}
use Rattle.bat.specs.declared.Taken.{Taken}
use Rattle.bat.specs.Values.{Diagnostic}
use Rattle.bat.specs.Judging.{Judgement, Finding, known, unknown, data_outcome, JudgedData, refused_data, judged_elements}
use Rattle.bat.specs.ValueMeaning.{value_in}

-- document 01's number of an outcome
unfoldable pub outcome_number : code.Outcome → ℕ
outcome_number code.PassOn = 0
outcome_number code.DiscardElement = 1
outcome_number code.DiscardData = 2
outcome_number code.Release = 3

abbrev pub diagnostic_in : code.Diagnostic → Diagnostic
diagnostic_in d = record { identifier = d.identifier; index = d.index }

unfoldable pub judgement_in : code.Judged → Judgement
judgement_in j = record { outcome = outcome_number j.outcome; notice = j.notice; diagnostic = diagnostic_in j.diagnostic }

-- s is the contents of the element
unfoldable pub finding_in : List ℕ → Result code.Value code.Judged → Option Finding
finding_in s (Ok v) = map known (value_in s v)
finding_in s (Err j) = some (unknown (judgement_in j))

-- the data's outcome by the numbers of `data_outcome`
unfoldable pub data_number : code.DataOutcome → ℕ
data_number code.Neither = 0
data_number code.DiscardAll = 2
data_number code.ReleaseAll = 3

-- The answer to application data: the refusal, or the count of elements and their outcome.
pub data Told : Type 0 where
  told_refusal : Refusal → Told
  told_taken : ℕ → ℕ → Told

unfoldable pub told_by : Result Taken Refusal → Told
told_by (Err e) = told_refusal e
told_by (Ok t) = told_taken t.count (data_number t.outcome)

unfoldable pub told_of : JudgedData → Told
told_of (refused_data e) = told_refusal e
told_of (judged_elements vs) = told_taken (length vs) (data_outcome vs)
