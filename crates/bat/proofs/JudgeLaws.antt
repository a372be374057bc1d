-- A diagnostic is listed by the outcome's number.
-- Assumes nothing.
use mathlib.Core.Path.{◌≡◌}
use mathlib.Core.Bool.{false}
use Rattle.bat.specs.declared.Outcome.TheVariants.{PassOn, DiscardElement, DiscardData, Release}
use Rattle.bat.specs.declared.Judged.{Judged}
use Rattle.bat.specs.Judging.{is_listed}
use Rattle.bat.specs.JudgingMeaning.{outcome_number, judgement_in}

module _ (j : Judged) where
  pub listed_pass : j.outcome ≡ PassOn → false ≡ is_listed (judgement_in j)
  unfolding is_listed judgement_in outcome_number
  listed_pass e = rw e

  pub listed_element : j.outcome ≡ DiscardElement → j.notice ≡ is_listed (judgement_in j)
  unfolding is_listed judgement_in outcome_number
  listed_element e = rw e

  pub listed_discard : j.outcome ≡ DiscardData → j.notice ≡ is_listed (judgement_in j)
  unfolding is_listed judgement_in outcome_number
  listed_discard e = rw e

  pub listed_release : j.outcome ≡ Release → false ≡ is_listed (judgement_in j)
  unfolding is_listed judgement_in outcome_number
  listed_release e = rw e

pub ruleset listing = (listed_pass, listed_element, listed_discard, listed_release)
