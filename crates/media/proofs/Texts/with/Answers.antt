-- `Texts::with` meets its contract: fewer than three texts are those that the count names.
-- Assumes nothing.
use native.Mathlib.Omega.{arith}
use Rattle.media.proofs.TextsLaws.{count_few, with_one}
use Rattle.media.proofs.Texts.with.Goals as goal

pub returns : goal.returns
returns c = with_one _ (omega arith) c.requires _

pub bounds-spans-self : goal.bounds-spans-self
bounds-spans-self c = count_few _ (omega arith) c.requires

pub overflow_add-result : goal.overflow_add-result
overflow_add-result c = let h = count_few _ (omega arith) c.requires in omega arith
