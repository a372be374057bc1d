-- `Elements::next` meets its contract: what is framed at the place is the first of what is left.
-- Assumes nothing.
use borrow.Author.Rules.{rules}
use Rattle.bat.proofs.ElementsLaws.{lefts}
use Rattle.bat.proofs.elements.ElementsIterator.next.Goals as goal
use Rattle.bat.proofs.elements.ElementsIterator.next.Goals.{in_default-via-in-Ok+in_default, in_default-via-in_default}

pub returns-in_default-clause-steps : goal.returns-in_default-clause-steps
returns-in_default-clause-steps c =
    elim c.in_default.branch [
      | in_default-via-in-Ok+in_default w ↦ search (lefts, rules)
      | in_default-via-in_default w ↦ search (lefts, rules)
    ]

pub overflow_add-self : goal.overflow_add-self
overflow_add-self c = search (lefts, rules)

pub returns-clause-steps : goal.returns-clause-steps
returns-clause-steps c = search (lefts, rules)

pub returns-clause-goes : goal.returns-clause-goes
returns-clause-goes c = record { on = λ n. (tt, tt, search (lefts, rules)); keeps = tt; rests = λ n. tt }

pub invariant_of-self : goal.invariant_of-self
invariant_of-self c = record { place_fits = search (lefts, rules) }
