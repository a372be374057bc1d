-- `request_for` meets its contract.
-- Assumes nothing.
use borrow.Author.Rules.{rules}
use Rattle.judge.proofs.CommandLaws.{time_fits, command_unknown, command_suits, other_payload, other_time}
use Rattle.judge.proofs.commands.request_for.Goals as goal
use Rattle.judge.proofs.commands.request_for.Goals.{else-suits_entry-via-then-suits_entry+else-none_or_in_range, else-suits_entry-via-else-suits_entry}

pub overflow_cast-ptime : goal.overflow_cast-ptime
overflow_cast-ptime c = search (time_fits, rules)

pub returns-in_err-codec : goal.returns-in_err-codec
returns-in_err-codec c = search (command_unknown, rules)

pub returns-then-none_or_in_range : goal.returns-then-none_or_in_range
returns-then-none_or_in_range c = search (command_suits, rules)

pub returns : goal.returns
returns c =
    let f = c.in_ok-codec.ensures in
    elim c.else-suits_entry.branch [
      | else-suits_entry-via-then-suits_entry+else-none_or_in_range w ↦ search (other_time, rules)
      | else-suits_entry-via-else-suits_entry w ↦ search (other_payload, rules)
    ]
