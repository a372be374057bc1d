-- `configure::general` meets its contract. Each field that can be read leaves the rest to decide.
-- Assumes nothing.
use borrow.Author.Rules.{rules}
use Rattle.octets.specs.Decimal.{on_number}
use Rattle.address.specs.Kinds.{on_address}
use Rattle.trace_read.specs.Private.{small_fields}
use Rattle.trace_read.proofs.ConfigureLaws.{failed, same_configured, general_is, fields_small}
use Rattle.trace_read.proofs.configure.general.Goals as goal

pub returns-in_err-own : goal.returns-in_err-own
unfolding small_fields on_address on_number
returns-in_err-own c = failed _ _ _ (search rules) (rw (← fields_small, ← c.part.ensures, ← c.in_err-own.ensures))

pub returns-in_err-port : goal.returns-in_err-port
unfolding small_fields on_address on_number
returns-in_err-port c = failed _ _ _ (search rules) (rw (← fields_small, ← c.part.ensures, ← c.in_ok-own.ensures, ← c.in_err-port.ensures))

pub returns-in_err-least : goal.returns-in_err-least
unfolding small_fields on_address on_number
returns-in_err-least c = failed _ _ _ (search rules) (rw (← fields_small, ← c.part.ensures, ← c.in_ok-own.ensures, ← c.in_ok-port.ensures, ← c.in_err-least.ensures))

pub returns-in_err-most : goal.returns-in_err-most
unfolding small_fields on_address on_number
returns-in_err-most c = failed _ _ _ (search rules) (rw (← fields_small, ← c.part.ensures, ← c.in_ok-own.ensures, ← c.in_ok-port.ensures, ← c.in_ok-least.ensures, ← c.in_err-most.ensures))

pub returns-in_err-t1 : goal.returns-in_err-t1
unfolding small_fields on_address on_number
returns-in_err-t1 c = failed _ _ _ (search rules) (rw (← fields_small, ← c.part.ensures, ← c.in_ok-own.ensures, ← c.in_ok-port.ensures, ← c.in_ok-least.ensures, ← c.in_ok-most.ensures, ← c.in_err-t1.ensures))

pub returns-in_err-t2 : goal.returns-in_err-t2
unfolding small_fields on_address on_number
returns-in_err-t2 c = failed _ _ _ (search rules) (rw (← fields_small, ← c.part.ensures, ← c.in_ok-own.ensures, ← c.in_ok-port.ensures, ← c.in_ok-least.ensures, ← c.in_ok-most.ensures, ← c.in_ok-t1.ensures, ← c.in_err-t2.ensures))

pub returns : goal.returns
unfolding small_fields on_address on_number
returns c =
    same_configured _ _ _ _ (general_is _ _ _ _ _ _ _ _ _ c.right_general.ensures c.then_some.ensures) (rw (← fields_small, ← c.part.ensures, ← c.in_ok-own.ensures, ← c.in_ok-port.ensures, ← c.in_ok-least.ensures, ← c.in_ok-most.ensures, ← c.in_ok-t1.ensures, ← c.in_ok-t2.ensures))
