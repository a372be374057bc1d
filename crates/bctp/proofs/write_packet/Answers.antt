-- `write_packet` meets its contract: what the message's writer answers, lent what comes after the indicators, tells the whole.
-- Assumes nothing.
use borrow.Author.Rules.{rules}
use native.Mathlib.Omega.{arith}
use Rattle.bctp.proofs.WrapLaws.{wrap_short, wrap_no_room, wrap_refused, wrap_fits, wrap_written}
use Rattle.bctp.proofs.write_packet.Goals as goal

pub returns-in_err-write_message : goal.returns-in_err-write_message
returns-in_err-write_message c = wrap_short _ c.if-out-lt2.true _ _ _ _ _ c.write_message.ensures c.in_err-write_message.was (search rules)

pub returns-then-out-lt2 : goal.returns-then-out-lt2
returns-then-out-lt2 c = wrap_no_room _ c.if-out-lt2.true _ _ _ _ c.write_message.ensures c.in_ok-write_message.was

pub returns-in_err-n : goal.returns-in_err-n
returns-in_err-n c = wrap_refused _ c.if-out-lt2.false _ _ _ _ _ c.write_message-2.ensures c.in_err-n.was (search rules)

pub overflow_add-result : goal.overflow_add-result
overflow_add-result c = let h = wrap_fits _ c.if-out-lt2.false _ _ _ c.write_message-2.ensures _ c.in_ok-n.was in omega arith

pub returns : goal.returns
returns c = wrap_written _ c.if-out-lt2.false _ _ _ c.write_message-2.ensures _ c.in_ok-n.was _ c.put_indicators.ensures
