-- `types::head_of` meets its contract: two tokens, a number and a word.
-- Assumes nothing.
use mathlib.Core.Path.{refl}
use Rattle.ipbcp.proofs.TypeLaws.{head_few, head_bad_number, head_large, head_unknown, head_known}
use Rattle.ipbcp.proofs.types.head_of.Goals as goal

pub returns-in_err-version : goal.returns-in_err-version
returns-in_err-version c = head_few _ _ c.cut.ensures.tokens _ c.in_err-version.was c.from_residual.ensures

pub returns-in_err-n : goal.returns-in_err-n
returns-in_err-n c = head_bad_number _ _ c.cut.ensures.tokens _ _ c.in_ok-version.was _ c.text.ensures _ c.read_number.ensures c.in_err-n.was c.from_residual-in_err-n.ensures

pub returns-then-n-gt255 : goal.returns-then-n-gt255
returns-then-n-gt255 c = head_large _ _ c.cut.ensures.tokens _ _ c.in_ok-version.was _ c.text.ensures _ c.read_number.ensures _ c.in_ok-n.was c.if-n-gt255.true refl

pub returns-in_err-kind : goal.returns-in_err-kind
returns-in_err-kind c = head_unknown _ _ c.cut.ensures.tokens _ _ c.in_ok-version.was _ c.text.ensures _ c.read_number.ensures _ c.in_ok-n.was c.if-n-gt255.false _ c.text-2.ensures _ c.read_word.ensures c.in_err-kind.was c.from_residual-in_err-kind.ensures

pub returns : goal.returns
returns c = head_known _ _ c.cut.ensures.tokens _ _ c.in_ok-version.was _ c.text.ensures _ c.read_number.ensures _ c.in_ok-n.was c.if-n-gt255.false _ c.text-2.ensures _ c.read_word.ensures _ c.in_ok-kind.was refl
