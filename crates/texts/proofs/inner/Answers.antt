-- `inner` meets its contract: the part lies past the end of the text of sp, or is cut there.
-- Assumes nothing.
use Rattle.texts.proofs.InnerLaws.{inner_past, inner_off, inner_short, inner_is}
use Rattle.texts.proofs.inner.Goals as goal
use Rattle.texts.proofs.inner.Goals.{then-m-sp-via-then-m-sp, then-m-sp-via-else-m-sp+then-m-sp-2, then-m-sp-via-else-m-sp+else-m-sp-2+then-sp-p}

pub returns-then-m-sp : goal.returns-then-m-sp
returns-then-m-sp c = elim c.then-m-sp.branch [
  | then-m-sp-via-then-m-sp w ↦ inner_past _ _ _ w.if-m-sp.true
  | then-m-sp-via-else-m-sp+then-m-sp-2 w ↦ inner_off _ _ _ w.if-m-sp.false w.if-m-sp-2.true
  | then-m-sp-via-else-m-sp+else-m-sp-2+then-sp-p w ↦ inner_short _ _ _ w.if-sp-p.true
]

pub returns : goal.returns
returns c = let h = c.min.ensures in rw h (inner_is _ _ _ c.if-m-sp.false c.if-m-sp-2.false c.if-sp-p.false)
