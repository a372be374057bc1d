-- `inside::clamp` meets its contract: what of a span lies past the end holds no octet.
-- Assumes nothing.
use Rattle.media.proofs.InsideLaws.{kept_none, kept_part}
use Rattle.media.proofs.inside.clamp.Goals as goal

pub returns-then-m-sp : goal.returns-then-m-sp
returns-then-m-sp c = kept_none _ _ c.if-m-sp.true

pub returns : goal.returns
returns c = let h = c.min.ensures in rw h (kept_part _ _ c.if-m-sp.false)
