-- `part_at` meets its contract: its tests say whether the slice has such a part.
-- Assumes nothing.
use mathlib.Core.Path.{refl}
use native.Mathlib.Omega.{arith}
use Rattle.bat_match.proofs.PartLaws.{part_past, part_here, part_cut}
use Rattle.bat_match.proofs.part_at.Goals as goal

pub returns-then-s-at : goal.returns-then-s-at
returns-then-s-at c = part_past _ _ _ _ (omega arith) (record { octets = refl; block = refl; place = refl })

pub returns-then-s-at-2 : goal.returns-then-s-at-2
returns-then-s-at-2 c = part_past _ _ _ _ (omega arith) (record { octets = refl; block = refl; place = refl })

pub returns : goal.returns
returns c = part_here _ _ _ _ (omega arith) (record { octets = part_cut c.args.at c.args.len c.args.s.now; block = refl; place = refl })
