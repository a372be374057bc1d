-- `ranges::all_indicators` meets its contract: it tests each octet.
-- Assumes nothing.
use Prim.Native.Nat.{ℕ}
use mathlib.Core.Path.{◌∙◌}
use borrow.Author.Rules.{rules}
use Rattle.std.proofs.lemmas.Iterator.{YieldsList-from_slice}
use Rattle.std.proofs.lemmas.Iterator.Search.{all_from_yields_List}
use Rattle.codes.specs.Codes.{is_indicator}
use Rattle.bat.proofs.RangeLaws.{indicators_are}
use Rattle.bat.proofs.ranges.all_indicators.Goals as goal

pub returns : goal.returns
returns c =
    all_from_yields_List (λ (b : ℕ). is_indicator b) c.all.new.self _ _ c.all.ensures.ran (YieldsList-from_slice c.args.s.now cc) (λ x b q k. search rules)
    ∙ indicators_are c.args.s.now
