-- `search::has_codec_before` meets its contract: the elements of the list before the place are its codecs there.
-- Assumes nothing.
use mathlib.Core.Path.{ap, ◌∙◌}
use lib.Dec.{ltb}
use lib.ListN.{drop}
use borrow.Author.Rules.{rules}
use borrow.Author.Tests.{tests}
use Rattle.std.proofs.lemmas.Iterator.Consumers.{YieldsList-from_first}
use Rattle.std.proofs.lemmas.Iterator.Search.{YieldsList-from_take_while, any_from_yields_List}
use Rattle.octets.specs.Words.{same}
use Rattle.bat.specs.Elements.{PlacedElement, placed_elements, left, placed_in}
use Rattle.bat_match.proofs.PlacedLaws.{any_before}
use Rattle.bat_match.proofs.search.has_codec_before.Goals as goal

pub returns : goal.returns
returns c =
    let s = drop c.args.list.from c.args.list.string.now in
    any_from_yields_List (λ (p : PlacedElement). same c.args.contents.now p.element.contents) c.any.new.self _ _ c.any.ensures.ran
    (YieldsList-from_take_while _ (λ (p : PlacedElement). ltb p.at c.args.end) (YieldsList-from_first placed_in left (placed_elements c.args.list.from s) (ap left c.take_while.ensures.source ∙ c.codecs.ensures)) c.take_while.ensures.closure c.take_while.ensures.done (λ x b q k. search (rules, tests)))
    (λ x b q k. search (rules, tests))
    ∙ any_before c.args.contents.now s c.args.list.from c.args.end c.args.list.singles
