-- `search::has_codec` meets its contract: the elements of the list are its codecs.
-- Assumes nothing.
use mathlib.Core.Path.{◌∙◌}
use lib.ListN.{drop}
use borrow.Author.Rules.{rules}
use borrow.Author.Tests.{tests}
use Rattle.std.proofs.lemmas.Iterator.Consumers.{YieldsList-from_first}
use Rattle.std.proofs.lemmas.Iterator.Search.{any_from_yields_List}
use Rattle.octets.specs.Words.{same}
use Rattle.bat.specs.Elements.{PlacedElement, placed_elements, left, placed_in}
use Rattle.bat_match.proofs.PlacedLaws.{any_placed}
use Rattle.bat_match.proofs.search.has_codec.Goals as goal

pub returns : goal.returns
returns c =
    let s = drop c.args.list.from c.args.list.string.now in
    any_from_yields_List (λ (p : PlacedElement). same c.args.contents.now p.element.contents) c.any.new.self _ _ c.any.ensures.ran
    (YieldsList-from_first placed_in left (placed_elements c.args.list.from s) c.codecs.ensures)
    (λ x b q k. search (rules, tests))
    ∙ any_placed c.args.contents.now s c.args.list.from c.args.list.singles
