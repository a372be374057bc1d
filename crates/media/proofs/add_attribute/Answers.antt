-- `add_attribute` meets its contract: each word that the code finds, or does not find, gives the definition's test its value.
-- Assumes nothing.
use borrow.Author.Rules.{rules}
use Rattle.media.proofs.LineLaws.{by_word}
use Rattle.media.specs.Meaning.{taken_by}
use Rattle.media.proofs.add_attribute.Goals as goal

pub returns-then-starts : goal.returns-then-starts
returns-then-starts c = search (by_word, rules)

pub returns-then-starts-2 : goal.returns-then-starts-2
returns-then-starts-2 c = search (by_word, rules)

pub returns-then-starts-3 : goal.returns-then-starts-3
returns-then-starts-3 c = search (by_word, rules)

pub returns : goal.returns
unfolding taken_by
returns c = search (by_word, rules)
