-- `after_token` meets its contract: the first token is empty, or not.
-- Assumes nothing.
use borrow.Author.Rules.{rules}
use Rattle.texts.proofs.CutLaws.{after_tokens_rules}
use Rattle.texts.proofs.after_token.Goals as goal

pub returns-then-e-lt1 : goal.returns-then-e-lt1
returns-then-e-lt1 c = search (after_tokens_rules, rules)

pub returns : goal.returns
returns c = search (after_tokens_rules, rules)
