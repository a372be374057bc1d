use borrow.Author.Rules.{rules}
use Rattle.octets.specs.Decimal.{is_digit}
use Rattle.octets.proofs.DecimalLaws.{number_other, number_next, number_large, number_end}
use Rattle.octets.proofs.decimal.digits.Goals as goal

pub returns-then-not-is_ascii_digit : goal.returns-then-not-is_ascii_digit
unfolding is_digit
returns-then-not-is_ascii_digit c = number_other c.args.s.now c.loop-b.b-index c.loop-b.n _ c.loop-b.invariant.1 c.loop-b-test.true (search rules)

pub returns-then-n-gt65535 : goal.returns-then-n-gt65535
unfolding is_digit
returns-then-n-gt65535 c = number_large c.args.s.now c.loop-b.b-index c.loop-b.n _ c.loop-b.invariant.1 c.loop-b-test.true (search rules) (search rules)

pub loop-b-preserved : goal.loop-b-preserved
unfolding is_digit
loop-b-preserved c = (search rules, number_next c.args.s.now c.loop-b.b-index c.loop-b.n _ c.loop-b.invariant.1 c.loop-b-test.true (search rules))

pub returns : goal.returns
returns c = search (number_end, rules)
