-- `ipv4::read_part` meets its contract. What is read as a number is the part that `split_on` cuts; one that is too long for that is no octet.
-- Assumes nothing.
use mathlib.Core.Path.{ap, ◌∙◌}
use lib.ListN.{take}
use borrow.Author.Rules.{rules}
use Rattle.octets.specs.Decimal.{read_number}
use Rattle.address.proofs.Ipv4Laws.{part_long, near_none, near_large, near_number}
use Rattle.address.proofs.ipv4.read_part.Goals as goal

pub returns-then-digits-gt3 : goal.returns-then-digits-gt3
returns-then-digits-gt3 c = part_long _ _ _ (c.up_to-near.ensures ∙ ap (take 4) c.after.ensures) _ c.find_from-digits.ensures c.if-digits-gt3.true

pub returns-in_err-n : goal.returns-in_err-n
returns-in_err-n c =
    c.from_residual.ensures
    ∙ near_none _ _ _ (c.up_to-near.ensures ∙ ap (take 4) c.after.ensures) _ c.find_from-digits.ensures (search rules) _ (c.read_number.ensures ∙ ap read_number c.up_to.ensures) c.in_err-n.was

pub returns-then-n-gt255 : goal.returns-then-n-gt255
returns-then-n-gt255 c =
    near_large _ _ _ (c.up_to-near.ensures ∙ ap (take 4) c.after.ensures) _ c.find_from-digits.ensures (search rules) _ (c.read_number.ensures ∙ ap read_number c.up_to.ensures) _ c.in_ok-n.was
    c.if-n-gt255.true

pub returns : goal.returns
returns c =
    near_number _ _ _ (c.up_to-near.ensures ∙ ap (take 4) c.after.ensures) _ c.find_from-digits.ensures (search rules) _ (c.read_number.ensures ∙ ap read_number c.up_to.ensures) _ c.in_ok-n.was
    (search rules)
