-- `parts::separators` meets its contract: it counts the separators.
-- Assumes nothing.
use Prim.Native.Nat.{ℕ}
use mathlib.Core.Path.{◌≡◌, ◌∙◌, sym}
use borrow.Author.Rules.{rules}
use Rattle.std.specs.Prelude.{count_by, nat_eq}
use Rattle.octets.proofs.PartLaws.{separators_count}
use Rattle.octets.proofs.parts.separators.Goals as goal

pub returns : goal.returns
returns c =
    let e : c.count.result ≡ count_by (λ (b : ℕ). nat_eq b c.args.c) c.args.s.now = search rules in
    e ∙ sym (separators_count c.args.c c.args.s.now)
