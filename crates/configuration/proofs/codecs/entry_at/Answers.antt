-- `codecs::entry_at` meets its contract: entry n is the one at index n - 1, if there are n.
-- Assumes nothing.
use Prim.Native.Nat.{◌-◌}
use mathlib.Core.Path.{◌≡◌}
use lib.ListN.{take}
use borrow.Author.Rules.{rules}
use Rattle.std.specs.Prelude.{slice_get}
use Rattle.configuration.proofs.EntryLaws.{entry_zero, entry_found, copied_is}
use Rattle.configuration.proofs.codecs.entry_at.Goals as goal

pub returns-in_err-i : goal.returns-in_err-i
returns-in_err-i c = search (entry_zero, c.in_err-i.ensures, rules)

pub returns : goal.returns
returns c =
    let e : c.copied.result ≡ slice_get (take c.args.c.count c.args.c.codecs) (c.args.n - 1) =
    rw (c.copied.ensures, copied_is _ _ _ c.get.ensures.lookup.0 c.get.ensures.lookup.1, c.entries-codecs.ensures, c.in_ok-i.ensures.1) in
    search (entry_found, e, c.in_ok-i.ensures, rules)
