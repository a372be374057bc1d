-- Laws of a cursor that is written to step by step: what one step pushes and then another is pushed together.
-- Assumes nothing.
use Prim.Native.Nat.{ℕ}
use mathlib.Core.Path.{◌∙◌}
use mathlib.Core.List.{List, [], ◌∷◌, ◌++◌, append_assoc}
use Rattle.octets.specs.declared.append.Cursor.{Cursor}
use Rattle.octets.specs.Append.{Pushes}
use Rattle.octets.specs.Text.{blank}
use Rattle.octets.proofs.AppendLaws.{append_then}

-- one text and then another
pub pushes_then : {c d e : Cursor} {xs ys : List ℕ} → Pushes c d xs → Pushes d e ys → Pushes c e (xs ++ ys)
pushes_then {c} {d} {e} {xs} {ys} p q =
    record {
      lent = q.lent ∙ p.lent;
      appends = append_then c.out.now d.out.now e.out.now xs ys c.at d.at e.at q.appends p.appends;
    }

-- a word and its blank, and then a text
pub word_then : {c d e : Cursor} (xs : List ℕ) {ys : List ℕ} → Pushes c d (xs ++ (blank ∷ [])) → Pushes d e ys → Pushes c e (xs ++ (blank ∷ ys))
word_then {c} {d} {e} xs {ys} p q = rw append_assoc at (pushes_then p q)
