-- Private: used only by private functions of this crate. Octets that are single codecs.
use Rattle.std.specs.Prelude.{List, ℕ, Bool, true, false, ◌&&◌}
use Rattle.bat.specs.Framing.{fold}
use Rattle.bat.specs.Values.{is_single}

-- s is single codecs and nothing else
unfoldable pub all_singles : List ℕ → Bool
all_singles s = fold (λ e b. is_single e && b) false true s
