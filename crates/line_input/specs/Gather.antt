-- What `gather` answers, and what it leaves in the buffer.
use Rattle.std.specs.Prelude.{ℕ, ◌+◌, ◌-◌, min, ◌≡◌, List, Bool, ◌||◌, cond, length, drop, ltb}
use Rattle.octets.specs.Split.{has, before}
use Rattle.octets.specs.Append.{appended}
use Rattle.octets.specs.Text.{lf}
use Rattle.line_input.specs.declared.Gathered.{Gathered}

-- the answer, if s is the rest of the part, from position i, and the buffer has room for `free` octets after the n in it
unfoldable pub gathered : List ℕ → ℕ → ℕ → ℕ → Bool → Gathered
gathered s i free n over =
    record {
      len = n + min free (length (before lf s));
      over = over || ltb free (length (before lf s));
      next = i + length (before lf s) + cond (has lf s) 1 0;
      ended = has lf s;
    }

-- The call `gather(part, from, line, n, over)` answers r, and leaves f in the buffer in which l was.
pub record Gathers (part : List ℕ) (from : ℕ) (l : List ℕ) (n : ℕ) (over : Bool) (r : Gathered) (f : List ℕ) : Type 0 where
  pub answers : r ≡ gathered (drop from part) from (length l - n) n over
  pub leaves : f ≡ appended l n (before lf (drop from part))
