-- Appending to a buffer: what fits is written, the rest is left out. And a number as decimal text.
use Rattle.std.specs.Prelude.{ℕ, zero, suc, ◌+◌, ◌-◌, ◌/◌, min, ◌≡◌, List, ◌++◌, cond, length, take, drop, ltb}
use Rattle.octets.specs.declared.append.Cursor.{Cursor}
use Rattle.octets.specs.Decimal.{last_digits}

-- l with vs in the place of its octets from `at` on
unfoldable pub put : List ℕ → ℕ → List ℕ → List ℕ
put l at vs = take at l ++ vs ++ drop (at + length vs) l

-- where the next octet goes, after vs at `at` in a buffer of n octets
unfoldable pub next_of : ℕ → ℕ → List ℕ → ℕ
next_of n at vs = at + min (n - at) (length vs)

-- l with vs at `at`, as far as there is room
unfoldable pub appended : List ℕ → ℕ → List ℕ → List ℕ
appended l at vs = put l at (take (length l - at) vs)

-- Appending vs at `at` in the buffer l answers r and leaves f.
pub record Appends (l : List ℕ) (at : ℕ) (vs : List ℕ) (r : ℕ) (f : List ℕ) : Type 0 where
  pub next : r ≡ next_of (length l) at vs
  pub leaves : f ≡ appended l at vs

-- Pushing vs turns the cursor c into d: vs is appended to the octets that are written, and the buffer that is lent stays the same.
pub record Pushes (c d : Cursor) (vs : List ℕ) : Type 0 where
  pub lent : d.out.ghost_name ≡ c.out.ghost_name
  pub appends : Appends c.out.now c.at vs d.at d.out.now

-- how many digits n has, at most e + 1
unfoldable pub width_from : ℕ → ℕ → ℕ
width_from zero n = 1
width_from (suc e) n = cond (ltb n 10) 1 (suc (width_from e (n / 10)))

-- n as decimal text, of at most 20 digits, which hold every number of 64 bits
unfoldable pub number_text : ℕ → List ℕ
number_text n = last_digits (width_from 19 n) n
