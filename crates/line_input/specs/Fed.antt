-- The lines of all the octets that were fed, in parts of any length.
use Rattle.std.specs.Prelude.{ℕ, ◌≡◌, List, [], ◌∷◌, ◌++◌, Bool, cond, length, take, leb}
use Rattle.octets.specs.Split.{split_on}
use Rattle.octets.specs.Text.{lf}

-- a line's text, or that it is too long
pub data LineText : Type 0 where
  Held : List ℕ → LineText
  Over : LineText

-- the text t, as a buffer of cap octets can hold it
unfoldable pub fit : ℕ → List ℕ → LineText
fit cap t = cond (leb (length t) cap) (Held t) Over

-- the same for each text
unfoldable pub fit_all : ℕ → List (List ℕ) → List LineText
fit_all cap [] = []
fit_all cap (t ∷ ts) = fit cap t ∷ fit_all cap ts

-- what is held of a line: n octets of it are in the buffer l, or it is too long
unfoldable pub held_text : List ℕ → ℕ → Bool → LineText
held_text l n over = cond over Over (Held (take n l))

-- The octets s were fed to a buffer of cap octets. The lines ended by LF were handed out as ts, and h is held of the line
-- that is still open.
pub record Fed (cap : ℕ) (s : List ℕ) (ts : List LineText) (h : LineText) : Type 0 where
  pub ended : List (List ℕ)
  pub open_line : List ℕ
  pub cut : split_on lf s ≡ ended ++ (open_line ∷ [])
  pub handed : ts ≡ fit_all cap ended
  pub holds : h ≡ fit cap open_line
