-- Private: used only by private functions of this crate.
use Rattle.std.specs.Prelude.{ℕ, ◌+◌, ◌≤◌, min, ◌≡◌, List, true}
use Rattle.octets.specs.declared.Span.{Span}
use Rattle.octets.specs.Append.{width_from}
use Rattle.octets.specs.Spans.{text_of, inside}
use Rattle.media.specs.declared.Texts.{Texts}
use Rattle.media.specs.Stream.{most_attributes}
use Rattle.media.specs.Meaning.{texts_by, texts_inside}

-- ---- spans cut to their source: r says the same in m as the span sp or the texts x, and lies inside m
pub record KeptSpan (m : List ℕ) (sp r : Span) : Type 0 where
  pub same : text_of m r ≡ text_of m sp
  pub inside : inside m r ≡ true

pub record KeptTexts (m : List ℕ) (x r : Texts) : Type 0 where
  pub same : texts_by m r ≡ texts_by m x
  pub inside : texts_inside m r ≡ true

-- ---- the limit of the attributes' lines: lengths are counted to one over it, so that a sum of a few stays small
-- n, capped at one over the limit
abbrev pub capped : ℕ → ℕ
capped n = min n (most_attributes + 1)

-- r is how many digits n has; the bound follows, and is here for callers
pub record Width (n r : ℕ) : Type 0 where
  pub is : r ≡ width_from 19 n
  pub few : r ≤ 20
