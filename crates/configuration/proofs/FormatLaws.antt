-- Laws of a codec entry by its format: the format selects the clause of a definition, and a name is the front of its array.
-- Assumes nothing.
use Prim.Native.Nat.{ℕ, ◌≤◌, ◌<◌}
use mathlib.Core.Path.{◌≡◌}
use mathlib.Core.List.{List}
use mathlib.Core.Bool.{Bool, false, ◌&&◌}
use lib.ListN.{length, take}
use lib.Dec.{eqb, leb}
use borrow.Author.Tests.{le-leb, lt-leb}
use Rattle.octets.specs.Words.{same}
use Rattle.octets.specs.Append.{Appends}
use Rattle.octets.proofs.AppendLaws.{append_nil}
use Rattle.configuration.specs.declared.Format.{Format}
use Rattle.configuration.specs.declared.Format.TheVariants.{Payload, Named}
use Rattle.configuration.specs.Configuration.{between, all_visible, right_codec, suits, name_of, names, most_name}
use Rattle.configuration.specs.Meaning.{format_by, format_inside}

-- ---- a payload
module _ (f : Format) (name : List ℕ) (n : ℕ) (q : f ≡ Payload n) where
  pub suits_fixed : (p : ℕ) → eqb p n ≡ suits (format_by f name) p
  unfolding format_by suits
  suits_fixed p = rw q

  pub names_fixed : (p : ℕ) (t : List ℕ) → eqb p n ≡ names (format_by f name) p t
  unfolding format_by names
  names_fixed p t = rw q

  pub name_of_fixed : (l : List ℕ) (at : ℕ) → Appends l at (name_of (format_by f name)) at l
  unfolding format_by name_of
  name_of_fixed l at = rw q (append_nil l at)

  pub right_fixed : leb n 95 ≡ (format_inside f && right_codec (format_by f name))
  unfolding format_by format_inside right_codec
  right_fixed = rw q

-- ---- a name; s is its octets
module _ (f : Format) (name : List ℕ) (n : ℕ) (q : f ≡ Named n) where
  pub suits_low : (p : ℕ) → p < 96 → false ≡ suits (format_by f name) p
  unfolding format_by suits
  suits_low p h = rw (q, lt-leb 96 p h)

  pub suits_named : (p : ℕ) → 96 ≤ p → leb p 127 ≡ suits (format_by f name) p
  unfolding format_by suits
  suits_named p h = rw (q, le-leb 96 p h)

  pub names_low : (p : ℕ) (t : List ℕ) → p < 96 → false ≡ names (format_by f name) p t
  unfolding format_by names
  names_low p t h = rw (q, lt-leb 96 p h)

  pub right_long : most_name < n → leb n most_name ≡ (format_inside f && right_codec (format_by f name))
  unfolding format_inside
  right_long h = rw (q, lt-leb n most_name h)

  module _ (s : List ℕ) (e : s ≡ take n name) where
    pub names_named : (p : ℕ) (t : List ℕ) (r : Bool) → 96 ≤ p → r ≡ same s t → r ≡ names (format_by f name) p t
    unfolding format_by names
    names_named p t r h g = rw (q, le-leb 96 p h, ← e) g

    pub name_of_named : (l g : List ℕ) (at r : ℕ) → Appends l at s r g → Appends l at (name_of (format_by f name)) r g
    unfolding format_by name_of
    name_of_named l g at r p = rw (q, ← e) p

    pub right_named : (r : Bool) → n ≤ most_name → r ≡ (between 1 most_name (length s) && all_visible s) → r ≡ (format_inside f && right_codec (format_by f name))
    unfolding format_by format_inside right_codec
    right_named r h p = rw (q, le-leb n most_name h, ← e) p

pub ruleset formats = (suits_fixed, names_fixed, name_of_fixed, right_fixed, suits_low, suits_named, names_low, right_long, names_named, name_of_named, right_named)
