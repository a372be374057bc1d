-- The part of a list that a choice names, case by case.
-- Assumes nothing.
use Prim.Native.Nat.{ℕ, ◌+◌, ◌-◌, ◌≤◌, ◌<◌, zero-le}
use mathlib.Core.Path.{◌≡◌}
use mathlib.Core.Bool.{Bool, true, false}
use mathlib.Core.List.{List}
use lib.ListN.{length, take, drop}
use native.Mathlib.Omega.{arith}
use borrow.Author.Tests.{le-leb, lt-leb}
use denote.Ref.{Bor}
use Rattle.std.specs.Prelude.{Result, Ok, Err}
use Rattle.octets.specs.declared.Refusal.{Refusal}
use Rattle.octets.specs.declared.Span.{Span}
use Rattle.bat_match.specs.Matching.{matching}
use Rattle.bat_match.specs.Meaning.{choice_of, leader, PartOf, PartAt, PartBy, Chosen}

-- so many octets from a place, as the code cuts them
pub part_cut : (at n : ℕ) (l : List ℕ) → take (at + n - at) (drop at l) ≡ take n (drop at l)
part_cut at n l = let z : at + n - at ≡ n = omega arith in rw z

module _ (s r : Bor (List ℕ)) where
  module _ (at n : ℕ) where
    pub part_past : length s.now < at + n → PartOf s 0 0 r → PartAt s at n r
    unfolding PartAt
    part_past h p = rw (lt-leb (at + n) (length s.now) h) p

    pub part_here : at + n ≤ length s.now → PartOf s at n r → PartAt s at n r
    unfolding PartAt
    part_here h p = rw (le-leb (at + n) (length s.now) h) p

  module _ {E : Type 0} (c : Result Span E) where
    pub part_chosen : {p : Span} → c ≡ Ok p → PartAt s p.at p.len r → PartBy s c r
    unfolding PartBy
    part_chosen e q = rw e q

    pub part_refused : {e : E} → c ≡ Err e → PartAt s 0 0 r → PartBy s c r
    unfolding PartBy PartAt
    part_refused e q = rw e (rw (le-leb 0 (length s.now) zero-le) at q)

-- ---- which list leads
module _ (own offered r : Bor (List ℕ)) (b : Bool) (c : Result Span Refusal) where
  pub own_leads : b ≡ true → c ≡ choice_of (matching own.now offered.now) → PartBy own c r → Chosen (leader b own offered) (leader b offered own) r
  unfolding Chosen
  own_leads e q p = rw e (rw q at p)

  pub offered_leads : b ≡ false → c ≡ choice_of (matching offered.now own.now) → PartBy offered c r → Chosen (leader b own offered) (leader b offered own) r
  unfolding Chosen
  offered_leads e q p = rw e (rw q at p)
