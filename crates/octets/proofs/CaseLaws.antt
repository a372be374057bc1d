-- Case splits: what holds in each of two cases that leave no third holds.
-- Assumes nothing.
use Prim.Native.Nat.{ℕ, ◌≤◌, ◌<◌}
use mathlib.Core.Path.{◌≡◌, refl}
use mathlib.Core.Bool.{Bool, true, false}
use native.Mathlib.Nat.{lt_of_not-le}
use native.Mathlib.Decide.{ℕ_discrete, dec_le}

-- by whether a is b
pub by_eq : (a b : ℕ) (X : Type 0) → (a ≡ b → X) → ((a ≡ b → ⊥) → X) → X
by_eq a b X f g = elim (ℕ_discrete a b) [ yes e ↦ f e | no h ↦ g h ]

-- by whether a is at most b
pub by_le : (a b : ℕ) (X : Type 0) → (a ≤ b → X) → (b < a → X) → X
by_le a b X f g = elim (dec_le a b) [ yes h ↦ f h | no h ↦ g (lt_of_not-le h) ]

-- by whether a is below b
pub by_lt : (a b : ℕ) (X : Type 0) → (a < b → X) → (b ≤ a → X) → X
by_lt a b X f g = by_le b a X g f

-- by whether t is true
pub by_bool : (t : Bool) (X : Type 0) → (t ≡ true → X) → (t ≡ false → X) → X
by_bool true X f g = f refl
by_bool false X f g = g refl
