-- Laws of `is_unicast` and `if_unicast`: an address's family says which test it is, and the test says what it is read as.
-- Assumes nothing.
use Prim.Native.Nat.{ℕ}
use mathlib.Core.Path.{◌≡◌, refl}
use mathlib.Core.Bool.{Bool, true, false, cond}
use native.Mathlib.Omega.{arith}
use Rattle.std.specs.declared.option.Option.{Option}
use Rattle.std.specs.declared.option.Option.TheVariants.{Some, None}
use Rattle.address.specs.declared.Address.{Address}
use Rattle.address.specs.declared.Address.TheVariants.{V4, V6}
use Rattle.address.specs.Kinds.{is_unicast, if_unicast}

-- the test of an address that the code took apart
pub unicast_four : (a : Address) (n : ℕ) (t : Bool) → a ≡ V4 n → t ≡ is_unicast (V4 n) → t ≡ is_unicast a
unicast_four a n t e p = rw e p

pub unicast_six : (a : Address) (high low : ℕ) (t : Bool) → a ≡ V6 high low → t ≡ is_unicast (V6 high low) → t ≡ is_unicast a
unicast_six a high low t e p = rw e p

-- what is read if a test holds, and otherwise nothing
pub cond_told : (t : Bool) (x : Option Address) (a : Address) → cond t x None ≡ Some a → (t ≡ true) × (x ≡ Some a)
cond_told true x a e = (refl, e)
cond_told false x a e = let z : ◌≡◌ {A = ℕ} 0 1 = cc in absurd (omega arith)

-- what is read as an address is that address, and it is one host's
pub unicast_told : (b a : Address) → if_unicast b ≡ Some a → (is_unicast b ≡ true) × (a ≡ b)
unfolding if_unicast
unicast_told b a e = let (p, q) = cond_told (is_unicast b) (Some b) a e in (p, cc)

-- one host's address is read as itself
pub unicast_is : (a : Address) → is_unicast a ≡ true → if_unicast a ≡ Some a
unfolding if_unicast
unicast_is a e = rw e
