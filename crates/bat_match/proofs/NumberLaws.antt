-- The numbers of refusals: none is 0, and no two refusals have the same one.
-- Assumes nothing.
use Prim.Native.Nat.{ℕ, ◌≤◌, ◌<◌}
use mathlib.Core.Path.{◌≡◌, refl, sym, ap, ◌∙◌}
use mathlib.Core.Bool.{cond}
use lib.Dec.{eqb}
use native.Mathlib.Omega.{arith}
use borrow.Author.Tests.{lt-ltb, le-ltb}
use Rattle.octets.specs.declared.Refusal.{Refusal}
use Rattle.octets.specs.declared.Refusal.TheVariants.{DataTooLong, Unframed, TableTooShort, BufferTooShort, OutOfRange, PacketTooShort, WrongIndicators, MessageTooLong, Unreadable, WrongLine, WrongState, BadConfiguration, BadLine, NoCodecList, NoCommonCodec}
use Rattle.octets.specs.Refusals.{refusal_number}
use Rattle.octets.proofs.CaseLaws.{by_lt}
use Rattle.bat_match.specs.Private.{lower}

pub number_some : (e : Refusal) → 1 ≤ refusal_number e
number_some DataTooLong = omega arith
number_some Unframed = omega arith
number_some TableTooShort = omega arith
number_some BufferTooShort = omega arith
number_some OutOfRange = omega arith
number_some PacketTooShort = omega arith
number_some WrongIndicators = omega arith
number_some MessageTooLong = omega arith
number_some Unreadable = omega arith
number_some WrongLine = omega arith
number_some WrongState = omega arith
number_some BadConfiguration = omega arith
number_some BadLine = omega arith
number_some NoCodecList = omega arith
number_some NoCommonCodec = omega arith

with_number : ℕ → Refusal
with_number n =
    cond (eqb n 1) DataTooLong
    (cond (eqb n 2) Unframed
    (cond (eqb n 3) TableTooShort
    (cond (eqb n 4) BufferTooShort
    (cond (eqb n 5) OutOfRange
    (cond (eqb n 6) PacketTooShort
    (cond (eqb n 7) WrongIndicators
    (cond (eqb n 8) MessageTooLong
    (cond (eqb n 9) Unreadable
    (cond (eqb n 10) WrongLine
    (cond (eqb n 11) WrongState
    (cond (eqb n 12) BadConfiguration
    (cond (eqb n 13) BadLine
    (cond (eqb n 14) NoCodecList NoCommonCodec)))))))))))))

with_number_is : (e : Refusal) → with_number (refusal_number e) ≡ e
unfolding with_number
with_number_is DataTooLong = refl
with_number_is Unframed = refl
with_number_is TableTooShort = refl
with_number_is BufferTooShort = refl
with_number_is OutOfRange = refl
with_number_is PacketTooShort = refl
with_number_is WrongIndicators = refl
with_number_is MessageTooLong = refl
with_number_is Unreadable = refl
with_number_is WrongLine = refl
with_number_is WrongState = refl
with_number_is BadConfiguration = refl
with_number_is BadLine = refl
with_number_is NoCodecList = refl
with_number_is NoCommonCodec = refl

same_number : (d e : Refusal) → refusal_number d ≡ refusal_number e → d ≡ e
same_number d e p = sym (with_number_is d) ∙ ap with_number p ∙ with_number_is e

-- ---- the one with the lower number
module _ (d e : Refusal) where
  pub lower_first : refusal_number d ≤ refusal_number e → lower d e ≡ d
  lower_first h = rw (le-ltb (refusal_number e) (refusal_number d) h)

  pub lower_second : refusal_number e < refusal_number d → lower d e ≡ e
  lower_second h = rw (lt-ltb (refusal_number e) (refusal_number d) h)

pub lower_swap : (d e : Refusal) → lower d e ≡ lower e d
lower_swap d e =
    by_lt (refusal_number e) (refusal_number d) _
    (λ h. lower_second d e h ∙ sym (lower_first e d (omega arith)))
    (λ h. by_lt (refusal_number d) (refusal_number e) _
    (λ k. lower_first d e h ∙ sym (lower_second e d k))
    (λ k. let z : d ≡ e = same_number d e (omega arith) in rw z))
