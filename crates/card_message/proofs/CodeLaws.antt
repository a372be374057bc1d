-- Each answer of the reader has the number of what it means; a stream's port is no span.
-- Assumes nothing.
use Prim.Native.Nat.{ℕ, ◌+◌}
use mathlib.Core.Path.{◌≡◌}
use mathlib.Core.List.{List}
use mathlib.Core.Option.{none, some}
use native.Mathlib.Omega.{arith}
use Rattle.std.specs.Prelude.{Result, Ok, Err}
use Rattle.octets.specs.declared.Refusal.{Refusal}
use Rattle.octets.specs.Refusals.{refusal_number}
use Rattle.octets.proofs.CaseLaws.{by_bool}
use Rattle.media.specs.Meaning.{stream_by, stream_inside, stream_in}
use Rattle.ipbcp.specs.declared.MessageType.{MessageType}
use Rattle.ipbcp.specs.declared.Description.{Description}
use Rattle.ipbcp.specs.declared.Message.{Message}
use Rattle.ipbcp.specs.declared.Message.TheVariants as answer
use Rattle.ipbcp.specs.Reading.{Reading, refused, typed, described}
use Rattle.ipbcp.specs.Meaning.{reading_in}
use Rattle.card_message.specs.ForC.{reading_for_c}

module _ (m : List ℕ) (x : Result Message Refusal) (r : Reading) (is : reading_in m x ≡ some r) where
  pub code_refused : (e : Refusal) → x ≡ Err e → (n : ℕ) → n ≡ refusal_number e → n ≡ reading_for_c r
  unfolding reading_in reading_for_c
  code_refused e h n p = let q : some (refused e) ≡ some r = rw h at is in let z : refused e ≡ r = cc in rw (← z) p

  pub code_typed : (v : ℕ) (k : MessageType) → x ≡ Ok (answer.Typed v k) → 256 ≡ reading_for_c r
  unfolding reading_in reading_for_c
  code_typed v k e = let q : some (typed v k) ≡ some r = rw e at is in let z : typed v k ≡ r = cc in rw (← z)

  pub code_described : (k : MessageType) (d : Description) → x ≡ Ok (answer.Described k d) → 1000 + d.stream.port ≡ reading_for_c r
  unfolding reading_in reading_for_c stream_in stream_by
  code_described k d e =
      by_bool (stream_inside m d.stream) _
      (λ h. let q : some (described k d.address (stream_by m d.stream)) ≡ some r = rw (e, h) at is in let z : described k d.address (stream_by m d.stream) ≡ r = cc in rw (← z))
      (λ h. let q : none ≡ some r = rw (e, h) at is in absurd (let z : ◌≡◌ {A = ℕ} 0 1 = cc in omega arith))

pub ruleset codes = (code_refused, code_typed, code_described)
