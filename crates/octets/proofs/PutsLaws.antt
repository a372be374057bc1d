-- Laws of a writer's answer: whether there is room tells it, and it tells what stands in the buffer; and what a writer's scratch holds of a text.
-- Assumes nothing.
use Prim.Native.Nat.{ℕ, ◌+◌, ◌-◌, ◌≤◌, ◌<◌, min}
use mathlib.Core.Path.{◌≡◌, refl, ◌∙◌}
use mathlib.Core.List.{List, ◌++◌}
use mathlib.Core.Option.{none, some}
use lib.ListN.{length, take, drop, length-take}
use lib.Seq.{take_at}
use native.Mathlib.Nat.{zero-add}
use native.Mathlib.Omega.{arith}
use borrow.Author.Tests.{lt-ltb, le-ltb}
use Rattle.std.specs.declared.result.Result.TheVariants.{Ok, Err}
use Rattle.octets.specs.declared.Refusal.TheVariants.{BufferTooShort, OutOfRange}
use Rattle.octets.specs.Puts.{put_answer, put_leaves, Puts}
use Rattle.octets.specs.Append.{put, next_of, appended, Appends}
use Rattle.octets.proofs.AppendLaws.{append_room, length_appends}
use Rattle.octets.proofs.CaseLaws.{by_lt}

-- nothing to write
pub puts_none : (l : List ℕ) → Puts none l (Err OutOfRange) l
unfolding put_answer put_leaves
puts_none l = record { answers = refl; leaves = refl }

module _ (t l : List ℕ) where
  pub puts_short : length l < length t → Puts (some t) l (Err BufferTooShort) l
  unfolding put_answer put_leaves
  puts_short h = let z = lt-ltb (length l) (length t) h in record { answers = rw z; leaves = rw z }

  pub puts_all : (r : ℕ) (f : List ℕ) → Appends l 0 t r f → length t ≤ length l → Puts (some t) l (Ok (length t)) f
  unfolding put_answer put_leaves put
  puts_all r f p h =
      let z = le-ltb (length l) (length t) h in
      let (_, q) = append_room l f 0 t r p (omega arith) in
      record { answers = rw z; leaves = q ∙ rw (z, zero-add (length t)) }

pub ruleset fronts = (puts_short, puts_all)

-- ---- what an answer of n octets says
pub puts_no : (l : List ℕ) (n : ℕ) (f : List ℕ) → Puts none l (Ok n) f → ⊥
unfolding put_answer
puts_no l n f p = let q : Ok n ≡ Err OutOfRange = p.answers in let z : ◌≡◌ {A = ℕ} 0 1 = cc in omega arith

pub puts_some : (t l : List ℕ) (n : ℕ) (f : List ℕ) → Puts (some t) l (Ok n) f → (n ≡ length t) × (f ≡ t ++ drop (length t) l)
unfolding put_answer put_leaves
puts_some t l n f p =
    by_lt (length l) (length t) _
    (λ h. let a = p.answers in let q : Ok n ≡ Err BufferTooShort = rw (lt-ltb (length l) (length t) h) at a in absurd (let z : ◌≡◌ {A = ℕ} 0 1 = cc in omega arith))
    (λ h. let a = p.answers in let q : Ok n ≡ Ok (length t) = rw (le-ltb (length l) (length t) h) at a in
    let b = p.leaves in
    (cc, rw (le-ltb (length l) (length t) h) at b))

-- ---- a text put together in a scratch of k octets
module _ (z g s : List ℕ) (n : ℕ) (p : Appends z 0 s n g) where
  pub appended_inside : n ≤ length g
  unfolding next_of
  appended_inside = omega (arith, p.next, length_appends z g 0 s n p)

  pub scratch_text : (k : ℕ) → length z ≡ k → take (n - 0) (drop 0 g) ≡ take k s
  unfolding next_of appended put
  scratch_text k h =
      let next : n ≡ 0 + min (length z - 0) (length s) = p.next in
      let o : length z - 0 ≡ k = omega arith in
      let t = take k s in
      let l : length t ≡ n - 0 = simp length-take (omega arith) in
      let leaves : g ≡ put z 0 (take (length z - 0) s) = p.leaves in
      let e : g ≡ t ++ drop (0 + length t) z = rw o at leaves in
      rw e (take_at t (drop (0 + length t) z) (n - 0) l)
