-- Laws of a packet around a message: the message's writer is lent what comes after the two octets, so what it answers and leaves there tells the whole.
-- Assumes nothing.
use Prim.Native.Nat.{ℕ, ◌+◌, ◌-◌, ◌≤◌, ◌<◌}
use mathlib.Core.Path.{◌≡◌, refl, sym, ap, ◌∙◌}
use mathlib.Core.List.{List, [], ◌∷◌, ◌++◌, append-nil}
use mathlib.Core.Option.{Option, none, some, map}
use lib.ListN.{length, take, drop, set, length-drop, drop_of_length-le}
use lib.Seq.{drop-drop, length-take-le, drop-append_seam}
use native.Mathlib.Omega.{arith}
use borrow.Author.Tests.{lt-ltb, le-ltb}
use borrow.Rule.Slice.PartMut.{mid_of, put_mid, put_same}
use Rattle.std.specs.Prelude.{Result, Ok, Err}
use Rattle.octets.specs.declared.Refusal.{Refusal}
use Rattle.octets.specs.declared.Refusal.TheVariants.{BufferTooShort, OutOfRange}
use Rattle.octets.specs.Puts.{put_answer, put_leaves, Puts}
use Rattle.octets.proofs.CaseLaws.{by_lt}
use Rattle.octets.proofs.Laws.{tail_is}
use Rattle.octets.proofs.PutsLaws.{puts_none, puts_short, puts_no, puts_some}
use Rattle.bctp.specs.Packet.{version_indicator, protocol_indicator, packet_text}

-- ---- what a refusal says
refused_none : (l : List ℕ) (r : Result ℕ Refusal) (g : List ℕ) → Puts none l r g → (r ≡ Err OutOfRange) × (g ≡ l)
unfolding put_answer put_leaves
refused_none l r g p = (p.answers, p.leaves)

refused_some : (t l : List ℕ) (e : Refusal) (g : List ℕ) → Puts (some t) l (Err e) g → (e ≡ BufferTooShort) × (g ≡ l) × (length l < length t)
unfolding put_answer put_leaves
refused_some t l e g p =
    by_lt (length l) (length t) _
    (λ h. let a = p.answers in let q : Err e ≡ Err BufferTooShort = rw (lt-ltb (length l) (length t) h) at a in
    let b = p.leaves in
    (cc, rw (lt-ltb (length l) (length t) h) at b, h))
    (λ h. let a = p.answers in let q : Err e ≡ Ok (length t) = rw (le-ltb (length l) (length t) h) at a in absurd (let z : ◌≡◌ {A = ℕ} 0 1 = cc in omega arith))

written_some : (t l : List ℕ) (n : ℕ) (g : List ℕ) → Puts (some t) l (Ok n) g → length t ≤ length l
unfolding put_answer
written_some t l n g p =
    by_lt (length l) (length t) _
    (λ h. let a = p.answers in let q : Ok n ≡ Err BufferTooShort = rw (lt-ltb (length l) (length t) h) at a in absurd (let z : ◌≡◌ {A = ℕ} 0 1 = cc in omega arith))
    (λ h. h)

-- ---- the two octets
packet_length : (t : List ℕ) → length (packet_text t) ≡ 2 + length t
unfolding packet_text
packet_length t = omega arith

pub indicated : (l : List ℕ) → 2 ≤ length l → set (set l 0 32) 1 32 ≡ packet_text (drop 2 l)
unfolding packet_text version_indicator protocol_indicator
indicated [] h = absurd (omega arith)
indicated (a ∷ []) h = absurd (omega arith)
indicated (a ∷ b ∷ l) h = refl

-- the packet of a message t, where there is room for it
packet_put : (t l m : List ℕ) (n : ℕ) (f : List ℕ) → n ≡ length t → 2 + length t ≤ length l → drop 2 m ≡ t ++ drop (2 + length t) l → f ≡ packet_text (drop 2 m)
    → Puts (some (packet_text t)) l (Ok (n + 2)) f
unfolding put_answer put_leaves packet_text
packet_put t l m n f w h e i =
    let room = le-ltb (length l) (length (packet_text t)) (omega (arith, packet_length t)) in
    let k : n + 2 ≡ length (packet_text t) = omega (arith, packet_length t) in
    let j : 2 + length t ≡ length (packet_text t) = sym (packet_length t) in
    record { answers = rw (room, k); leaves = i ∙ ap (λ (z : List ℕ). packet_text z) (rw j at e) ∙ rw room }

-- ---- no room for them: r and g are what the message's writer answers and leaves, lent nothing
module _ (l : List ℕ) (short : length l < 2) where
  abbrev rest : List ℕ
  rest = mid_of (length l) (length l - length l) l

  rest_none : rest ≡ []
  rest_none = tail_is l (length l) ∙ drop_of_length-le l {i = length l} (omega arith)

  -- no message is that short
  short_some : (t : List ℕ) (r : Result ℕ Refusal) (g : List ℕ) → Puts (some t) rest r g → g ≡ rest
  unfolding put_answer put_leaves
  short_some t r g p =
      by_lt (length rest) (length t) _
      (λ h. let b = p.leaves in rw (lt-ltb (length rest) (length t) h) at b)
      (λ h. let b = p.leaves in
      let c : g ≡ t ++ drop (length t) rest = rw (le-ltb (length rest) (length t) h) at b in
      c ∙ nothing t (omega (arith, ap (λ (x : List ℕ). length x) rest_none)))
    where
      nothing : (t : List ℕ) → length t ≤ 0 → t ++ drop (length t) rest ≡ rest
      nothing [] k = refl
      nothing (x ∷ t) k = absurd (omega arith)

  short_written : (t : List ℕ) (r : Result ℕ Refusal) (g : List ℕ) → Puts (some t) rest r g → Puts (some (packet_text t)) l (Err BufferTooShort) (put_mid (length l) (length l - length l) l g)
  short_written t r g p = rw (short_some t r g p, put_same (length l) (length l - length l) l) (puts_short (packet_text t) l (omega (arith, packet_length t)))

  -- x is the answer to the packet
  pub wrap_short : (o : Option (List ℕ)) (r x : Result ℕ Refusal) (g : List ℕ) (e : Refusal) → Puts o rest r g → r ≡ Err e → x ≡ Err e
      → Puts (map packet_text o) l x (put_mid (length l) (length l - length l) l g)
  wrap_short none r x g e p q k =
      let (a, s) = refused_none rest r g p in
      let z : x ≡ Err OutOfRange = k ∙ sym q ∙ a in
      rw (z, s, put_same (length l) (length l - length l) l) (puts_none l)
  wrap_short (some t) r x g e p q k =
      let (a, _, _) = refused_some t rest e g (rw q at p) in
      let z : x ≡ Err BufferTooShort = k ∙ rw a in
      rw z (short_written t r g p)

  pub wrap_no_room : (o : Option (List ℕ)) (r : Result ℕ Refusal) (g : List ℕ) (n : ℕ) → Puts o rest r g → r ≡ Ok n
      → Puts (map packet_text o) l (Err BufferTooShort) (put_mid (length l) (length l - length l) l g)
  wrap_no_room none r g n p q = absurd (puts_no rest n g (rw q at p))
  wrap_no_room (some t) r g n p q = short_written t r g p

-- ---- room for them: the writer is lent all that comes after them
module _ (l : List ℕ) (long : 2 ≤ length l) where
  abbrev behind : List ℕ
  behind = mid_of 2 (length l - 2) l

  behind_length : length behind ≡ length l - 2
  behind_length = ap (λ (x : List ℕ). length x) (tail_is l 2) ∙ length-drop 2 l

  pub wrap_refused : (o : Option (List ℕ)) (r x : Result ℕ Refusal) (g : List ℕ) (e : Refusal) → Puts o behind r g → r ≡ Err e → x ≡ Err e
      → Puts (map packet_text o) l x (put_mid 2 (length l - 2) l g)
  wrap_refused none r x g e p q k =
      let (a, s) = refused_none behind r g p in
      let z : x ≡ Err OutOfRange = k ∙ sym q ∙ a in
      rw (z, s, put_same 2 (length l - 2) l) (puts_none l)
  wrap_refused (some t) r x g e p q k =
      let (a, s, h) = refused_some t behind e g (rw q at p) in
      let z : x ≡ Err BufferTooShort = k ∙ rw a in
      rw (z, s, put_same 2 (length l - 2) l) (puts_short (packet_text t) l (omega (arith, packet_length t, behind_length)))

  -- a message t that was written there
  module _ (t g : List ℕ) (n : ℕ) (p : Puts (some t) behind (Ok n) g) where
    whole : put_mid 2 (length l - 2) l g ≡ take 2 l ++ g
    whole =
        let z : drop (length l - 2) (drop 2 l) ≡ [] = drop_of_length-le (drop 2 l) {i = length l - 2} (omega (arith, length-drop 2 l)) in
        rw (z, append-nil g)

    left_there : drop 2 (put_mid 2 (length l - 2) l g) ≡ t ++ drop (2 + length t) l
    left_there =
        let (_, b) = puts_some t behind n g p in
        let c : drop (length t) behind ≡ drop (2 + length t) l = rw (tail_is l 2, drop-drop (length t) 2 l) in
        let d : length (take 2 l) ≡ 2 = length-take-le 2 l long in
        let e : drop (length (take 2 l)) (take 2 l ++ g) ≡ g = drop-append_seam (take 2 l) g in
        rw whole ((rw d at e) ∙ b ∙ rw c)

    fits_there : 2 + n ≤ length l
    fits_there =
        let (a, _) = puts_some t behind n g p in
        omega (arith, written_some t behind n g p, behind_length)

  module _ (o : Option (List ℕ)) (r : Result ℕ Refusal) (g : List ℕ) (p : Puts o behind r g) (n : ℕ) (e : r ≡ Ok n) where
    -- there was a message
    by_message : (X : Type 0) → ((t : List ℕ) → o ≡ some t → Puts (some t) behind (Ok n) g → X) → X
    by_message X f = go o refl
      where
        go : (q : Option (List ℕ)) → o ≡ q → X
        go none is = absurd (puts_no behind n g (rw (is, e) at p))
        go (some t) is = f t is (rw (is, e) at p)

    pub wrap_fits : 2 + n ≤ length l
    wrap_fits = by_message _ (λ t is q. fits_there t g n q)

    pub wrap_written : (f : List ℕ) → f ≡ packet_text (drop 2 (put_mid 2 (length l - 2) l g)) → Puts (map packet_text o) l (Ok (n + 2)) f
    wrap_written f i =
        by_message _ (λ t is q.
        let (w, _) = puts_some t behind n g q in
        rw is (packet_put t l (put_mid 2 (length l - 2) l g) n f w (omega (arith, fits_there t g n q)) (left_there t g n q) i))
