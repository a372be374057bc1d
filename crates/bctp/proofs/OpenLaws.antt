-- Laws of opening a packet: each test of the code decides one of document 01's checks, in its order.
-- Assumes nothing.
use Prim.Native.Nat.{ℕ, ◌+◌, ◌%◌, ◌≤◌, ◌<◌}
use mathlib.Core.Path.{◌≡◌, refl, sym, ◌∙◌}
use mathlib.Core.List.{List, [], ◌∷◌}
use mathlib.Core.Bool.{Bool, true, false, ◌&&◌}
use lib.ListN.{length, get_or, drop, set}
use native.Mathlib.Nat.{zero-add}
use native.Mathlib.Omega.{arith}
use borrow.Author.Tests.{lt-ltb, le-ltb, eq-eqb, ne_eqb}
use Rattle.std.specs.Prelude.{Result, Ok, Err}
use Rattle.octets.specs.declared.Refusal.{Refusal}
use Rattle.octets.specs.declared.Refusal.TheVariants.{BufferTooShort, PacketTooShort, WrongIndicators}
use Rattle.bctp.specs.declared.Packet.{Packet}
use Rattle.bctp.specs.declared.Packet.TheVariants as answer
use Rattle.bctp.specs.Packet.{right_first, right_second, has_error, version_of, protocol_of, version_indicator, protocol_indicator, refused, tunnel_notice, tunnel_reply, tunnel_message, opened_by, opened_packet, with_room}
use Rattle.bctp.specs.Meaning.{opened_in, buffer_after, Opens}

-- ---- what is answered without a look at the buffer
module _ (p l : List ℕ) where
  pub opens_refused : (e : Refusal) → Opens p l (refused e) (Err e) l
  unfolding opened_in buffer_after with_room
  opens_refused e = record { answers = refl; fills = refl }

  opens_notice : Opens p l tunnel_notice (Ok answer.Notice) l
  unfolding opened_in buffer_after with_room
  opens_notice = record { answers = refl; fills = refl }

  opens_message : Opens p l (tunnel_message (drop 2 p)) (Ok answer.Message) l
  unfolding opened_in buffer_after with_room
  opens_message = record { answers = refl; fills = refl }

-- ---- a reply
module _ (p l : List ℕ) (a b : ℕ) where
  pub reply_short : length l < 2 → Opens p l (tunnel_reply (a ∷ b ∷ [])) (Err BufferTooShort) l
  unfolding opened_in buffer_after with_room
  reply_short h = let z = lt-ltb (length l) 2 h in record { answers = rw z; fills = rw z }

  reply_set : (x y : ℕ) (l : List ℕ) → Opens p (x ∷ y ∷ l) (tunnel_reply (a ∷ b ∷ [])) (Ok answer.Reply) (a ∷ b ∷ l)
  unfolding opened_in buffer_after with_room
  reply_set x y l = let z = le-ltb (length (x ∷ y ∷ l)) 2 (omega arith) in record { answers = rw z; fills = rw z }

  pub reply_put : 2 ≤ length l → Opens p l (tunnel_reply (a ∷ b ∷ [])) (Ok answer.Reply) (set (set l 0 a) 1 b)
  reply_put h = go l h
    where
      go : (l : List ℕ) → 2 ≤ length l → Opens p l (tunnel_reply (a ∷ b ∷ [])) (Ok answer.Reply) (set (set l 0 a) 1 b)
      go [] h = absurd (omega arith)
      go (x ∷ []) h = absurd (omega arith)
      go (x ∷ y ∷ l) h = reply_set x y l

pub ruleset replies = (reply_short, reply_put)

-- ---- the checks in their order
module _ (a b : ℕ) (p l : List ℕ) (t : Bool) (is : t ≡ (right_first a && right_second b)) where
  right : t ≡ true → (right_first a && right_second b) ≡ true
  right e = sym is ∙ e

  pub open_wrong : t ≡ false → Opens p l (opened_by a b (drop 2 p)) (Err WrongIndicators) l
  unfolding opened_by
  open_wrong e = let w : (right_first a && right_second b) ≡ false = sym is ∙ e in rw w (opens_refused p l WrongIndicators)

  module _ (u : Bool) (first : u ≡ has_error a) where
    pub open_first : t ≡ true → u ≡ true → Opens p l (opened_by a b (drop 2 p)) (Ok answer.Notice) l
    unfolding opened_by
    open_first e x = let f : has_error a ≡ true = sym first ∙ x in rw (right e, f) (opens_notice p l)

    module _ (v : Bool) (second : v ≡ has_error b) where
      pub open_second : t ≡ true → u ≡ false → v ≡ true → Opens p l (opened_by a b (drop 2 p)) (Ok answer.Notice) l
      unfolding opened_by
      open_second e x y =
          let f : has_error a ≡ false = sym first ∙ x in
          let g : has_error b ≡ true = sym second ∙ y in
          rw (right e, f, g) (opens_notice p l)

      module _ (e : t ≡ true) (x : u ≡ false) (y : v ≡ false) where
        no_first : has_error a ≡ false
        no_first = sym first ∙ x

        no_second : has_error b ≡ false
        no_second = sym second ∙ y

        pub open_version : (r : Result Packet Refusal) (f : List ℕ) → (a % 32 ≡ 0 → ⊥) → ((q : List ℕ) → Opens q l (tunnel_reply (96 ∷ b % 64 ∷ [])) r f)
            → Opens p l (opened_by a b (drop 2 p)) r f
        unfolding opened_by version_of protocol_of version_indicator protocol_indicator
        open_version r f z o = rw (right e, no_first, no_second, ne_eqb (a % 32) 0 z, zero-add (b % 64)) (o p)

        pub open_protocol : (r : Result Packet Refusal) (f : List ℕ) → a % 32 ≡ 0 → (b % 64 ≡ 32 → ⊥) → ((q : List ℕ) → Opens q l (tunnel_reply (32 ∷ (64 + b % 64) ∷ [])) r f)
            → Opens p l (opened_by a b (drop 2 p)) r f
        unfolding opened_by version_of protocol_of version_indicator protocol_indicator
        open_protocol r f z k o = rw (right e, no_first, no_second, eq-eqb (a % 32) 0 z, ne_eqb (b % 64) 32 k) (o p)

        pub open_message : a % 32 ≡ 0 → b % 64 ≡ 32 → Opens p l (opened_by a b (drop 2 p)) (Ok answer.Message) l
        unfolding opened_by version_of protocol_of
        open_message z k = rw (right e, no_first, no_second, eq-eqb (a % 32) 0 z, eq-eqb (b % 64) 32 k) (opens_message p l)

pub ruleset opening = (open_wrong, open_first, open_second, open_version, open_protocol, open_message)

-- ---- the two octets at the front
module _ (p l : List ℕ) where
  pub open_short : length p < 2 → Opens p l (opened_packet p) (Err PacketTooShort) l
  unfolding opened_packet
  open_short h = go p h
    where
      go : (p : List ℕ) → length p < 2 → Opens p l (opened_packet p) (Err PacketTooShort) l
      go [] h = opens_refused [] l PacketTooShort
      go (a ∷ []) h = opens_refused (a ∷ []) l PacketTooShort
      go (a ∷ b ∷ m) h = absurd (omega arith)

  pub open_front : (r : Result Packet Refusal) (f : List ℕ) → 2 ≤ length p → Opens p l (opened_by (get_or p 0 0) (get_or p 1 0) (drop 2 p)) r f → Opens p l (opened_packet p) r f
  unfolding opened_packet
  open_front r f h o = go p h o
    where
      go : (p : List ℕ) → 2 ≤ length p → Opens p l (opened_by (get_or p 0 0) (get_or p 1 0) (drop 2 p)) r f → Opens p l (opened_packet p) r f
      go [] h o = absurd (omega arith)
      go (a ∷ []) h o = absurd (omega arith)
      go (a ∷ b ∷ m) h o = o

pub ruleset fronts = (open_short, open_front)
