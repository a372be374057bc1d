-- Laws of writing: an address is appended as its parts are, one after the other.
-- Assumes nothing.
use Prim.Native.Nat.{ℕ, zero, suc, ◌+◌, ◌-◌, ◌/◌, ◌%◌, ◌≤◌, ◌<◌}
use mathlib.Core.Path.{◌≡◌, refl, sym, ap, ◌∙◌}
use mathlib.Core.List.{List, [], ◌∷◌, ◌++◌, append-nil, append_assoc}
use mathlib.Core.Bool.{Bool, true, false, cond}
use lib.ListN.{length, get_or, take, drop}
use lib.Seq.{take_all, take-suc}
use lib.Dec.{ltb}
use native.Mathlib.Numerals.{add-one}
use native.Mathlib.Omega.{arith}
use borrow.Author.Tests.{lt-ltb, le-ltb}
use Rattle.octets.specs.Append.{Appends, number_text}
use Rattle.octets.proofs.Laws.{tail_is}
use Rattle.octets.proofs.AppendLaws.{append_nil as appends_nil, append_then}
use Rattle.address.specs.declared.Address.{Address}
use Rattle.address.specs.declared.Address.TheVariants.{V4, V6}
use Rattle.address.specs.declared.write.Run.{Run}
use Rattle.address.specs.Canonical.{each_after, joined, low_digit, last_hex, hex_width, group_text, longest_run, shortened, ipv4_text, ipv6_text, address_text}
use Rattle.address.specs.Private.{HexWidth, Longest}

-- ---- a group
width_bounds : (g : ℕ) → (1 ≤ hex_width g) × (hex_width g ≤ 4)
unfolding hex_width
width_bounds g = go (ltb g 16) (ltb g 256) (ltb g 4096)
  where
    go : (a b c : Bool) → (1 ≤ cond a 1 (cond b 2 (cond c 3 4))) × (cond a 1 (cond b 2 (cond c 3 4)) ≤ 4)
    go true b c = (omega arith, omega arith)
    go false true c = (omega arith, omega arith)
    go false false true = (omega arith, omega arith)
    go false false false = (omega arith, omega arith)

pub width_some : (g : ℕ) → 1 ≤ hex_width g
width_some g = (width_bounds g).0

pub width_few : (g : ℕ) → hex_width g ≤ 4
width_few g = (width_bounds g).1

pub width_is : (g r : ℕ) → r ≡ hex_width g → HexWidth g r
width_is g r e = record { is = e; few = rw e (width_few g) }

-- a, b, c and d are the four digits of g
module _ (g a b c d : ℕ) (p : a ≡ low_digit (g / 16 / 16 / 16 % 16)) (q : b ≡ low_digit (g / 16 / 16 % 16)) (r : c ≡ low_digit (g / 16 % 16)) (s : d ≡ low_digit (g % 16)) where
  last_four : (w : ℕ) → 1 ≤ w → w ≤ 4 → take (4 - (4 - w)) (drop (4 - w) (a ∷ b ∷ c ∷ d ∷ [])) ≡ last_hex w g
  unfolding last_hex
  last_four zero h k = absurd (omega arith)
  last_four (suc zero) h k = rw s
  last_four (suc (suc zero)) h k = rw (r, s)
  last_four (suc (suc (suc zero))) h k = rw (q, r, s)
  last_four (suc (suc (suc (suc zero)))) h k = rw (p, q, r, s)
  last_four (suc (suc (suc (suc (suc w))))) h k = absurd (omega arith)

  pub group_pushed : (l f : List ℕ) (at w y : ℕ) → HexWidth g w → Appends l at (take (4 - (4 - w)) (drop (4 - w) (a ∷ b ∷ c ∷ d ∷ []))) y f → Appends l at (group_text g) y f
  unfolding group_text
  group_pushed l f at w y v u =
      let e = last_four w (rw v.is (width_some g)) v.few in
      rw (← v.is) (rw e at u)

-- ---- groups
each_append : (c : ℕ) (f : ℕ → List ℕ) (xs ys : List ℕ) → each_after c f (xs ++ ys) ≡ each_after c f xs ++ each_after c f ys
unfolding each_after
each_append c f [] ys = refl
each_append c f (x ∷ xs) ys = ap (λ (z : List ℕ). c ∷ z) (ap (λ (z : List ℕ). f x ++ z) (each_append c f xs ys) ∙ sym (append_assoc (f x) (each_after c f xs) (each_after c f ys)))

each_one : (c : ℕ) (f : ℕ → List ℕ) (x : ℕ) → each_after c f (x ∷ []) ≡ c ∷ f x
unfolding each_after
each_one c f x = ap (λ (z : List ℕ). c ∷ z) (append-nil (f x))

each_take : (c : ℕ) (f : ℕ → List ℕ) (s : List ℕ) (j : ℕ) → j < length s → each_after c f (take j s) ++ (c ∷ f (get_or s j 0)) ≡ each_after c f (take (j + 1) s)
each_take c f s j h = rw (add-one, take-suc s j 0 h, each_append c f (take j s) (get_or s j 0 ∷ []), each_one c f (get_or s j 0))

pub each_start : (gs l : List ℕ) (at : ℕ) → Appends l at (each_after 58 group_text (take 0 gs)) at l
unfolding each_after
each_start gs l at = appends_nil l at

-- j groups are appended, each after a colon, and the buffer has l. The call was `push_each(gs, l₀, at)`.
module _ (gs l₀ l : List ℕ) (at j k : ℕ) (inv : Appends l₀ at (each_after 58 group_text (take j gs)) k l) where
  pub each_turn : (f : List ℕ) (r : ℕ) → j < length gs → Appends l k (58 ∷ group_text (get_or gs j 0)) r f → Appends l₀ at (each_after 58 group_text (take (j + 1) gs)) r f
  each_turn f r h u =
      let z = append_then l₀ l f (each_after 58 group_text (take j gs)) (58 ∷ group_text (get_or gs j 0)) at k r u inv in
      rw (each_take 58 group_text gs j h) at z

  pub each_done : length gs ≤ j → Appends l₀ at (each_after 58 group_text gs) k l
  each_done h = rw (take_all j gs h) at inv

pub ruleset each_pushed = (each_start, each_turn, each_done)

pub groups_none : (gs l : List ℕ) (at : ℕ) → length gs < 1 → Appends l at (joined 58 group_text gs) at l
unfolding joined
groups_none [] l at h = appends_nil l at
groups_none (g ∷ gs) l at h = absurd (omega arith)

pub groups_some : (gs l f g : List ℕ) (at k r : ℕ) → 1 ≤ length gs → Appends f k (each_after 58 group_text (take (length gs - 1) (drop 1 gs))) r g
    → Appends l at (group_text (get_or gs 0 0)) k f → Appends l at (joined 58 group_text gs) r g
unfolding joined
groups_some [] l f g at k r h v u = absurd (omega arith)
groups_some (x ∷ gs) l f g at k r h v u = append_then l f g (group_text x) (each_after 58 group_text gs) at k r (rw (tail_is (x ∷ gs) 1) at v) u

-- ---- the run of zeros
pub gap_then : (l f g ys : List ℕ) (at k r : ℕ) → Appends f k ys r g → Appends l at (58 ∷ 58 ∷ []) k f → Appends l at (58 ∷ 58 ∷ ys) r g
gap_then l f g ys at k r v u = append_then l f g (58 ∷ 58 ∷ []) ys at k r v u

module _ (gs : List ℕ) (r : Run) (e : Longest gs r) (l g : List ℕ) (at y : ℕ) where
  pub shortened_full : r.len < 2 → Appends l at (joined 58 group_text gs) y g → Appends l at (shortened gs (longest_run gs)) y g
  unfolding shortened
  shortened_full h w = rw (← e.is, lt-ltb r.len 2 h) w

  pub shortened_gap : (f : List ℕ) (k : ℕ) → 2 ≤ r.len
      → Appends f k (58 ∷ 58 ∷ joined 58 group_text (take (length gs - (r.start + r.len)) (drop (r.start + r.len) gs))) y g
      → Appends l at (joined 58 group_text (take (r.start - 0) (drop 0 gs))) k f
      → Appends l at (shortened gs (longest_run gs)) y g
  unfolding shortened
  shortened_gap f k h v u =
      let z : r.start - 0 ≡ r.start = omega arith in
      rw (← e.is, le-ltb r.len 2 h) (append_then l f g _ _ at k y (rw (tail_is gs (r.start + r.len)) at v) (rw z at u))

-- ---- IPv4
pub two_pushed : (a b : ℕ) (l f g : List ℕ) (at k r : ℕ) → Appends f k (number_text b) r g → Appends l at (number_text a ++ (46 ∷ [])) k f
    → Appends l at (number_text a ++ (46 ∷ number_text b)) r g
two_pushed a b l f g at k r v u = rw append_assoc at (append_then l f g (number_text a ++ (46 ∷ [])) (number_text b) at k r v u)

pub four_pushed : (a b c d : ℕ) (l f g : List ℕ) (at k r : ℕ) → Appends f k (46 ∷ (number_text c ++ (46 ∷ number_text d))) r g
    → Appends l at (number_text a ++ (46 ∷ number_text b)) k f → Appends l at (joined 46 number_text (a ∷ b ∷ c ∷ d ∷ [])) r g
unfolding joined each_after
four_pushed a b c d l f g at k r v u =
    let z = append_then l f g _ _ at k r v u in
    simp append-nil (rw append_assoc at z)

-- ---- either
module _ (a : Address) (l f : List ℕ) (at y : ℕ) where
  pub four_text : (n : ℕ) → a ≡ V4 n → Appends l at (ipv4_text n) y f → Appends l at (address_text a) y f
  unfolding address_text
  four_text n e w = rw e w

  pub six_text : (high low : ℕ) → a ≡ V6 high low → Appends l at (ipv6_text high low) y f → Appends l at (address_text a) y f
  unfolding address_text
  six_text high low e w = rw e w
