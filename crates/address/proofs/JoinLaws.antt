-- Cutting a joined text gives the texts back: none of them has the separator, and none is empty.
-- Assumes nothing.
use Prim.Native.Nat.{ℕ, ◌≤◌}
use mathlib.Core.Path.{◌≡◌, refl, sym, ap, ◌∙◌}
use mathlib.Core.List.{List, [], ◌∷◌, ◌++◌, append-nil, append_assoc, map}
use mathlib.Core.Bool.{false}
use lib.ListN.{length, length-append}
use native.Mathlib.Omega.{arith}
use borrow.Author.Tests.{ne_eqb}
use Rattle.octets.specs.Split.{has, split_on}
use Rattle.octets.specs.Hex.{is_hex_digit}
use Rattle.octets.proofs.SplitLaws.{has_cons, split_append, split_whole}
use Rattle.address.specs.Ipv6.{parts_of, before_gap}
use Rattle.address.specs.Canonical.{each_after, joined, group_text}
use Rattle.address.proofs.WriteLaws.{width_some}
use Rattle.address.proofs.TextLaws.{length_group, group_has}

-- ---- octets that a text does not have
pub has_append : (c : ℕ) (xs ys : List ℕ) → has c xs ≡ false → has c ys ≡ false → has c (xs ++ ys) ≡ false
unfolding has
has_append c [] ys p q = q
has_append c (x ∷ xs) ys p q = has_cons c x xs _ p (λ e r. rw (ne_eqb x c e) (has_append c xs ys r q))

has_each : (c d : ℕ) (f : ℕ → List ℕ) → (d ≡ c → ⊥) → ((n : ℕ) → has c (f n) ≡ false) → (ns : List ℕ) → has c (each_after d f ns) ≡ false
unfolding has each_after
has_each c d f e p [] = refl
has_each c d f e p (n ∷ ns) = rw (ne_eqb d c e) (has_append c (f n) (each_after d f ns) (p n) (has_each c d f e p ns))

pub has_joined : (c d : ℕ) (f : ℕ → List ℕ) → (d ≡ c → ⊥) → ((n : ℕ) → has c (f n) ≡ false) → (ns : List ℕ) → has c (joined d f ns) ≡ false
unfolding has joined
has_joined c d f e p [] = refl
has_joined c d f e p (n ∷ ns) = has_append c (f n) (each_after d f ns) (p n) (has_each c d f e p ns)

-- ---- cutting at the separator
pub split_joined : (c : ℕ) (f : ℕ → List ℕ) → ((n : ℕ) → has c (f n) ≡ false) → (n : ℕ) (ns : List ℕ) → split_on c (joined c f (n ∷ ns)) ≡ map f (n ∷ ns)
unfolding joined each_after
split_joined c f p n [] = ap (split_on c) (append-nil (f n)) ∙ split_whole c (f n) (p n)
split_joined c f p n (m ∷ ns) = split_append c (f n) (f m ++ each_after c f ns) (p n) ∙ ap (λ (ts : List (List ℕ)). f n ∷ ts) (split_joined c f p m ns)

-- ---- groups
no_colon : (g : ℕ) → has 58 (group_text g) ≡ false
unfolding is_hex_digit
no_colon g = group_has 58 g refl

group_some : (g : ℕ) → 1 ≤ length (group_text g)
group_some g = rw (length_group g) (width_some g)

parts_some : (s : List ℕ) → 1 ≤ length s → parts_of s ≡ split_on 58 s
unfolding parts_of
parts_some [] h = absurd (omega arith)
parts_some (b ∷ bs) h = refl

pub joined_some : (gs : List ℕ) → 1 ≤ length gs → 1 ≤ length (joined 58 group_text gs)
unfolding joined
joined_some [] h = absurd (omega arith)
joined_some (g ∷ gs) h = omega (arith, length-append (group_text g) (each_after 58 group_text gs), group_some g)

pub parts_joined : (gs : List ℕ) → parts_of (joined 58 group_text gs) ≡ map group_text gs
unfolding joined parts_of
parts_joined [] = refl
parts_joined (g ∷ gs) = parts_some (joined 58 group_text (g ∷ gs)) (joined_some (g ∷ gs) (omega arith)) ∙ split_joined 58 group_text no_colon g gs

-- ---- "::" after groups
skip_one : (x : ℕ) (bs : List ℕ) → (x ≡ 58 → ⊥) → before_gap (x ∷ bs) ≡ x ∷ before_gap bs
unfolding before_gap
skip_one x [] h = refl
skip_one x (b ∷ bs) h = simp (ne_eqb x 58 h)

skip : (xs ys : List ℕ) → has 58 xs ≡ false → before_gap (xs ++ ys) ≡ xs ++ before_gap ys
skip [] ys h = refl
skip (x ∷ xs) ys h = has_cons 58 x xs _ h (λ e r. skip_one x (xs ++ ys) e ∙ ap (λ (l : List ℕ). x ∷ l) (skip xs ys r))

skip_colon : (xs ys : List ℕ) → 1 ≤ length xs → has 58 xs ≡ false → before_gap (58 ∷ (xs ++ ys)) ≡ 58 ∷ before_gap (xs ++ ys)
unfolding before_gap
skip_colon [] ys n h = absurd (omega arith)
skip_colon (x ∷ xs) ys n h = has_cons 58 x xs _ h (λ e r. simp (ne_eqb x 58 e))

skip_group : (g : ℕ) (xs ys zs : List ℕ) → before_gap (xs ++ ys) ≡ xs ++ zs → before_gap ((group_text g ++ xs) ++ ys) ≡ (group_text g ++ xs) ++ zs
skip_group g xs ys zs e =
    ap before_gap (append_assoc (group_text g) xs ys)
    ∙ skip (group_text g) (xs ++ ys) (no_colon g)
    ∙ ap (λ (l : List ℕ). group_text g ++ l) e
    ∙ sym (append_assoc (group_text g) xs zs)

gap_each : (gs ys : List ℕ) → before_gap (each_after 58 group_text gs ++ ys) ≡ each_after 58 group_text gs ++ before_gap ys
unfolding each_after
gap_each [] ys = refl
gap_each (g ∷ gs) ys =
    ap (λ (l : List ℕ). before_gap (58 ∷ l)) (append_assoc (group_text g) (each_after 58 group_text gs) ys)
    ∙ skip_colon (group_text g) (each_after 58 group_text gs ++ ys) (group_some g) (no_colon g)
    ∙ ap (λ (l : List ℕ). 58 ∷ before_gap l) (sym (append_assoc (group_text g) (each_after 58 group_text gs) ys))
    ∙ ap (λ (l : List ℕ). 58 ∷ l) (skip_group g (each_after 58 group_text gs) ys (before_gap ys) (gap_each gs ys))

pub gap_joined : (gs ys : List ℕ) → before_gap (joined 58 group_text gs ++ ys) ≡ joined 58 group_text gs ++ before_gap ys
unfolding joined
gap_joined [] ys = refl
gap_joined (g ∷ gs) ys = skip_group g (each_after 58 group_text gs) ys (before_gap ys) (gap_each gs ys)
