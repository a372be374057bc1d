-- Laws of `side_from` and `push_all`: the groups that are left, after those shifted in, give the same side at each step.
-- Assumes nothing.
use Prim.Native.Nat.{ℕ, suc, ◌+◌, ◌-◌, ◌≤◌, ◌<◌}
use mathlib.Core.Path.{◌≡◌, refl, sym, ap, ◌∙◌}
use mathlib.Core.Bool.{Bool, true, false, cond}
use mathlib.Core.List.{List, [], ◌∷◌, map}
use lib.ListN.{length, take, drop, replicate}
use native.Mathlib.Nat.{add-zero, add-suc, suc-add}
use native.Mathlib.Numerals.{add-one}
use native.Mathlib.Omega.{arith}
use Rattle.std.specs.declared.option.Option.{Option}
use Rattle.std.specs.declared.option.Option.TheVariants.{Some, None}
use Rattle.octets.specs.Split.{before, split_on, find_at}
use Rattle.octets.proofs.CaseLaws.{by_lt}
use Rattle.octets.proofs.SplitLaws.{part_is, part_dot, part_last}
use Rattle.address.specs.declared.ipv6.Halves.{Halves}
use Rattle.address.specs.declared.ipv6.Side.{Side}
use Rattle.address.specs.Parts.{all_parts}
use Rattle.address.specs.Ipv6.{is_group, group_value, parts_of}
use Rattle.address.specs.Private.{read_group, pushed, push_all, side, side_from}

-- `push_zeros`: k zeros are shifted in of n; x is the answer
pub zeros_turn : (a b x : Halves) (n k : ℕ) → push_all a (replicate (n - k) 0) ≡ x → k < n → b ≡ pushed a 0 → push_all b (replicate (n - (k + 1)) 0) ≡ x
unfolding push_all
zeros_turn a b x n k e p q =
    let m : n - k ≡ suc (n - (k + 1)) = omega arith in
    rw q (rw m at e)

pub zeros_done : (a x : Halves) (n k : ℕ) → push_all a (replicate (n - k) 0) ≡ x → n ≤ k → a ≡ x
unfolding push_all
zeros_done a x n k e p = let m : n - k ≡ 0 = omega arith in rw m at e

pub ruleset zeros_pushed = (zeros_turn, zeros_done)

-- what `read_group` says of a part
group_told : (p : List ℕ) (g : ℕ) → read_group p ≡ Some g → (is_group p ≡ true) × (group_value p ≡ g)
unfolding read_group
group_told p g e = go (is_group p) e
  where
    go : (t : Bool) → cond t (Some (group_value p)) None ≡ Some g → (t ≡ true) × (group_value p ≡ g)
    go true e = (refl, cc)
    go false e = let z : ◌≡◌ {A = ℕ} 0 1 = cc in absurd (omega arith)

group_not : (p : List ℕ) → read_group p ≡ None → is_group p ≡ false
unfolding read_group
group_not p e = go (is_group p) e
  where
    go : (t : Bool) → cond t (Some (group_value p)) None ≡ None → t ≡ false
    go true e = let z : ◌≡◌ {A = ℕ} 0 1 = cc in absurd (omega arith)
    go false e = refl

side_good : (k : ℕ) (h : Halves) (p : List ℕ) (ps : List (List ℕ)) (g : ℕ) → read_group p ≡ Some g → side_from k h (p ∷ ps) ≡ side_from (k + 1) (pushed h g) ps
unfolding side_from all_parts push_all
side_good k h p ps g q = let (t, v) = group_told p g q in simp (t, v, add-suc, suc-add, add-one)

side_not : (k : ℕ) (h : Halves) (p : List ℕ) (ps : List (List ℕ)) → read_group p ≡ None → side_from k h (p ∷ ps) ≡ None
unfolding side_from all_parts
side_not k h p ps q = rw (group_not p q)

side_none : (k : ℕ) (h : Halves) → side_from k h [] ≡ side k h
unfolding side_from all_parts push_all
side_none k h = rw add-zero

pub side_empty : (s : List ℕ) (h : Halves) → length s < 1 → side 0 h ≡ side_from 0 h (parts_of s)
unfolding parts_of
side_empty [] h p = sym (side_none 0 h)
side_empty (b ∷ bs) h p = absurd (omega arith)

pub side_start : (s : List ℕ) (h : Halves) → 1 ≤ length s → side_from 0 h (split_on 58 s) ≡ side_from 0 h (parts_of s)
unfolding parts_of
side_start [] h p = absurd (omega arith)
side_start (b ∷ bs) h p = refl

-- One group: its text starts at i and ends at e, and y is what `read_group` answered on it. k groups were shifted into h before; x is the answer.
module _ (s : List ℕ) (i k : ℕ) (h : Halves) (x : Option Side) (inv : side_from k h (split_on 58 (drop i s)) ≡ x)
    (e : ℕ) (is : e ≡ find_at s 58 i) (y : Option ℕ) (r : y ≡ read_group (take (e - i) (drop i s))) where
  read_is : y ≡ read_group (before 58 (drop i s))
  read_is = r ∙ ap read_group (part_is s 58 i e is)

  pub side_bad : y ≡ None → None ≡ x
  side_bad q =
      by_lt e (length s) _
      (λ p. sym (side_not k h (before 58 (drop i s)) (split_on 58 (drop (e + 1) s)) (sym read_is ∙ q)) ∙ ap (side_from k h) (sym (part_dot s 58 i e is p)) ∙ inv)
      (λ p. sym (side_not k h (before 58 (drop i s)) [] (sym read_is ∙ q)) ∙ ap (side_from k h) (sym (part_last s 58 i e is p)) ∙ inv)

  module _ (g : ℕ) (q : y ≡ Some g) (a : Halves) (pa : a ≡ pushed h g) where
    pub side_more : e < length s → side_from (k + 1) a (split_on 58 (drop (e + 1) s)) ≡ x
    side_more p =
        rw pa
        (sym (side_good k h (before 58 (drop i s)) (split_on 58 (drop (e + 1) s)) g (sym read_is ∙ q)) ∙ ap (side_from k h) (sym (part_dot s 58 i e is p)) ∙ inv)

    pub side_end : length s ≤ e → side (k + 1) a ≡ x
    side_end p =
        rw pa
        (sym (side_none (k + 1) (pushed h g)) ∙ sym (side_good k h (before 58 (drop i s)) [] g (sym read_is ∙ q)) ∙ ap (side_from k h) (sym (part_last s 58 i e is p)) ∙ inv)

pub ruleset side_read = (side_empty, side_start, side_bad, side_more, side_end)

-- what an answer says of the groups
pub told_groups : (k : ℕ) (h : Halves) (a : Side) (ps : List (List ℕ)) (y : Option Side) → y ≡ side_from k h ps → y ≡ Some a
    → (all_parts is_group ps ≡ true) × (a.count ≡ k + length ps) × (a.halves ≡ push_all h (map group_value ps))
unfolding side_from
told_groups k h a ps y e q = go (all_parts is_group ps) (sym e ∙ q)
  where
    go : (t : Bool) → cond t (side (k + length ps) (push_all h (map group_value ps))) None ≡ Some a
        → (t ≡ true) × (a.count ≡ k + length ps) × (a.halves ≡ push_all h (map group_value ps))
    go true q =
        let m : (let u : Side = record { count = k + length ps; halves = push_all h (map group_value ps) } in u) ≡ a = cc in
        (refl, sym (ap (λ (u : Side). u.count) m), sym (ap (λ (u : Side). u.halves) m))
    go false q = let z : ◌≡◌ {A = ℕ} 0 1 = cc in absurd (omega arith)

pub told_none : (k : ℕ) (h : Halves) (ps : List (List ℕ)) (y : Option Side) → y ≡ side_from k h ps → y ≡ None → all_parts is_group ps ≡ false
unfolding side_from
told_none k h ps y e q = go (all_parts is_group ps) (sym e ∙ q)
  where
    go : (t : Bool) → cond t (side (k + length ps) (push_all h (map group_value ps))) None ≡ None → t ≡ false
    go true q = let z : ◌≡◌ {A = ℕ} 0 1 = cc in absurd (omega arith)
    go false q = refl
