-- Laws of `full`, `gapped` and `read_v6`, one for each way that the code can go: what the sides were read as gives each test of the definition its value.
-- Assumes nothing.
use Prim.Native.Nat.{ℕ, ◌+◌, ◌-◌, ◌≤◌, ◌<◌}
use mathlib.Core.Path.{◌≡◌, sym, ap, ◌∙◌}
use mathlib.Core.Bool.{true, true≢false}
use mathlib.Core.List.{List, ◌++◌, map}
use lib.ListN.{length, take, drop, replicate, length-append, length-replicate, length-map, length-drop}
use lib.Seq.{take_all}
use native.Mathlib.Omega.{arith}
use borrow.Author.Tests.{le-leb, lt-leb, eq-eqb, ne_eqb}
use Rattle.std.specs.declared.option.Option.{Option}
use Rattle.std.specs.declared.option.Option.TheVariants.{Some, None}
use Rattle.address.specs.declared.Address.{Address}
use Rattle.address.specs.declared.Address.TheVariants.{V6}
use Rattle.address.specs.declared.ipv6.Halves.{Halves}
use Rattle.address.specs.declared.ipv6.Side.{Side}
use Rattle.address.specs.Kinds.{if_unicast}
use Rattle.address.specs.Parts.{all_parts, in_base}
use Rattle.address.specs.Ipv6.{is_group, group_value, parts_of, if_unicast_groups, full, before_gap, after_gap, filled, gapped, read_v6}
use Rattle.address.specs.Private.{push_all, side_from, gap_at}
use Rattle.address.proofs.GapLaws.{gap_room, take_gap, has_gap_lem, gap_none, gap_some}
use Rattle.address.proofs.SideLaws.{told_groups, told_none}
use Rattle.address.proofs.PartLaws.{Below, below_append, below_zeros, below_values}
use Rattle.address.proofs.GroupLaws.{group_small}
use Rattle.address.proofs.HalvesLaws.{halves_of, push_all_number, push_append}

-- the values of groups
pub groups_below : (ps : List (List ℕ)) → all_parts is_group ps ≡ true → Below 65536 (map group_value ps)
groups_below ps e = below_values 65536 is_group group_value group_small ps e

pub filled_below : (ls rs : List (List ℕ)) → all_parts is_group ls ≡ true → all_parts is_group rs ≡ true → Below 65536 (filled ls rs)
unfolding filled
filled_below ls rs p q =
    below_append 65536 (map group_value ls) _ (groups_below ls p)
    (below_append 65536 _ (map group_value rs) (below_zeros 65536 (8 - (length ls + length rs)) (omega arith)) (groups_below rs q))

pub length_filled : (ls rs : List (List ℕ)) → length ls + length rs ≤ 7 → length (filled ls rs) ≡ 8
unfolding filled
length_filled ls rs h = simp (length-append, length-replicate, length-map) (omega arith)

-- eight groups, shifted in one after the other, are the address that they stand for
groups_read : (gs : List ℕ) (d : Halves) → Below 65536 gs → length gs ≡ 8 → d ≡ push_all (record { high = 0; low = 0 }) gs → if_unicast (V6 d.high d.low) ≡ if_unicast_groups gs
unfolding if_unicast_groups halves_of
groups_read gs d s h e =
    let p : d ≡ halves_of (in_base 65536 0 gs) = e ∙ push_all_number gs 0 0 s (omega arith) (omega arith) in
    rw p

-- `read_full`: y is what `read_side` answered
module _ (s : List ℕ) (y : Option Side) (r : y ≡ side_from 0 (record { high = 0; low = 0 }) (parts_of s)) where
  pub full_bad : y ≡ None → None ≡ full (parts_of s)
  unfolding full
  full_bad q = rw (told_none 0 _ (parts_of s) y r q)

  module _ (a : Side) (q : y ≡ Some a) where
    pub full_count : (a.count ≡ 8 → ⊥) → None ≡ full (parts_of s)
    unfolding full
    full_count h =
        let (p, m, e) = told_groups 0 _ a (parts_of s) y r q in
        rw (p, ne_eqb (length (parts_of s)) 8 (λ z. h (omega arith)))

    pub full_read : (t : Option Address) → a.count ≡ 8 → t ≡ if_unicast (V6 a.halves.high a.halves.low) → t ≡ full (parts_of s)
    unfolding full
    full_read t h k =
        let (p, m, e) = told_groups 0 _ a (parts_of s) y r q in
        let f : length (parts_of s) ≡ 8 = omega arith in
        rw (p, eq-eqb (length (parts_of s)) 8 f)
        (k ∙ groups_read (map group_value (parts_of s)) a.halves (groups_below (parts_of s) p) (length-map (parts_of s) group_value ∙ f) e)

-- `read_gapped`: the left side, the right side, and the right side again after the zeros
module _ (ls rs : List (List ℕ)) (y : Option Side) (r : y ≡ side_from 0 (record { high = 0; low = 0 }) ls) where
  pub left_bad : y ≡ None → None ≡ gapped ls rs
  unfolding gapped
  left_bad q = rw (told_none 0 _ ls y r q)

  module _ (a : Side) (q : y ≡ Some a) (y₂ : Option Side) (r₂ : y₂ ≡ side_from 0 (record { high = 0; low = 0 }) rs) where
    pub right_bad : y₂ ≡ None → None ≡ gapped ls rs
    unfolding gapped
    right_bad q₂ =
        let (p, m, e) = told_groups 0 _ a ls y r q in
        rw (p, told_none 0 _ rs y₂ r₂ q₂)

    module _ (a₂ : Side) (q₂ : y₂ ≡ Some a₂) where
      many : 7 < a.count + a₂.count → None ≡ gapped ls rs
      unfolding gapped
      many h =
          let (p, m, e) = told_groups 0 _ a ls y r q in
          let (p₂, m₂, e₂) = told_groups 0 _ a₂ rs y₂ r₂ q₂ in
          rw (p, p₂, lt-leb (length ls + length rs) 7 (omega arith))

      pub many_left : 7 < a.count → None ≡ gapped ls rs
      many_left h = many (omega arith)

      pub many_both : a.count ≤ 7 → 7 - a.count < a₂.count → None ≡ gapped ls rs
      many_both h k = many (omega arith)

      module _ (h : a.count ≤ 7) (k : a₂.count ≤ 7 - a.count) (b : Halves) (rb : b ≡ push_all a.halves (replicate (8 - (a.count + a₂.count)) 0)) (y₃ : Option Side) (r₃ : y₃ ≡ side_from 0 b rs) where
        pub again_bad : y₃ ≡ None → None ≡ gapped ls rs
        again_bad q₃ =
            let (p₂, m₂, e₂) = told_groups 0 _ a₂ rs y₂ r₂ q₂ in
            absurd (true≢false (sym p₂ ∙ told_none 0 _ rs y₃ r₃ q₃))

        pub gapped_read : (c : Side) (t : Option Address) → y₃ ≡ Some c → t ≡ if_unicast (V6 c.halves.high c.halves.low) → t ≡ gapped ls rs
        unfolding gapped filled
        gapped_read c t q₃ f =
            let (p, m, e) = told_groups 0 _ a ls y r q in
            let (p₂, m₂, e₂) = told_groups 0 _ a₂ rs y₂ r₂ q₂ in
            let (p₃, m₃, e₃) = told_groups 0 b c rs y₃ r₃ q₃ in
            let el : a.count ≡ length ls = omega arith in
            let en : a₂.count ≡ length rs = omega arith in
            let all : c.halves ≡ push_all (record { high = 0; low = 0 }) (filled ls rs) =
            e₃ ∙ ap (λ (x : Halves). push_all x (map group_value rs)) (rb ∙ rw (el, en, e))
            ∙ sym (push_append _ (map group_value ls) (replicate (8 - (length ls + length rs)) 0 ++ map group_value rs) ∙ push_append _ (replicate (8 - (length ls + length rs)) 0) (map group_value rs)) in
            rw (p, p₂, le-leb (length ls + length rs) 7 (omega arith))
            (f ∙ groups_read (filled ls rs) c.halves (filled_below ls rs p p₂) (length_filled ls rs (omega arith)) all)

-- `read_ipv6`: y is what `find_gap` answered
module _ (s : List ℕ) (y : Option ℕ) (r : y ≡ gap_at s) where
  pub is_full : (t : Option Address) → y ≡ None → t ≡ full (parts_of s) → t ≡ read_v6 s
  unfolding read_v6
  is_full t q k = rw (gap_none s (sym r ∙ q)) k

  module _ (g : ℕ) (q : y ≡ Some g) where
    pub gap_fits : g + 2 ≤ length s
    gap_fits = let (e, h) = gap_some s g (sym r ∙ q) in let k = gap_room s h in omega arith

    pub is_gapped : (t : Option Address) → t ≡ gapped (parts_of (take (g - 0) (drop 0 s))) (parts_of (take (length s - (g + 2)) (drop (g + 2) s))) → t ≡ read_v6 s
    unfolding read_v6 after_gap
    is_gapped t k =
        let (e, h) = gap_some s g (sym r ∙ q) in
        let a : take (g - 0) (drop 0 s) ≡ before_gap s =
        let z : g - 0 ≡ length (before_gap s) = omega arith in
        rw z (take_gap s) in
        let b : take (length s - (g + 2)) (drop (g + 2) s) ≡ drop (length (before_gap s) + 2) s =
        take_all (length s - (g + 2)) (drop (g + 2) s) (omega (arith, length-drop (g + 2) s)) ∙ ap (λ (x : ℕ). drop (x + 2) s) e in
        rw (has_gap_lem s h) (k ∙ rw (a, b))
