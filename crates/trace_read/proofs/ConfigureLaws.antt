-- Laws of what a `G` line configures: a number that does not fit in an octet is above every valid one, so the line gives none either way.
-- Assumes nothing.
use Prim.Native.Nat.{ℕ, ◌≤◌, ◌<◌}
use mathlib.Core.Path.{◌≡◌, refl, sym, ◌∙◌}
use mathlib.Core.List.{List}
use mathlib.Core.Bool.{Bool, true, false, cond, and-false}
use mathlib.Core.Option.{Option, none}
use lib.ListN.{length}
use lib.Dec.{eqb, leb}
use native.Mathlib.Omega.{arith}
use borrow.Author.Tests.{le-leb, lt-leb, eq-eqb, ne_eqb}
use Rattle.std.specs.Prelude as code
use Rattle.std.specs.Prelude.{Some, None, IfSome}
use Rattle.std.specs.Bool.{then_some}
use Rattle.octets.specs.Decimal.{read_number, on_number}
use Rattle.octets.specs.Text.{tab}
use Rattle.trace_read.specs.Words.{general_word}
use Rattle.octets.specs.Split.{split_on, part_at, separators_of}
use Rattle.octets.specs.Words.{same}
use Rattle.octets.proofs.CaseLaws.{by_le}
use Rattle.address.specs.declared.Address.{Address}
use Rattle.address.specs.Kinds.{on_address}
use Rattle.address.specs.Ipv4.{read_v4}
use Rattle.address.specs.Ipv6.{read_v6}
use Rattle.configuration.specs.declared.Codec.{Codec as Place}
use Rattle.configuration.specs.declared.Config.{Config}
use Rattle.configuration.specs.Configuration.{Configuration, right_times, right_general}
use Rattle.configuration.specs.Meaning.{codecs_by, configuration_by, all_formats_inside, config_inside}
use Rattle.trace_read.specs.Configuring.{either_family, general, usable, general_fields, general_of}
use Rattle.trace_read.specs.Meaning.{configured_by, Configures}
use Rattle.trace_read.specs.Private.{small_of, small_fields}
use Rattle.trace_read.proofs.FieldLaws.{fields_are}

-- r is none, and so is x
pub failed : (b : Bool) (x : Option Configuration) (r : code.Option Config) → r ≡ None → none ≡ x → Configures b x r
unfolding configured_by
failed b x r q e = rw q (record { is = e; inside = λ h. tt })

-- what was read as y is x
pub same_configured : (b : Bool) (x y : Option Configuration) (r : code.Option Config) → Configures b y r → y ≡ x → Configures b x r
same_configured b x y r f e = record { is = f.is ∙ e; inside = f.inside }

-- ---- a number that fits in an octet
module _ (t : List ℕ) (x : code.Option ℕ) (e : x ≡ read_number t) where
  pub small_bad : x ≡ None → None ≡ small_of t
  unfolding small_of on_number
  small_bad q = rw (← e, q)

  pub small_large : (n : ℕ) → x ≡ Some n → 255 < n → None ≡ small_of t
  unfolding small_of on_number
  small_large n q h = rw (← e, q, lt-leb n 255 h)

  pub small_value : (n : ℕ) → x ≡ Some n → n ≤ 255 → Some n ≡ small_of t
  unfolding small_of on_number
  small_value n q h = rw (← e, q, le-leb n 255 h)

pub ruleset smalls = (small_bad, small_large, small_value)

-- ---- an address
module _ (s : List ℕ) (x : code.Option Address) (e : x ≡ read_v4 s) where
  pub host_first : (a : Address) → x ≡ Some a → Some a ≡ either_family s
  unfolding either_family on_address
  host_first a q = rw (← e, q)

  pub host_second : (y : code.Option Address) → x ≡ None → y ≡ read_v6 s → y ≡ either_family s
  unfolding either_family on_address
  host_second y q r = rw (← e, q) r

pub ruleset hosts = (host_first, host_second)

-- ---- a configuration with no codec yet
pub general_is : (own : Address) (port least most t1 t2 : ℕ) (ks : List Place) (t : Bool) (r : code.Option Config)
    → t ≡ right_general (configuration_by (record { own = own; port = port; least = least; most = most; t1 = t1; t2 = t2; count = 0; codecs = ks }))
    → r ≡ then_some t (record { own = own; port = port; least = least; most = most; t1 = t1; t2 = t2; count = 0; codecs = ks })
    → Configures true (usable (general own port least most t1 t2)) r
unfolding configured_by usable general configuration_by codecs_by config_inside all_formats_inside
general_is own port least most t1 t2 ks true r e q = rw q (record { is = rw (← e); inside = λ h. refl })
general_is own port least most t1 t2 ks false r e q = rw q (record { is = rw (← e); inside = λ h. tt })

-- ---- the numbers after the address and the port
module _ (own : Address) (port a b c d : ℕ) where
  not_right : right_general (general own port a b c d) ≡ false → usable (general own port a b c d) ≡ none
  unfolding usable
  not_right h = rw h

  not_times : right_times a b ≡ false → right_general (general own port a b c d) ≡ false
  unfolding right_general general
  not_times h = simp (h, and-false)

  not_t1 : 255 < c → right_general (general own port a b c d) ≡ false
  unfolding right_general general
  not_t1 h = simp (lt-leb c 30 (omega arith), and-false)

  not_t2 : 255 < d → right_general (general own port a b c d) ≡ false
  unfolding right_general general
  not_t2 h = simp (lt-leb d 30 (omega arith), and-false)

large_most : (a b : ℕ) → 255 < b → right_times a b ≡ false
unfolding right_times
large_most a b h = simp (lt-leb b 255 h, and-false)

large_least : (a b : ℕ) → 255 < a → right_times a b ≡ false
unfolding right_times
large_least a b h = by_le b 255 _ (λ k. simp (lt-leb a b (omega arith), and-false)) (λ k. simp (lt-leb b 255 k, and-false))

-- a number that does not fit in an octet is treated like no number
small_step : {X : Type 0} (t : List ℕ) (f g : ℕ → X) (bad : X) → ((n : ℕ) → 255 < n → f n ≡ bad) → ((n : ℕ) → f n ≡ g n)
    → on_number (read_number t) f bad ≡ on_number (small_of t) g bad
unfolding small_of on_number
small_step t f g bad h k = by_number (read_number t)
  where
    by_number : (x : code.Option ℕ) → on_number x f bad ≡ on_number (on_number x (λ n. cond (leb n 255) (Some n) None) None) g bad
    by_number (Some n) = by_le n 255 _ (λ l. rw (le-leb n 255 l) (k n)) (λ l. rw (lt-leb n 255 l) (h n l))
    by_number None = refl

rest_bad : {X : Type 0} (x : code.Option ℕ) (f : ℕ → X) (bad : X) → ((n : ℕ) → f n ≡ bad) → on_number x f bad ≡ bad
unfolding on_number
rest_bad (Some n) f bad h = h n
rest_bad None f bad h = refl

-- ---- the fields
module _ (own : Address) (port : ℕ) (ps : List (List ℕ)) where
  times_small : on_number (read_number (part_at 3 ps)) (λ a. on_number (read_number (part_at 4 ps)) (λ b. on_number (read_number (part_at 5 ps)) (λ c.
      on_number (read_number (part_at 6 ps)) (λ d. usable (general own port a b c d)) none) none) none) none
      ≡ on_number (small_of (part_at 3 ps)) (λ a. on_number (small_of (part_at 4 ps)) (λ b. on_number (small_of (part_at 5 ps)) (λ c.
      on_number (small_of (part_at 6 ps)) (λ d. usable (general own port a b c d)) none) none) none) none
  times_small =
      small_step (part_at 3 ps) _ _ none
      (λ a h. rest_bad (read_number (part_at 4 ps)) _ none
      (λ b. rest_bad (read_number (part_at 5 ps)) _ none
      (λ c. rest_bad (read_number (part_at 6 ps)) _ none (λ d. not_right own port a b c d (not_times own port a b c d (large_least a b h))))))
      (λ a. small_step (part_at 4 ps) _ _ none
      (λ b h. rest_bad (read_number (part_at 5 ps)) _ none
      (λ c. rest_bad (read_number (part_at 6 ps)) _ none (λ d. not_right own port a b c d (not_times own port a b c d (large_most a b h)))))
      (λ b. small_step (part_at 5 ps) _ _ none
      (λ c h. rest_bad (read_number (part_at 6 ps)) _ none (λ d. not_right own port a b c d (not_t1 own port a b c d h)))
      (λ c. small_step (part_at 6 ps) _ _ none (λ d h. not_right own port a b c d (not_t2 own port a b c d h)) (λ d. refl))))

pub fields_small : (ps : List (List ℕ)) → small_fields ps ≡ general_fields ps
unfolding small_fields general_fields on_address on_number
fields_small ps = by_both (either_family (part_at 1 ps)) (read_number (part_at 2 ps)) _ _ (λ own port. sym (times_small own port ps))
  where
    by_both : {X : Type 0} (x : code.Option Address) (y : code.Option ℕ) (f g : Address → ℕ → Option X) → ((a : Address) (n : ℕ) → f a n ≡ g a n)
        → on_address x (λ a. on_number y (λ n. f a n) none) none ≡ on_address x (λ a. on_number y (λ n. g a n) none) none
    by_both (Some a) (Some n) f g h = h a n
    by_both (Some a) None f g h = refl
    by_both None y f g h = refl

-- ---- the line
module _ (s : List ℕ) (r : code.Option Config) where
  pub general_few : (n : ℕ) → n ≡ separators_of tab s → (n ≡ 6 → ⊥) → r ≡ None → Configures true (general_of (split_on tab s)) r
  unfolding general_of
  general_few n c k f = let l = fields_are s n c in failed true _ r f (rw (ne_eqb (length (split_on tab s)) 7 (λ e. k (omega arith))))

  module _ (p : List ℕ) (t : Bool) (e : p ≡ part_at 0 (split_on tab s)) (g : t ≡ same general_word p) where
    pub general_other : t ≡ false → r ≡ None → Configures true (general_of (split_on tab s)) r
    unfolding general_of
    general_other q f = failed true _ r f (rw (← e, ← g, q, and-false (eqb (length (split_on tab s)) 7)))

    pub general_line : (n : ℕ) → n ≡ separators_of tab s → n ≡ 6 → t ≡ true → Configures true (general_fields (split_on tab s)) r → Configures true (general_of (split_on tab s)) r
    unfolding general_of
    general_line n c k q f = let l = fields_are s n c in same_configured true _ _ r f (rw (← e, ← g, q, eq-eqb (length (split_on tab s)) 7 (omega arith)))

pub ruleset generals = (general_few, general_other, general_line)
