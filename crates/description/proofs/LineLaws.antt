-- Laws of the lines: what the code found of a line's tokens tells whether it is right, and what it makes of the draft.
-- Assumes nothing.
use Prim.Native.Nat.{ℕ, ◌+◌, ◌<◌, min}
use mathlib.Core.Path.{◌≡◌, sym, ◌∙◌}
use mathlib.Core.List.{List}
use mathlib.Core.Bool.{Bool, true, false}
use lib.ListN.{length, get_or}
use lib.Dec.{eqb, ltb}
use native.Mathlib.Omega.{arith}
use borrow.Author.Tests.{eq-eqb, ne_eqb}
use Rattle.std.specs.Prelude.{Option, Some, None}
use Rattle.octets.specs.declared.Span.{Span}
use Rattle.octets.specs.Spans.{text_of}
use Rattle.octets.specs.Split.{has, Found}
use Rattle.octets.proofs.SplitLaws.{found_first, has_ltb}
use Rattle.octets.specs.Words.{same, digit_run}
use Rattle.texts.specs.Tokens.{token, tokens_of}
use Rattle.texts.specs.Meaning.{cut_in}
use Rattle.texts.proofs.CutLaws.{cut_isnt, cut_count, cut_token}
use Rattle.address.specs.declared.Address.{Address}
use Rattle.address.specs.Kinds.{on_address}
use Rattle.description.specs.declared.Preamble.{Preamble}
use Rattle.description.specs.Draft.{needed, reached, in_word, ip4_word, ip6_word, is_origin, address_of, connection_of, with_address, connection_line, is_time}
use Rattle.description.specs.Meaning.{preamble_by, preamble_in}

-- ---- `o=` and `c=`, whose tokens are a network, a family and more
-- t is the test of the network, whose text is x
module _ (v : List ℕ) (y : Option (List Span)) (is : cut_in v y ≡ tokens_of 6 v) where
  pub origin_few : y ≡ None → false ≡ is_origin v
  unfolding is_origin
  origin_few e = rw (cut_isnt 6 v y is e)

  module _ (xs : List Span) (q : y ≡ Some xs) (x : List ℕ) (fourth : x ≡ text_of v (get_or xs 3 (record { at = 0; len = 0 }))) (t : Bool) (word : t ≡ same in_word x) where
    origin_net : (c : Bool) → t ≡ c → same in_word (token 3 v) ≡ c
    origin_net c e = rw (cut_token 6 v y is xs q 3 (omega arith), ← fourth) (sym word ∙ e)

    pub origin_other : t ≡ false → false ≡ is_origin v
    unfolding is_origin
    origin_other e = rw (cut_count 6 v y is xs q, origin_net false e)

    module _ (yes : t ≡ true) (f : List ℕ) (fifth : f ≡ text_of v (get_or xs 4 (record { at = 0; len = 0 }))) (u : Bool) (four : u ≡ same ip4_word f) where
      family : token 4 v ≡ f
      family = cut_token 6 v y is xs q 4 (omega arith) ∙ sym fifth

      pub origin_four : u ≡ true → true ≡ is_origin v
      unfolding is_origin
      origin_four e = rw (cut_count 6 v y is xs q, origin_net true yes, family, ← four, e)

      pub origin_six : u ≡ false → (w : Bool) → w ≡ same ip6_word f → w ≡ is_origin v
      unfolding is_origin
      origin_six e w p = rw (cut_count 6 v y is xs q, origin_net true yes, family, ← four, e) p

pub ruleset origins = (origin_few, origin_other, origin_four, origin_six)

module _ (v : List ℕ) (y : Option (List Span)) (is : cut_in v y ≡ tokens_of 3 v) (p : Option Address) where
  pub connection_few : y ≡ None → p ≡ None → p ≡ connection_of v
  unfolding connection_of
  connection_few e h = rw (cut_isnt 3 v y is e, h)

  module _ (xs : List Span) (q : y ≡ Some xs) (x : List ℕ) (first : x ≡ text_of v (get_or xs 0 (record { at = 0; len = 0 }))) (t : Bool) (word : t ≡ same in_word x) where
    connection_net : (c : Bool) → t ≡ c → same in_word (token 0 v) ≡ c
    connection_net c e = rw (cut_token 3 v y is xs q 0 (omega arith), ← first) (sym word ∙ e)

    pub connection_other : t ≡ false → p ≡ None → p ≡ connection_of v
    unfolding connection_of
    connection_other e h = rw (cut_count 3 v y is xs q, connection_net false e, h)

    pub connection_is : t ≡ true → (f : List ℕ) → f ≡ text_of v (get_or xs 1 (record { at = 0; len = 0 })) → (g : List ℕ) → g ≡ text_of v (get_or xs 2 (record { at = 0; len = 0 })) → p ≡ address_of f g → p ≡ connection_of v
    unfolding connection_of
    connection_is h f second g third z =
        let k = cut_token 3 v y is xs q 1 (omega arith) in
        let l = cut_token 3 v y is xs q 2 (omega arith) in
        rw (cut_count 3 v y is xs q, connection_net true h, k, l, ← second, ← third) z

pub ruleset connections = (connection_few, connection_other, connection_is)

-- ---- `t=`
module _ (v : List ℕ) (y : Option (List Span)) (is : cut_in v y ≡ tokens_of 2 v) where
  pub time_few : y ≡ None → false ≡ is_time v
  unfolding is_time
  time_few e = rw (cut_isnt 2 v y is e)

  module _ (xs : List Span) (q : y ≡ Some xs) (x : List ℕ) (first : x ≡ text_of v (get_or xs 0 (record { at = 0; len = 0 }))) (t : Bool) (digits : t ≡ digit_run x) where
    run : (c : Bool) → t ≡ c → digit_run (token 0 v) ≡ c
    run c e = rw (cut_token 2 v y is xs q 0 (omega arith), ← first) (sym digits ∙ e)

    pub time_no : t ≡ false → false ≡ is_time v
    unfolding is_time
    time_no e = rw (cut_count 2 v y is xs q, run false e)

    pub time_is : t ≡ true → (r : List ℕ) → r ≡ text_of v (get_or xs 1 (record { at = 0; len = 0 })) → (w : Bool) → w ≡ digit_run r → w ≡ is_time v
    unfolding is_time
    time_is e r p w z = let k = cut_token 2 v y is xs q 1 (omega arith) in rw (cut_count 2 v y is xs q, run true e, k, ← p) z

pub ruleset times = (time_few, time_no, time_is)

-- ---- a needed line after n others
module _ (o : Preamble) (n : ℕ) (low : n < 5) (right : Bool) where
  pub needed_off : (o.had ≡ n → ⊥) → preamble_in None ≡ needed n right (preamble_by o)
  unfolding preamble_in preamble_by needed
  needed_off h = rw (ne_eqb (min o.had 5) n (λ e. h (omega arith)))

  module _ (at : o.had ≡ n) where
    in_place : eqb (min o.had 5) n ≡ true
    in_place = eq-eqb (min o.had 5) n (omega arith)

    pub needed_wrong : right ≡ false → preamble_in None ≡ needed n right (preamble_by o)
    unfolding preamble_in preamble_by needed
    needed_wrong e = rw (in_place, e)

    pub needed_right : right ≡ true → preamble_in (Some (record { had = n + 1; address = o.address })) ≡ needed n right (preamble_by o)
    unfolding preamble_in preamble_by needed reached
    needed_right e = let z : min (n + 1) 5 ≡ n + 1 = omega arith in rw (in_place, e, z)

pub ruleset neededs = (needed_off, needed_wrong, needed_right)

-- ---- `c=` after three others
module _ (o : Preamble) (v : List ℕ) where
  pub connection_off : (o.had ≡ 3 → ⊥) → preamble_in None ≡ connection_line (preamble_by o) v
  unfolding preamble_in preamble_by connection_line
  connection_off h = rw (ne_eqb (min o.had 5) 3 (λ e. h (omega arith)))

  module _ (at : o.had ≡ 3) (y : Option Address) (is : y ≡ connection_of v) where
    behind_three : eqb (min o.had 5) 3 ≡ true
    behind_three = eq-eqb (min o.had 5) 3 (omega arith)

    pub connection_unread : (x : Option Preamble) → y ≡ None → x ≡ None → preamble_in x ≡ connection_line (preamble_by o) v
    unfolding preamble_in preamble_by connection_line on_address
    connection_unread x e h = rw (behind_three, ← is, e, h)

    pub connection_read : (a : Address) → y ≡ Some a → preamble_in (Some (record { had = 4; address = a })) ≡ connection_line (preamble_by o) v
    unfolding preamble_in preamble_by connection_line on_address with_address
    connection_read a e = rw (behind_three, ← is, e)

pub ruleset connection_lines = (connection_off, connection_unread, connection_read)

-- ---- letters that are skipped
pub found_has : (s : List ℕ) (c e : ℕ) → Found s c 0 e → (t : Bool) → t ≡ ltb e (length s) → t ≡ has c s
found_has s c e f t p = p ∙ rw (found_first s c e f) (sym (has_ltb c s))
