-- Laws of the event that a line names: the first field and how many there are decide, and no digit of a message is a tab.
-- Assumes nothing.
use Prim.Native.Nat.{ℕ, ◌%◌, ◌≤◌, ◌<◌}
use mathlib.Core.Path.{◌≡◌, refl, sym, ◌∙◌}
use mathlib.Core.List.{List, [], ◌∷◌}
use mathlib.Core.Bool.{Bool, true, false, ◌&&◌, cond, and-eq-true_iff}
use mathlib.Core.Option.{Option, none, some}
use lib.ListN.{length, drop}
use lib.Dec.{eqb}
use native.Mathlib.Omega.{arith}
use borrow.Author.Tests.{lt-ltb, le-ltb, eq-eqb, ne_eqb, eqb-true}
use Rattle.std.specs.Prelude as code
use Rattle.std.specs.Prelude.{Some, None}
use Rattle.octets.specs.Decimal.{read_number, on_number}
use Rattle.octets.specs.Hex.{is_hex_digit, all_hex, is_hex}
use Rattle.octets.specs.Text.{char, tab}
use Rattle.octets.specs.Split.{has, before, on_first, split_on, part_at, separators_of}
use Rattle.octets.specs.Words.{begins, same}
use Rattle.octets.proofs.CaseLaws.{by_eq, by_bool}
use Rattle.octets.proofs.SplitLaws.{split_some, split_dot, has_before, split_whole}
use Rattle.endpoint.specs.declared.Event as value
use Rattle.endpoint.specs.declared.Event.TheVariants.{SetUp, Change, Release, T1, T2}
use Rattle.endpoint.specs.Rule.{Event, set_up, change}
use Rattle.trace_read.specs.declared.Asked.{Asked}
use Rattle.trace_read.specs.declared.Asked.TheVariants.{Event as Named, Digits}
use Rattle.trace_read.specs.Events.{bare_of, message_of, command_numbers, command_of, fields_event, line_event, message_by}
use Rattle.trace_read.specs.Meaning.{named_by, asked_by, Asks}
use Rattle.trace_read.specs.Words.{most_line, set_up_word, change_word, release_word, t1_word, t2_word, message_word}
use Rattle.trace_read.proofs.FieldLaws.{fields_are}

-- true is not false
never : {X : Type 0} → true ≡ false → X
never e = let z : ◌≡◌ {A = ℕ} 0 1 = cc in absurd (omega arith)

-- ---- a command
module _ (ps : List (List ℕ)) where
  no_command : (r : code.Option value.Event) → r ≡ None → ((f : ℕ → ℕ → ℕ → Event) → command_numbers f ps ≡ none) → named_by r ≡ command_of ps
  unfolding command_of named_by
  no_command r q h = rw (q, h set_up, h change) (go (same set_up_word (part_at 0 ps)) (same change_word (part_at 0 ps)))
    where
      go : (t u : Bool) → ◌≡◌ {A = Option Event} none (cond t none (cond u none none))
      go true u = refl
      go false true = refl
      go false false = refl

  pub command_entry : (r : code.Option value.Event) → r ≡ None → None ≡ read_number (part_at 1 ps) → named_by r ≡ command_of ps
  unfolding command_numbers on_number
  command_entry r q x = no_command r q (λ f. rw (← x))

  module _ (a : ℕ) (x : Some a ≡ read_number (part_at 1 ps)) where
    pub command_payload : (r : code.Option value.Event) → r ≡ None → None ≡ read_number (part_at 2 ps) → named_by r ≡ command_of ps
    unfolding command_numbers on_number
    command_payload r q y = no_command r q (λ f. rw (← x, ← y))

    module _ (b : ℕ) (y : Some b ≡ read_number (part_at 2 ps)) where
      pub command_ptime : (r : code.Option value.Event) → r ≡ None → None ≡ read_number (part_at 3 ps) → named_by r ≡ command_of ps
      unfolding command_numbers on_number
      command_ptime r q z = no_command r q (λ f. rw (← x, ← y, ← z))

      module _ (d : ℕ) (z : Some d ≡ read_number (part_at 3 ps)) (p : List ℕ) (e : p ≡ part_at 0 ps) (t : Bool) (r : t ≡ same set_up_word p) where
        numbers_are : (f : ℕ → ℕ → ℕ → Event) → command_numbers f ps ≡ some (f a b d)
        unfolding command_numbers on_number
        numbers_are f = rw (← x, ← y, ← z)

        pub command_set_up : t ≡ true → named_by (Some (SetUp a b d)) ≡ command_of ps
        unfolding command_of named_by
        command_set_up q = rw (← e, ← r, q, numbers_are set_up)

        module _ (u : Bool) (k : u ≡ same change_word p) (q : t ≡ false) where
          pub command_change : u ≡ true → named_by (Some (Change a b d)) ≡ command_of ps
          unfolding command_of named_by
          command_change v = rw (← e, ← r, q, ← k, v, numbers_are change)

          pub command_none : u ≡ false → named_by None ≡ command_of ps
          unfolding command_of named_by
          command_none v = rw (← e, ← r, q, ← k, v)

pub ruleset commands = (command_entry, command_payload, command_ptime, command_set_up, command_change, command_none)

-- ---- one field; the word is p
module _ (p : List ℕ) (ps : List (List ℕ)) (e : p ≡ part_at 0 ps) (t : Bool) (r : t ≡ same release_word p) where
  pub bare_release : t ≡ true → named_by (Some Release) ≡ bare_of ps
  unfolding bare_of named_by
  bare_release q = rw (← e, ← r, q)

  module _ (u : Bool) (k : u ≡ same t1_word p) (q : t ≡ false) where
    pub bare_t1 : u ≡ true → named_by (Some T1) ≡ bare_of ps
    unfolding bare_of named_by
    bare_t1 v = rw (← e, ← r, q, ← k, v)

    module _ (w : Bool) (l : w ≡ same t2_word p) (v : u ≡ false) where
      pub bare_t2 : w ≡ true → named_by (Some T2) ≡ bare_of ps
      unfolding bare_of named_by
      bare_t2 o = rw (← e, ← r, q, ← k, v, ← l, o)

      pub bare_none : w ≡ false → named_by None ≡ bare_of ps
      unfolding bare_of named_by
      bare_none o = rw (← e, ← r, q, ← k, v, ← l, o)

pub ruleset words = (bare_release, bare_t1, bare_t2, bare_none)

-- ---- a line that begins with `M` and a tab
message_fields : (s : List ℕ) → begins (char "M" ∷ tab ∷ []) s ≡ true → split_on tab s ≡ message_word ∷ split_on tab (drop 2 s)
unfolding begins split_on on_first
message_fields [] h = never (sym h)
message_fields (a ∷ []) h = never (sym ((and-eq-true_iff (eqb a (char "M")) false).0 h).1)
message_fields (a ∷ b ∷ s) h =
    let (p, q) = (and-eq-true_iff (eqb a (char "M")) (eqb b tab && true)).0 h in
    let x : a ≡ char "M" = eqb-true a (char "M") p in
    let y : b ≡ tab = eqb-true b tab ((and-eq-true_iff (eqb b tab) true).0 q).0 in
    rw (x, y)

-- digits are not tabs
hex_whole : (t : List ℕ) → all_hex t ≡ true → split_on tab t ≡ t ∷ []
unfolding all_hex is_hex_digit split_on on_first
hex_whole [] h = refl
hex_whole (b ∷ bs) h =
    let (p, q) = (and-eq-true_iff (is_hex_digit b) (all_hex bs)).0 h in
    by_eq b tab _
    (λ e. let z : is_hex_digit tab ≡ true = rw e at p in never (sym z))
    (λ e. rw (ne_eqb b tab e, hex_whole bs q))

message_one : (t : List ℕ) → fields_event (message_word ∷ t ∷ []) ≡ message_by t
unfolding fields_event message_of same begins part_at
message_one t = refl

message_none : (t : List ℕ) → is_hex t ≡ false → message_by t ≡ none
unfolding message_by
message_none t h = rw h

-- more fields than any event has
event_many : (ps : List (List ℕ)) → 4 < length ps → fields_event ps ≡ none
unfolding fields_event
event_many ps h =
    rw (ne_eqb (length ps) 1 (λ e. omega arith), ne_eqb (length ps) 2 (λ e. omega arith), ne_eqb (length ps) 4 (λ e. omega arith))

-- three fields or more, of which the first is `M`
message_many : (t : List ℕ) (ps : List (List ℕ)) → 0 < length ps → fields_event (message_word ∷ t ∷ ps) ≡ none
unfolding fields_event command_of same begins part_at
message_many t [] h = absurd (omega arith)
message_many t (a ∷ []) h = refl
message_many t (a ∷ b ∷ []) h = refl
message_many t (a ∷ b ∷ c ∷ ps) h = event_many (message_word ∷ t ∷ a ∷ b ∷ c ∷ ps) (omega arith)

module _ (s : List ℕ) (b : begins (char "M" ∷ tab ∷ []) s ≡ true) where
  message_yes : is_hex (drop 2 s) ≡ true → message_by (drop 2 s) ≡ fields_event (split_on tab s)
  unfolding is_hex
  message_yes h =
      let p = drop 2 s in
      let a : all_hex p ≡ true = ((and-eq-true_iff (eqb (length p % 2) 0) (all_hex p)).0 h).1 in
      rw (message_fields s b, hex_whole p a) (sym (message_one p))

  message_no : is_hex (drop 2 s) ≡ false → message_by (drop 2 s) ≡ fields_event (split_on tab s)
  message_no h =
      let p = drop 2 s in
      rw (message_fields s b)
      (by_bool (has tab p) _
      (λ k. let l = has_before tab p k in rw (message_none p h, split_dot tab p l) (sym (message_many (before tab p) _ (split_some tab _))))
      (λ k. rw (split_whole tab p k) (sym (message_one p))))

  message_is : message_by (drop 2 s) ≡ fields_event (split_on tab s)
  message_is = by_bool (is_hex (drop 2 s)) _ message_yes message_no

-- ---- any other line
-- with two fields the first is another word
other_word : (s : List ℕ) → begins (char "M" ∷ tab ∷ []) s ≡ false → length (split_on tab s) ≡ 2 → same message_word (part_at 0 (split_on tab s)) ≡ false
unfolding begins same part_at split_on on_first
other_word [] b h = absurd (omega arith)
other_word (x ∷ []) b h = by_eq x tab _ (λ e. rw (eq-eqb x tab e)) (λ e. let z : 1 ≡ 2 = rw (ne_eqb x tab e) at h in absurd (omega arith))
other_word (x ∷ y ∷ s) b h =
    by_eq x tab _
    (λ e. rw (eq-eqb x tab e))
    (λ e. by_eq y tab _
    (λ f. by_eq x (char "M") _
    (λ g. let z : true ≡ false = rw (g, f) at b in never z)
    (λ g. rw (ne_eqb x tab e, eq-eqb y tab f, ne_eqb x (char "M") g)))
    (λ f. rw (ne_eqb x tab e, ne_eqb y tab f) (long_word x y (split_on tab s))))
  where
    long_word : (x y : ℕ) (ps : List (List ℕ)) → same message_word (part_at 0 (on_first x (on_first y ps))) ≡ false
    long_word x y [] = refl
    long_word x y (p ∷ ps) = rw (ne_eqb (length (x ∷ y ∷ p)) 1 (λ e. omega arith))

module _ (s : List ℕ) (n : ℕ) (c : n ≡ separators_of tab s) where
  pub other_bare : (x : code.Option value.Event) → n ≡ 0 → named_by x ≡ bare_of (split_on tab s) → named_by x ≡ fields_event (split_on tab s)
  unfolding fields_event
  other_bare x h r = rw (eq-eqb (length (split_on tab s)) 1 (omega (arith, fields_are s n c))) r

  pub other_command : (x : code.Option value.Event) → n ≡ 3 → named_by x ≡ command_of (split_on tab s) → named_by x ≡ fields_event (split_on tab s)
  unfolding fields_event
  other_command x h r =
      let l = fields_are s n c in
      rw (ne_eqb (length (split_on tab s)) 1 (λ e. omega arith), ne_eqb (length (split_on tab s)) 2 (λ e. omega arith), eq-eqb (length (split_on tab s)) 4 (omega arith)) r

  pub other_none : begins (char "M" ∷ tab ∷ []) s ≡ false → (n ≡ 0 → ⊥) → (n ≡ 3 → ⊥) → named_by None ≡ fields_event (split_on tab s)
  unfolding fields_event message_of named_by
  other_none b h k =
      let l = fields_are s n c in
      rw (ne_eqb (length (split_on tab s)) 1 (λ e. h (omega arith)), ne_eqb (length (split_on tab s)) 4 (λ e. k (omega arith)))
      (by_eq (length (split_on tab s)) 2 _
      (λ e. rw (eq-eqb (length (split_on tab s)) 2 e, other_word s b e))
      (λ e. rw (ne_eqb (length (split_on tab s)) 2 e)))

pub ruleset others = (other_bare, other_command, other_none)

-- ---- the line
not_digits : {X : Type 0} → ◌≡◌ {A = code.Option Asked} None (Some Digits) → X
not_digits e = let z : ◌≡◌ {A = ℕ} 0 1 = cc in absurd (omega arith)

module _ (s : List ℕ) where
  pub event_long : most_line ≤ length s → Asks s None
  unfolding line_event asked_by
  event_long h = record { is = rw (le-ltb (length s) most_line h); short = λ e. not_digits e }

  pub event_none : (r : code.Option Asked) → r ≡ None → length s < most_line → named_by None ≡ fields_event (split_on tab s) → Asks s r
  unfolding line_event asked_by named_by
  event_none r q h n = rw q (record { is = rw (lt-ltb (length s) most_line h) n; short = λ e. h })

  pub event_is : (x : value.Event) → length s < most_line → named_by (Some x) ≡ fields_event (split_on tab s) → Asks s (Some (Named x))
  unfolding line_event asked_by named_by
  event_is x h r = record { is = rw (lt-ltb (length s) most_line h) r; short = λ e. h }

  pub event_digits : (t : Bool) → t ≡ begins (char "M" ∷ tab ∷ []) s → t ≡ true → length s < most_line → Asks s (Some Digits)
  unfolding line_event asked_by
  event_digits t e q h = record { is = rw (lt-ltb (length s) most_line h) (message_is s (sym e ∙ q)); short = λ e. h }

pub ruleset lines = (event_long, event_none, event_is, event_digits)
