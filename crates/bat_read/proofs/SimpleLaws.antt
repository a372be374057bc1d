-- The contents of simple elements, case by case as the functions that read them answer.
-- Assumes nothing.
use Prim.Native.Nat.{ℕ, suc, ◌+◌, ◌-◌, ◌*◌, ◌%◌, ◌≤◌, ◌<◌}
use mathlib.Core.Path.{◌≡◌, refl, sym}
use mathlib.Core.List.{List, [], ◌∷◌}
use mathlib.Core.Option.{Option, none, some, map, Option-elim}
use lib.ListN.{length, get_or, drop, drop_of_length-le}
use native.Mathlib.Omega.{arith}
use borrow.Author.Tests.{le-leb, lt-ltb, le-ltb, eq-eqb, ne_eqb}
use Rattle.std.specs.Prelude.{Ok, Err, None}
use Rattle.octets.specs.declared.Span.{Span}
use Rattle.octets.specs.Spans.{text_of}
use Rattle.octets.proofs.Laws.{tail_is}
use Rattle.octets.proofs.SpanLaws.{text_all}
use Rattle.bat.specs.declared.Value.TheVariants.{Report, Unit, Capability}
use Rattle.bat.specs.Framing.{octet, unmarked}
use Rattle.bat.specs.Values.{Diagnostic, report, decoded, wrong, bit1, diagnostics_in, report_in, unit_in, capability_in}
use Rattle.bat.specs.ValueMeaning.{value_inside, value_in, value_by, decoding_in}
use Rattle.bat_read.specs.Private.{Stands}

-- ---- spans
pub stands_all : (s : List ℕ) (n : ℕ) → n ≡ length s → Stands s s (record { at = 0; len = n })
stands_all s n e = record { is = text_all s n e; within = le-leb (0 + n) (length s) (omega arith) }

module _ (s : List ℕ) (n : ℕ) where
  pub rest_none : length s < n → Stands s (drop n s) (record { at = 0; len = 0 })
  unfolding text_of
  rest_none h = record { is = sym (drop_of_length-le s {i = n} (omega arith)); within = le-leb (0 + 0) (length s) (omega arith) }

  pub rest_some : n ≤ length s → Stands s (drop n s) (record { at = n; len = length s - n })
  unfolding text_of
  rest_some h = record { is = tail_is s n; within = le-leb (n + (length s - n)) (length s) (omega arith) }

-- ---- diagnostics are there exactly where the octets come in threes
diagnostics_odd : (s : List ℕ) → (length s % 3 ≡ 0 → ⊥) → diagnostics_in s ≡ none
unfolding diagnostics_in
diagnostics_odd [] h = absurd (h refl)
diagnostics_odd (a ∷ []) h = refl
diagnostics_odd (a ∷ b ∷ []) h = refl
diagnostics_odd (a ∷ b ∷ c ∷ s) h = rw (diagnostics_odd s (λ e. h (omega arith)))

map_none : {A B : Type 0} (f : A → B) (o : Option A) → map f o ≡ none → o ≡ none
map_none f none e = refl
map_none f (some x) e = absurd (let z : ◌≡◌ {A = ℕ} 0 1 = cc in omega arith)

diagnostics_whole : (s : List ℕ) → length s % 3 ≡ 0 → diagnostics_in s ≡ none → ⊥
unfolding diagnostics_in
diagnostics_whole [] h e = let z : ◌≡◌ {A = ℕ} 0 1 = cc in omega arith
diagnostics_whole (a ∷ []) h e = omega arith
diagnostics_whole (a ∷ b ∷ []) h e = omega arith
diagnostics_whole (a ∷ b ∷ c ∷ s) h e = diagnostics_whole s (omega arith) (map_none (λ (r : List Diagnostic). record { identifier = a; index = b * 256 + c } ∷ r) (diagnostics_in s) e)

-- ---- 6
pub report_none : (s : List ℕ) → length s < 1 → decoding_in s (Err (record { inner = None })) ≡ some (report_in s)
unfolding decoding_in report_in
report_none [] h = refl
report_none (r ∷ s) h = absurd (omega arith)

pub report_odd : (s : List ℕ) → 1 ≤ length s → ((length s - 1) % 3 ≡ 0 → ⊥) → decoding_in s (Err (record { inner = None })) ≡ some (report_in s)
unfolding decoding_in report_in Option-elim
report_odd [] h k = absurd (omega arith)
report_odd (r ∷ s) h k = rw (diagnostics_odd s (λ e. k (omega arith)))

pub report_whole : (s : List ℕ) (p : Span) → 1 ≤ length s → (length s - 1) % 3 ≡ 0 → Stands s (drop 1 s) p
    → decoding_in s (Ok (Report (get_or s 0 0) p)) ≡ some (report_in s)
unfolding decoding_in value_in value_inside value_by report_in Option-elim
report_whole [] p h k e = absurd (omega arith)
report_whole (r ∷ s) p h k e = rw (e.within, e.is) (go (diagnostics_in s) refl)
  where
    go : (o : Option (List Diagnostic)) → diagnostics_in s ≡ o → map decoded (map (report r) o) ≡ some (Option-elim o wrong (λ ds. decoded (report r ds)))
    go none q = absurd (diagnostics_whole s (omega arith) q)
    go (some ds) q = refl

-- ---- 10
pub unit_none : (s : List ℕ) → length s < 1 → decoding_in s (Err (record { inner = None })) ≡ some (unit_in s)
unfolding decoding_in unit_in
unit_none [] h = refl
unit_none (n ∷ s) h = absurd (omega arith)

pub unit_short : (s : List ℕ) (n : ℕ) → n ≡ octet 0 s → 1 ≤ length s → length s - 1 ≤ n → decoding_in s (Err (record { inner = None })) ≡ some (unit_in s)
unfolding decoding_in unit_in
unit_short [] n e h k = absurd (omega arith)
unit_short (b ∷ s) n e h k = simp (le-ltb b (length s) (omega arith))

pub unit_whole : (s : List ℕ) (n : ℕ) (p : Span) → n ≡ octet 0 s → 1 ≤ length s → n < length s - 1 → Stands s (drop (1 + n) s) p
    → decoding_in s (Ok (Unit (record { at = 1; len = n }) p)) ≡ some (unit_in s)
unfolding decoding_in value_in value_inside value_by unit_in text_of
unit_whole [] n p i h k e = absurd (omega arith)
unit_whole (b ∷ s) n p i h k e =
    let l : 1 + n ≡ suc n = omega arith in
    rw (le-leb (1 + n) (suc (length s)) (omega arith), e.within, lt-ltb b (length s) (omega arith)) (rw (e.is, l, i))

-- ---- 12
module _ (s : List ℕ) where
  pub capability_none : length s < 1 → decoding_in s (Err (record { inner = None })) ≡ some (capability_in s)
  unfolding decoding_in capability_in
  capability_none h = simp (ne_eqb (suc (unmarked s)) (length s) (λ e. omega arith))

  module _ (x : ℕ) (is : x ≡ unmarked s) (one : 1 ≤ length s) where
    pub capability_no : (x ≡ length s - 1 → ⊥) → decoding_in s (Err (record { inner = None })) ≡ some (capability_in s)
    unfolding decoding_in capability_in
    capability_no h = simp (ne_eqb (suc (unmarked s)) (length s) (λ e. h (omega arith)))

    pub capability_yes : x ≡ length s - 1 → decoding_in s (Ok (Capability (bit1 (get_or s 0 0)))) ≡ some (capability_in s)
    unfolding decoding_in value_in value_inside value_by capability_in
    capability_yes h = simp (eq-eqb (suc (unmarked s)) (length s) (omega arith))

pub ruleset rests = (rest_none, rest_some)

pub ruleset reports = (report_none, report_odd, report_whole)

pub ruleset units = (unit_none, unit_short, unit_whole)

pub ruleset capabilities = (capability_none, capability_no, capability_yes)
