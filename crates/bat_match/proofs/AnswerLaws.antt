-- The answer of a match is its choice and what the writer of the reduced list answers; for C, both as numbers.
-- Assumes nothing.
use Prim.Native.Nat.{ℕ}
use mathlib.Core.Path.{◌≡◌, refl, sym, ◌∙◌}
use mathlib.Core.Bool.{Bool, true, false}
use mathlib.Core.List.{List}
use native.Mathlib.Omega.{arith}
use Rattle.std.specs.Prelude.{Result, Ok, Err}
use Rattle.octets.specs.declared.Refusal.{Refusal}
use Rattle.octets.specs.Refusals.{refusal_number}
use Rattle.octets.specs.declared.Span.{Span}
use Rattle.bat_match.specs.declared.MatchAnswer.{MatchAnswer}
use Rattle.bat_match.specs.declared.AnswerForC.{AnswerForC}
use Rattle.bat_match.specs.declared.list.FramedList.{FramedList}
use Rattle.bat_match.specs.Matching.{MatchResult, refused, matched, matching}
use Rattle.bat_match.specs.Meaning.{matching_led, choice_of, reduced_answer, reduced_leaves, Matches, numbers_for, for_c, MatchesForC}
use Rattle.bat_match.specs.Private.{codecs_at, FirstCommon, Writes, ListsAre, TwoListsAre}
use Rattle.bat_match.proofs.ListLaws.{choice_are, choice_refused, lists_are}

-- nothing is written if the two strings are refused
refused_writes : (x : MatchResult) (n : Refusal) (b : List ℕ) → Err n ≡ choice_of x → Writes x b (Err n) b
unfolding choice_of reduced_answer reduced_leaves
refused_writes (refused k) n b e = let z : n ≡ k = cc in record { answers = rw z; leaves = refl }
refused_writes (matched m) n b e = absurd (let z : ◌≡◌ {A = ℕ} 0 1 = cc in omega arith)

-- the choice c, and the writer's answer w
both : (x : MatchResult) (b : List ℕ) (c : Result Span Refusal) (w : Result ℕ Refusal) (f : List ℕ) → c ≡ choice_of x → Writes x b w f → Matches x b (record { choice = c; reduced = w }) f
both x b c w f e p = record { answers = rw (e, p.answers); leaves = p.leaves }

-- ---- two lists
module _ (s t : List ℕ) (l o : FramedList) (lists : ListsAre s t l o) (c : Result Span Refusal) (first : FirstCommon s l.from (codecs_at t o.from) c) (b : List ℕ) where
  is : c ≡ choice_of (matching s t)
  is = choice_are s t l o lists c first

  pub answers_found : (p : Span) → c ≡ Ok p → (w : Result ℕ Refusal) (f : List ℕ) → Writes (matching s t) b w f → Matches (matching s t) b (record { choice = Ok p; reduced = w }) f
  answers_found p e w f q = both (matching s t) b (Ok p) w f (sym e ∙ is) q

  pub answers_none : (n : Refusal) → c ≡ Err n → Matches (matching s t) b (record { choice = Err n; reduced = Err n }) b
  answers_none n e = both (matching s t) b (Err n) (Err n) b (sym e ∙ is) (refused_writes (matching s t) n b (sym e ∙ is))

-- what two lists are matched as, their strings are
pub answers_here : (s t : List ℕ) (x : Result (FramedList × FramedList) Refusal) → TwoListsAre s t x → (l o : FramedList) → x ≡ Ok (l, o) → (b : List ℕ) (r : MatchAnswer) (f : List ℕ)
    → Matches (matching l.string.now o.string.now) b r f → Matches (matching s t) b r f
answers_here s t x p l o e b r f m = let z = lists_are s t x p l o e in rw (z.first.string, z.second.string) at m

-- two strings that are not both lists
pub answers_refused : (s t : List ℕ) (x : Result (FramedList × FramedList) Refusal) → TwoListsAre s t x → (n : Refusal) → x ≡ Err n → (b : List ℕ) → Matches (matching s t) b (record { choice = Err n; reduced = Err n }) b
answers_refused s t x p n e b =
    let is = choice_refused s t x p n e in
    both (matching s t) b (Err n) (Err n) b is (refused_writes (matching s t) n b is)

-- ---- which list leads
module _ (own offered b : List ℕ) (leads : Bool) (r : MatchAnswer) (f : List ℕ) where
  pub own_first : leads ≡ true → Matches (matching own offered) b r f → Matches (matching_led leads own offered) b r f
  unfolding matching_led
  own_first e p = rw e p

  pub offered_first : leads ≡ false → Matches (matching offered own) b r f → Matches (matching_led leads own offered) b r f
  unfolding matching_led
  offered_first e p = rw e p

-- ---- for C
module _ (c : Result Span Refusal) (w : Result ℕ Refusal) where
  pub numbers_refused : (n : Refusal) (k : ℕ) → c ≡ Err n → k ≡ refusal_number n → record { refusal = k; start = 0; length = 0; written = 0 } ≡ numbers_for c w
  unfolding numbers_for
  numbers_refused n k e q = rw (e, q)

  pub numbers_written : (p : Span) (n : ℕ) → c ≡ Ok p → w ≡ Ok n → record { refusal = 0; start = p.at; length = p.len; written = n } ≡ numbers_for c w
  unfolding numbers_for
  numbers_written p n e h = rw (e, h)

  pub numbers_short : (p : Span) (n : Refusal) (k : ℕ) → c ≡ Ok p → w ≡ Err n → k ≡ refusal_number n → record { refusal = k; start = p.at; length = p.len; written = 0 } ≡ numbers_for c w
  unfolding numbers_for
  numbers_short p n k e h q = rw (e, h, q)

pub ruleset numbering = (numbers_refused, numbers_written, numbers_short)

pub answers_c : (x : MatchResult) (b : List ℕ) (m : MatchAnswer) (f : List ℕ) (r : AnswerForC) → Matches x b m f → r ≡ for_c m → MatchesForC x b r f
answers_c x b m f r p e = record { answers = e ∙ rw p.answers; leaves = p.leaves }
