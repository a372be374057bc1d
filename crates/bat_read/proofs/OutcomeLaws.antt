-- The data's outcome is the gravest that its elements ask for, taken from one element to the next.
-- Assumes nothing.
use Prim.Native.Nat.{ℕ, ◌+◌, ◌-◌, ◌^◌, ◌≤◌, ◌<◌, max}
use mathlib.Core.Path.{◌≡◌, refl, sym, ◌∙◌}
use mathlib.Core.List.{List, [], ◌∷◌, map}
use mathlib.Core.Bool.{Bool, true, false, ◌||◌, cond}
use mathlib.Core.Option
use mathlib.Core.Option.{Option, none, some}
use lib.ListN.{length, drop, length-map}
use mir.Syntax.{w64}
use mir.Val.{Fits}
use native.Mathlib.Omega.{arith}
use borrow.Author.Tests.{le-leb, lt-leb}
use Rattle.std.specs.Prelude as std
use Rattle.std.specs.Prelude.{Result, Ok, Err, Some, None}
use Rattle.octets.proofs.CaseLaws.{by_le}
use Rattle.octets.specs.declared.Refusal.{Refusal}
use Rattle.bat.specs.declared.Frame.{Frame}
use Rattle.bat.specs.declared.Outcome.TheVariants.{PassOn, DiscardElement, DiscardData, Release}
use Rattle.bat.specs.declared.Judged.{Judged}
use Rattle.bat_read.specs.Code as code
use Rattle.bat.specs.declared.DataOutcome.{DataOutcome}
use Rattle.bat.specs.declared.DataOutcome.TheVariants.{Neither, DiscardAll, ReleaseAll}
use Rattle.bat.specs.Framing.{Element, Front, front, first, unframed, ended, on_front, elements, Cut, refused, taken, cut}
use Rattle.bat.specs.Values.{Value}
use Rattle.bat.specs.Judging.{Finding, known, unknown, finding, says, some_says, data_outcome, judged_by, judged_data}
use Rattle.bat.specs.FramingMeaning.{whole_length, element_in, front_in, WholeLength, count_of}
use Rattle.bat.specs.ValueMeaning.{value_in}
use Rattle.bat.specs.JudgingMeaning.{outcome_number, judgement_in, finding_in, data_number, told_by, told_of}
use Rattle.bat.proofs.WalkLaws.{front_nil, fold_ended, fold_unframed, fold_first, by_front}
use Rattle.bat.proofs.DataLaws.{elements_ended, elements_unframed, elements_first, taken_is}
use Rattle.bat.proofs.CountLaws.{place_fits, place_falls, frame_shorter, ok_is}
use Rattle.bat_read.specs.declared.Examined.{Examined}
use Rattle.bat_read.specs.Examining.{element, no_frame, no_more, examine, examined_in}
use Rattle.bat_read.specs.Private.{data_asked, data_asked_in, data_asked_by, gravest}

-- ---- what one element asks
pub asks_known : (v : code.Finding) (w : code.Value) → v ≡ Ok w → data_number Neither ≡ data_asked_in v
unfolding data_number data_asked_in
asks_known v w e = rw e

module _ (v : code.Finding) (j : Judged) (e : v ≡ Err j) where
  pub asks_pass : j.outcome ≡ PassOn → data_number Neither ≡ data_asked_in v
  unfolding data_number data_asked_in outcome_number
  asks_pass o = rw (e, o)

  pub asks_element : j.outcome ≡ DiscardElement → data_number Neither ≡ data_asked_in v
  unfolding data_number data_asked_in outcome_number
  asks_element o = rw (e, o)

  pub asks_data : j.outcome ≡ DiscardData → data_number DiscardAll ≡ data_asked_in v
  unfolding data_number data_asked_in outcome_number
  asks_data o = rw (e, o)

  pub asks_release : j.outcome ≡ Release → data_number ReleaseAll ≡ data_asked_in v
  unfolding data_number data_asked_in outcome_number
  asks_release o = rw (e, o)

pub ruleset asking = (asks_known, asks_pass, asks_element, asks_data, asks_release)

-- the same for the finding that it stands for
known_asks : (o : Option Value) (w : Finding) → Option.map known o ≡ some w → 0 ≡ data_asked_by w
unfolding data_asked_by
known_asks none w p = absurd (let z : ◌≡◌ {A = ℕ} 0 1 = cc in omega arith)
known_asks (some v) w p = let q : known v ≡ w = cc in rw (← q)

unknown_asks : (j : Judged) → data_asked (outcome_number j.outcome) ≡ data_asked_by (unknown (judgement_in j))
unfolding data_asked_by judgement_in
unknown_asks j = refl

asked_is : (s : List ℕ) (v : code.Finding) (w : Finding) → finding_in s v ≡ some w → data_asked_in v ≡ data_asked_by w
unfolding finding_in data_asked_in
asked_is s (Ok x) w p = known_asks (value_in s x) w p
asked_is s (Err j) w p = let q : unknown (judgement_in j) ≡ w = cc in rw (← q) (unknown_asks j)

-- ---- the graver of two
most : (a : DataOutcome) → data_number a ≤ 3
unfolding data_number
most Neither = omega arith
most DiscardAll = omega arith
most ReleaseAll = omega arith

module _ (a b : DataOutcome) where
  pub graver_release : a ≡ ReleaseAll → data_number a ≡ max (data_number a) (data_number b)
  unfolding data_number
  graver_release e = rw e (omega (arith, most b))

  pub graver_neither : a ≡ Neither → data_number b ≡ max (data_number a) (data_number b)
  unfolding data_number
  graver_neither e = rw e (omega arith)

  module _ (e : a ≡ DiscardAll) where
    pub graver_second : b ≡ ReleaseAll → data_number b ≡ max (data_number a) (data_number b)
    unfolding data_number
    graver_second h = rw (e, h)

    pub graver_same : b ≡ DiscardAll → data_number b ≡ max (data_number a) (data_number b)
    unfolding data_number
    graver_same h = rw (e, h)

    pub graver_first : b ≡ Neither → data_number a ≡ max (data_number a) (data_number b)
    unfolding data_number
    graver_first h = rw (e, h)

pub ruleset graver = (graver_release, graver_neither, graver_second, graver_same, graver_first)

-- ---- the data's outcome is the gravest
gravest_says : (a b c d : Bool) → cond (a || c) 3 (cond (b || d) 2 0) ≡ max (cond a 3 (cond b 2 0)) (cond c 3 (cond d 2 0))
gravest_says true b true d = refl
gravest_says true b false true = refl
gravest_says true b false false = refl
gravest_says false true true d = refl
gravest_says false true false true = refl
gravest_says false true false false = refl
gravest_says false false true d = refl
gravest_says false false false true = refl
gravest_says false false false false = refl

asked_says : (w : Finding) → data_asked_by w ≡ cond (says 3 w) 3 (cond (says 2 w) 2 0)
unfolding data_asked_by says
asked_says (known v) = refl
asked_says (unknown j) = refl

outcome_cons : (w : Finding) (ws : List Finding) → data_outcome (w ∷ ws) ≡ max (data_asked_by w) (data_outcome ws)
unfolding data_outcome some_says
outcome_cons w ws = gravest_says (says 3 w) (says 2 w) (some_says 3 ws) (some_says 2 ws) ∙ rw (asked_says w)

nil_outcome : 0 ≡ data_outcome []
unfolding data_outcome some_says
nil_outcome = refl

module _ (pass : Bool) where
  gravest_first : (s : List ℕ) (e : Element) (t : List ℕ) → front s ≡ first e t → gravest pass s ≡ max (data_asked_by (finding pass e)) (gravest pass t)
  unfolding gravest
  gravest_first s e t q = fold_first (λ e n. max (data_asked_by (finding pass e)) n) 0 0 s e t q

  gravest_ended : (s : List ℕ) → front s ≡ ended → gravest pass s ≡ 0
  unfolding gravest
  gravest_ended s q = fold_ended (λ e n. max (data_asked_by (finding pass e)) n) 0 0 s q

  gravest_unframed : (s : List ℕ) → front s ≡ unframed → gravest pass s ≡ 0
  unfolding gravest
  gravest_unframed s q = fold_unframed (λ e n. max (data_asked_by (finding pass e)) n) 0 0 s q

  -- of data that can be framed it is the outcome
  gravest_outcome : (s : List ℕ) (es : List Element) → elements s ≡ some es → gravest pass s ≡ data_outcome (map (finding pass) es)
  gravest_outcome =
      by_front (λ (s : List ℕ). (es : List Element) → elements s ≡ some es → gravest pass s ≡ data_outcome (map (finding pass) es))
      (λ es p. let q : ◌≡◌ {A = List Element} [] es = cc (elements_ended [] front_nil) in gravest_ended [] front_nil ∙ rw (← q) nil_outcome)
      (λ s q es p. absurd (let n = elements_unframed s q in let z : ◌≡◌ {A = ℕ} 0 1 = cc in omega arith))
      (λ s e t q ih es p. gravest_first s e t q ∙ outcome_with e t (elements t) es ih refl (sym (elements_first s e t q) ∙ p))
    where
      outcome_with : (e : Element) (t : List ℕ) (o : Option (List Element)) (es : List Element) → ((r : List Element) → elements t ≡ some r → gravest pass t ≡ data_outcome (map (finding pass) r)) → elements t ≡ o
          → Option.map (λ (r : List Element). e ∷ r) o ≡ some es → max (data_asked_by (finding pass e)) (gravest pass t) ≡ data_outcome (map (finding pass) es)
      outcome_with e t none es ih q p = absurd (let z : ◌≡◌ {A = ℕ} 0 1 = cc in omega arith)
      outcome_with e t (some r) es ih q p =
          let k : e ∷ r ≡ es = cc in
          rw (← k, ih r q) (sym (outcome_cons (finding pass e) (map (finding pass) r)))

-- ---- what the front was examined as
module _ (pass : Bool) where
  on_element : (g : Front) (e : Element) (w : Finding) (u : List ℕ) → element e w u ≡ on_front g (λ e t. element e (finding pass e) t) no_frame no_more → (g ≡ first e u) × (w ≡ finding pass e)
  unfolding on_front
  on_element (first d t) e w u p =
      let ed : e ≡ d = cc in
      let ut : u ≡ t = cc in
      let wv : w ≡ finding pass d = cc in
      rw (ed, ut) (refl, wv)
  on_element unframed e w u p = absurd (let z : ◌≡◌ {A = ℕ} 0 1 = cc in omega arith)
  on_element ended e w u p = absurd (let z : ◌≡◌ {A = ℕ} 0 1 = cc in omega arith)

  on_unframed : (g : Front) → no_frame ≡ on_front g (λ e t. element e (finding pass e) t) no_frame no_more → g ≡ unframed
  unfolding on_front
  on_unframed (first d t) p = absurd (let z : ◌≡◌ {A = ℕ} 0 1 = cc in omega arith)
  on_unframed unframed p = refl
  on_unframed ended p = absurd (let z : ◌≡◌ {A = ℕ} 0 1 = cc in omega arith)

  on_ended : (g : Front) → no_more ≡ on_front g (λ e t. element e (finding pass e) t) no_frame no_more → g ≡ ended
  unfolding on_front
  on_ended (first d t) p = absurd (let z : ◌≡◌ {A = ℕ} 0 1 = cc in omega arith)
  on_ended unframed p = absurd (let z : ◌≡◌ {A = ℕ} 0 1 = cc in omega arith)
  on_ended ended p = refl

  seen_by : (t : List ℕ) (f : Frame) (v : code.Finding) (o : Option Finding) → finding_in (element_in t f).contents v ≡ o
      → Option.map (λ (w : Finding). element (element_in t f) w (drop (whole_length f) t)) o ≡ some (examine pass t)
      → (front t ≡ first (element_in t f) (drop (whole_length f) t)) × (finding_in (element_in t f).contents v ≡ some (finding pass (element_in t f)))
  unfolding examine
  seen_by t f v none q p = absurd (let z : ◌≡◌ {A = ℕ} 0 1 = cc in omega arith)
  seen_by t f v (some w) q p =
      let k : element (element_in t f) w (drop (whole_length f) t) ≡ on_front (front t) (λ e t. element e (finding pass e) t) no_frame no_more = cc in
      let (g, h) = on_element (front t) (element_in t f) w (drop (whole_length f) t) k in
      (g, q ∙ rw h)

  module _ (t : List ℕ) (x : Result (std.Option Examined) code.Unframed) (is : examined_in t x ≡ some (examine pass t)) where
    pub seen_ended : x ≡ Ok None → front t ≡ ended
    unfolding examined_in examine
    seen_ended e = let p : some no_more ≡ some (examine pass t) = rw e at is in on_ended (front t) (cc)

    pub seen_unframed : (u : code.Unframed) → x ≡ Err u → front t ≡ unframed
    unfolding examined_in examine
    seen_unframed u e = let p : some no_frame ≡ some (examine pass t) = rw e at is in on_unframed (front t) (cc)

    module _ (y : Examined) (e : x ≡ Ok (Some y)) where
      pub seen : (whole_length y.frame ≤ length t) × (front t ≡ first (element_in t y.frame) (drop (whole_length y.frame) t)) × (finding_in (element_in t y.frame).contents y.finding ≡ some (finding pass (element_in t y.frame)))
      unfolding examined_in
      seen =
          let f = y.frame in
          let p = rw e at is in
          by_le (whole_length f) (length t) _
          (λ h. let (a, b) = seen_by t f y.finding (finding_in (element_in t f).contents y.finding) refl (rw (le-leb (whole_length f) (length t) h) at p) in (h, a, b))
          (λ h. let q : none ≡ some (examine pass t) = rw (lt-leb (whole_length f) (length t) h) at p in absurd (let z : ◌≡◌ {A = ℕ} 0 1 = cc in omega arith))

      pub seen_front : front_in t (Ok (Some y.frame)) ≡ some (front t)
      unfolding front_in
      seen_front = rw (le-leb (whole_length y.frame) (length t) seen.0, seen.1)

      module _ (w : ℕ) (l : WholeLength y.frame w) where
        pub seen_first : front t ≡ first (element_in t y.frame) (drop w t)
        seen_first = seen.1 ∙ rw l.is

        -- from one element of the data to the next
        pub seen_fits : (s : List ℕ) (at : ℕ) → t ≡ drop at s → length s < 2 ^ 64 → Fits w64 (at + w)
        seen_fits s at here k = place_fits s at t here (Ok (Some y.frame)) seen_front y.frame refl w l k

        pub seen_falls : (s : List ℕ) (at : ℕ) → t ≡ drop at s → length s - (at + w) < length s - at
        seen_falls s at here = place_falls s at t here (Ok (Some y.frame)) seen_front y.frame refl w l

        pub seen_shorter : (r : List ℕ) → r ≡ drop w t → length r < length t
        seen_shorter r after = frame_shorter t (Ok (Some y.frame)) seen_front y.frame refl w l r after

    -- those before t come to n, and all to m
    module _ (n m : ℕ) (inv : max n (gravest pass t) ≡ m) where
      pub outcome_ended : x ≡ Ok None → n ≡ m
      outcome_ended e = omega (arith, gravest_ended pass t (seen_ended e))

      pub outcome_unframed : (u : code.Unframed) → x ≡ Err u → n ≡ m
      outcome_unframed u e = omega (arith, gravest_unframed pass t (seen_unframed u e))

      pub outcome_more : (y : Examined) (e : x ≡ Ok (Some y)) (w : ℕ) (l : WholeLength y.frame w) (a k : ℕ) → a ≡ data_asked_in y.finding → k ≡ max n a → (r : List ℕ) → r ≡ drop w t → max k (gravest pass r) ≡ m
      outcome_more y e w l a k p q r after =
          let g = gravest_first pass t (element_in t y.frame) (drop w t) (seen_first y e w l) in
          let b : a ≡ data_asked_by (finding pass (element_in t y.frame)) = p ∙ asked_is (element_in t y.frame).contents y.finding (finding pass (element_in t y.frame)) (seen y e).2 in
          rw after (omega (arith, inv, g, b, q))

pub ruleset outcomes = (outcome_ended, outcome_unframed, outcome_more, seen_shorter, ok_is)

-- ---- the answer to the data
module _ (s : List ℕ) (entries : ℕ) (pass : Bool) (y : Result ℕ Refusal) (is : y ≡ count_of (cut entries s)) where
  told_by_lem : (x : Cut) → cut entries s ≡ x → told_of (judged_data pass entries s) ≡ told_of (judged_by pass x)
  unfolding judged_data
  told_by_lem x e = rw e

  pub told_refused : (n : Refusal) → y ≡ Err n → told_by (Err n) ≡ told_of (judged_data pass entries s)
  unfolding told_by told_of judged_by count_of
  told_refused n e = go (cut entries s) refl
    where
      go : (x : Cut) → cut entries s ≡ x → told_by (Err n) ≡ told_of (judged_data pass entries s)
      go (refused m) q = let k : y ≡ Err m = rw q at is in let z : n ≡ m = cc in rw z (sym (told_by_lem (refused m) q))
      go (taken es) q = let k : y ≡ Ok (length es) = rw q at is in absurd (let z : ◌≡◌ {A = ℕ} 0 1 = cc in omega arith)

  pub told_taken_lem : (n : ℕ) (o : DataOutcome) → y ≡ Ok n → data_number o ≡ gravest pass s → told_by (Ok (record { count = n; outcome = o })) ≡ told_of (judged_data pass entries s)
  unfolding told_by told_of judged_by count_of
  told_taken_lem n o e g = go (cut entries s) refl
    where
      go : (x : Cut) → cut entries s ≡ x → told_by (Ok (record { count = n; outcome = o })) ≡ told_of (judged_data pass entries s)
      go (refused m) q = let k : y ≡ Err m = rw q at is in absurd (let z : ◌≡◌ {A = ℕ} 0 1 = cc in omega arith)
      go (taken es) q =
          let k : y ≡ Ok (length es) = rw q at is in
          let z : n ≡ length es = cc in
          let a : data_number o ≡ data_outcome (map (finding pass) es) = g ∙ gravest_outcome pass s es (taken_is entries s es q).are in
          rw (z, a, ← length-map es (finding pass)) (sym (told_by_lem (taken es) q))

pub ruleset telling = (told_refused, told_taken_lem)
