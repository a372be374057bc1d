-- The listed diagnostics of the data are found one after the other, each after the element before it.
-- Assumes nothing.
use Prim.Native.Nat.{ℕ, ◌+◌}
use mathlib.Core.Path.{◌≡◌, refl, sym, ap, ◌∙◌}
use mathlib.Core.List.{List, [], ◌∷◌, map}
use mathlib.Core.Bool.{Bool, true, false, cond}
use mathlib.Core.Option
use mathlib.Core.Option.{Option, none, some}
use lib.ListN.{length, drop}
use lib.Seq.{drop-drop}
use native.Mathlib.Omega.{arith}
use Rattle.std.specs.Prelude as std
use Rattle.std.specs.Prelude.{Result, Ok, Err, Some, None}
use Rattle.octets.proofs.CaseLaws.{by_bool}
use Rattle.bat.specs.declared.Judged.{Judged}
use Rattle.bat_read.specs.Code as code
use Rattle.bat.specs.Framing.{Element, whole, front, first, unframed, ended, elements}
use Rattle.bat.specs.Values.{Diagnostic, Value}
use Rattle.bat.specs.Judging.{Finding, known, unknown, finding, is_listed, listed_with, listed}
use Rattle.bat.specs.FramingMeaning.{element_in, WholeLength}
use Rattle.bat.specs.ValueMeaning.{value_in}
use Rattle.bat.specs.JudgingMeaning.{diagnostic_in, judgement_in, finding_in}
use Rattle.bat.proofs.WalkLaws.{front_nil, walk_ended, walk_unframed, walk_first, by_front}
use Rattle.bat.proofs.CountLaws.{frame_length, ok_is}
use Rattle.bat.proofs.DataLaws.{elements_ended, elements_unframed, elements_first}
use Rattle.bat_read.specs.declared.Examined.{Examined}
use Rattle.bat_read.specs.Examining.{examine, examined_in, Listing, listing_with, listings, listings_in}
use Rattle.bat_read.specs.Private.{own_in, own_of}
use Rattle.bat_read.proofs.OutcomeLaws.{seen, seen_front, seen_first, seen_ended, seen_unframed}

-- ---- what one element lists
module _ (v : code.Finding) (n : ℕ) (ls : List Listing) where
  pub own_known : (w : code.Value) → v ≡ Ok w → own_in None n ls ≡ own_of v n ls
  unfolding own_in own_of
  own_known w e = rw e

  module _ (j : Judged) (e : v ≡ Err j) (b : Bool) (is : b ≡ is_listed (judgement_in j)) where
    pub own_lists : b ≡ true → own_in (Some j.diagnostic) n ls ≡ own_of v n ls
    unfolding own_in own_of
    own_lists h = let y : is_listed (judgement_in j) ≡ true = sym is ∙ h in rw (e, y)

    pub own_none : b ≡ false → own_in None n ls ≡ own_of v n ls
    unfolding own_in own_of
    own_none h = let k : is_listed (judgement_in j) ≡ false = sym is ∙ h in rw (e, k)

pub ruleset owning = (own_known, own_lists, own_none)

-- the same for the finding that it stands for
own_value : (o : Option Value) (w : Finding) (n : ℕ) (ls : List Listing) → Option.map known o ≡ some w → ls ≡ listing_with w n ls
unfolding listing_with
own_value none w n ls p = absurd (let z : ◌≡◌ {A = ℕ} 0 1 = cc in omega arith)
own_value (some v) w n ls p = let q : known v ≡ w = cc in rw (← q)

own_judged : (j : Judged) (n : ℕ) (ls : List Listing) → cond (is_listed (judgement_in j)) (record { diagnostic = diagnostic_in j.diagnostic; next = n } ∷ ls) ls ≡ listing_with (unknown (judgement_in j)) n ls
unfolding listing_with judgement_in
own_judged j n ls = refl

own_is : (s : List ℕ) (v : code.Finding) (w : Finding) (n : ℕ) (ls : List Listing) → finding_in s v ≡ some w → own_of v n ls ≡ listing_with w n ls
unfolding finding_in own_of
own_is s (Ok x) w n ls p = own_value (value_in s x) w n ls p
own_is s (Err j) w n ls p = let q : unknown (judgement_in j) ≡ w = cc in rw (← q) (own_judged j n ls)

-- ---- from one element of the data to the next
module _ (pass : Bool) where
  listings_first : (d : ℕ) (s : List ℕ) (e : Element) (t : List ℕ) → front s ≡ first e t
      → listings pass d s ≡ listing_with (finding pass e) (d + length (whole e)) (listings pass (d + length (whole e)) t)
  unfolding listings
  listings_first d s e t q = walk_first (λ e d ls. listing_with (finding pass e) (d + length (whole e)) ls) (λ d. []) [] d s e t q

  listings_ended : (d : ℕ) (s : List ℕ) → front s ≡ ended → listings pass d s ≡ []
  unfolding listings
  listings_ended d s q = walk_ended (λ e d ls. listing_with (finding pass e) (d + length (whole e)) ls) (λ d. []) [] d s q

  listings_unframed : (d : ℕ) (s : List ℕ) → front s ≡ unframed → listings pass d s ≡ []
  unfolding listings
  listings_unframed d s q = walk_unframed (λ e d ls. listing_with (finding pass e) (d + length (whole e)) ls) (λ d. []) [] d s q

  -- at the place `at` of the data; z are the listings from there on
  module _ (s : List ℕ) (at : ℕ) (z : List Listing) (inv : listings pass at (drop at s) ≡ z) (t : List ℕ) (here : t ≡ drop at s) (x : Result (std.Option Examined) code.Unframed) (is : examined_in t x ≡ some (examine pass t)) where
    here_is : listings pass at t ≡ z
    here_is = rw (← here) at inv

    pub list_ended : x ≡ Ok None → listings_in pass s None ≡ z
    unfolding listings_in
    list_ended e = sym (listings_ended at t (seen_ended pass t x is e)) ∙ here_is

    pub list_unframed : (u : code.Unframed) → x ≡ Err u → listings_in pass s None ≡ z
    unfolding listings_in
    list_unframed u e = sym (listings_unframed at t (seen_unframed pass t x is u e)) ∙ here_is

    module _ (y : Examined) (e : x ≡ Ok (Some y)) (w : ℕ) (l : WholeLength y.frame w) (o : std.Option code.Diagnostic) (own : (n : ℕ) (ls : List Listing) → own_in o n ls ≡ own_of y.finding n ls) where
      list_with : own_in o (at + w) (listings pass (at + w) (drop (at + w) s)) ≡ z
      list_with =
          let k = seen pass t x is y e in
          let f = y.frame in
          let rest = listings pass (at + w) (drop w t) in
          let next : front t ≡ first (element_in t f) (drop w t) = seen_first pass t x is y e w l in
          let size : at + length (whole (element_in t f)) ≡ at + w = omega (arith, frame_length t (Ok (Some f)) (seen_front pass t x is y e) f refl w l) in
          let one : listings pass at t ≡ listing_with (finding pass (element_in t f)) (at + w) rest = rw size at (listings_first at t (element_in t f) (drop w t) next) in
          rw (← drop-drop w at s, ← here)
          (own (at + w) rest ∙ own_is (element_in t f).contents y.finding (finding pass (element_in t f)) (at + w) rest k.2 ∙ sym one ∙ here_is)

      pub list_next : (d : code.Diagnostic) → o ≡ Some d → listings_in pass s (Some (record { diagnostic = d; next = at + w })) ≡ z
      unfolding listings_in own_in
      list_next d q = rw q at list_with

      pub list_more : o ≡ None → listings pass (at + w) (drop (at + w) s) ≡ z
      unfolding own_in
      list_more q = rw q at list_with

pub ruleset list_finds = (list_ended, list_unframed, ok_is)

-- ---- of data that can be framed they have the diagnostics that document 01 lists
listing_diagnostic : (w : Finding) (n : ℕ) (ls : List Listing) → map (λ (l : Listing). l.diagnostic) (listing_with w n ls) ≡ listed_with w (map (λ (l : Listing). l.diagnostic) ls)
unfolding listing_with listed_with
listing_diagnostic (known v) n ls = refl
listing_diagnostic (unknown j) n ls = by_bool (is_listed j) _ (λ b. rw b) (λ b. rw b)

listed_with_lem : (pass : Bool) (e : Element) (ds : List Diagnostic) (o : Option (List Element)) (es : List Element) → ((r : List Element) → o ≡ some r → ds ≡ listed (map (finding pass) r))
    → Option.map (λ (r : List Element). e ∷ r) o ≡ some es → listed_with (finding pass e) ds ≡ listed (map (finding pass) es)
unfolding listed
listed_with_lem pass e ds none es ih p = absurd (let z : ◌≡◌ {A = ℕ} 0 1 = cc in omega arith)
listed_with_lem pass e ds (some r) es ih p = let k : e ∷ r ≡ es = cc in rw (← k, ih r refl)

pub listings_listed : (pass : Bool) (s : List ℕ) (d : ℕ) (es : List Element) → elements s ≡ some es
    → map (λ (l : Listing). l.diagnostic) (listings pass d s) ≡ listed (map (finding pass) es)
unfolding listed
listings_listed pass =
    by_front (λ (s : List ℕ). (d : ℕ) (es : List Element) → elements s ≡ some es → map (λ (l : Listing). l.diagnostic) (listings pass d s) ≡ listed (map (finding pass) es))
    (λ d es p. let q : ◌≡◌ {A = List Element} [] es = cc (elements_ended [] front_nil) in rw (listings_ended pass d [] front_nil, ← q))
    (λ s q d es p. absurd (let n = elements_unframed s q in let z : ◌≡◌ {A = ℕ} 0 1 = cc in omega arith))
    (λ s e t q ih d es p.
    let n = d + length (whole e) in
    ap (map (λ (l : Listing). l.diagnostic)) (listings_first pass d s e t q)
    ∙ listing_diagnostic (finding pass e) n (listings pass n t)
    ∙ listed_with_lem pass e (map (λ (l : Listing). l.diagnostic) (listings pass n t)) (elements t) es (λ r. ih n r) (sym (elements_first s e t q) ∙ p))
