-- Octets are diagnostics if they come in threes, and the diagnostics are written as the same octets, since each is below 256.
-- Assumes nothing.
use Prim.Native.Nat.{ℕ, suc, ◌+◌, ◌*◌, ◌/◌, ◌%◌}
use mathlib.Core.Path.{◌≡◌, refl, ◌∙◌}
use mathlib.Core.List.{List, [], ◌∷◌}
use mathlib.Core.Bool.{true}
use mathlib.Core.Option.{Option, none, some, map}
use lib.ListN.{length, get_or}
use lib.Dec.{eqb}
use native.Mathlib.Omega.{arith}
use mir.Syntax.{w8}
use mir.Val.{Fits}
use Rattle.octets.specs.Append.{Appends}
use Rattle.bat.specs.Values.{Diagnostic, report, diagnostics_in}
use Rattle.bat.specs.Writing.{diagnostics_text, contents_text, value_in_range}
use Rattle.bat_write.specs.Private.{report_of, value_in_range_in, contents_in}
use Rattle.octets.proofs.AppendLaws.{octet_then}

diagnostics_with : (i a b : ℕ) (s : List ℕ) (o : Option (List Diagnostic)) (ds : List Diagnostic) → Fits w8 b → ((es : List Diagnostic) → o ≡ some es → diagnostics_text es ≡ s)
    → map (λ (r : List Diagnostic). record { identifier = i; index = a * 256 + b } ∷ r) o ≡ some ds → diagnostics_text ds ≡ i ∷ a ∷ b ∷ s
unfolding diagnostics_text
diagnostics_with i a b s none ds h ih p = absurd (let z : ◌≡◌ {A = ℕ} 0 1 = cc in omega arith)
diagnostics_with i a b s (some es) ds h ih p =
    let is : record { identifier = i; index = a * 256 + b } ∷ es ≡ ds = cc in
    let high : (a * 256 + b) / 256 ≡ a = omega arith in
    let low : (a * 256 + b) % 256 ≡ b = omega arith in
    rw (← is) (rw (high, low, ih es refl))

-- the octets of the diagnostics that s is are s
diagnostics_again : (s : List ℕ) (ds : List Diagnostic) → ((i : ℕ) → Fits w8 (get_or s i 0)) → diagnostics_in s ≡ some ds → diagnostics_text ds ≡ s
unfolding diagnostics_in diagnostics_text
diagnostics_again [] ds h p = let is : ◌≡◌ {A = List Diagnostic} [] ds = cc in rw (← is)
diagnostics_again (i ∷ []) ds h p = absurd (let z : ◌≡◌ {A = ℕ} 0 1 = cc in omega arith)
diagnostics_again (i ∷ a ∷ []) ds h p = absurd (let z : ◌≡◌ {A = ℕ} 0 1 = cc in omega arith)
diagnostics_again (i ∷ a ∷ b ∷ s) ds h p =
    diagnostics_with i a b s (diagnostics_in s) ds (h 2) (λ es. diagnostics_again s es (λ k. h (suc (suc (suc k))))) p

report_text : (r : ℕ) (s : List ℕ) (o : Option (List Diagnostic)) → ((ds : List Diagnostic) → o ≡ some ds → diagnostics_text ds ≡ s)
    → value_in_range_in (map (report r) o) ≡ true → r ∷ s ≡ contents_in (map (report r) o)
unfolding value_in_range_in contents_in contents_text
report_text r s none ih p = absurd (let z : ◌≡◌ {A = ℕ} 0 1 = cc in omega arith)
report_text r s (some ds) ih p = rw (ih ds refl)

pub report_then : (l f : List ℕ) (at r : ℕ) (g : List ℕ) (k b : ℕ) (s : List ℕ) → ((i : ℕ) → Fits w8 (get_or s i 0)) → value_in_range_in (report_of b s) ≡ true → Appends g k s r f → Appends l at (b ∷ []) k g
    → Appends l at (contents_in (report_of b s)) r f
report_then l f at r g k b s h i q p =
    rw (report_text b s (diagnostics_in s) (λ ds. diagnostics_again s ds h) i) at (octet_then l f g at k r b s q p)

-- three octets more are one diagnostic more
report_more : (r : ℕ) (f : List Diagnostic → List Diagnostic) (o : Option (List Diagnostic)) → value_in_range_in (map (report r) o) ≡ value_in_range_in (map (report r) (map f o))
unfolding value_in_range_in value_in_range
report_more r f none = refl
report_more r f (some ds) = refl

pub threes : (r : ℕ) (s : List ℕ) → eqb (length s % 3) 0 ≡ value_in_range_in (report_of r s)
unfolding diagnostics_in value_in_range_in value_in_range
threes r [] = refl
threes r (i ∷ []) = refl
threes r (i ∷ a ∷ []) = refl
threes r (i ∷ a ∷ b ∷ s) =
    let z : suc (suc (suc (length s))) % 3 ≡ length s % 3 = omega arith in
    rw z (threes r s ∙ report_more r (λ (ds : List Diagnostic). record { identifier = i; index = a * 256 + b } ∷ ds) (diagnostics_in s))
