-- The element of a value has the value's identifier and contents, and a buffer of 2,048 octets holds the contents or shows that they are too long.
-- Assumes nothing.
use Prim.Native.Nat.{ℕ, ◌-◌}
use mathlib.Core.Path.{◌≡◌, refl, sym, ◌∙◌}
use mathlib.Core.List.{List}
use mathlib.Core.Bool.{Bool, true, false}
use mathlib.Core.Option.{Option, none, some, map, Option-elim}
use lib.ListN.{length, take, drop, length-take}
use lib.Seq.{take_all}
use native.Mathlib.Omega.{arith}
use Rattle.octets.specs.Spans.{text_of}
use Rattle.octets.specs.Append.{Appends}
use Rattle.octets.proofs.PutsLaws.{puts_none, scratch_text}
use Rattle.octets.proofs.CaseLaws.{by_le}
use Rattle.bat_write.specs.Code as code
use Rattle.std.specs.Prelude.{Result, Err}
use Rattle.octets.specs.declared.Refusal.{Refusal}
use Rattle.octets.specs.declared.Refusal.TheVariants.{OutOfRange}
use Rattle.bat.specs.Values.{Diagnostic, Value, Codecs, all_codecs, offence, on_codecs, codecs_in, report, diagnostics_in}
use Rattle.octets.specs.Puts.{bounded, Puts}
use Rattle.bat.specs.Writing.{element_text, identifier_of, value_text, element_octets, element_octets_in}
use Rattle.bat.specs.ValueMeaning.{value_by}
use Rattle.bat.specs.Framing.{most_octets}
use Rattle.bat_write.specs.Private.{list_of, value_in_range_in, contents_in, identifier_in}
use Rattle.bat_write.proofs.PutLaws.{too_long}

-- ---- the identifier
codecs_coded : (x : Codecs) → Option-elim (list_of x) 4 identifier_of ≡ 4
unfolding on_codecs Option-elim identifier_of
codecs_coded (all_codecs cs) = refl
codecs_coded (offence d) = refl

report_coded : (r : ℕ) (o : Option (List Diagnostic)) → Option-elim (map (report r) o) 6 identifier_of ≡ 6
unfolding Option-elim identifier_of
report_coded r none = refl
report_coded r (some ds) = refl

coded : (s : List ℕ) (v : code.Value) → Option-elim (value_by s v) (identifier_in v) identifier_of ≡ identifier_in v
unfolding value_by identifier_in Option-elim identifier_of
coded s (code.Action n) = refl
coded s (code.Backbone p) = refl
coded s (code.Address p) = refl
coded s (code.Codecs p) = codecs_coded (codecs_in (text_of s p))
coded s (code.Single c) = refl
coded s (code.Report r p) = report_coded r (diagnostics_in (text_of s p))
coded s (code.Characteristics n) = refl
coded s (code.Control p) = refl
coded s (code.Tunnelling b) = refl
coded s (code.Unit n l) = refl
coded s (code.Signal k t) = refl
coded s (code.Capability b) = refl
coded s (code.Indicators p) = refl
coded s (code.SignalType n) = refl
coded s (code.Duration n) = refl

-- ---- the octets
octets_right : (c i : ℕ) (o : Option Value) → value_in_range_in o ≡ true → Option-elim o i identifier_of ≡ i → element_octets_in c o ≡ bounded most_octets (element_text i c (contents_in o))
unfolding value_in_range_in contents_in element_octets_in element_octets value_text bounded Option-elim
octets_right c i none p q = absurd (let z : ◌≡◌ {A = ℕ} 0 1 = cc in omega arith)
octets_right c i (some v) p q = rw (p, q)

octets_wrong : (c : ℕ) (o : Option Value) → value_in_range_in o ≡ false → element_octets_in c o ≡ none
unfolding value_in_range_in element_octets_in element_octets
octets_wrong c none p = refl
octets_wrong c (some v) p = rw p

-- what 2,048 octets hold of the contents tells as much of the element
bounded_cut : (i c : ℕ) (s : List ℕ) → bounded most_octets (element_text i c (take most_octets s)) ≡ bounded most_octets (element_text i c s)
bounded_cut i c s =
    by_le (length s) most_octets _
    (λ h. rw (take_all most_octets s h))
    (λ h. too_long i c (take most_octets s) s (simp length-take (omega arith)) ∙ sym (too_long i c s s (omega arith)))

module _ (s l : List ℕ) (c : ℕ) (v : code.Value) (t : Bool) (is : t ≡ value_in_range_in (value_by s v)) where
  pub writes_none : t ≡ false → Puts (element_octets_in c (value_by s v)) l (Err OutOfRange) l
  writes_none e = rw (octets_wrong c (value_by s v) (sym is ∙ e)) (puts_none l)

  pub writes : (z g : List ℕ) (n i : ℕ) (r : Result ℕ Refusal) (f : List ℕ) → t ≡ true → Appends z 0 (contents_in (value_by s v)) n g → length z ≡ most_octets → i ≡ identifier_in v
      → Puts (bounded most_octets (element_text i c (take (n - 0) (drop 0 g)))) l r f → Puts (element_octets_in c (value_by s v)) l r f
  writes z g n i r f e p h q a =
      let u = contents_in (value_by s v) in
      let o : element_octets_in c (value_by s v) ≡ bounded most_octets (element_text (identifier_in v) c u) = octets_right c (identifier_in v) (value_by s v) (sym is ∙ e) (coded s v) in
      rw (o, ← q, ← bounded_cut i c u, ← scratch_text z g u n p most_octets h) a
