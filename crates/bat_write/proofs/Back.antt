-- What `write_element` and `write_selected` write is read back from the buffer as what was to be written, whatever follows it.
-- Assumes nothing.
use Prim.Native.Nat.{ℕ}
use mathlib.Core.Path.{◌≡◌, refl, sym, ap, ◌∙◌}
use mathlib.Core.List.{List}
use mathlib.Core.Bool.{◌&&◌, and-eq-true_iff}
use mathlib.Core.Option.{Option, none, some}
use lib.ListN.{length, drop}
use lib.Seq.{drop-append_seam}
use lib.Dec.{leb}
use native.Mathlib.Omega.{arith}
use borrow.Author.Tests.{leb-true}
use Rattle.octets.proofs.PutsLaws.{puts_no, puts_some}
use Rattle.octets.proofs.CaseLaws.{by_bool}
use Rattle.bat_write.specs.Code as code
use Rattle.std.specs.Prelude.{Ok}
use Rattle.bat.specs.Framing.{most_octets}
use Rattle.bat.specs.Values.{InnerCodec, Value, codecs, all_codecs, codecs_in, meant}
use Rattle.octets.specs.Puts.{Puts}
use Rattle.bat.specs.Writing.{value_in_range, value_text, element_octets, element_octets_in}
use Rattle.bat.specs.ValueMeaning.{value_in}
use Rattle.bat.specs.Back.{ReadBack}
use Rattle.bat.proofs.RoundTrip.{read_written}
use Rattle.bat_write.specs.Selected.{selected, selected_list}
use Rattle.bat_write.specs.Back.{ElementBack, WrittenBack}
use Rattle.bat_write.proofs.SelectedLaws.{selected_is}

-- octets that are read back as v are read back from the buffer that they are put into
pub element_back : (c : ℕ) (v : Value) (l : List ℕ) (n : ℕ) (f : List ℕ) → ReadBack c v (drop (length (value_text c v)) l) → Puts (some (value_text c v)) l (Ok n) f → ElementBack v c n f
element_back c v l n f back p =
    let t = value_text c v in
    let (count, leaves) = puts_some t l n f p in
    let rest = drop (length t) l in
    let behind : drop n f ≡ rest = rw (count, leaves, drop-append_seam t rest) in
    record {
      element = back.element;
      fronts = rw (behind, leaves) back.fronts;
      covers = ap (λ (x : List ℕ). length x) back.covers ∙ sym count;
      means = back.means;
      decodes = back.decodes;
    }

module _ (c : ℕ) (l : List ℕ) (n : ℕ) (f : List ℕ) where
  -- what can be written is
  back_some : (v : Value) → Puts (element_octets (meant c) v) l (Ok n) f → ElementBack v (meant c) n f
  unfolding element_octets
  back_some v p =
      let t = value_text (meant c) v in
      by_bool (value_in_range v && leb (length t) most_octets) _
      (λ h.
      let (right, short) = (and-eq-true_iff (value_in_range v) (leb (length t) most_octets)).0 h in
      element_back (meant c) v l n f (read_written (meant c) v (drop (length t) l) (omega arith) right (leb-true _ _ short)) (rw h at p))
      (λ h. absurd (puts_no l n f (rw h at p)))

module _ (s : List ℕ) (v : code.Value) (c : ℕ) (l : List ℕ) (n : ℕ) (f : List ℕ) where
  back_of : (o : Option Value) → value_in s v ≡ o → Puts (element_octets_in (meant c) o) l (Ok n) f → WrittenBack s v c n f
  unfolding element_octets_in
  back_of none is p = absurd (puts_no l n f p)
  back_of (some w) is p =
      let b : ElementBack w (meant c) n f = back_some c l n f w p in
      record {
        value = w;
        stands = is;
        element = b.element;
        fronts = b.fronts;
        covers = b.covers;
        means = b.means;
        decodes = b.decodes;
      }

  pub written_back : Puts (element_octets_in (meant c) (value_in s v)) l (Ok n) f → WrittenBack s v c n f
  written_back p = back_of (value_in s v) refl p

module _ (ms s : List ℕ) (cs : List InnerCodec) (c : ℕ) (l : List ℕ) (n : ℕ) (f : List ℕ) where
  pub selected_back : codecs_in s ≡ all_codecs cs → Puts (element_octets_in (meant c) (selected_list ms s)) l (Ok n) f → ElementBack (codecs (selected ms cs)) (meant c) n f
  unfolding element_octets_in
  selected_back e p = back_some c l n f (codecs (selected ms cs)) (rw (selected_is ms s cs e) at p)
