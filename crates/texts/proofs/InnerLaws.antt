-- Laws of parts of parts: where the part of a part lies in the whole, cut where either ends.
-- Assumes nothing.
use Prim.Native.Nat.{ℕ, ◌+◌, ◌-◌, ◌≤◌, ◌<◌, min}
use mathlib.Core.Path.{◌≡◌, sym, ◌∙◌}
use mathlib.Core.List.{List, []}
use lib.ListN.{length, take, drop, length-take, length-drop, drop_of_length-le}
use lib.Seq.{take_all, take-take, take-nil, drop-drop}
use native.Mathlib.Omega.{arith}
use Rattle.octets.specs.declared.Span.{Span}
use Rattle.octets.specs.Spans.{text_of}
use Rattle.octets.proofs.Laws.{drop_take}
use Rattle.octets.proofs.CaseLaws.{by_le}

module _ (m : List ℕ) (sp : Span) where
  module _ (p : Span) where
    -- what p stands for in the text of sp, by places of m
    shifted : text_of (text_of m sp) p ≡ take p.len (take (sp.len - p.at) (drop (sp.at + p.at) m))
    unfolding text_of
    shifted = rw (drop_take p.at sp.len (drop sp.at m), drop-drop p.at sp.at m)

    nothing : take (sp.len - p.at) (drop (sp.at + p.at) m) ≡ [] → text_of m (record { at = 0; len = 0 }) ≡ text_of (text_of m sp) p
    unfolding text_of
    nothing e = sym (shifted ∙ rw (e, take-nil p.len))

    pub inner_past : length m < sp.at → text_of m (record { at = 0; len = 0 }) ≡ text_of (text_of m sp) p
    inner_past h = nothing (rw (drop_of_length-le m {i = sp.at + p.at} (omega arith), take-nil (sp.len - p.at)))

    pub inner_off : sp.at ≤ length m → length m - sp.at < p.at → text_of m (record { at = 0; len = 0 }) ≡ text_of (text_of m sp) p
    inner_off h k = nothing (rw (drop_of_length-le m {i = sp.at + p.at} (omega arith), take-nil (sp.len - p.at)))

    pub inner_short : sp.len < p.at → text_of m (record { at = 0; len = 0 }) ≡ text_of (text_of m sp) p
    inner_short h = nothing (let z : sp.len - p.at ≡ 0 = omega arith in rw z)

    inner_whole : p.len ≤ sp.len - p.at → text_of m (record { at = sp.at + p.at; len = p.len }) ≡ text_of (text_of m sp) p
    unfolding text_of
    inner_whole h = sym (shifted ∙ take-take p.len (sp.len - p.at) (drop (sp.at + p.at) m) h)

    inner_cut : sp.len - p.at < p.len → text_of m (record { at = sp.at + p.at; len = sp.len - p.at }) ≡ text_of (text_of m sp) p
    unfolding text_of
    inner_cut h =
        let s = drop (sp.at + p.at) m in
        sym (shifted ∙ take_all p.len (take (sp.len - p.at) s) (simp length-take (omega arith)))

    pub inner_is : sp.at ≤ length m → p.at ≤ length m - sp.at → p.at ≤ sp.len
        → text_of m (record { at = sp.at + p.at; len = min p.len (sp.len - p.at) }) ≡ text_of (text_of m sp) p
    inner_is h k l =
        by_le p.len (sp.len - p.at) _
        (λ o. let z : min p.len (sp.len - p.at) ≡ p.len = omega arith in rw z (inner_whole o))
        (λ o. let z : min p.len (sp.len - p.at) ≡ sp.len - p.at = omega arith in rw z (inner_cut o))

  pub skipped : (n : ℕ) (x : Span) → text_of m x ≡ text_of (text_of m sp) (record { at = n; len = sp.len }) → text_of m x ≡ drop n (text_of m sp)
  unfolding text_of
  skipped n x e = e ∙ take_all sp.len (drop n (take sp.len (drop sp.at m))) (simp (length-drop, length-take) (omega arith))

pub ruleset inners = (inner_past, inner_off, inner_short, inner_is)
