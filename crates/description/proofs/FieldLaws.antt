-- Laws of a line by its letter: the letter that the code found picks the line's rule.
-- Assumes nothing.
use Prim.Native.Nat.{ℕ, min}
use mathlib.Core.Path.{◌≡◌, refl, sym, ◌∙◌}
use mathlib.Core.List.{List, [], ◌∷◌}
use mathlib.Core.Bool.{Bool, true, false, not, cond, and-eq-true_iff}
use mathlib.Core.Option.{none, some, map}
use lib.Dec.{eqb}
use native.Mathlib.Omega.{arith}
use borrow.Author.Tests.{ne_eqb}
use Rattle.std.specs.Prelude.{Option, Some, None}
use Rattle.std.specs.Bool.{then_some}
use Rattle.octets.specs.declared.Span.{Span}
use Rattle.octets.specs.Spans.{text_of}
use Rattle.octets.specs.Split.{has}
use Rattle.octets.specs.Words.{begins, same}
use Rattle.octets.proofs.CaseLaws.{by_eq, by_bool}
use Rattle.address.specs.declared.Address.{Address}
use Rattle.media.specs.declared.Stream.{Stream as Places}
use Rattle.media.specs.Stream.{Stream, rtpmap_word, fmtp_word, ptime_word}
use Rattle.media.specs.Attributes.{is_attribute, attribute_of}
use Rattle.media.specs.Meaning.{stream_by, taken_by}
use Rattle.description.specs.declared.Preamble.{Preamble}
use Rattle.description.specs.Draft.{Draft, needed, version_line, is_origin, origin_line, session_line, connection_line, is_time, time_line, media_line, ipbcp_word, ipbcp_line, with_stream, attribute_line, skipped_letters, after_field}
use Rattle.description.specs.Meaning.{preamble_by, preamble_in, after_ipbcp, is_ipbcp, is_skipped, preamble_line, after_media, after_media_by, LaterLine}

-- ---- lines that say nothing
module _ (v : List ℕ) where
  pub skipped_attribute : (letter : ℕ) → letter ≡ 97 → (t : Bool) → t ≡ begins ipbcp_word v → t ≡ false → (u : Bool) → u ≡ is_attribute v → not u ≡ is_skipped letter v
  unfolding is_skipped
  skipped_attribute letter e t p n u one = rw (e, ← p, n, one)

  pub skipped_ipbcp : (letter : ℕ) → letter ≡ 97 → (t : Bool) → t ≡ begins ipbcp_word v → t ≡ true → false ≡ is_skipped letter v
  unfolding is_skipped
  skipped_ipbcp letter e t p h = rw (e, ← p, h)

  pub skipped_letter : (letter : ℕ) → (letter ≡ 97 → ⊥) → (w : Bool) → w ≡ has letter skipped_letters → w ≡ is_skipped letter v
  unfolding is_skipped
  skipped_letter letter e w p = rw (ne_eqb letter 97 e) p

pub ruleset skipping = (skipped_attribute, skipped_ipbcp, skipped_letter)

-- an attribute, or a letter that is skipped
skipped_else : (d : Draft) (letter : ℕ) (v : List ℕ) → is_ipbcp letter v ≡ false → eqb d.had 7 ≡ false
    → cond (eqb letter 97) (attribute_line d v) (cond (has letter skipped_letters) (some d) none) ≡ cond (is_skipped letter v) (some d) none
unfolding is_skipped is_ipbcp attribute_line
skipped_else d letter v isnt h =
    by_eq letter 97 _
    (λ e. let n : begins ipbcp_word v ≡ false = rw e at isnt in
    by_bool (is_attribute v) _ (λ u. rw (e, n, u, h)) (λ u. rw (e, n, u)))
    (λ e. rw (ne_eqb letter 97 e))

-- an ipbcp line is not skipped
skipped_not : (letter : ℕ) (v : List ℕ) → is_ipbcp letter v ≡ true → is_skipped letter v ≡ false
unfolding is_ipbcp is_skipped
skipped_not letter v e =
    let f = (and-eq-true_iff (eqb letter 97) (begins ipbcp_word v)).0 e in
    rw (f.0, f.1)

skipped_six : (a : Address) (letter : ℕ) (v : List ℕ)
    → cond (eqb letter 97) (attribute_line (after_ipbcp a) v) (cond (has letter skipped_letters) (some (after_ipbcp a)) none) ≡ cond (is_skipped letter v) (some (after_ipbcp a)) none
unfolding is_ipbcp is_skipped attribute_line ipbcp_line needed after_ipbcp
skipped_six a letter v =
    by_bool (is_ipbcp letter v) _
    (λ e. by_eq letter 97 _
    (λ f. let n : begins ipbcp_word v ≡ true = rw f at e in rw (f, n))
    (λ f. rw (ne_eqb letter 97 f)))
    (λ e. skipped_else (after_ipbcp a) letter v e refl)

-- ---- before the ipbcp line: r is what the code made of the line with the value v
module _ (v : List ℕ) (o : Preamble) (letter : ℕ) where
  module _ (r : Option Preamble) where
    pub field_v : letter ≡ 118 → (w : Bool) → w ≡ same (48 ∷ []) v → preamble_in r ≡ needed 0 w (preamble_by o) → preamble_in r ≡ preamble_line (preamble_by o) letter v
    unfolding preamble_line is_ipbcp after_field version_line
    field_v e w p q = rw (e, ← p) q

    pub field_o : letter ≡ 111 → (w : Bool) → w ≡ is_origin v → preamble_in r ≡ needed 1 w (preamble_by o) → preamble_in r ≡ preamble_line (preamble_by o) letter v
    unfolding preamble_line is_ipbcp after_field origin_line
    field_o e w p q = rw (e, ← p) q

    pub field_s : letter ≡ 115 → preamble_in r ≡ needed 2 true (preamble_by o) → preamble_in r ≡ preamble_line (preamble_by o) letter v
    unfolding preamble_line is_ipbcp after_field session_line
    field_s e q = rw e q

    pub field_c : letter ≡ 99 → preamble_in r ≡ connection_line (preamble_by o) v → preamble_in r ≡ preamble_line (preamble_by o) letter v
    unfolding preamble_line is_ipbcp after_field
    field_c e q = rw e q

    pub field_t : letter ≡ 116 → (w : Bool) → w ≡ is_time v → preamble_in r ≡ needed 4 w (preamble_by o) → preamble_in r ≡ preamble_line (preamble_by o) letter v
    unfolding preamble_line is_ipbcp after_field time_line
    field_t e w p q = rw (e, ← p) q

  module _ (a : letter ≡ 118 → ⊥) (b : letter ≡ 111 → ⊥) (c : letter ≡ 115 → ⊥) (f : letter ≡ 99 → ⊥) (g : letter ≡ 116 → ⊥) (w : Bool) (is : w ≡ is_skipped letter v) where
    -- the media line, an attribute, or a letter that is skipped
    field_rest : is_ipbcp letter v ≡ false → after_field (preamble_by o) letter v ≡ cond (is_skipped letter v) (some (preamble_by o)) none
    unfolding after_field preamble_by media_line is_skipped has
    field_rest e =
        by_eq letter 109 _
        (λ h. rw (h, ne_eqb (min o.had 5) 6 (λ k. omega arith)))
        (λ h. rw (ne_eqb letter 118 a, ne_eqb letter 111 b, ne_eqb letter 115 c, ne_eqb letter 99 f, ne_eqb letter 116 g, ne_eqb letter 109 h)
        (skipped_else (preamble_by o) letter v e (ne_eqb (min o.had 5) 7 (λ k. omega arith))))

    preamble_rest : preamble_line (preamble_by o) letter v ≡ cond w (some (preamble_by o)) none
    unfolding preamble_line
    preamble_rest =
        by_bool (is_ipbcp letter v) _
        (λ e. rw (e, is, skipped_not letter v e))
        (λ e. rw (e, is) (field_rest e))

    pub field_skipped : w ≡ true → preamble_in (Some o) ≡ preamble_line (preamble_by o) letter v
    unfolding preamble_in
    field_skipped e = sym (preamble_rest ∙ rw e)

    pub field_other : w ≡ false → preamble_in None ≡ preamble_line (preamble_by o) letter v
    unfolding preamble_in
    field_other e = sym (preamble_rest ∙ rw e)

pub ruleset fields = (field_v, field_o, field_s, field_c, field_t, field_skipped, field_other)

-- ---- between the ipbcp line and the media line: d has six needed lines
pub between_line : (a : Address) (letter : ℕ) (v : List ℕ) → (letter ≡ 109 → ⊥) → after_field (after_ipbcp a) letter v ≡ cond (is_skipped letter v) (some (after_ipbcp a)) none
unfolding after_field version_line origin_line session_line connection_line time_line needed after_ipbcp is_skipped has
between_line a letter v h =
    by_eq letter 118 _ (λ e. rw e)
    (λ b. by_eq letter 111 _ (λ e. rw e)
    (λ c. by_eq letter 115 _ (λ e. rw e)
    (λ d. by_eq letter 99 _ (λ e. rw e)
    (λ f. by_eq letter 116 _ (λ e. rw e)
    (λ g. rw (ne_eqb letter 118 b, ne_eqb letter 111 c, ne_eqb letter 115 d, ne_eqb letter 99 f, ne_eqb letter 116 g, ne_eqb letter 109 h) (skipped_six a letter v))))))

-- ---- after the media line
-- an attribute of none of the three kinds says nothing
attribute_none : (s : Stream) (a : List ℕ) → is_attribute a ≡ false → attribute_of s a ≡ some s
unfolding is_attribute attribute_of
attribute_none s a h =
    by_bool (begins rtpmap_word a) _
    (λ e. absurd_true (rw e at h))
    (λ e. by_bool (begins fmtp_word a) _
    (λ f. absurd_true (rw (e, f) at h))
    (λ f. by_bool (begins ptime_word a) _
    (λ g. absurd_true (rw (e, f, g) at h))
    (λ g. rw (e, f, g))))
  where
    absurd_true : true ≡ false → attribute_of s a ≡ some s
    absurd_true z = cc

module _ (a : Address) (s : Stream) where
  -- each needed line comes before it
  later_rest : (letter : ℕ) (v : List ℕ) → (letter ≡ 97 → ⊥) → after_field (after_media a s) letter v ≡ cond (has letter skipped_letters) (some (after_media a s)) none
  unfolding after_field version_line origin_line session_line connection_line time_line media_line needed after_media has
  later_rest letter v k =
      by_eq letter 118 _ (λ e. rw e)
      (λ b. by_eq letter 111 _ (λ e. rw e)
      (λ c. by_eq letter 115 _ (λ e. rw e)
      (λ d. by_eq letter 99 _ (λ e. rw e)
      (λ f. by_eq letter 116 _ (λ e. rw e)
      (λ g. by_eq letter 109 _ (λ e. rw e)
      (λ h. rw (ne_eqb letter 118 b, ne_eqb letter 111 c, ne_eqb letter 115 d, ne_eqb letter 99 f, ne_eqb letter 116 g, ne_eqb letter 109 h, ne_eqb letter 97 k)))))))

  later_attribute : (v : List ℕ) → begins ipbcp_word v ≡ false → map (after_media a) (attribute_of s v) ≡ after_field (after_media a s) 97 v
  unfolding after_field attribute_line after_media with_stream
  later_attribute v e =
      by_bool (is_attribute v) _
      (λ h. rw (e, h))
      (λ h. rw (e, h, attribute_none s v h))

module _ (m : List ℕ) (s : Places) (letter : ℕ) (v : Span) where
  module _ (is : letter ≡ 97) (t : List ℕ) (at : t ≡ text_of m v) (b : Bool) (p : b ≡ begins ipbcp_word t) where
    told : (c : Bool) → b ≡ c → begins ipbcp_word (text_of m v) ≡ c
    told c e = rw (← at) (sym p ∙ e)

    pub later_ipbcp : b ≡ true → LaterLine m s letter v None
    unfolding after_field attribute_line ipbcp_line needed after_media after_media_by taken_by
    later_ipbcp e = record { is = λ a. rw (is, told true e) }

    pub later_a : b ≡ false → (r : Option Places) → taken_by m r ≡ attribute_of (stream_by m s) (text_of m v) → LaterLine m s letter v r
    unfolding after_media_by
    later_a e r q = record { is = λ a. rw (is, q) (later_attribute a (stream_by m s) (text_of m v) (told false e)) }

  module _ (no : letter ≡ 97 → ⊥) (w : Bool) (is : w ≡ has letter skipped_letters) where
    later_skipped : w ≡ true → LaterLine m s letter v (Some s)
    unfolding after_media_by taken_by
    later_skipped e = record { is = λ a. sym (later_rest a (stream_by m s) letter (text_of m v) no ∙ rw (← is, e)) }

    later_other : w ≡ false → LaterLine m s letter v None
    unfolding after_media_by taken_by
    later_other e = record { is = λ a. sym (later_rest a (stream_by m s) letter (text_of m v) no ∙ rw (← is, e)) }

    pub later_else : (r : Option Places) → r ≡ then_some w s → LaterLine m s letter v r
    later_else r e =
        by_bool w _
        (λ f. rw (e, f) (later_skipped f))
        (λ f. rw (e, f) (later_other f))

pub ruleset laters = (later_ipbcp, later_a)
