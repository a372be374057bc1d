-- Laws of the lines of a message, one after another: each moves the draft, before the ipbcp line, between it and the media
-- line, and after that.
-- Assumes nothing.
use Prim.Native.Nat.{ℕ, ◌≤◌, ◌<◌, min}
use mathlib.Core.Path.{◌≡◌, refl, sym, ap, ◌∙◌}
use mathlib.Core.List.{List}
use mathlib.Core.Bool.{Bool, true, false, cond, and-eq-true_iff}
use mathlib.Core.Option.{Option, none, some, Option-elim}
use lib.ListN.{length, drop}
use lib.Dec.{eqb}
use native.Mathlib.Omega.{arith}
use borrow.Author.Tests.{eqb-true, eq-eqb, ne_eqb}
use Rattle.std.specs.Prelude.{Some, None}
use Rattle.std.specs.Prelude as answer
use Rattle.octets.specs.declared.Span.{Span}
use Rattle.octets.specs.Spans.{text_of}
use Rattle.octets.specs.Words.{begins}
use Rattle.sdp.specs.declared.Line.{Line}
use Rattle.sdp.specs.Lines.{lines, in_lines}
use Rattle.sdp.specs.Meaning.{first_line, line_in}
use Rattle.sdp.proofs.CutLaws.{loop_lines, loop_in_lines, loop_none, loop_end, loop_ended}
use Rattle.address.specs.declared.Address.{Address}
use Rattle.media.specs.declared.Stream.{Stream as Places}
use Rattle.media.specs.Attributes.{media_of}
use Rattle.media.specs.Meaning.{stream_by, taken_by}
use Rattle.description.specs.declared.Preamble.{Preamble}
use Rattle.description.specs.Draft.{Draft, empty_draft, reached, needed, media_line, ipbcp_word, ipbcp_line, with_stream, attribute_line, after_field, after_line}
use Rattle.description.specs.Meaning.{preamble_by, preamble_in, after_ipbcp, is_ipbcp, is_skipped, preamble_line, after_media, after_media_by, LaterLine}
use Rattle.description.proofs.FieldLaws.{between_line}
use Rattle.ipbcp.specs.declared.Head.{Head}
use Rattle.ipbcp.specs.Types.{head_from, without_blank, head_in}
use Rattle.ipbcp.specs.Reading.{after_lines}
use Rattle.ipbcp.proofs.TypeLaws.{head_moved}
use Rattle.ipbcp.specs.Private.{after_text, after_text_if, complete, ReadsLater, ReadsMedia, ReadsStream, Reached}

-- ---- the line at i, with its letter and its value
module _ (m : List ℕ) (i : ℕ) (y : answer.Option Line) (w : line_in m y ≡ some (first_line (drop i m))) (ln : Line) (q : y ≡ Some ln) where
  after_line_lem : (b : Bool) (o : Option Draft) → cond b (Option-elim o none (λ e. after_lines e (lines (drop ln.next m)))) none ≡ Option-elim o none (λ e. cond b (after_lines e (lines (drop ln.next m))) none)
  unfolding Option-elim
  after_line_lem true none = refl
  after_line_lem false none = refl
  after_line_lem b (some e) = refl

  -- the line moves the draft d, and the lines after it what it makes
  moved : (d : Draft) → after_text d (drop i m) ≡ after_text_if (after_field d ln.letter (text_of m ln.value)) (drop ln.next m)
  unfolding after_text after_text_if Option-elim after_lines after_line
  moved d =
      rw (loop_in_lines m i y w ln q, loop_lines m i y w ln q)
      (after_line_lem (in_lines (drop ln.next m)) (after_field d ln.letter (text_of m ln.value)))

-- an ipbcp line has its place after five others
ipbcp_line_lem : (d : Draft) (letter : ℕ) (v : List ℕ) → is_ipbcp letter v ≡ true → after_field d letter v ≡ needed 5 true d
unfolding is_ipbcp after_field attribute_line ipbcp_line
ipbcp_line_lem d letter v h =
    let f = (and-eq-true_iff (eqb letter 97) (begins ipbcp_word v)).0 h in
    let e : letter ≡ 97 = eqb-true letter 97 f.0 in
    rw (e, f.1)

-- no line at i, or no octet
none_there : (m : List ℕ) (i : ℕ) (y : answer.Option Line) → line_in m y ≡ some (first_line (drop i m)) → y ≡ None → i < length m → (d : Draft) → after_text d (drop i m) ≡ none
unfolding after_text
none_there m i y w q h d = rw (loop_none m i y w q h)

all_there : (m : List ℕ) (i : ℕ) → length m ≤ i → (d : Draft) → after_text d (drop i m) ≡ some d
unfolding after_text after_lines
all_there m i h d = rw (loop_ended m i h, loop_end m i h)

-- ---- after the media line
-- s with the lines from i on is s₀ with those from `from` on
pub record Leads (m : List ℕ) (s : Places) (i : ℕ) (s₀ : Places) (from : ℕ) : Type 0 where
  pub same : (a : Address) → after_text (after_media a (stream_by m s)) (drop i m) ≡ after_text (after_media a (stream_by m s₀)) (drop from m)

pub leads_start : (m : List ℕ) (s : Places) (i : ℕ) → Leads m s i s i
leads_start m s i = record { same = λ a. refl }

module _ (m : List ℕ) (s s₀ : Places) (i from : ℕ) (inv : Leads m s i s₀ from) where
  pub later_end : length m ≤ i → ReadsLater m s₀ from (Some s)
  unfolding after_media_by taken_by
  later_end h = record { is = λ a. sym (all_there m i h (after_media a (stream_by m s))) ∙ inv.same a }

  module _ (y : answer.Option Line) (w : line_in m y ≡ some (first_line (drop i m))) where
    pub later_none : y ≡ None → i < length m → ReadsLater m s₀ from None
    unfolding after_media_by taken_by
    later_none q h = record { is = λ a. sym (none_there m i y w q h (after_media a (stream_by m s))) ∙ inv.same a }

    module _ (ln : Line) (q : y ≡ Some ln) (z : answer.Option Places) (is : LaterLine m s ln.letter ln.value z) where
      later_moved : (a : Address) → after_text_if (after_media_by a m z) (drop ln.next m) ≡ after_text (after_media a (stream_by m s₀)) (drop from m)
      later_moved a = rw (is.is a) (sym (moved m i y w ln q (after_media a (stream_by m s))) ∙ inv.same a)

      pub later_wrong : z ≡ None → ReadsLater m s₀ from None
      unfolding after_text_if Option-elim after_media_by taken_by
      later_wrong e = record { is = λ a. rw e at later_moved a }

      pub later_more : (e : Places) → z ≡ Some e → Leads m e ln.next s₀ from
      unfolding after_text_if Option-elim after_media_by taken_by
      later_more e g = record { same = λ a. rw g at later_moved a }

pub ruleset laters = (leads_start, later_end, later_none, later_wrong, later_more)

-- ---- the media line: x is what it was read as, and z what the lines after it make of that
module _ (m : List ℕ) (v : Span) (from : ℕ) (x : answer.Option Places) (p : taken_by m x ≡ media_of (text_of m v)) where
  media_is : (t : answer.Option Places) → x ≡ t → (a : Address) → media_line (after_ipbcp a) (text_of m v) ≡ after_media_by a m t
  unfolding media_line after_ipbcp after_media_by after_media with_stream
  media_is t e a = rw (← p, e)

  pub media_wrong : x ≡ None → ReadsMedia m v from None
  unfolding after_text_if Option-elim after_media_by taken_by
  media_wrong e = record { is = λ a. rw (media_is None e a) }

  pub media_read : (s : Places) → x ≡ Some s → (z : answer.Option Places) → ReadsLater m s from z → ReadsMedia m v from z
  unfolding after_text_if Option-elim after_media_by taken_by
  media_read s e z q = record { is = λ a. rw (media_is (Some s) e a) (q.is a) }

pub ruleset medias = (media_wrong, media_read)

-- ---- between the ipbcp line and the media line
-- the lines from i on make what those from `from` on make
pub record Skips (m : List ℕ) (i from : ℕ) : Type 0 where
  pub same : (a : Address) → after_text (after_ipbcp a) (drop i m) ≡ after_text (after_ipbcp a) (drop from m)

pub skips_start : (m : List ℕ) (i : ℕ) → Skips m i i
skips_start m i = record { same = λ a. refl }

ended_later : (a : Address) (m : List ℕ) (r : answer.Option Places) → complete (after_media_by a m r) ≡ after_media_by a m r
unfolding complete after_media_by taken_by after_media
ended_later a m (Some s) = refl
ended_later a m None = refl

module _ (m : List ℕ) (i from : ℕ) (inv : Skips m i from) where
  pub stream_end : length m ≤ i → ReadsStream m from None
  unfolding after_media_by taken_by complete after_ipbcp
  stream_end h = record { is = λ a. rw (← inv.same a, all_there m i h (after_ipbcp a)) }

  module _ (y : answer.Option Line) (w : line_in m y ≡ some (first_line (drop i m))) where
    pub stream_none : y ≡ None → i < length m → ReadsStream m from None
    unfolding after_media_by taken_by complete
    stream_none q h = record { is = λ a. rw (← inv.same a, none_there m i y w q h (after_ipbcp a)) }

    module _ (ln : Line) (q : y ≡ Some ln) where
      pub stream_media : ln.letter ≡ 109 → (r : answer.Option Places) → ReadsMedia m ln.value ln.next r → ReadsStream m from r
      unfolding after_field
      stream_media e r p = record {
        is = λ a.
            let z = moved m i y w ln q (after_ipbcp a) in
            let k : after_text (after_ipbcp a) (drop i m) ≡ after_media_by a m r = (rw e at z) ∙ sym (p.is a) in
            rw (← inv.same a, k) (sym (ended_later a m r));
      }

      module _ (other : ln.letter ≡ 109 → ⊥) (t : List ℕ) (at : t ≡ text_of m ln.value) (b : Bool) (is : b ≡ is_skipped ln.letter t) where
        skipped_moved : (a : Address) → after_text (after_ipbcp a) (drop from m) ≡ after_text_if (cond b (some (after_ipbcp a)) none) (drop ln.next m)
        skipped_moved a =
            rw (← inv.same a, moved m i y w ln q (after_ipbcp a), between_line a ln.letter (text_of m ln.value) other, is, at)

        pub stream_wrong : b ≡ false → ReadsStream m from None
        unfolding after_media_by taken_by complete after_text_if Option-elim
        stream_wrong e = record { is = λ a. rw (skipped_moved a, e) }

        pub stream_more : b ≡ true → Skips m ln.next from
        unfolding after_text_if Option-elim
        stream_more e = record { same = λ a. sym (skipped_moved a ∙ rw e) }

pub ruleset streams = (skips_start, stream_end, stream_none, stream_media, stream_wrong, stream_more)

-- ---- before the ipbcp line: the lines before i made o, and x is what all make
pub preamble_start : (m : List ℕ) (o : Preamble) → preamble_by o ≡ empty_draft → after_text (preamble_by o) (drop 0 m) ≡ after_text empty_draft m
preamble_start m o e = rw e

module _ (m : List ℕ) (o : Preamble) (i : ℕ) (x : Option Draft) (inv : after_text (preamble_by o) (drop i m) ≡ x) where
  pub preamble_end : length m ≤ i → complete x ≡ none
  unfolding complete preamble_by
  preamble_end h =
      let z : some (preamble_by o) ≡ x = sym (all_there m i h (preamble_by o)) ∙ inv in
      rw (← z, ne_eqb (min o.had 5) 7 (λ e. omega arith))

  module _ (y : answer.Option Line) (w : line_in m y ≡ some (first_line (drop i m))) where
    pub preamble_none : y ≡ None → i < length m → complete x ≡ none
    unfolding complete
    preamble_none q h = rw (← inv, none_there m i y w q h (preamble_by o))

    module _ (ln : Line) (q : y ≡ Some ln) where
      lost : after_field (preamble_by o) ln.letter (text_of m ln.value) ≡ none → complete x ≡ none
      unfolding complete after_text_if Option-elim
      lost e = rw (← inv, moved m i y w ln q (preamble_by o), e)

      module _ (t : List ℕ) (at : t ≡ text_of m ln.value) (b : Bool) (is : b ≡ is_ipbcp ln.letter t) where
        ipbcp : (c : Bool) → b ≡ c → is_ipbcp ln.letter (text_of m ln.value) ≡ c
        ipbcp c e = rw (← at) (sym is ∙ e)

        -- the ipbcp line is in its place after five, or not
        module _ (yes : b ≡ true) where
          placed : after_field (preamble_by o) ln.letter (text_of m ln.value) ≡ needed 5 true (preamble_by o)
          placed = ipbcp_line_lem (preamble_by o) ln.letter (text_of m ln.value) (ipbcp true yes)

          pub preamble_early : o.had < 5 → complete x ≡ none
          unfolding needed preamble_by
          preamble_early h = lost (placed ∙ rw (ne_eqb (min o.had 5) 5 (λ k. omega arith)))

          pub preamble_typed : 5 ≤ o.had → head_in (drop i m) ≡ head_in m → x ≡ after_text empty_draft m → (h : answer.Option Head) → h ≡ head_from (without_blank (drop 6 t)) → Reached m h o.address ln.next
          unfolding needed reached preamble_by after_ipbcp after_text_if Option-elim
          preamble_typed g p l h k =
              let f : after_text (preamble_by o) (drop i m) ≡ after_text (after_ipbcp o.address) (drop ln.next m) =
              moved m i y w ln q (preamble_by o) ∙ rw (placed, eq-eqb (min o.had 5) 5 (omega arith)) in
              record {
                lines = sym f ∙ inv ∙ l;
                head = rw (k, at) (sym (head_moved m i y w ln q ∙ rw (ipbcp true yes)) ∙ p);
              }

        -- another line
        module _ (no : b ≡ false) where
          pub preamble_head : (g : answer.Option Head) → head_in (drop i m) ≡ g → head_in (drop ln.next m) ≡ g
          preamble_head g p = sym (head_moved m i y w ln q ∙ rw (ipbcp false no)) ∙ p

          module _ (z : answer.Option Preamble) (says : preamble_in z ≡ preamble_line (preamble_by o) ln.letter t) where
            extended : after_field (preamble_by o) ln.letter (text_of m ln.value) ≡ preamble_in z
            unfolding preamble_line
            extended = sym (says ∙ rw (at, ipbcp false no))

            pub preamble_wrong : z ≡ None → complete x ≡ none
            unfolding preamble_in
            preamble_wrong e = lost (extended ∙ ap preamble_in e)

            pub preamble_more : (e : Preamble) → z ≡ Some e → after_text (preamble_by e) (drop ln.next m) ≡ x
            unfolding after_text_if Option-elim preamble_in
            preamble_more e g =
                let k : after_text_if (preamble_in z) (drop ln.next m) ≡ x = rw (← extended) (sym (moved m i y w ln q (preamble_by o)) ∙ inv) in
                rw g at k

pub ruleset preambles = (preamble_end, preamble_none, preamble_early, preamble_typed, preamble_head, preamble_wrong, preamble_more)
