-- Laws of what a message names and of the bearer that is held for it: a text that lies inside a message lies at the same place
-- inside a list that begins with the message. And what is heard fits in a bearer's array, since longer messages are not read.
-- Assumes nothing.
use Prim.Native.Nat.{ℕ, ◌+◌, ◌-◌, ◌≤◌}
use mathlib.Core.Path.{◌≡◌, refl}
use mathlib.Core.List.{List, [], ◌∷◌, ◌++◌, map}
use mathlib.Core.Bool.{Bool, true, false, ◌&&◌, cond, and-eq-true_iff}
use mathlib.Core.Option.{none, some}
use lib.ListN.{length, drop, replicate, length-append, length-drop, length-replicate}
use lib.Seq.{take_all, take-append-le, drop-append-le}
use lib.Dec.{leb}
use native.Mathlib.Nat.{zero-add}
use native.Mathlib.Omega.{arith}
use borrow.Author.Tests.{leb-true, le-leb, lt-leb}
use Rattle.octets.specs.declared.Span.{Span}
use Rattle.octets.specs.Spans.{text_of, inside}
use Rattle.octets.specs.Append.{put, appended}
use Rattle.octets.proofs.CaseLaws.{by_le}
use Rattle.media.specs.declared.Stream.{Stream as Places}
use Rattle.media.specs.Stream.{Stream}
use Rattle.media.specs.Meaning.{texts_by, spans_of, stream_by, all_in, texts_inside, stream_inside, stream_in}
use Rattle.ipbcp.specs.declared.Description.{Description}
use Rattle.ipbcp.specs.Reading.{most_read}
use Rattle.bearer.specs.Bearer.{Bearer}
use Rattle.bearer.specs.Hearing.{nothing_heard, request_heard, accepted_heard, heard}
use Rattle.bearer.specs.Judging.{restated}
use Rattle.bearer.specs.Meaning.{bearer_by, bearer_inside, bearer_as, places_as}

-- ---- what a stream stands for, if it lies inside
module _ (m : List ℕ) (s : Places) (t : Stream) (h : stream_in m s ≡ some t) where
  told : (b : Bool) → cond b (some (stream_by m s)) none ≡ some t → (b ≡ true) × (t ≡ stream_by m s)
  told true e = (refl, cc)
  told false e = let z : ◌≡◌ {A = ℕ} 0 1 = cc in absurd (omega arith)

  pub stream_in_inside : stream_inside m s ≡ true
  unfolding stream_in
  stream_in_inside = (told (stream_inside m s) h).0

  pub stream_in_by : t ≡ stream_by m s
  unfolding stream_in
  stream_in_by = (told (stream_inside m s) h).1

-- with another port and packet time it lies inside as before
pub restated_by : (m : List ℕ) (s : Places) (t : Stream) (port ptime : ℕ) → stream_in m s ≡ some t → stream_in m (places_as port ptime s) ≡ some (restated port ptime t)
unfolding stream_in stream_inside stream_by restated
restated_by m s t port ptime h = rw (stream_in_by m s t h, stream_in_inside m s t h)

-- ---- texts of m, with z after it
module _ (m z : List ℕ) where
  text_front : (p : Span) → inside m p ≡ true → text_of (m ++ z) p ≡ text_of m p
  unfolding text_of
  text_front p h =
      let k : p.at + p.len ≤ length m = leb-true (p.at + p.len) (length m) h in
      rw (drop-append-le p.at m z (omega arith)) (take-append-le p.len (drop p.at m) z (omega (arith, length-drop p.at m)))

  texts_front : (ps : List Span) → all_in m ps ≡ true → map (text_of (m ++ z)) ps ≡ map (text_of m) ps
  unfolding all_in
  texts_front [] h = refl
  texts_front (p ∷ ps) h =
      let (a, b) = (and-eq-true_iff (inside m p) (all_in m ps)).0 h in
      rw (text_front p a, texts_front ps b)

  stream_front : (s : Places) → stream_inside m s ≡ true → stream_by (m ++ z) s ≡ stream_by m s
  unfolding stream_inside stream_by texts_by
  stream_front s h =
      let (a, b) = (and-eq-true_iff (inside m s.media) (inside m s.transport && (inside m s.rtpmap && texts_inside m s.fmtp))).0 h in
      let (c, d) = (and-eq-true_iff (inside m s.transport) (inside m s.rtpmap && texts_inside m s.fmtp)).0 b in
      let (e, f) = (and-eq-true_iff (inside m s.rtpmap) (texts_inside m s.fmtp)).0 d in
      let (_, g) = (and-eq-true_iff (leb s.fmtp.count 3) (all_in m (spans_of s.fmtp))).0 f in
      rw (text_front s.media a, text_front s.transport c, text_front s.rtpmap e, texts_front (spans_of s.fmtp) g)

  inside_front : (p : Span) → inside m p ≡ true → inside (m ++ z) p ≡ true
  inside_front p h =
      let k : p.at + p.len ≤ length m = leb-true (p.at + p.len) (length m) h in
      le-leb (p.at + p.len) (length (m ++ z)) (omega (arith, length-append m z))

  all_front : (ps : List Span) → all_in m ps ≡ true → all_in (m ++ z) ps ≡ true
  unfolding all_in
  all_front [] h = refl
  all_front (p ∷ ps) h =
      let (a, b) = (and-eq-true_iff (inside m p) (all_in m ps)).0 h in
      rw (inside_front p a, all_front ps b)

  stream_inside_front : (s : Places) → stream_inside m s ≡ true → stream_inside (m ++ z) s ≡ true
  unfolding stream_inside
  stream_inside_front s h =
      let (a, b) = (and-eq-true_iff (inside m s.media) (inside m s.transport && (inside m s.rtpmap && texts_inside m s.fmtp))).0 h in
      let (c, d) = (and-eq-true_iff (inside m s.transport) (inside m s.rtpmap && texts_inside m s.fmtp)).0 b in
      let (e, f) = (and-eq-true_iff (inside m s.rtpmap) (texts_inside m s.fmtp)).0 d in
      let (n, g) = (and-eq-true_iff (leb s.fmtp.count 3) (all_in m (spans_of s.fmtp))).0 f in
      rw (inside_front s.media a, inside_front s.transport c, inside_front s.rtpmap e, n, all_front (spans_of s.fmtp) g)

-- ---- the bearer of a message
appended_front : (l m : List ℕ) → length m ≤ length l → appended l 0 m ≡ m ++ drop (length m) l
unfolding appended put
appended_front l m h = rw (take_all (length l - 0) m (omega arith), zero-add (length m))

pub held_names : (m : List ℕ) (d : Description) (t : Stream) → stream_in m d.stream ≡ some t → length m ≤ most_read
    → bearer_by (bearer_as d m) ≡ record { address = d.address; stream = t }
unfolding bearer_by
held_names m d t h k =
    let l : List ℕ = replicate most_read 0 in
    let n : length l ≡ most_read = length-replicate {A = ℕ} most_read 0 in
    rw (appended_front l m (omega arith), stream_front m (drop (length m) l) d.stream (stream_in_inside m d.stream t h), ← stream_in_by m d.stream t h)

-- its texts lie inside its array
pub held_inside : (m : List ℕ) (d : Description) (t : Stream) → stream_in m d.stream ≡ some t → length m ≤ most_read → bearer_inside (bearer_as d m) ≡ true
held_inside m d t h k =
    let l : List ℕ = replicate most_read 0 in
    let n : length l ≡ most_read = length-replicate {A = ℕ} most_read 0 in
    rw (appended_front l m (omega arith)) (stream_inside_front m (drop (length m) l) d.stream (stream_in_inside m d.stream t h))

-- ---- messages that are heard are short
short_or : (m : List ℕ) → (heard m ≡ nothing_heard → ⊥) → length m ≤ most_read
unfolding heard
short_or m h = by_le (length m) most_read _ (λ k. k) (λ k. absurd (h (rw (lt-leb (length m) most_read k))))

pub heard_short : (m : List ℕ) (d : Bearer) → heard m ≡ request_heard (some d) → length m ≤ most_read
heard_short m d e = short_or m (λ k. let z : ◌≡◌ {A = ℕ} 0 1 = cc in omega arith)

pub accepted_short : (m : List ℕ) (d : Bearer) → heard m ≡ accepted_heard (some d) → length m ≤ most_read
accepted_short m d e = short_or m (λ k. let z : ◌≡◌ {A = ℕ} 0 1 = cc in omega arith)
