-- The text of a media line and of each attribute, as it is written, is read as what it says: a token ends at the blank after it,
-- since it has none itself, and a number is read back from its digits.
-- Assumes nothing.
use Prim.Native.Nat.{ℕ, ◌≤◌, ◌<◌}
use mathlib.Core.Path.{◌≡◌, refl, ◌∙◌, ap}
use mathlib.Core.List.{List, [], ◌∷◌, ◌++◌}
use mathlib.Core.Bool.{false}
use mathlib.Core.Option.{some}
use lib.ListN.{length}
use lib.Seq.{drop-append-add}
use native.Mathlib.Omega.{arith}
use borrow.Author.Tests.{lt-ltb, le-leb, eq-eqb}
use Rattle.octets.specs.Append.{width_from, number_text}
use Rattle.octets.specs.Decimal.{on_number, is_digit}
use Rattle.octets.specs.Split.{has, before, split_on, part_at}
use Rattle.octets.specs.Words.{begins}
use Rattle.octets.proofs.AppendLaws.{width_one, width_suc, length_last}
use Rattle.octets.proofs.CaseLaws.{by_lt}
use Rattle.octets.proofs.RoundTrip.{number_back, number_has}
use Rattle.octets.proofs.SplitLaws.{before_here, before_more, has_cons, split_append, split_whole}
use Rattle.texts.specs.Tokens.{none_empty, token_count, after_blank}
use Rattle.media.specs.Stream.{Stream, bare_stream, rtpmap_word, fmtp_word, ptime_word, media_text}
use Rattle.media.specs.Attributes.{media_of, fitting, with_rtpmap, with_fmtp, with_ptime, rtpmap_of, fmtp_of, ptime_of, attribute_of}

-- ---- a number's text
pub number_some : (n : ℕ) → 0 < length (number_text n)
unfolding number_text
number_some n =
    rw (length_last (width_from 19 n) n)
    (by_lt n 10 _ (λ h. rw (width_one 19 n h) (omega arith)) (λ h. rw (width_suc 18 n h) (omega arith)))

-- ---- what comes before and after an octet c, where xs has none
before_append : (c : ℕ) (xs ys : List ℕ) → has c xs ≡ false → before c (xs ++ (c ∷ ys)) ≡ xs
before_append c [] ys h = before_here c c ys refl
before_append c (b ∷ bs) ys h =
    has_cons c b bs _ h (λ e r. before_more c b (bs ++ (c ∷ ys)) e ∙ ap (λ (l : List ℕ). b ∷ l) (before_append c bs ys r))

after_append : (xs ys : List ℕ) → has 32 xs ≡ false → after_blank (xs ++ (32 ∷ ys)) ≡ ys
unfolding after_blank
after_append xs ys h = rw (before_append 32 xs ys h) (drop-append-add xs (32 ∷ ys) 1)

-- ---- the media line
module _ (s : Stream) (a : has 32 s.media ≡ false) (b : has 32 s.transport ≡ false) where
  media_split : split_on 32 (media_text s) ≡ s.media ∷ number_text s.port ∷ s.transport ∷ number_text s.payload ∷ []
  unfolding media_text is_digit
  media_split =
      rw (split_append 32 s.media (number_text s.port ++ (32 ∷ (s.transport ++ (32 ∷ number_text s.payload)))) a)
      (rw (split_append 32 (number_text s.port) (s.transport ++ (32 ∷ number_text s.payload)) (number_has 32 s.port refl))
      (rw (split_append 32 s.transport (number_text s.payload) b)
      (rw (split_whole 32 (number_text s.payload) (number_has 32 s.payload refl)))))

  pub media_back : 0 < length s.media → 0 < length s.transport → 1 ≤ s.port → s.port ≤ 65535 → s.payload ≤ 127
      → media_of (media_text s) ≡ some (bare_stream s.media s.port s.transport s.payload)
  unfolding media_of token_count none_empty part_at on_number
  media_back p q l h k =
      rw media_split
      (simp (
        lt-ltb 0 (length s.media) p,
        lt-ltb 0 (length (number_text s.port)) (number_some s.port),
        lt-ltb 0 (length s.transport) q,
        lt-ltb 0 (length (number_text s.payload)) (number_some s.payload),
        number_back s.port h,
        number_back s.payload (omega arith),
        le-leb 1 s.port l,
        le-leb s.payload 127 k,
      ))

-- ---- the attributes
pub rtpmap_back : (s : Stream) (text : List ℕ) → s.rtpmap ≡ [] → 0 < length text → s.payload ≤ 127
    → attribute_of s (rtpmap_word ++ (number_text s.payload ++ (32 ∷ text))) ≡ fitting (with_rtpmap text s)
unfolding attribute_of begins rtpmap_of part_at on_number is_digit
rtpmap_back s text e p k =
    let h : has 32 (number_text s.payload) ≡ false = number_has 32 s.payload refl in
    rw (e, split_append 32 (number_text s.payload) text h)
    (simp (
      number_back s.payload (omega arith),
      eq-eqb s.payload s.payload refl,
      after_append (number_text s.payload) text h,
      lt-ltb 0 (length text) p,
    ))

pub fmtp_back : (s : Stream) (text : List ℕ) → length s.fmtp < 3 → attribute_of s (fmtp_word ++ text) ≡ fitting (with_fmtp text s)
unfolding attribute_of begins fmtp_of
fmtp_back s text h = rw (lt-ltb (length s.fmtp) 3 h)

pub ptime_back : (s : Stream) (n : ℕ) → s.ptime ≡ 0 → 1 ≤ n → n ≤ 255 → attribute_of s (ptime_word ++ number_text n) ≡ some (with_ptime n s)
unfolding attribute_of begins ptime_of on_number
ptime_back s n e p k = rw (e, number_back n (omega arith), le-leb 1 n p, le-leb n 255 k)
