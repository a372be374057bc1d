-- Laws of `pass_fours`, `find_end` and `next_line`: what comes before the first octet that is not plain is `plain_part`,
-- and the octets after it say whether a line ends there.
-- Assumes nothing.
use Prim.Native.Nat.{ℕ, suc, ◌+◌, ◌-◌, ◌≤◌, ◌<◌}
use mathlib.Core.Path.{◌≡◌, refl, sym, ap, ◌∙◌}
use mathlib.Core.List.{List, [], ◌∷◌, ◌++◌, append-nil}
use mathlib.Core.Bool.{Bool, true, false}
use mathlib.Core.Option.{some}
use lib.ListN.{length, get_or, take, drop, length-drop, drop_of_length-le, take-append-drop}
use lib.Seq.{drop-drop, get_or-take, get_or-drop}
use native.Mathlib.Nat.{add-zero}
use native.Mathlib.Omega.{arith}
use lib.Dec.{leb, leb-suc-suc}
use borrow.Author.Tests.{le-leb, lt-leb}
use Rattle.octets.specs.Split.{before}
use Rattle.octets.specs.Spans.{text_of}
use Rattle.octets.proofs.Laws.{next, drop_take}
use Rattle.octets.proofs.SplitLaws.{before_more}
use Rattle.octets.proofs.CaseLaws.{by_bool}
use Rattle.sdp.specs.Lines.{is_plain, all_plain, is_line}
use Rattle.sdp.specs.Meaning.{line, no_line, first_line, line_in}
use Rattle.sdp.specs.Private.{plain_part, PlainTo, Ends, is_start}
use Rattle.std.specs.Prelude.{Some, None}
use Rattle.sdp.proofs.PlainLaws.{is_plain_lem, line_start, start_front, first_lf, first_crlf, first_open, first_last, first_short, first_start, first_wrong}

-- ---- `plain_part`
part_more : (b : ℕ) (bs : List ℕ) → is_plain b ≡ true → plain_part (b ∷ bs) ≡ b ∷ plain_part bs
unfolding plain_part
part_more b bs e = rw e

part_here : (b : ℕ) (bs : List ℕ) → is_plain b ≡ false → plain_part (b ∷ bs) ≡ []
unfolding plain_part
part_here b bs e = rw e

part_plain : (s : List ℕ) → all_plain (plain_part s) ≡ true
unfolding plain_part all_plain
part_plain [] = refl
part_plain (b ∷ bs) =
    by_bool (is_plain b) _
    (λ e. rw (e, e) (part_plain bs))
    (λ e. rw e)

part_take : (s : List ℕ) → take (length (plain_part s)) s ≡ plain_part s
unfolding plain_part
part_take [] = refl
part_take (b ∷ bs) =
    by_bool (is_plain b) _
    (λ e. rw e (ap (λ (l : List ℕ). b ∷ l) (part_take bs)))
    (λ e. rw e)

part_stops : (s : List ℕ) → length (plain_part s) < length s → is_plain (get_or s (length (plain_part s)) 0) ≡ false
unfolding plain_part
part_stops [] h = absurd (omega arith)
part_stops (b ∷ bs) h =
    by_bool (is_plain b) _
    (λ e. let k : suc (length (plain_part bs)) < suc (length bs) = rw e at h in rw e (part_stops bs (omega arith)))
    (λ e. rw e e)

part_all : (s : List ℕ) → leb (length s) (length (plain_part s)) ≡ all_plain s
unfolding plain_part all_plain
part_all [] = refl
part_all (b ∷ bs) =
    by_bool (is_plain b) _
    (λ e. rw e (leb-suc-suc (length bs) (length (plain_part bs)) ∙ part_all bs))
    (λ e. rw e (lt-leb (suc (length bs)) 0 (omega arith)))

-- all of s is plain if its plain part is as long as s
pub plain_all : (s : List ℕ) (n : ℕ) → Ends s 0 n → (t : Bool) → t ≡ leb (length s) n → t ≡ all_plain s
plain_all s n f t p =
    let z : n ≡ 0 + length (plain_part (drop 0 s)) = f.is in
    let k : n ≡ length (plain_part s) = omega arith in
    p ∙ rw k (part_all s)

-- ---- plain octets are passed, from i on
module _ (m : List ℕ) (i : ℕ) where
  pub to_start : PlainTo m i i
  to_start = record { count = refl; low = omega arith }

  to_next : (n : ℕ) → PlainTo m i n → n < length m → is_plain (get_or m n 0) ≡ true → PlainTo m i (n + 1)
  to_next n f h e =
      let k : n + suc (length (plain_part (drop (n + 1) m))) ≡ i + length (plain_part (drop i m)) =
      rw (next m n h, part_more (get_or m n 0) (drop (n + 1) m) e) at f.count in
      record { count = omega arith; low = omega (arith, f.low) }

  -- `find_end`, at n
  module _ (n : ℕ) (f : PlainTo m i n) where
    module _ (h : n < length m) (t : Bool) (p : t ≡ is_plain (get_or m n 0)) where
      pub plain_more : t ≡ true → PlainTo m i (n + 1)
      plain_more q = to_next n f h (sym p ∙ q)

      pub plain_found : t ≡ false → Ends m i n
      plain_found q =
          let k : plain_part (drop n m) ≡ [] = rw (next m n h) (part_here (get_or m n 0) (drop (n + 1) m) (sym p ∙ q)) in
          record { is = omega (arith, f.count, ap length k); low = f.low }

    pub plain_past : length m ≤ n → Ends m i n
    unfolding plain_part
    plain_past h =
        let k : plain_part (drop n m) ≡ [] = rw (drop_of_length-le m h) in
        record { is = omega (arith, f.count, ap length k); low = f.low }

    -- `pass_fours`, at n
    module _ (stop : ℕ) (s : stop ≡ length m - 3) (l : n < stop) where
      module _ (a : 13 < get_or m n 0) where
        pub to_1 : PlainTo m i (n + 1)
        to_1 = to_next n f (omega arith) (is_plain_lem (get_or m n 0) a)

        module _ (b : 13 < get_or m (n + 1) 0) where
          pub to_2 : PlainTo m i (n + 2)
          to_2 = let z : n + 1 + 1 ≡ n + 2 = omega arith in rw z at (to_next (n + 1) to_1 (omega arith) (is_plain_lem (get_or m (n + 1) 0) b))

          module _ (c : 13 < get_or m (n + 2) 0) where
            pub to_3 : PlainTo m i (n + 3)
            to_3 = let z : n + 2 + 1 ≡ n + 3 = omega arith in rw z at (to_next (n + 2) to_2 (omega arith) (is_plain_lem (get_or m (n + 2) 0) c))

            pub to_4 : 13 < get_or m (n + 3) 0 → PlainTo m i (n + 4)
            to_4 d = let z : n + 3 + 1 ≡ n + 4 = omega arith in rw z at (to_next (n + 3) to_3 (omega arith) (is_plain_lem (get_or m (n + 3) 0) d))

pub ruleset fours = (to_start, to_1, to_2, to_3, to_4)

pub ruleset ending = (plain_more, plain_found, plain_past)

-- ---- `next_line` at i: e is where the plain part ends
module _ (m : List ℕ) (i e : ℕ) (f : Ends m i e) where
  abbrev p : List ℕ
  p = plain_part (drop i m)

  plain : all_plain p ≡ true
  plain = part_plain (drop i m)

  long : length p ≡ e - i
  long = omega (arith, f.is)

  whole : drop i m ≡ p ++ drop e m
  whole =
      let k : drop (length p) (drop i m) ≡ drop e m = drop-drop (length p) i m ∙ rw (← f.is) in
      sym (take-append-drop (length p) (drop i m)) ∙ rw (part_take (drop i m), k)

  none_is : first_line (drop i m) ≡ no_line → line_in m None ≡ some (first_line (drop i m))
  unfolding line_in
  none_is k = rw k

  pub cut_open : length m ≤ e → line_in m None ≡ some (first_line (drop i m))
  cut_open h =
      let k : drop i m ≡ p = whole ∙ rw (drop_of_length-le m h, append-nil p) in
      none_is (rw k (first_open p plain))

  module _ (h : e < length m) where
    at_end : drop i m ≡ p ++ (get_or m e 0 ∷ drop (e + 1) m)
    at_end = whole ∙ ap (λ (l : List ℕ). p ++ l) (next m e h)

    stops : is_plain (get_or m e 0) ≡ false
    stops =
        let k = part_stops (drop i m) (omega (arith, f.is, length-drop i m)) in
        rw (get_or-drop i m (length p) 0, ← f.is) at k

    no_line_lem : first_line (p ++ (get_or m e 0 ∷ drop (e + 1) m)) ≡ no_line → line_in m None ≡ some (first_line (drop i m))
    no_line_lem k = none_is (ap first_line at_end ∙ k)

    pub cut_short : e - i < 2 → line_in m None ≡ some (first_line (drop i m))
    cut_short l = no_line_lem (first_short p plain (get_or m e 0) stops (drop (e + 1) m) (omega (arith, long)))

    module _ (l : 2 ≤ e - i) (t : Bool) (q : t ≡ is_start (get_or m i 0) (get_or m (i + 1) 0)) where
      octet : (k : ℕ) → k < 2 → get_or p k 0 ≡ get_or m (i + k) 0
      octet k g =
          ap (λ (w : List ℕ). get_or w k 0) (sym (part_take (drop i m)))
          ∙ get_or-take (length p) (drop i m) k 0 (omega (arith, long))
          ∙ get_or-drop i m k 0

      start : is_start (get_or p 0 0) (get_or p 1 0) ≡ t
      start = rw (octet 0 (omega arith), octet 1 (omega arith), add-zero i) (sym q)

      pub cut_other : t ≡ false → line_in m None ≡ some (first_line (drop i m))
      cut_other b = no_line_lem (first_start p plain (get_or m e 0) stops (drop (e + 1) m) (omega (arith, long)) (start ∙ b))

      module _ (b : t ≡ true) where
        is_line_lem : is_line p ≡ true
        is_line_lem = line_start p (omega (arith, long)) (start ∙ b) plain

        value : drop 2 p ≡ text_of m (record { at = i + 2; len = e - i - 2 })
        unfolding text_of
        value =
            ap (λ (w : List ℕ). drop 2 w) (sym (part_take (drop i m)))
            ∙ drop_take 2 (length p) (drop i m)
            ∙ rw (long, drop-drop 2 i m)

        text : p ≡ get_or m i 0 ∷ 61 ∷ text_of m (record { at = i + 2; len = e - i - 2 })
        text =
            start_front p (omega (arith, long)) (start ∙ b)
            ∙ rw (octet 0 (omega arith), add-zero i, value)

        text_is : (n : ℕ) → n ≤ length m → first_line (drop i m) ≡ line p (drop n m)
            → line_in m (Some (record { letter = get_or m i 0; value = record { at = i + 2; len = e - i - 2 }; next = n })) ≡ some (first_line (drop i m))
        unfolding line_in
        text_is n g k = rw (le-leb (i + 2 + (e - i - 2)) (length m) (omega (arith, f.low)), le-leb n (length m) g, ← text, k)

        pub cut_lf : get_or m e 0 ≡ 10 → line_in m (Some (record { letter = get_or m i 0; value = record { at = i + 2; len = e - i - 2 }; next = e + 1 })) ≡ some (first_line (drop i m))
        cut_lf d = text_is (e + 1) (omega arith) (ap first_line at_end ∙ rw d (first_lf p (drop (e + 1) m) is_line_lem))

        module _ (c : get_or m e 0 ≡ 10 → ⊥) where
          pub cut_wrong : (get_or m e 0 ≡ 13 → ⊥) → line_in m None ≡ some (first_line (drop i m))
          cut_wrong d = no_line_lem (first_wrong p plain (get_or m e 0) stops (drop (e + 1) m) c (λ g _. d g))

          pub cut_last : length m ≤ e + 1 → line_in m None ≡ some (first_line (drop i m))
          cut_last g = no_line_lem (rw (drop_of_length-le m {i = e + 1} g) (first_last p (get_or m e 0) plain c))

          module _ (g : e + 1 < length m) where
            pub cut_crlf : get_or m e 0 ≡ 13 → get_or m (e + 1) 0 ≡ 10
                → line_in m (Some (record { letter = get_or m i 0; value = record { at = i + 2; len = e - i - 2 }; next = e + 1 + 1 })) ≡ some (first_line (drop i m))
            cut_crlf d k =
                text_is (e + 1 + 1) (omega arith)
                (ap first_line at_end ∙ rw (next m (e + 1) g, d, k) (first_crlf p (drop (e + 1 + 1) m) is_line_lem))

            pub cut_cr : (get_or m (e + 1) 0 ≡ 10 → ⊥) → line_in m None ≡ some (first_line (drop i m))
            cut_cr k =
                let n = get_or m (e + 1) 0 in
                let z : before 10 (drop (e + 1) m) ≡ n ∷ before 10 (drop (e + 1 + 1) m) =
                ap (before 10) (next m (e + 1) g) ∙ before_more 10 n (drop (e + 1 + 1) m) k in
                no_line_lem (first_wrong p plain (get_or m e 0) stops (drop (e + 1) m) c (λ _ y. omega (arith, ap length z, ap length y)))

pub ruleset cuts = (cut_open, cut_short, cut_other, cut_lf, cut_wrong, cut_last, cut_crlf, cut_cr)
