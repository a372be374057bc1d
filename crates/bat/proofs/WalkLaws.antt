-- An element at the front of octets is those octets up to what follows it, and `walk` goes from one to the next:
-- the counter that it counts down, the length of the octets, never runs out, since what follows an element is shorter.
-- Assumes nothing.
use Prim.Native.Nat.{ℕ, zero, suc, ◌+◌, ◌*◌, ◌%◌, ◌≤◌, ◌<◌}
use mathlib.Core.Path.{◌≡◌, refl, sym, ap, ◌∙◌}
use mathlib.Core.List.{List, [], ◌∷◌, ◌++◌, append_assoc}
use mathlib.Core.Bool.{Bool, true, false, cond}
use lib.ListN.{length, take, drop, length-append, take-append-drop}
use lib.Seq.{length-take-le}
use lib.Dec.{ltb, eqb}
use native.Mathlib.Omega.{arith}
use native.Mathlib.Nat.{le_refl}
use borrow.Author.Tests.{le-leb, lt-leb, lt-ltb, le-ltb, eq-eqb, ne_eqb}
use Rattle.bat.specs.Framing.{octet, Length, sized, unsized, length_of, unmarked, Element, header, whole, Front, first, unframed, ended, counted_by, element_by, sized_by, front, on_front, walk_from, walk, fold}
use Rattle.octets.proofs.CaseLaws.{by_eq, by_lt, by_le}

-- ---- length
-- os is a length field of the number n, and t follows it in s.
record IsSize (s os : List ℕ) (n : ℕ) (t : List ℕ) : Type 0 where
  small : n ≤ 2047
  low : length os ≤ 1 → n < 128
  two : length os ≤ 2
  one : 1 ≤ length os
  laid : s ≡ os ++ t

is_sized : (ps : List ℕ) (m : ℕ) (u os : List ℕ) (n : ℕ) (t : List ℕ) → m ≤ 2047 → (length ps ≤ 1 → m < 128) → length ps ≤ 2 → 1 ≤ length ps → sized ps m u ≡ sized os n t → IsSize (ps ++ u) os n t
is_sized ps m u os n t small low two one p =
    let ep : ps ≡ os = cc in
    let em : m ≡ n = cc in
    let eu : u ≡ t = cc in
    rw (← ep, ← em, ← eu) (record { small = small; low = low; two = two; one = one; laid = refl })

is_size : (s os : List ℕ) (n : ℕ) (t : List ℕ) → length_of s ≡ sized os n t → IsSize s os n t
unfolding length_of
is_size [] os n t p = absurd (let z : ◌≡◌ {A = ℕ} 0 1 = cc in omega arith)
is_size (a ∷ []) os n t p =
    by_le 128 a _
    (λ h. is_sized (a ∷ []) (a % 128) [] os n t (omega arith) (omega arith) (omega arith) (omega arith) (rw (le-leb 128 a h) at p))
    (λ h. let q : unsized ≡ sized os n t = rw (lt-leb 128 a h) at p in absurd (let z : ◌≡◌ {A = ℕ} 0 1 = cc in omega arith))
is_size (a ∷ b ∷ s) os n t p =
    by_le 128 a _
    (λ h. is_sized (a ∷ []) (a % 128) (b ∷ s) os n t (omega arith) (omega arith) (omega arith) (omega arith) (rw (le-leb 128 a h) at p))
    (λ h. by_le 128 b _
    (λ k. is_sized (a ∷ b ∷ []) (a % 128 + b % 16 * 128) s os n t (omega arith) (omega arith) (omega arith) (omega arith) (rw (lt-leb 128 a h, le-leb 128 b k) at p))
    (λ k. let q : unsized ≡ sized os n t = rw (lt-leb 128 a h, lt-leb 128 b k) at p in absurd (let z : ◌≡◌ {A = ℕ} 0 1 = cc in omega arith)))

module _ (s os : List ℕ) (n : ℕ) (t : List ℕ) (p : length_of s ≡ sized os n t) where
  -- a length field has one octet or two, and its number has eleven bits
  pub size_small : (n ≤ 2047) × (length os ≤ 2) × (1 ≤ length os) × (s ≡ os ++ t)
  size_small = let z = is_size s os n t p in (z.small, z.two, z.one, z.laid)

  -- and seven if it has one octet
  pub size_low : length os ≤ 1 → n < 128
  size_low = (is_size s os n t p).low

-- ---- the front
-- What a length counts is its first octet, those after it up to the first with bit 8 set, and the rest.
unmarked_split : (s : List ℕ) → unmarked s < length s → octet 0 s ∷ (take (unmarked s) (drop 1 s) ++ drop (suc (unmarked s)) s) ≡ s
unmarked_split [] h = absurd (omega arith)
unmarked_split (b ∷ s) h = ap (λ (l : List ℕ). b ∷ l) (take-append-drop (unmarked (b ∷ s)) s)

-- e and what follows it are s, and the length in e counts its compatibility and contents.
record Within (s : List ℕ) (e : Element) (t : List ℕ) : Type 0 where
  laid : s ≡ whole e ++ t
  counts : length_of (drop 1 s) ≡ sized e.size (suc (length e.extension + length e.contents)) (e.compatibility ∷ (e.extension ++ (e.contents ++ t)))

module _ (i : ℕ) (s size : List ℕ) (e : Element) (u : List ℕ) where
  within_counted : (c t : List ℕ) → length_of s ≡ sized size (length c) (c ++ t) → counted_by i size c t ≡ first e u → Within (i ∷ s) e u
  unfolding counted_by header whole
  within_counted c t l p =
      by_lt (unmarked c) (length c) _
      (λ h. let q = rw (lt-ltb (unmarked c) (length c) h) at p in
      let x : Element = record { identifier = i; size = size; compatibility = octet 0 c; extension = take (unmarked c) (drop 1 c); contents = drop (suc (unmarked c)) c } in
      let ex : x ≡ e = cc in
      let et : t ≡ u = cc in
      let k = sym (unmarked_split c h) in
      let (small, two, one, is) = size_small s size (length c) (c ++ t) l in
      rw (← ex, ← et)
      (record {
        laid = ap (λ (y : List ℕ). i ∷ y) (is ∙ ap (λ (y : List ℕ). size ++ (y ++ t)) k) ∙ simp append_assoc;
        counts = l ∙ ap (λ (y : List ℕ). sized size (length y) (y ++ t)) k ∙ simp (length-append, append_assoc);
      }))
      (λ h. let q : unframed ≡ first e u = rw (le-ltb (unmarked c) (length c) h) at p in absurd (let z : ◌≡◌ {A = ℕ} 0 1 = cc in omega arith))

  within_element : (n : ℕ) (t : List ℕ) → length_of s ≡ sized size n t → element_by i size n t ≡ first e u → Within (i ∷ s) e u
  unfolding element_by
  within_element n t l p =
      by_eq n 0 _
      (λ h. let q : unframed ≡ first e u = rw (eq-eqb n 0 h) at p in absurd (let z : ◌≡◌ {A = ℕ} 0 1 = cc in omega arith))
      (λ h. by_lt (length t) n _
      (λ k. let q : unframed ≡ first e u = rw (ne_eqb n 0 h, lt-ltb (length t) n k) at p in absurd (let z : ◌≡◌ {A = ℕ} 0 1 = cc in omega arith))
      (λ k. within_counted (take n t) (drop n t) (rw (length-take-le n t k, take-append-drop n t) l) (rw (ne_eqb n 0 h, le-ltb (length t) n k) at p)))

within_sized : (i : ℕ) (s : List ℕ) (z : Length) (e : Element) (t : List ℕ) → length_of s ≡ z → sized_by i z ≡ first e t → Within (i ∷ s) e t
unfolding sized_by
within_sized i s (sized os n u) e t l p = within_element i s os e t n u l p
within_sized i s unsized e t l p = absurd (let z : ◌≡◌ {A = ℕ} 0 1 = cc in omega arith)

within : (s : List ℕ) (e : Element) (t : List ℕ) → front s ≡ first e t → Within s e t
unfolding front
within [] e t p = absurd (let z : ◌≡◌ {A = ℕ} 0 1 = cc in omega arith)
within (i ∷ s) e t p = within_sized i s (length_of s) e t refl p

module _ (s : List ℕ) (e : Element) (t : List ℕ) (p : front s ≡ first e t) where
  -- the octets are the element's, and then what follows it
  pub front_within : s ≡ whole e ++ t
  front_within = (within s e t p).laid

  -- after the identifier comes the length, which counts compatibility and contents
  pub front_size : length_of (drop 1 s) ≡ sized e.size (suc (length e.extension + length e.contents)) (e.compatibility ∷ (e.extension ++ (e.contents ++ t)))
  front_size = (within s e t p).counts

  -- in front of the contents stand at least identifier, length and compatibility
  pub front_contents : length e.contents + 3 ≤ length (whole e)
  unfolding whole header
  front_contents = let (small, two, one, is) = size_small (drop 1 s) _ _ _ front_size in simp length-append (omega arith)

  pub front_whole : 3 ≤ length (whole e)
  front_whole = omega (arith, front_contents)

  pub front_length : length s ≡ length (whole e) + length t
  front_length = simp length-append at (ap (λ (l : List ℕ). length l) front_within)

  pub front_shorter : length t < length s
  front_shorter = omega (arith, front_length, front_whole)

-- The end is where no octet is left.
pub front_nil : front [] ≡ ended
unfolding front
front_nil = refl

framed_ended : (a b c : Bool) (e : Element) (t : List ℕ) → cond a unframed (cond b unframed (cond c (first e t) unframed)) ≡ ended → ⊥
framed_ended true b c e t p = let z : ◌≡◌ {A = ℕ} 0 1 = cc in omega arith
framed_ended false true c e t p = let z : ◌≡◌ {A = ℕ} 0 1 = cc in omega arith
framed_ended false false true e t p = let z : ◌≡◌ {A = ℕ} 0 1 = cc in omega arith
framed_ended false false false e t p = let z : ◌≡◌ {A = ℕ} 0 1 = cc in omega arith

sized_ended : (i : ℕ) (z : Length) → sized_by i z ≡ ended → ⊥
unfolding sized_by element_by counted_by
sized_ended i unsized p = let z : ◌≡◌ {A = ℕ} 0 1 = cc in omega arith
sized_ended i (sized os n t) p = framed_ended (eqb n 0) (ltb (length t) n) (ltb (unmarked (take n t)) (length (take n t))) _ _ p

pub front_ended : (s : List ℕ) → front s ≡ ended → s ≡ []
unfolding front
front_ended [] p = refl
front_ended (i ∷ s) p = absurd (sized_ended i (length_of s) p)

-- ---- one element after the other
-- two ways to go on that agree on what is framed
on_front_lem : {X : Type 0} (f : Front) (g h : Element → List ℕ → X) (bad end : X) → ((e : Element) (t : List ℕ) → f ≡ first e t → g e t ≡ h e t) → on_front f g bad end ≡ on_front f h bad end
unfolding on_front
on_front_lem (first e t) g h bad end same = same e t refl
on_front_lem unframed g h bad end same = refl
on_front_lem ended g h bad end same = refl

module _ {X : Type 0} (step : Element → ℕ → X → X) (bad : ℕ → X) (end : X) where
  walk_from_nil : (k d : ℕ) → walk_from step bad end k d [] ≡ end
  unfolding walk_from on_front front
  walk_from_nil zero d = refl
  walk_from_nil (suc k) d = refl

  -- a counter that is at least the length is as good as any other
  walk_from_counter : (k m d : ℕ) (s : List ℕ) → length s ≤ k → length s ≤ m → walk_from step bad end k d s ≡ walk_from step bad end m d s
  unfolding walk_from
  walk_from_counter zero m d [] h l = sym (walk_from_nil m d)
  walk_from_counter zero m d (b ∷ s) h l = absurd (omega arith)
  walk_from_counter (suc k) m d [] h l = walk_from_nil (suc k) d ∙ sym (walk_from_nil m d)
  walk_from_counter (suc k) zero d (b ∷ s) h l = absurd (omega arith)
  walk_from_counter (suc k) (suc m) d (b ∷ s) h l =
      on_front_lem (front (b ∷ s)) _ _ (bad d) end
      (λ e t p. ap (step e d) (walk_from_counter k m (d + length (whole e)) t (omega (arith, front_shorter (b ∷ s) e t p)) (omega (arith, front_shorter (b ∷ s) e t p))))

  pub walk_ended : (d : ℕ) (s : List ℕ) → front s ≡ ended → walk step bad end d s ≡ end
  unfolding walk
  walk_ended d s p = rw (front_ended s p) (walk_from_nil 0 d)

  pub walk_unframed : (d : ℕ) (s : List ℕ) → front s ≡ unframed → walk step bad end d s ≡ bad d
  unfolding walk walk_from on_front
  walk_unframed d [] p = absurd (let z : ◌≡◌ {A = ℕ} 0 1 = cc front_nil in omega arith)
  walk_unframed d (b ∷ s) p = rw p

  pub walk_first : (d : ℕ) (s : List ℕ) (e : Element) (t : List ℕ) → front s ≡ first e t → walk step bad end d s ≡ step e d (walk step bad end (d + length (whole e)) t)
  unfolding walk walk_from on_front
  walk_first d [] e t p = absurd (let z : ◌≡◌ {A = ℕ} 0 1 = cc front_nil in omega arith)
  walk_first d (b ∷ s) e t p =
      rw p (ap (step e d) (walk_from_counter (length s) (length t) (d + length (whole e)) t (omega (arith, front_shorter (b ∷ s) e t p)) (le_refl (length t))))

-- ---- induction from one element to the next
module _ (P : List ℕ → Type 0) (nil : P []) (bad : (s : List ℕ) → front s ≡ unframed → P s) (step : (s : List ℕ) (e : Element) (t : List ℕ) → front s ≡ first e t → P t → P s) where
  by_front_at : (s : List ℕ) (f : Front) → front s ≡ f → ((t : List ℕ) → length t < length s → P t) → P s
  by_front_at s (first e t) p below = step s e t p (below t (front_shorter s e t p))
  by_front_at s unframed p below = bad s p
  by_front_at s ended p below = rw (front_ended s p) nil

  by_front_within : (k : ℕ) (s : List ℕ) → length s ≤ k → P s
  by_front_within zero [] h = nil
  by_front_within zero (b ∷ s) h = absurd (omega arith)
  by_front_within (suc k) s h = by_front_at s (front s) refl (λ t l. by_front_within k t (omega arith))

  pub by_front : (s : List ℕ) → P s
  by_front s = by_front_within (length s) s (le_refl (length s))

-- ---- the same without the distance
module _ {X : Type 0} (step : Element → X → X) (bad end : X) where
  walk_anywhere : (s : List ℕ) (c d : ℕ) → walk (λ e d x. step e x) (λ d. bad) end c s ≡ walk (λ e d x. step e x) (λ d. bad) end d s
  walk_anywhere =
      by_front (λ (s : List ℕ). (c d : ℕ) → walk (λ e d x. step e x) (λ d. bad) end c s ≡ walk (λ e d x. step e x) (λ d. bad) end d s)
      (λ c d. walk_ended (λ e d x. step e x) (λ d. bad) end c [] front_nil ∙ sym (walk_ended (λ e d x. step e x) (λ d. bad) end d [] front_nil))
      (λ s q c d. walk_unframed (λ e d x. step e x) (λ d. bad) end c s q ∙ sym (walk_unframed (λ e d x. step e x) (λ d. bad) end d s q))
      (λ s e t q ih c d.
      walk_first (λ e d x. step e x) (λ d. bad) end c s e t q
      ∙ ap (step e) (ih (c + length (whole e)) (d + length (whole e)))
      ∙ sym (walk_first (λ e d x. step e x) (λ d. bad) end d s e t q))

  pub fold_ended : (s : List ℕ) → front s ≡ ended → fold step bad end s ≡ end
  unfolding fold
  fold_ended s q = walk_ended (λ e d x. step e x) (λ d. bad) end 0 s q

  pub fold_unframed : (s : List ℕ) → front s ≡ unframed → fold step bad end s ≡ bad
  unfolding fold
  fold_unframed s q = walk_unframed (λ e d x. step e x) (λ d. bad) end 0 s q

  pub fold_first : (s : List ℕ) (e : Element) (t : List ℕ) → front s ≡ first e t → fold step bad end s ≡ step e (fold step bad end t)
  unfolding fold
  fold_first s e t q = walk_first (λ e d x. step e x) (λ d. bad) end 0 s e t q ∙ ap (step e) (walk_anywhere t (0 + length (whole e)) 0)
