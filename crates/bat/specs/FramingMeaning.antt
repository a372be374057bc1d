-- What the answers of framing mean, by the definitions of `Framing`. `code.X` is the code's type X (see `Code`).
use Rattle.std.specs.Prelude.{ℕ, ◌+◌, ◌≤◌, ◌≡◌, List, cond, length, take, drop, leb, Result, Ok, Err, Some, None}
use Rattle.std.specs.Prelude as std
use Rattle.std.proofs.Math.Option.{Option, none, some}
use Rattle.octets.specs.declared.Refusal.{Refusal}
use Rattle.bat.specs.Code as code
use Rattle.bat.specs.Framing.{Length, sized, unsized, Element, Front, first, unframed, ended, Cut, refused, taken}

-- a length at the front of s, if s has that many octets
unfoldable pub size_in : List ℕ → std.Option code.Size → Option Length
size_in s (Some z) = cond (leb z.octets (length s)) (some (sized (take z.octets s) z.length (drop z.octets s))) none
size_in s None = some unsized

-- how many octets of an element are before its contents, and how many it has
abbrev pub header_length : code.Frame → ℕ
header_length f = 2 + f.size + f.extension

abbrev pub whole_length : code.Frame → ℕ
whole_length f = header_length f + f.length

-- an element at the front of s
unfoldable pub element_in : List ℕ → code.Frame → Element
element_in s f =
    record {
      identifier = f.identifier;
      size = take f.size (drop 1 s);
      compatibility = f.compatibility;
      extension = take f.extension (drop (2 + f.size) s);
      contents = take f.length (drop (header_length f) s);
    }

-- what is at the front of s; none if s has fewer octets than the element
unfoldable pub front_in : List ℕ → Result (std.Option code.Frame) code.Unframed → Option Front
front_in s (Ok (Some f)) = cond (leb (whole_length f) (length s)) (some (first (element_in s f) (drop (whole_length f) s))) none
front_in s (Err e) = some unframed
front_in s (Ok None) = some ended

-- The answers of `header_length` and `whole_length`. The bounds follow from the widths of a frame's fields (2 + 255 +
-- 65535, and 65535 more), and are stated for callers.
pub record HeaderLength (f : code.Frame) (r : ℕ) : Type 0 where
  pub is : r ≡ header_length f
  pub few : r ≤ 65792

pub record WholeLength (f : code.Frame) (r : ℕ) : Type 0 where
  pub is : r ≡ whole_length f
  pub few : r ≤ 131327

-- the refusal, or the count of elements
unfoldable pub count_of : Cut → Result ℕ Refusal
count_of (refused e) = Err e
count_of (taken es) = Ok (length es)
