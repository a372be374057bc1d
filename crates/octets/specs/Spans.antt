-- The text that a span stands for. A span that goes past the end of the text stands for the part inside it.
use Rattle.std.specs.Prelude.{ℕ, ◌+◌, List, Bool, length, take, drop, leb}
use Rattle.octets.specs.declared.Span.{Span}

-- the text that sp stands for in m
unfoldable pub text_of : List ℕ → Span → List ℕ
text_of m sp = take sp.len (drop sp.at m)

-- sp does not go past the end of m
abbrev pub inside : List ℕ → Span → Bool
inside m sp = leb (sp.at + sp.len) (length m)
