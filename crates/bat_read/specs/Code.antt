-- The code's types and their variants under one word, as in `Code` of `bat`.
use Rattle.std.specs.Prelude.{Result}
pub use Rattle.bat.specs.declared.InnerType.{InnerType}
pub use Rattle.bat.specs.declared.Value.{Value}
pub use Rattle.bat.specs.declared.Value.TheVariants.{Codecs, Signal}
pub use Rattle.bat.specs.declared.Unrecognised.{Unrecognised}
pub use Rattle.bat.specs.declared.Unframed.{Unframed}
pub use Rattle.bat.specs.declared.Diagnostic.{Diagnostic}
pub use Rattle.bat.specs.declared.Judged.{Judged}
pub use Rattle.bat_read.specs.declared.Examined.{Examined}

-- what contents are read as, and the finding on an element
abbrev pub Decoding : Type 0
Decoding = Result Value Unrecognised

abbrev pub Finding : Type 0
Finding = Result Value Judged
