-- The code's types and their variants under one word: after `use .. Code as code` they are `code.Value`, `code.Action` and
-- so on. A type of the code and a type of the definitions that share a name are the same thing: the code's has spans,
-- which are places in octets, and the definitions' has the octets. (`bat_read` and `bat_write` have a `Code` of their own:
-- names that a crate re-exports from another can be used only inside it.)
pub use Rattle.bat.specs.declared.Size.{Size}
pub use Rattle.bat.specs.declared.Frame.{Frame}
pub use Rattle.bat.specs.declared.Unframed.{Unframed}
pub use Rattle.bat.specs.declared.SingleCodec.{SingleCodec}
pub use Rattle.bat.specs.declared.InnerType.{InnerType}
pub use Rattle.bat.specs.declared.InnerDuration.{InnerDuration}
pub use Rattle.bat.specs.declared.Value.{Value}
pub use Rattle.bat.specs.declared.Value.TheVariants.{Action, Backbone, Address, Codecs, Single, Report, Characteristics, Control, Tunnelling, Unit, Signal, Capability, Indicators, SignalType, Duration}
pub use Rattle.bat.specs.declared.Unrecognised.{Unrecognised}
pub use Rattle.bat.specs.declared.Outcome.{Outcome}
pub use Rattle.bat.specs.declared.Outcome.TheVariants.{PassOn, DiscardElement, DiscardData, Release}
pub use Rattle.bat.specs.declared.Diagnostic.{Diagnostic}
pub use Rattle.bat.specs.declared.Judged.{Judged}
pub use Rattle.bat.specs.declared.DataOutcome.{DataOutcome}
pub use Rattle.bat.specs.declared.DataOutcome.TheVariants.{Neither, DiscardAll, ReleaseAll}
