-- The code's types and their variants under one word, as in `Code` of `bat`.
pub use Rattle.bat.specs.declared.InnerType.{InnerType}
pub use Rattle.bat.specs.declared.InnerDuration.{InnerDuration}
pub use Rattle.bat.specs.declared.Value.{Value}
pub use Rattle.bat.specs.declared.Value.TheVariants.{Action, Backbone, Address, Codecs, Single, Report, Characteristics, Control, Tunnelling, Unit, Signal, Capability, Indicators, SignalType, Duration}
