-- Document 01, "Refusal numbers", and document 02, E1, for 14 and 15: the number of each refusal.
use Rattle.std.specs.Prelude.{ℕ}
use Rattle.octets.specs.declared.Refusal.{Refusal}
use Rattle.octets.specs.declared.Refusal.TheVariants.{DataTooLong, Unframed, TableTooShort, BufferTooShort, OutOfRange, PacketTooShort, WrongIndicators, MessageTooLong, Unreadable, WrongLine, WrongState, BadConfiguration, BadLine, NoCodecList, NoCommonCodec}

abbrev pub refusal_number : Refusal → ℕ
refusal_number DataTooLong = 1
refusal_number Unframed = 2
refusal_number TableTooShort = 3
refusal_number BufferTooShort = 4
refusal_number OutOfRange = 5
refusal_number PacketTooShort = 6
refusal_number WrongIndicators = 7
refusal_number MessageTooLong = 8
refusal_number Unreadable = 9
refusal_number WrongLine = 10
refusal_number WrongState = 11
refusal_number BadConfiguration = 12
refusal_number BadLine = 13
refusal_number NoCodecList = 14
refusal_number NoCommonCodec = 15
