-- `ranges::in_range` meets its contract. What each arm tests is the range of the value that its match names.
-- Assumes nothing.
use borrow.Author.Rules.{rules}
use Rattle.bat.specs.ValueMeaning.{value_by}
use Rattle.bat.specs.Writing.{value_in_range}
use Rattle.bat_write.proofs.RangeLaws.{ranging}
use Rattle.bat_write.specs.Private.{value_in_range_in}
use Rattle.bat_write.proofs.ranges.in_range.Goals as goal

pub returns-in-Action : goal.returns-in-Action
unfolding value_by value_in_range_in value_in_range
returns-in-Action c = search (ranging, rules)

pub returns-in-Backbone : goal.returns-in-Backbone
unfolding value_by value_in_range_in value_in_range
returns-in-Backbone c = search (ranging, rules)

pub returns-in-Address : goal.returns-in-Address
unfolding value_by value_in_range_in value_in_range
returns-in-Address c = search (ranging, rules)

pub returns-in-Codecs : goal.returns-in-Codecs
unfolding value_by value_in_range_in value_in_range
returns-in-Codecs c = search (ranging, rules)

pub returns-in-Single : goal.returns-in-Single
unfolding value_by value_in_range_in value_in_range
returns-in-Single c = search (ranging, rules)

pub returns-in-Report : goal.returns-in-Report
unfolding value_by value_in_range_in value_in_range
returns-in-Report c = search (ranging, rules)

pub returns-in-Characteristics : goal.returns-in-Characteristics
unfolding value_by value_in_range_in value_in_range
returns-in-Characteristics c = search (ranging, rules)

pub returns-in-Control : goal.returns-in-Control
unfolding value_by value_in_range_in value_in_range
returns-in-Control c = search (ranging, rules)

pub returns-in-Tunnelling : goal.returns-in-Tunnelling
unfolding value_by value_in_range_in value_in_range
returns-in-Tunnelling c = search (ranging, rules)

pub returns-in-Unit : goal.returns-in-Unit
unfolding value_by value_in_range_in value_in_range
returns-in-Unit c = search (ranging, rules)

pub returns-in-Signal : goal.returns-in-Signal
unfolding value_by value_in_range_in value_in_range
returns-in-Signal c = search (ranging, rules)

pub returns-in-Capability : goal.returns-in-Capability
unfolding value_by value_in_range_in value_in_range
returns-in-Capability c = search (ranging, rules)

pub returns-in-Indicators : goal.returns-in-Indicators
unfolding value_by value_in_range_in value_in_range
returns-in-Indicators c = search (ranging, rules)

pub returns-in-SignalType : goal.returns-in-SignalType
unfolding value_by value_in_range_in value_in_range
returns-in-SignalType c = search (ranging, rules)

pub returns-in-Duration : goal.returns-in-Duration
unfolding value_by value_in_range_in value_in_range
returns-in-Duration c = search (ranging, rules)
