-- `ranges::all_inside` meets its contract: what each arm tests are the spans of the value that its match names.
-- Assumes nothing.
use Rattle.bat.specs.ValueMeaning.{value_inside}
use Rattle.bat_write.proofs.InsideLaws.{inside_of}
use borrow.Author.Rules.{rules}
use Rattle.bat_write.proofs.ranges.all_inside.Goals as goal

pub returns-in-Action : goal.returns-in-Action
unfolding value_inside
returns-in-Action c = search (inside_of, rules)

pub returns-in-Backbone : goal.returns-in-Backbone
unfolding value_inside
returns-in-Backbone c = search (inside_of, rules)

pub returns-in-Address : goal.returns-in-Address
unfolding value_inside
returns-in-Address c = search (inside_of, rules)

pub returns-in-Codecs : goal.returns-in-Codecs
unfolding value_inside
returns-in-Codecs c = search (inside_of, rules)

pub returns-in-Single : goal.returns-in-Single
unfolding value_inside
returns-in-Single c = search (inside_of, rules)

pub returns-in-Report : goal.returns-in-Report
unfolding value_inside
returns-in-Report c = search (inside_of, rules)

pub returns-in-Characteristics : goal.returns-in-Characteristics
unfolding value_inside
returns-in-Characteristics c = search (inside_of, rules)

pub returns-in-Control : goal.returns-in-Control
unfolding value_inside
returns-in-Control c = search (inside_of, rules)

pub returns-in-Tunnelling : goal.returns-in-Tunnelling
unfolding value_inside
returns-in-Tunnelling c = search (inside_of, rules)

pub returns-in-Unit : goal.returns-in-Unit
unfolding value_inside
returns-in-Unit c = search (inside_of, rules)

pub returns-in-Signal : goal.returns-in-Signal
unfolding value_inside
returns-in-Signal c = search (inside_of, rules)

pub returns-in-Capability : goal.returns-in-Capability
unfolding value_inside
returns-in-Capability c = search (inside_of, rules)

pub returns-in-Indicators : goal.returns-in-Indicators
unfolding value_inside
returns-in-Indicators c = search (inside_of, rules)

pub returns-in-SignalType : goal.returns-in-SignalType
unfolding value_inside
returns-in-SignalType c = search (inside_of, rules)

pub returns-in-Duration : goal.returns-in-Duration
unfolding value_inside
returns-in-Duration c = search (inside_of, rules)
