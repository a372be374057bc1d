-- `contents::push_contents` meets its contract. What each arm appends is the contents of the value that its match names.
-- Assumes nothing.
use borrow.Author.Rules.{rules}
use Rattle.bat.specs.ValueMeaning.{value_by}
use Rattle.bat.specs.Writing.{contents_text}
use Rattle.bat_write.proofs.ContentsLaws.{standing, report_right, unit_right, signal_right, marked_fits}
use Rattle.bat_write.specs.Private.{contents_in}
use Rattle.bat_write.proofs.contents.push_contents.Goals as goal

pub push_report-requires : goal.push_report-requires
push_report-requires c = search (report_right, rules)

pub push_unit-requires : goal.push_unit-requires
push_unit-requires c = search (unit_right, rules)

pub push_signal-requires : goal.push_signal-requires
push_signal-requires c = search (signal_right, rules)

pub overflow_add-bit : goal.overflow_add-bit
overflow_add-bit c = search (marked_fits, rules)

pub returns-in-Action : goal.returns-in-Action
unfolding value_by contents_in contents_text
returns-in-Action c = search (standing, rules)

pub returns-in-Backbone : goal.returns-in-Backbone
unfolding value_by contents_in contents_text
returns-in-Backbone c = search (standing, rules)

pub returns-in-Address : goal.returns-in-Address
unfolding value_by contents_in contents_text
returns-in-Address c = search (standing, rules)

pub returns-in-Codecs : goal.returns-in-Codecs
unfolding value_by contents_in contents_text
returns-in-Codecs c = search (standing, rules)

pub returns-in-Single : goal.returns-in-Single
unfolding value_by contents_in contents_text
returns-in-Single c = search (standing, rules)

pub returns-in-Report : goal.returns-in-Report
unfolding value_by contents_in contents_text
returns-in-Report c = search (standing, rules)

pub returns-in-Characteristics : goal.returns-in-Characteristics
unfolding value_by contents_in contents_text
returns-in-Characteristics c = search (standing, rules)

pub returns-in-Control : goal.returns-in-Control
unfolding value_by contents_in contents_text
returns-in-Control c = search (standing, rules)

pub returns-in-Tunnelling : goal.returns-in-Tunnelling
unfolding value_by contents_in contents_text
returns-in-Tunnelling c = search (standing, rules)

pub returns-in-Unit : goal.returns-in-Unit
unfolding value_by contents_in contents_text
returns-in-Unit c = search (standing, rules)

pub returns-in-Signal : goal.returns-in-Signal
unfolding value_by contents_in contents_text
returns-in-Signal c = search (standing, rules)

pub returns-in-Capability : goal.returns-in-Capability
unfolding value_by contents_in contents_text
returns-in-Capability c = search (standing, rules)

pub returns-in-Indicators : goal.returns-in-Indicators
unfolding value_by contents_in contents_text
returns-in-Indicators c = search (standing, rules)

pub returns-in-SignalType : goal.returns-in-SignalType
unfolding value_by contents_in contents_text
returns-in-SignalType c = search (standing, rules)

pub returns-in-Duration : goal.returns-in-Duration
unfolding value_by contents_in contents_text
returns-in-Duration c = search (standing, rules)
