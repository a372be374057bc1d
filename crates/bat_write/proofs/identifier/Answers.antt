-- `identifier` meets its contract. Each arm is a case of the definition.
-- Assumes nothing.
use borrow.Author.Rules.{rules}
use Rattle.octets.proofs.Pick.{picks}
use Rattle.bat_write.specs.Private.{identifier_in}
use Rattle.bat_write.proofs.identifier.Goals as goal

pub returns-in-Action : goal.returns-in-Action
unfolding identifier_in
returns-in-Action c = search (picks, rules)

pub returns-in-Backbone : goal.returns-in-Backbone
unfolding identifier_in
returns-in-Backbone c = search (picks, rules)

pub returns-in-Address : goal.returns-in-Address
unfolding identifier_in
returns-in-Address c = search (picks, rules)

pub returns-in-Codecs : goal.returns-in-Codecs
unfolding identifier_in
returns-in-Codecs c = search (picks, rules)

pub returns-in-Single : goal.returns-in-Single
unfolding identifier_in
returns-in-Single c = search (picks, rules)

pub returns-in-Report : goal.returns-in-Report
unfolding identifier_in
returns-in-Report c = search (picks, rules)

pub returns-in-Characteristics : goal.returns-in-Characteristics
unfolding identifier_in
returns-in-Characteristics c = search (picks, rules)

pub returns-in-Control : goal.returns-in-Control
unfolding identifier_in
returns-in-Control c = search (picks, rules)

pub returns-in-Tunnelling : goal.returns-in-Tunnelling
unfolding identifier_in
returns-in-Tunnelling c = search (picks, rules)

pub returns-in-Unit : goal.returns-in-Unit
unfolding identifier_in
returns-in-Unit c = search (picks, rules)

pub returns-in-Signal : goal.returns-in-Signal
unfolding identifier_in
returns-in-Signal c = search (picks, rules)

pub returns-in-Capability : goal.returns-in-Capability
unfolding identifier_in
returns-in-Capability c = search (picks, rules)

pub returns-in-Indicators : goal.returns-in-Indicators
unfolding identifier_in
returns-in-Indicators c = search (picks, rules)

pub returns-in-SignalType : goal.returns-in-SignalType
unfolding identifier_in
returns-in-SignalType c = search (picks, rules)

pub returns-in-Duration : goal.returns-in-Duration
unfolding identifier_in
returns-in-Duration c = search (picks, rules)
