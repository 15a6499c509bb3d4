-- What is asked of an event in the setup's own words.
use Rattle.std.specs.Prelude.{◌≡◌, false}
use Rattle.m3_base.specs.declared.event.Event.{Event}
use Rattle.m3_base.specs.declared.order.Order.{Order}
use Rattle.m3_base.specs.Ideal.State.{holder}
use Rattle.m3_base.specs.Limits.{HasRanges}
use Rattle.m3_base.specs.Setup.Rules.{SetupValue, facts_of, is_undeclared}

-- the activity that the event names is one of the setup, and the numbers of a grant are in their ranges
abbrev pub NamesActs : SetupValue → Event → Type 0
NamesActs s (Event.Do a c) = is_undeclared a (facts_of s) ≡ false
NamesActs s (Event.Tend a) = is_undeclared a (facts_of s) ≡ false
NamesActs s (Event.Order (Order.Switch t a)) = is_undeclared a (facts_of s) ≡ false
NamesActs s (Event.Order (Order.Grant line)) = (is_undeclared (holder line) (facts_of s) ≡ false) × HasRanges line
NamesActs s event = Unit {0}
