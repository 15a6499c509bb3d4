-- The rules of scripts that the lines before decide, beside those that every setup keeps.
use Rattle.std.specs.Prelude.{◌≡◌, ◌≤◌, ℕ, Bool, true, false, not, ◌&&◌, ◌||◌, nat_lt, nat_le, List, length, ⊤}
use Rattle.std.specs.List.{All}
use Rattle.m3_base.specs.declared.event.Event.{Event}
use Rattle.m3_base.specs.declared.order.Order.{Order}
use Rattle.m3_base.specs.declared.order.FileLine.{FileLine}
use Rattle.m3_base.specs.declared.setup_line.SetupLine.{SetupLine}
use Rattle.m3_base.specs.Ideal.State.{holder}
use Rattle.m3_base.specs.Limits.{HasRanges}
use Rattle.m3_base.specs.Setup.Rules.{SetupValue, facts_of, is_undeclared, is_programmed, program_in}
use Rattle.m3_script.specs.declared.script.Mode.{Mode}

-- ---- setup lines

-- a box needs a logic that was handed in, of which there are this many
abbrev pub lacks_logic : ℕ → SetupLine → Bool
lacks_logic boxes (SetupLine.Boxed a logic fuel) = nat_le boxes logic
lacks_logic boxes line = false

-- the line gives an activity no program of one line, as pipes and boxes are
abbrev pub IsListed : SetupLine → Type 0
IsListed (SetupLine.Writer a m s r chunk ring bytes) = ⊥
IsListed (SetupLine.Reader a m r chunk ring fuel) = ⊥
IsListed (SetupLine.Boxed a logic fuel) = ⊥
IsListed line = ⊤

-- all programs are lists of items
abbrev pub AllListed : List SetupLine → Type 0
AllListed lines = All IsListed lines

-- ---- events

abbrev pub has_program : ℕ → SetupValue → Bool
has_program a x = is_programmed (program_in (facts_of x).programs a)

abbrev pub is_absent : ℕ → SetupValue → Bool
is_absent a x = is_undeclared a (facts_of x)

-- whether an event may follow these: in a run any, and else the orders alone, of which there are at most 4,096
abbrev pub is_allowed : Mode → List Event → Event → Bool
is_allowed Mode.Run events event = true
is_allowed mode events (Event.Order order) = nat_lt (length events) 4096
is_allowed mode events event = false

abbrev pub order_names_undeclared : Order → SetupValue → Bool
order_names_undeclared (Order.Switch t a) x = not (nat_lt t x.tiles) || is_absent a x
order_names_undeclared (Order.Grant line) x = is_absent (holder line) x
order_names_undeclared (Order.Revoke g) x = false

abbrev pub file_names_undeclared : FileLine → SetupValue → Bool
file_names_undeclared (FileLine.Open name off a ep perm) x = is_absent a x
file_names_undeclared line x = false

-- whether the setup has no such tile or activity as the event names; a do needs one without a program, and a turn
-- one with a program
abbrev pub names_undeclared : Event → SetupValue → Bool
names_undeclared (Event.Do a command) x = is_absent a x || has_program a x
names_undeclared (Event.Turn a) x = is_absent a x || not (has_program a x)
names_undeclared (Event.Take to from) x = not (nat_lt to x.tiles && nat_lt from x.tiles)
names_undeclared (Event.Tend a) x = is_absent a x
names_undeclared Event.Close x = false
names_undeclared (Event.Order order) x = order_names_undeclared order x
names_undeclared (Event.File line) x = file_names_undeclared line x

-- each event names what the setup has
abbrev pub AllNamed : SetupValue → List Event → Type 0
AllNamed x events = All (λ e. names_undeclared e x ≡ false) events

-- the numbers of a grant that is ordered are in their ranges; whether it is made is the kernel's to say
abbrev pub IsInRanges : Event → Type 0
IsInRanges (Event.Order (Order.Grant line)) = HasRanges line
IsInRanges event = ⊤

abbrev pub AllInRanges : List Event → Type 0
AllInRanges events = All IsInRanges events

-- the event is of a form that is built: all are, but those on files
abbrev pub IsBuilt : Event → Type 0
IsBuilt (Event.File line) = ⊥
IsBuilt event = ⊤

abbrev pub AllBuilt : List Event → Type 0
AllBuilt events = All IsBuilt events

-- ---- scripts for the driver

abbrev pub IsOrder : Event → Type 0
IsOrder (Event.Order order) = ⊤
IsOrder event = ⊥

-- but in a run, each event is an order, and there are at most 4,096
abbrev pub AreOrders : Mode → List Event → Type 0
AreOrders Mode.Run events = ⊤
AreOrders mode events = All IsOrder events × (length events ≤ 4096)
