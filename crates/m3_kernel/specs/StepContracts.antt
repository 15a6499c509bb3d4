-- What the kernel's code answers, as the local steps have it.
use Rattle.std.specs.Prelude.{◌≡◌, ℕ, ◌<◌, Bool, true, List, length, ◌++◌, slice_get, Option, Some, None, Result, Ok, Err, is_none, if◌then◌else◌}
use Rattle.std.specs.List.{list_any}
use Rattle.m3_base.specs.declared.packet.Packet.{Packet}
use Rattle.m3_base.specs.declared.event.Said.{Said}
use Rattle.m3_base.specs.Ideal.State.{Grant, grant_in, holder, holder_ep}
use Rattle.m3_base.specs.Placement.Order.{least_closing}
use Rattle.m3_base.specs.Placement.Routing.{target}
use Rattle.m3_core.specs.declared.parcel.Emit.{Emit}
use Rattle.m3_core.specs.declared.parcel.Heard.{Heard}
use Rattle.m3_model.specs.Config.Site.{Site, tile_of}
use Rattle.m3_model.specs.Parcel.{Parcel}
use Rattle.m3_model.specs.Kernel.State.{SavedActivity, Is_placed, Is_leaving, Is_resting, Is_coming, ActivityEntry, Kernel}
use Rattle.m3_model.specs.LocalStep.{LocalResult, dropped_result, closed_out}
use Rattle.m3_model.specs.Config.KnownActivities.{is_named}
use Rattle.m3_kernel.specs.ParcelView.{out_of}
use Rattle.m3_model.specs.Kernel.Step.{entry_of, is_leaving_at, first_due, is_moving_at, placed_at, route_to, switch, take_data, answer_routed}
use Rattle.m3_kernel.specs.ArrivalView.{answers_to}
use Rattle.m3_kernel.specs.ActivityView.{away_in, RemembersAnswer}
use Rattle.m3_kernel.specs.LookupTables.{IsOnly, is_of, berth_at}
use Rattle.m3_kernel.specs.KernelStateView.{kernel_in, CanRoute}
use Rattle.m3_kernel.specs.OrderAnswers.{Orders, RefusesOrder}
use Rattle.m3_kernel.specs.declared.order.Ordered.{Ordered}
use Rattle.m3_kernel.specs.declared.order.OrderRefusal.{OrderRefusal}
use Rattle.m3_kernel.specs.declared.state.State.{State}
use Rattle.m3_kernel.specs.declared.state.orders.DueClose.{DueClose}
use Rattle.m3_kernel.specs.declared.state.switch.Switch.{Switch}
use Rattle.m3_kernel.specs.declared.state.tend.AnswerTarget.{AnswerTarget}
use Rattle.m3_kernel.specs.declared.done.Done.{Done}

-- what is said, whose Restore goes out with it, and what goes out
abbrev pub done_with : Said → Option ℕ → Option Emit → Option Emit → Done
done_with said restore first second =
    record { outcome = record { made = None; said = said; restore = restore }; first = first; second = second }

-- the answer and the kernel after it are those of the local step
pub record Does (done : Done) (k : Kernel) (deed : LocalResult Kernel) : Type 0 where
  pub outcome : done.outcome ≡ deed.outcome
  pub part : k ≡ deed.part
  pub out : out_of done.first ++ out_of done.second ≡ deed.out

-- the answer to an order, told as an event of the kernel; an error says that no memory was left
abbrev pub TellsOrder : {E : Type 0} → Result Ordered OrderRefusal → Result Done E → Type 0
TellsOrder answer (Ok done) = (old new : Kernel) (step : LocalResult Kernel) → Orders answer old new step → Does done new step
TellsOrder answer (Err e) = (old new : Kernel) (step : LocalResult Kernel) → Orders answer old new step → new ≡ old

-- ---- seats

-- the seat at this place is the activity's
pub record IsSeatOf (k : Kernel) (a at : ℕ) : Type 0 where
  pub seat : ActivityEntry
  pub here : slice_get k.seats at ≡ Some seat
  pub act : seat.act ≡ a
  pub found : entry_of a k ≡ Some seat
  pub only : IsOnly (is_of a) k.seats (Some at)

abbrev pub PlaceIs : Kernel → ℕ → Option ℕ → Type 0
PlaceIs k a None = entry_of a k ≡ None
PlaceIs k a (Some at) = IsSeatOf k a at

-- the activity of the seat at this place is Leaving, or away
pub record IsLeavingAt (k : Kernel) (at : ℕ) : Type 0 where
  pub seat : ActivityEntry
  pub here : slice_get k.seats at ≡ Some seat
  pub leaves : seat.seating ≡ Is_leaving

pub record IsAwayAt (k : Kernel) (at : ℕ) : Type 0 where
  pub seat : ActivityEntry
  pub away : SavedActivity
  pub here : slice_get k.seats at ≡ Some seat
  pub is_away : away_in seat.seating ≡ Some away

-- ---- who comes

abbrev pub due_in : Site → ℕ → Kernel → Option ActivityEntry
due_in h t k = if list_any (is_leaving_at h t) k.seats then None else first_due h t k.seats

-- the seat at this place comes to the tile, and nothing is held for it
pub record IsDue (h : Site) (t : ℕ) (k : Kernel) (at : ℕ) : Type 0 where
  pub seat : ActivityEntry
  pub away : SavedActivity
  pub here : slice_get k.seats at ≡ Some seat
  pub comes : seat.seating ≡ Is_coming away
  pub home : tile_of h seat.act ≡ t
  pub due : due_in h t k ≡ Some seat

abbrev pub DueAt : Site → ℕ → Kernel → Option ℕ → Type 0
DueAt h t k None = due_in h t k ≡ None
DueAt h t k (Some at) = IsDue h t k at

-- ---- routing

-- the packet goes to the activity of this seat, by the emit or into the hold list
abbrev pub Routes : Site → Kernel → ℕ → Packet → Option Emit → Kernel → Type 0
Routes h k at p emit new =
    route_to h p k (slice_get k.seats at) ≡ Some (record { held = is_none emit; kernel = new; out = out_of emit })

pub record IsFor (h : Site) (k : Kernel) (p : Packet) (at : ℕ) : Type 0 where
  pub aim : ℕ
  pub named : is_named h p ≡ true
  pub target_is : target p ≡ Some aim
  pub place : IsSeatOf k aim at

abbrev pub GoesTo : Site → Kernel → Packet → Option ℕ → Type 0
GoesTo h k p None = take_data h k p ≡ dropped_result k
GoesTo h k p (Some at) = IsFor h k p at

-- ---- switches

-- who leaves the tile, where no switch of it is under way
abbrev pub leaver_in : Site → ℕ → Kernel → Option ActivityEntry
leaver_in h t k = if list_any (is_moving_at h t) k.seats then None else placed_at h t k.seats

pub record IsLeaver (s : State) (t at : ℕ) : Type 0 where
  pub seat : ActivityEntry
  pub here : slice_get (kernel_in s).seats at ≡ Some seat
  pub placed : seat.seating ≡ Is_placed
  pub home : tile_of s.site seat.act ≡ t
  pub nobody : (berth_at s.berths.items t).leaving ≡ None
  pub there : (berth_at s.berths.items t).there ≡ Some at
  pub leaves : leaver_in s.site t (kernel_in s) ≡ Some seat

abbrev pub LeaverAt : State → ℕ → Option ℕ → Type 0
LeaverAt s t None = leaver_in s.site t (kernel_in s) ≡ None
LeaverAt s t (Some at) = IsLeaver s t at

pub record IsSwitch (s : State) (t a : ℕ) (w : Switch) : Type 0 where
  pub away : SavedActivity
  pub leaves : IsLeaver s t w.leaves
  pub comes : IsSeatOf (kernel_in s) a w.comes
  pub resting : comes.seat.seating ≡ Is_resting away
  pub home : tile_of s.site comes.seat.act ≡ t

abbrev pub Judges : State → ℕ → ℕ → Result Switch OrderRefusal → Type 0
Judges s t a (Ok w) = IsSwitch s t a w
Judges s t a (Err why) = RefusesOrder why (kernel_in s) (kernel_in s) (switch s.site (kernel_in s) t (entry_of a (kernel_in s)))

-- ---- Closes

-- the grant's Close is due next, and this is its holder's endpoint
pub record IsDueClose (k : Kernel) (due : DueClose) : Type 0 where
  pub made : Grant
  pub least : least_closing k.grants 1 k.grants ≡ Some due.grant
  pub there : grant_in k.grants due.grant ≡ Some made
  pub act : due.act ≡ holder made.line
  pub ep : due.ep ≡ holder_ep made.line

abbrev pub DueCloseIs : Kernel → Option DueClose → Type 0
DueCloseIs k None = least_closing k.grants 1 k.grants ≡ None
DueCloseIs k (Some due) = IsDueClose k due

-- ---- tending

pub record NoBack (k : Kernel) (p : Packet) : Type 0 where
  pub aim : ℕ
  pub answers : answers_to p ≡ Some aim
  pub found : entry_of aim k ≡ None

pub record IsBack (k : Kernel) (p : Packet) (at : ℕ) : Type 0 where
  pub aim : ℕ
  pub answers : answers_to p ≡ Some aim
  pub place : IsSeatOf k aim at

abbrev pub BackIs : Kernel → Packet → Option AnswerTarget → Type 0
BackIs k p None = NoBack k p
BackIs k p (Some AnswerTarget.Nobody) = answers_to p ≡ None
BackIs k p (Some (AnswerTarget.To at)) = IsBack k p at

-- the seat that is to get the answer is there
abbrev pub IsThere : Kernel → AnswerTarget → Type 0
IsThere k AnswerTarget.Nobody = Unit {0}
IsThere k (AnswerTarget.To at) = at < length k.seats

abbrev pub CanAnswer : State → AnswerTarget → Type 0
CanAnswer s AnswerTarget.Nobody = Unit {0}
CanAnswer s (AnswerTarget.To at) = CanRoute s at

-- the seat's front fits, and its answer goes there
pub record IsTending (k : Kernel) (a at : ℕ) (back : AnswerTarget) (heard : Option Heard) : Type 0 where
  pub place : IsSeatOf k a at
  pub hears : RemembersAnswer place.seat heard
  pub back_is : BackIs k hears.packet (Some back)

pub record IsAnswer (k : Kernel) (answer : Option Packet) (at : ℕ) : Type 0 where
  pub aim : ℕ
  pub packet : Packet
  pub answers : answer ≡ Some packet
  pub target_is : target packet ≡ Some aim
  pub place : IsSeatOf k aim at

abbrev pub AnswersBy : Kernel → AnswerTarget → Option Packet → Type 0
AnswersBy k AnswerTarget.Nobody answer = answer ≡ None
AnswersBy k (AnswerTarget.To at) answer = IsAnswer k answer at

-- what arose goes out, or into a hold list
pub record SendsBack (h : Site) (k : Kernel) (answer : Option Packet) (freed : Option ℕ) (emit : Option Emit) (new : Kernel) : Type 0 where
  pub held : Bool
  pub out : List (ℕ × Parcel)
  pub routed : answer_routed h k answer ≡ Some (record { held = held; kernel = new; out = out })
  pub all : out ++ closed_out freed ≡ out_of emit
