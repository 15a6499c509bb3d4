-- Worked examples: what the places make of each event.
use Rattle.std.specs.Prelude.{◌≡◌, List, [], ◌∷◌, Option, Some, None}
use Rattle.std.proofs.Common.{refl}
use Rattle.m3_base.specs.declared.event.Outcome.{Outcome}
use Rattle.m3_base.specs.declared.event.Entry.{Entry}
use Rattle.m3_base.specs.declared.setup_line.SetupLine.{SetupLine}
use Rattle.m3_base.specs.Ideal.State.{State}
use Rattle.m3_base.specs.Ideal.Opening.{opening}
use Rattle.m3_base.specs.Placement.State.{Placement}
use Rattle.m3_base.specs.Placement.Landing.{PlacementResult}
use Rattle.m3_base.specs.Placement.Step.{placement_step}
use Rattle.m3_base.specs.Placement.Opening.{opening_placement}
use Rattle.m3_base.specs.Examples.Scripts.{delivery_setup, delivery, full_buffer_setup, full_buffer, switch_keeps_unread_setup, switch_keeps_unread, resting_receiver, restore_waits, sender_leaves_setup, sender_leaves, idle_events, replies_setup, replies, late_credit_setup, late_credit, memory_access_setup, memory_access, revoke_while_writing_setup, revoke_while_writing, close_while_replying_setup, close_while_replying, children_first_setup, children_first, order_of_refusals_setup, order_of_refusals, refused_grants_setup, refused_grants}
use Rattle.m3_base.specs.DriverRun.Configuration.{places_after}

abbrev pub outcome_of : PlacementResult → Outcome
outcome_of d = record { made = None; said = d.said; restore = d.restore }

abbrev pub out_of : Option PlacementResult → Option Outcome
out_of None = None
out_of (Some d) = Some (outcome_of d)

abbrev pub state_of : State → Option PlacementResult → State
state_of s None = s
state_of s (Some d) = d.state

abbrev pub outs : State → Placement → List Entry → List (Option Outcome)
outs s p [] = []
outs s p (e ∷ es) = let d = placement_step s p e.event e.outcome.made in out_of d ∷ outs (state_of s d) (places_after p d) es

abbrev pub expected : List Entry → List (Option Outcome)
expected [] = []
expected (e ∷ es) = Some e.outcome ∷ expected es

-- with 16 bytes of memory and no programs, the places make of each event the outcome of its entry
abbrev pub IsPlaced : List SetupLine → List Entry → Type 0
IsPlaced lines entries = outs (opening 16 lines) (opening_placement [] lines) entries ≡ expected entries

pub delivery_placed : IsPlaced delivery_setup delivery
delivery_placed = refl

pub full_buffer_placed : IsPlaced full_buffer_setup full_buffer
full_buffer_placed = refl

pub switch_keeps_unread_placed : IsPlaced switch_keeps_unread_setup switch_keeps_unread
switch_keeps_unread_placed = refl

pub resting_receiver_placed : IsPlaced switch_keeps_unread_setup resting_receiver
resting_receiver_placed = refl

pub restore_waits_placed : IsPlaced switch_keeps_unread_setup restore_waits
restore_waits_placed = refl

pub sender_leaves_placed : IsPlaced sender_leaves_setup sender_leaves
sender_leaves_placed = refl

pub idle_events_placed : IsPlaced switch_keeps_unread_setup idle_events
idle_events_placed = refl

pub replies_placed : IsPlaced replies_setup replies
replies_placed = refl

pub late_credit_placed : IsPlaced late_credit_setup late_credit
late_credit_placed = refl

pub memory_access_placed : IsPlaced memory_access_setup memory_access
memory_access_placed = refl

pub revoke_while_writing_placed : IsPlaced revoke_while_writing_setup revoke_while_writing
revoke_while_writing_placed = refl

pub close_while_replying_placed : IsPlaced close_while_replying_setup close_while_replying
close_while_replying_placed = refl

pub children_first_placed : IsPlaced children_first_setup children_first
children_first_placed = refl

pub order_of_refusals_placed : IsPlaced order_of_refusals_setup order_of_refusals
order_of_refusals_placed = refl

pub refused_grants_placed : IsPlaced refused_grants_setup refused_grants
refused_grants_placed = refl
