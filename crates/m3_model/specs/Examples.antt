-- Worked rows, of the machine.
use Rattle.std.specs.Prelude.{◌≡◌, ℕ, zero, suc, List, [], ◌∷◌, ◌++◌, Option, Some, None}
use Rattle.std.proofs.Common.{refl}
use Rattle.m3_base.specs.Examples.Scripts.{delivery_setup, delivery, full_buffer_setup, full_buffer, switch_keeps_unread_setup, switch_keeps_unread, resting_receiver, restore_waits, sender_leaves_setup, sender_leaves, idle_events, replies_setup, replies, late_credit_setup, late_credit, memory_access_setup, memory_access, revoke_while_writing_setup, revoke_while_writing, close_while_replying_setup, close_while_replying, children_first_setup, children_first, order_of_refusals_setup, order_of_refusals, refused_grants_setup, refused_grants, entry_with}
use Rattle.m3_base.specs.declared.event.Outcome.{Outcome}
use Rattle.m3_base.specs.declared.event.Event.{Event}
use Rattle.m3_base.specs.declared.event.Entry.{Entry}
use Rattle.m3_base.specs.declared.event.Said.{Said}
use Rattle.m3_base.specs.declared.setup_line.SetupLine.{SetupLine}
use Rattle.m3_base.specs.declared.command.Command.{Command}
use Rattle.m3_base.specs.declared.command.Answer.{Answer}
use Rattle.m3_base.specs.declared.order.Order.{Order}
use Rattle.m3_base.specs.Ideal.Opening.{opening}
use Rattle.m3_base.specs.Placement.Step.{placement_step}
use Rattle.m3_base.specs.Placement.Opening.{opening_placement}
use Rattle.m3_base.specs.Placement.Landing as places_landing
use Rattle.m3_base.specs.declared.event.Made.{Made}
use Rattle.m3_base.specs.Placement.Driver.{next_event}
use Rattle.m3_base.specs.Examples.Driver.{Programs, made_by, programs_after, two_on_one_tile_programs}
use Rattle.m3_base.specs.Examples.Placement.{expected}
use Rattle.m3_base.specs.declared.order.GrantLine.{GrantLine}
use Rattle.m3_base.specs.declared.packet.Perm.{Perm}
use Rattle.m3_base.specs.declared.command.Reply.{Reply}
use Rattle.m3_model.specs.Config.Site.{Site}
use Rattle.m3_model.specs.Tile.State.{Resident, Seen, Got}
use Rattle.m3_model.specs.Tile.Step.{resident_of}
use Rattle.m3_model.specs.Machine.{Machine, MachineResult, tile_at, machine_step, opened_machine}
use Rattle.m3_model.specs.Config.FromSetup.{site_of}
use Rattle.m3_model.specs.Abstraction.{ideal_of, placement_of}
use Rattle.m3_base.specs.Ideal.Flights.{flight_name as id}
use Rattle.m3_base.specs.Calls.ShortJournal.{short_lines, short_journal}

abbrev pub machine_of : Machine → Option MachineResult → Machine
machine_of m None = m
machine_of m (Some d) = d.machine

abbrev pub outcome_of : Option MachineResult → Option Outcome
outcome_of None = None
outcome_of (Some d) = Some d.outcome

-- what the machine does with these events
abbrev pub outs : Site → Machine → List Entry → List (Option Outcome)
outs h m [] = []
outs h m (e ∷ es) = let d = machine_step h m e.event e.outcome.made in outcome_of d ∷ outs h (machine_of m d) es

abbrev pub said_by : Option places_landing.PlacementResult → Option Outcome
said_by None = None
said_by (Some d) = Some (record { made = None; said = d.said; restore = d.restore })

-- what the ideal machine and the places say of these events, each from where the machine stands
abbrev pub outs_at : Site → Machine → List Entry → List (Option Outcome)
outs_at h m [] = []
outs_at h m (e ∷ es) =
    said_by (placement_step (ideal_of m) (placement_of h m) e.event e.outcome.made)
    ∷ outs_at h (machine_of m (machine_step h m e.event e.outcome.made)) es

-- a row: the machine opens as the ideal machine and the places do, says what the row says, and they say the same from each machine on the way
pub record Row (memory : ℕ) (programs : List ℕ) (lines : List SetupLine) (entries : List Entry) : Type 0 where
  pub opens : ideal_of (opened_machine memory programs lines) ≡ opening memory lines
  pub stands :
      placement_of (site_of memory programs lines) (opened_machine memory programs lines) ≡ opening_placement programs lines
  pub says : outs (site_of memory programs lines) (opened_machine memory programs lines) entries ≡ expected entries
  pub says_at : outs_at (site_of memory programs lines) (opened_machine memory programs lines) entries ≡ expected entries

pub switch_keeps_unread_machine : Row 16 [] switch_keeps_unread_setup switch_keeps_unread
switch_keeps_unread_machine = record { opens = refl; stands = refl; says = refl; says_at = refl }

pub delivery_machine : Row 16 [] delivery_setup delivery
delivery_machine = record { opens = refl; stands = refl; says = refl; says_at = refl }

pub full_buffer_machine : Row 16 [] full_buffer_setup full_buffer
full_buffer_machine = record { opens = refl; stands = refl; says = refl; says_at = refl }

pub resting_receiver_machine : Row 16 [] switch_keeps_unread_setup resting_receiver
resting_receiver_machine = record { opens = refl; stands = refl; says = refl; says_at = refl }

pub restore_waits_machine : Row 16 [] switch_keeps_unread_setup restore_waits
restore_waits_machine = record { opens = refl; stands = refl; says = refl; says_at = refl }

pub sender_leaves_machine : Row 16 [] sender_leaves_setup sender_leaves
sender_leaves_machine = record { opens = refl; stands = refl; says = refl; says_at = refl }

pub idle_events_machine : Row 16 [] switch_keeps_unread_setup idle_events
idle_events_machine = record { opens = refl; stands = refl; says = refl; says_at = refl }

pub replies_machine : Row 16 [] replies_setup replies
replies_machine = record { opens = refl; stands = refl; says = refl; says_at = refl }

pub late_credit_machine : Row 16 [] late_credit_setup late_credit
late_credit_machine = record { opens = refl; stands = refl; says = refl; says_at = refl }

pub memory_access_machine : Row 16 [] memory_access_setup memory_access
memory_access_machine = record { opens = refl; stands = refl; says = refl; says_at = refl }

pub revoke_while_writing_machine : Row 16 [] revoke_while_writing_setup revoke_while_writing
revoke_while_writing_machine = record { opens = refl; stands = refl; says = refl; says_at = refl }

pub close_while_replying_machine : Row 16 [] close_while_replying_setup close_while_replying
close_while_replying_machine = record { opens = refl; stands = refl; says = refl; says_at = refl }

pub children_first_machine : Row 16 [] children_first_setup children_first
children_first_machine = record { opens = refl; stands = refl; says = refl; says_at = refl }

pub order_of_refusals_machine : Row 16 [] order_of_refusals_setup order_of_refusals
order_of_refusals_machine = record { opens = refl; stands = refl; says = refl; says_at = refl }

pub refused_grants_machine : Row 16 [] refused_grants_setup refused_grants
refused_grants_machine = record { opens = refl; stands = refl; says = refl; says_at = refl }

-- ---- the events that the driver chooses

pub record Driving : Type 0 where
  pub machine : Machine
  pub programs : Programs
  pub entries : List Entry

abbrev pub advances : Site → Driving → Event → Option Made → Option MachineResult → Driving
advances h r e m None = r
advances h r e m (Some d) =
    record {
      machine = d.machine;
      programs = programs_after (placement_of h r.machine) r.programs e m;
      entries = r.entries ++ record { event = e; outcome = d.outcome } ∷ [];
    }

abbrev pub drives : Site → Driving → Option Event → Driving
drives h r None = r
drives h r (Some e) = let m = made_by (placement_of h r.machine) r.programs e in advances h r e m (machine_step h r.machine e m)

abbrev pub auto : Site → ℕ → Driving → Driving
auto h zero r = r
auto h (suc n) r = auto h n (drives h r (next_event (ideal_of r.machine) (placement_of h r.machine) []))

abbrev pub two_on_one_tile_opened : Driving
two_on_one_tile_opened =
    record { machine = opened_machine 64 (0 ∷ 1 ∷ []) short_lines; programs = two_on_one_tile_programs; entries = [] }

pub two_on_one_tile_machine : (auto (site_of 64 (0 ∷ 1 ∷ []) short_lines) 20 two_on_one_tile_opened).entries ≡ short_journal
two_on_one_tile_machine = refl

-- ---- an answer that the kernel applied while its activity was away is seen by its program

abbrev pub setup_away : List SetupLine
setup_away = SetupLine.Act 0 2 ∷ SetupLine.Act 1 2 ∷ SetupLine.Grant (GrantLine.Range 0 0 0 16 Perm.Rw) ∷ []

abbrev pub row_away : List Entry
row_away =
    entry_with (Event.Turn 0) (Some (Made.Command (Command.Read 0 0 2))) (Said.Flying (id 0 1)) None
    ∷ entry_with (Event.Order (Order.Switch 2 1)) None (Said.Save 0) None
    ∷ entry_with (Event.Take 2 0) None (Said.Saving 0) None
    ∷ entry_with (Event.Take 0 2) None (Said.Saved 0) (Some 1)
    ∷ entry_with (Event.Take 1 2) None (Said.Landed (id 0 1)) None
    ∷ entry_with (Event.Take 2 1) None (Said.Bounced (id 0 1)) None
    ∷ entry_with (Event.Take 0 2) None (Said.Held (id 0 1) 0) None
    ∷ entry_with (Event.Tend 0) None (Said.Answered (id 0 1) (Answer.Bytes (0 ∷ 0 ∷ [])) None) None
    ∷ entry_with (Event.Take 2 0) None (Said.Current 1) None
    ∷ entry_with (Event.Order (Order.Switch 2 0)) None (Said.Save 1) None
    ∷ entry_with (Event.Take 2 0) None (Said.Saving 1) None
    ∷ entry_with (Event.Take 0 2) None (Said.Saved 1) (Some 0)
    ∷ entry_with (Event.Take 2 0) None (Said.Current 0) None
    ∷ []

abbrev pub last_machine : Site → Machine → List Entry → Machine
last_machine h m [] = m
last_machine h m (e ∷ es) = last_machine h (machine_of m (machine_step h m e.event e.outcome.made)) es

abbrev pub seen_in : Option Resident → Option Seen
seen_in None = None
seen_in (Some y) = Some y.seen

abbrev pub site_away : Site
site_away = site_of 16 (0 ∷ []) setup_away

abbrev pub opened_away : Machine
opened_away = opened_machine 16 (0 ∷ []) setup_away

pub row_away_machine : outs site_away opened_away row_away ≡ expected row_away
row_away_machine = refl

abbrev pub seen_away : Option Seen
seen_away = seen_in (resident_of 0 (tile_at 2 (last_machine site_away opened_away row_away)))

pub row_away_seen : seen_away ≡ Some (Got (Reply.Bytes (0 ∷ 0 ∷ [])))
row_away_seen = refl
