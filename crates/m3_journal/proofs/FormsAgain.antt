-- Events, setup lines and audit lines that are printed are read back.
use Rattle.std.proofs.Common.{◌≡◌, ℕ, ◌^◌, ◌<◌, ◌≤◌, Bool, true, false, not, List, [], ◌∷◌, ◌++◌, length, Option, Some, None, Result, Ok, Err, refl, arith, lit<, codes}
use Rattle.std.specs.Prelude.{decimal}
use Rattle.std.specs.List.{list_all}
use Rattle.m3_base.specs.declared.command.Command.{Command}
use Rattle.m3_base.specs.declared.command.Command.TheVariants as command
use Rattle.m3_base.specs.declared.event.Event.{Event}
use Rattle.m3_base.specs.declared.event.Event.TheVariants as event
use Rattle.m3_base.specs.declared.event.Made.{Made}
use Rattle.m3_base.specs.declared.event.Made.TheVariants as made
use Rattle.m3_base.specs.declared.event.Said.{Said}
use Rattle.m3_base.specs.declared.journal.AuditLine.{AuditLine}
use Rattle.m3_base.specs.declared.journal.AuditLine.TheVariants as audit
use Rattle.m3_base.specs.declared.order.FileLine.{FileLine}
use Rattle.m3_base.specs.declared.order.FileLine.TheVariants as file
use Rattle.m3_base.specs.declared.order.GrantLine.{GrantLine}
use Rattle.m3_base.specs.declared.order.GrantLine.TheVariants as grant
use Rattle.m3_base.specs.declared.order.Order.{Order}
use Rattle.m3_base.specs.declared.order.Order.TheVariants as order
use Rattle.m3_base.specs.declared.packet.Perm.{Perm}
use Rattle.m3_base.specs.declared.packet.Perm.TheVariants as perm
use Rattle.m3_base.specs.declared.setup_line.SetupLine.{SetupLine}
use Rattle.m3_base.specs.declared.setup_line.SetupLine.TheVariants as setup
use Rattle.m3_text.specs.declared.hexes.HexCase.TheVariants as case
use Rattle.m3_text.specs.Refusable.{◌>>=◌}
use Rattle.m3_script.specs.CommandForms.{command_of}
use Rattle.m3_script.specs.Grants.{perm_of, grant_of}
use Rattle.m3_script.specs.Setups.{setup_line_of}
use Rattle.m3_script.specs.Events.{event_of, move_of, entry_event_of}
use Rattle.m3_script.specs.InRange.{CommandInRange, GrantInRange, SetupInRange, OrderInRange, FileInRange, EventInRange, MoveInRange}
use Rattle.m3_script.proofs.NumbersAgain.{act_again, ep_again, id_again, u32_again}
use Rattle.m3_script.proofs.CommandsAgain as commands
use Rattle.m3_script.proofs.GrantsAgain as grants
use Rattle.m3_script.proofs.SetupsAgain as setups
use Rattle.m3_script.proofs.EventsAgain as events
use Rattle.m3_journal.specs.Commands.{command_words}
use Rattle.m3_journal.specs.Orders.{perm_word, grant_words, order_words, file_words}
use Rattle.m3_journal.specs.Events.{move_words, event_words}
use Rattle.m3_journal.specs.SetupLines.{setup_words}
use Rattle.m3_journal.specs.AuditLines.{audit_words}
use Rattle.m3_journal.specs.Spelled.{IsPaired, AuditInRange}
use Rattle.m3_journal.specs.Reading.Audits.{credit_line_of, tile_line_of, empty_tile_line_of, flights_line_of, audit_line_of}
use Rattle.m3_journal.proofs.ClearWords.{is_clear, act_clear, ep_clear, id_clear, u32_clear}

perm_again : (p : Perm) → perm_of (perm_word p) ≡ Ok p
perm_again perm.R = grants.r_again
perm_again perm.W = grants.w_again
perm_again perm.Rw = grants.rw_again

command_again : (c : Command) → CommandInRange c → command_of case.Lower (command_words c) ≡ Ok c
command_again (command.Send ep payload None) r = commands.send_again case.Lower ep payload r
command_again (command.Send ep payload (Some reply)) r = commands.call_again case.Lower ep payload reply r
command_again (command.Reply ep token payload) r = commands.reply_again case.Lower ep token payload r
command_again (command.Fetch ep) r = commands.fetch_again case.Lower ep r
command_again (command.Acknowledge ep token) r = commands.acknowledge_again case.Lower ep token r
command_again (command.Read ep off len) r = commands.read_again case.Lower ep off len r
command_again (command.Write ep off payload) r = commands.write_again case.Lower ep off payload r

grant_again : (line : GrantLine) → GrantInRange line → grant_of (grant_words line) ≡ Ok line
grant_again (grant.Recv act ep slots size) r = grants.recv_again act ep slots size r
grant_again (grant.Send act ep of label credits) r = grants.send_again act ep of label credits r
grant_again (grant.Range act ep at len p) r = grants.range_again act ep at len p (perm_word p) (perm_again p) r
grant_again (grant.Part act ep of at len p) r = grants.part_again act ep of at len p (perm_word p) (perm_again p) r

pub setup_again : (line : SetupLine) → SetupInRange line → setup_line_of case.Lower (setup_words line) ≡ Ok line
setup_again (setup.Act act tile) r = setups.act_line_again case.Lower act tile r
setup_again (setup.Quantum quantum) r = setups.quantum_again case.Lower quantum r
setup_again (setup.Grant line) r = setups.grant_line_again case.Lower line (grant_words line) (grant_again line r)
setup_again (setup.Files g) r = setups.files_again case.Lower g r
setup_again (setup.Item act c) r = setups.item_again case.Lower act c (command_words c) r.0 (command_again c r.1)
setup_again (setup.AwaitItem act ep) r = setups.await_item_again case.Lower act ep r
setup_again (setup.Writer act mem send reply chunk ring bytes) r = setups.writer_again case.Lower act mem send reply chunk ring bytes r
setup_again (setup.Reader act mem recv chunk ring fuel) r = setups.reader_again case.Lower act mem recv chunk ring fuel r
setup_again (setup.Boxed act logic fuel) r = setups.box_again case.Lower act logic fuel r

-- ---- events

move_again : (m : Option Made) → MoveInRange m → move_of case.Lower (move_words m) ≡ Ok m
move_again None r = events.idle_move_again case.Lower
move_again (Some (made.Command c)) r = events.command_move_again case.Lower c (command_words c) (command_again c r)
move_again (Some (made.Await ep)) r = events.await_move_again case.Lower ep r
move_again (Some made.Quantum) r = events.quantum_move_again case.Lower
move_again (Some made.End) r = events.end_move_again case.Lower

order_again : (o : Order) → OrderInRange o → event_of case.Lower (order_words o) ≡ Ok (event.Order o)
order_again (order.Switch tile act) r = events.switch_again case.Lower tile act r
order_again (order.Grant line) r = events.grant_again case.Lower line (grant_words line) (grant_again line r)
order_again (order.Revoke g) r = events.revoke_again case.Lower g r

file_again : (line : FileLine) → FileInRange line → event_of case.Lower (file_words line) ≡ Ok (event.File line)
file_again (file.Create name) r = events.create_again case.Lower name r
file_again (file.Extend name bytes) r = events.extend_again case.Lower name bytes r
file_again (file.Remove name) r = events.remove_again case.Lower name r
file_again (file.Open name off act ep p) r = events.open_again case.Lower name off act ep p (perm_word p) (perm_again p) r
file_again (file.Close g) r = events.close_file_again case.Lower g r

order_alone : (o : Order) → OrderInRange o → entry_event_of case.Lower (order_words o) ≡ Ok (event.Order o, None)
order_alone (order.Switch tile act) r = events.entry_again case.Lower (order_words (order.Switch tile act)) (event.Order (order.Switch tile act)) refl (order_again (order.Switch tile act) r)
order_alone (order.Grant line) r = events.entry_again case.Lower (order_words (order.Grant line)) (event.Order (order.Grant line)) refl (order_again (order.Grant line) r)
order_alone (order.Revoke g) r = events.entry_again case.Lower (order_words (order.Revoke g)) (event.Order (order.Revoke g)) refl (order_again (order.Revoke g) r)

file_alone : (line : FileLine) → FileInRange line → entry_event_of case.Lower (file_words line) ≡ Ok (event.File line, None)
file_alone (file.Create name) r = events.entry_again case.Lower (file_words (file.Create name)) (event.File (file.Create name)) refl (file_again (file.Create name) r)
file_alone (file.Extend name bytes) r = events.entry_again case.Lower (file_words (file.Extend name bytes)) (event.File (file.Extend name bytes)) refl (file_again (file.Extend name bytes) r)
file_alone (file.Remove name) r = events.entry_again case.Lower (file_words (file.Remove name)) (event.File (file.Remove name)) refl (file_again (file.Remove name) r)
file_alone (file.Open name off act ep p) r = events.entry_again case.Lower (file_words (file.Open name off act ep p)) (event.File (file.Open name off act ep p)) refl (file_again (file.Open name off act ep p) r)
file_alone (file.Close g) r = events.entry_again case.Lower (file_words (file.Close g)) (event.File (file.Close g)) refl (file_again (file.Close g) r)

pub event_again : (e : Event) (m : Option Made) (x : Said) → EventInRange e → MoveInRange m → IsPaired e m x → entry_event_of case.Lower (event_words e m) ≡ Ok (e, m)
event_again (event.Do act c) m x r s p =
    rw p (events.entry_again case.Lower (event_words (event.Do act c) None) (event.Do act c) refl (events.do_again case.Lower act c (command_words c) r.0 (command_again c r.1)))
event_again (event.Turn act) m x r s p = events.move_again case.Lower act m (move_words m) r (move_again m s)
event_again (event.Take to from) m x r s p =
    rw p (events.entry_again case.Lower (event_words (event.Take to from) None) (event.Take to from) refl (events.take_again case.Lower to from r))
event_again (event.Tend act) m x r s p =
    rw p (events.entry_again case.Lower (event_words (event.Tend act) None) (event.Tend act) refl (events.tend_again case.Lower act r))
event_again event.Close m x r s p = rw p (events.entry_again case.Lower (event_words event.Close None) event.Close refl (events.close_again case.Lower))
event_again (event.Order o) m x r s p = rw p (order_alone o r)
event_again (event.File line) m x r s p = rw p (file_alone line r)

-- ---- audit lines

pub audit_again : (l : AuditLine) → AuditInRange l → audit_line_of (audit_words l) ≡ Ok l
unfolding audit_line_of credit_line_of tile_line_of empty_tile_line_of flights_line_of
audit_again (audit.Credit g held flying queued limit) r =
    rw (id_again g r.0, u32_again held r.1, u32_again flying r.2, u32_again queued r.3, u32_again limit r.4) refl
audit_again (audit.Tile tile None) r = rw (ep_again tile r.0) refl
audit_again (audit.Tile tile (Some act)) r = rw (ep_again tile r.0, act_again act r.1) refl
audit_again (audit.Flights count) r = rw (u32_again count r) refl
audit_again (audit.Quiet true) r = refl
audit_again (audit.Quiet false) r = refl

pub audit_clear : (l : AuditLine) → AuditInRange l → list_all is_clear (audit_words l) ≡ true
audit_clear (audit.Credit g held flying queued limit) r =
    rw (id_clear g r.0, u32_clear held r.1, u32_clear flying r.2, u32_clear queued r.3, u32_clear limit r.4) refl
audit_clear (audit.Tile tile None) r = rw (ep_clear tile r.0) refl
audit_clear (audit.Tile tile (Some act)) r = rw (ep_clear tile r.0, act_clear act r.1) refl
audit_clear (audit.Flights count) r = rw (u32_clear count r) refl
audit_clear (audit.Quiet true) r = refl
audit_clear (audit.Quiet false) r = refl

-- ---- how many words there are

few_command : (c : Command) → length (command_words c) ≤ 5
few_command (command.Send ep payload None) = omega arith
few_command (command.Send ep payload (Some reply)) = omega arith
few_command (command.Reply ep token payload) = omega arith
few_command (command.Fetch ep) = omega arith
few_command (command.Acknowledge ep token) = omega arith
few_command (command.Read ep off len) = omega arith
few_command (command.Write ep off payload) = omega arith

few_grant : (line : GrantLine) → length (grant_words line) ≤ 11
few_grant (grant.Recv act ep slots size) = omega arith
few_grant (grant.Send act ep of label credits) = omega arith
few_grant (grant.Range act ep at len p) = omega arith
few_grant (grant.Part act ep of at len p) = omega arith

pub few_setup : (line : SetupLine) → length (setup_words line) ≤ 21
few_setup (setup.Act act tile) = omega arith
few_setup (setup.Quantum quantum) = omega arith
few_setup (setup.Grant line) = omega (arith, few_grant line)
few_setup (setup.Files g) = omega arith
few_setup (setup.Item act c) = omega (arith, few_command c)
few_setup (setup.AwaitItem act ep) = omega arith
few_setup (setup.Writer act mem send reply chunk ring bytes) = omega arith
few_setup (setup.Reader act mem recv chunk ring fuel) = omega arith
few_setup (setup.Boxed act logic fuel) = omega arith

few_move : (m : Option Made) → length (move_words m) ≤ 5
few_move None = omega arith
few_move (Some (made.Command c)) = few_command c
few_move (Some (made.Await ep)) = omega arith
few_move (Some made.Quantum) = omega arith
few_move (Some made.End) = omega arith

few_order : (o : Order) → length (order_words o) ≤ 12
few_order (order.Switch tile act) = omega arith
few_order (order.Grant line) = omega (arith, few_grant line)
few_order (order.Revoke g) = omega arith

few_file : (line : FileLine) → length (file_words line) ≤ 12
few_file (file.Create name) = omega arith
few_file (file.Extend name bytes) = omega arith
few_file (file.Remove name) = omega arith
few_file (file.Open name off act ep p) = omega arith
few_file (file.Close g) = omega arith

pub few_event : (e : Event) (m : Option Made) → length (event_words e m) ≤ 12
few_event (event.Do act c) m = omega (arith, few_command c)
few_event (event.Turn act) m = omega (arith, few_move m)
few_event (event.Take to from) m = omega arith
few_event (event.Tend act) m = omega arith
few_event event.Close m = omega arith
few_event (event.Order o) m = few_order o
few_event (event.File line) m = few_file line

pub few_audit : (l : AuditLine) → length (audit_words l) ≤ 21
few_audit (audit.Credit g held flying queued limit) = omega arith
few_audit (audit.Tile tile None) = omega arith
few_audit (audit.Tile tile (Some act)) = omega arith
few_audit (audit.Flights count) = omega arith
few_audit (audit.Quiet quiet) = omega arith
