-- What is printed is words of visible characters, form by form; those of a setup have no colon.
use Rattle.std.proofs.Common.{◌≡◌, ℕ, ◌^◌, ◌<◌, ◌≤◌, true, false, ◌&&◌, [], ◌∷◌, ◌++◌, Option, Some, None, refl, arith, lit<}
use Rattle.std.specs.Prelude.{decimal}
use Rattle.std.specs.List.{list_all}
use Rattle.m3_base.specs.declared.command.Answer.TheVariants as answer
use Rattle.m3_base.specs.declared.command.Command.{Command}
use Rattle.m3_base.specs.declared.command.Command.TheVariants as command
use Rattle.m3_base.specs.declared.command.Refusal.TheVariants as refusal
use Rattle.m3_base.specs.declared.event.Event.{Event}
use Rattle.m3_base.specs.declared.event.Event.TheVariants as event
use Rattle.m3_base.specs.declared.event.Made.{Made}
use Rattle.m3_base.specs.declared.event.Made.TheVariants as made
use Rattle.m3_base.specs.declared.order.FileLine.{FileLine}
use Rattle.m3_base.specs.declared.order.FileLine.TheVariants as file
use Rattle.m3_base.specs.declared.order.GrantLine.{GrantLine}
use Rattle.m3_base.specs.declared.order.GrantLine.TheVariants as grant
use Rattle.m3_base.specs.declared.order.Order.{Order}
use Rattle.m3_base.specs.declared.order.Order.TheVariants as order
use Rattle.m3_base.specs.declared.packet.Perm.{Perm}
use Rattle.m3_base.specs.declared.packet.Perm.TheVariants as perm
use Rattle.m3_base.specs.declared.setup_line.SetupLine.{SetupLine}
use Rattle.m3_base.specs.declared.setup_line.SetupLine.TheVariants as setup
use Rattle.m3_text.specs.Lines.{is_word}
use Rattle.m3_script.specs.InRange.{ActInRange, EpInRange, IdInRange, WordInRange, CommandInRange, GrantInRange, MachineInRange, SetupInRange, OrderInRange, FileInRange, EventInRange, MoveInRange}
use Rattle.m3_journal.specs.Commands.{command_words}
use Rattle.m3_journal.specs.Orders.{perm_word, grant_words, order_words, file_words}
use Rattle.m3_journal.specs.Events.{move_words, event_words}
use Rattle.m3_journal.specs.SetupLines.{machine_words, setup_words}
use Rattle.m3_journal.proofs.ClearWords.{is_clear, clear_word, clear_words, within_clear, act_clear, ep_clear, id_clear, u32_clear, length_clear, label_clear, bytes_clear}
use Rattle.m3_base.specs.Limits.{Within}

perm_clear : (p : Perm) → is_clear (perm_word p) ≡ true
perm_clear perm.R = refl
perm_clear perm.W = refl
perm_clear perm.Rw = refl

-- ---- commands, grants and setup lines

pub command_clear : (c : Command) → CommandInRange c → list_all is_clear (command_words c) ≡ true
command_clear (command.Send ep payload None) r = rw (ep_clear ep r.0, bytes_clear 8192 payload r.1) refl
command_clear (command.Send ep payload (Some reply)) r = rw (ep_clear ep r.0, bytes_clear 8192 payload r.1, ep_clear reply r.2) refl
command_clear (command.Reply ep token payload) r = rw (ep_clear ep r.0, u32_clear token r.1, bytes_clear 8192 payload r.2) refl
command_clear (command.Fetch ep) r = rw (ep_clear ep r) refl
command_clear (command.Acknowledge ep token) r = rw (ep_clear ep r.0, u32_clear token r.1) refl
command_clear (command.Read ep off len) r = rw (ep_clear ep r.0, u32_clear off r.1, within_clear 0 65535 len (lit< tt) r.2) refl
command_clear (command.Write ep off payload) r = rw (ep_clear ep r.0, u32_clear off r.1, bytes_clear 8192 payload r.2) refl

pub grant_clear : (line : GrantLine) → GrantInRange line → list_all is_clear (grant_words line) ≡ true
grant_clear (grant.Recv act ep slots size) r =
    rw (act_clear act r.0.0, ep_clear ep r.0.1, within_clear 1 32 slots (lit< tt) r.1, within_clear 1 512 size (lit< tt) r.2) refl
grant_clear (grant.Send act ep of label credits) r =
    rw (act_clear act r.0.0, ep_clear ep r.0.1, id_clear of r.1, label_clear label r.2, within_clear 1 32 credits (lit< tt) r.3) refl
grant_clear (grant.Range act ep at len p) r =
    rw (act_clear act r.0.0, ep_clear ep r.0.1, u32_clear at r.1.0, length_clear len r.1.1, perm_clear p) refl
grant_clear (grant.Part act ep of at len p) r =
    rw (act_clear act r.0.0, ep_clear ep r.0.1, id_clear of r.1, u32_clear at r.2.0, length_clear len r.2.1, perm_clear p) refl

pub machine_clear : (tiles memory : ℕ) → MachineInRange tiles memory → list_all is_clear (machine_words tiles memory) ≡ true
machine_clear tiles memory r = rw (within_clear 3 16 tiles (lit< tt) r.0, within_clear 1 1048576 memory (lit< tt) r.1) refl

pub setup_clear : (line : SetupLine) → SetupInRange line → list_all is_clear (setup_words line) ≡ true
setup_clear (setup.Act act tile) r = rw (act_clear act r.0, ep_clear tile r.1) refl
setup_clear (setup.Quantum quantum) r = rw (within_clear 1 64 quantum (lit< tt) r) refl
setup_clear (setup.Grant line) r = grant_clear line r
setup_clear (setup.Files g) r = rw (id_clear g r) refl
setup_clear (setup.Item act c) r = rw (act_clear act r.0, command_clear c r.1) refl
setup_clear (setup.AwaitItem act ep) r = rw (act_clear act r.0, ep_clear ep r.1) refl
setup_clear (setup.Writer act mem send reply chunk ring bytes) r =
    rw (
      act_clear act r.0,
      ep_clear mem r.1,
      ep_clear send r.2,
      ep_clear reply r.3,
      within_clear 1 4096 chunk (lit< tt) r.4.0,
      within_clear 1 32 ring (lit< tt) r.4.1,
      bytes_clear 65536 bytes r.5,
    ) refl
setup_clear (setup.Reader act mem recv chunk ring fuel) r =
    rw (
      act_clear act r.0,
      ep_clear mem r.1,
      ep_clear recv r.2,
      within_clear 1 4096 chunk (lit< tt) r.3.0,
      within_clear 1 32 ring (lit< tt) r.3.1,
      within_clear 1 16384 fuel (lit< tt) r.4,
    ) refl
setup_clear (setup.Boxed act logic fuel) r = rw (act_clear act r.0, u32_clear logic r.1, within_clear 1 16384 fuel (lit< tt) r.2) refl

-- ---- events

command_shown : (c : Command) → CommandInRange c → list_all is_word (command_words c) ≡ true
command_shown c r = clear_words (command_words c) (command_clear c r)

grant_shown : (line : GrantLine) → GrantInRange line → list_all is_word (grant_words line) ≡ true
grant_shown line r = clear_words (grant_words line) (grant_clear line r)

perm_shown : (p : Perm) → is_word (perm_word p) ≡ true
perm_shown p = clear_word (perm_word p) (perm_clear p)

length_shown : (n : ℕ) → Within 1 4294967295 n → is_word (decimal n) ≡ true
length_shown n r = clear_word (decimal n) (length_clear n r)

u32_shown : (n : ℕ) → WordInRange n → is_word (decimal n) ≡ true
u32_shown n r = clear_word (decimal n) (u32_clear n r)

id_shown : (n : ℕ) → IdInRange n → is_word (decimal n) ≡ true
id_shown n r = clear_word (decimal n) (id_clear n r)

ep_shown : (n : ℕ) → EpInRange n → is_word (decimal n) ≡ true
ep_shown n r = clear_word (decimal n) (ep_clear n r)

act_shown : (n : ℕ) → ActInRange n → is_word (decimal n) ≡ true
act_shown n r = clear_word (decimal n) (act_clear n r)

pub order_shown : (o : Order) → OrderInRange o → list_all is_word (order_words o) ≡ true
order_shown (order.Switch tile act) r = rw (ep_shown tile r.0, act_shown act r.1) refl
order_shown (order.Grant line) r = grant_shown line r
order_shown (order.Revoke g) r = rw (id_shown g r) refl

pub file_shown : (line : FileLine) → FileInRange line → list_all is_word (file_words line) ≡ true
file_shown (file.Create name) r = rw r refl
file_shown (file.Extend name bytes) r = rw (r.0, length_shown bytes r.1) refl
file_shown (file.Remove name) r = rw r refl
file_shown (file.Open name off act ep p) r = rw (r.0, u32_shown off r.1, act_shown act r.2.0, ep_shown ep r.2.1, perm_shown p) refl
file_shown (file.Close g) r = rw (id_shown g r) refl

pub move_shown : (m : Option Made) → MoveInRange m → list_all is_word (move_words m) ≡ true
move_shown None r = refl
move_shown (Some (made.Command c)) r = command_shown c r
move_shown (Some (made.Await ep)) r = rw (ep_shown ep r) refl
move_shown (Some made.Quantum) r = refl
move_shown (Some made.End) r = refl

pub event_shown : (e : Event) (m : Option Made) → EventInRange e → MoveInRange m → list_all is_word (event_words e m) ≡ true
event_shown (event.Do act c) m r s = rw (act_shown act r.0, command_shown c r.1) refl
event_shown (event.Turn act) m r s = rw (act_shown act r, move_shown m s) refl
event_shown (event.Take to from) m r s = rw (ep_shown to r.0, ep_shown from r.1) refl
event_shown (event.Tend act) m r s = rw (act_shown act r) refl
event_shown event.Close m r s = refl
event_shown (event.Order o) m r s = order_shown o r
event_shown (event.File line) m r s = file_shown line r
