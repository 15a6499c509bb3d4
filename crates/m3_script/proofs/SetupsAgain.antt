-- Setup lines that are printed are read back, form by form.
use Rattle.std.proofs.Common.{refl, lit<, codes}
use Rattle.m3_text.specs.LineForm.{count_test, form_test}
use Rattle.m3_script.specs.Grants.{grant_of}
use Rattle.m3_script.specs.Setups.{machine_form, machine_of, act_form, act_of, quantum_of, files_of, await_item_form, await_item_of, act_command_of, item_of, writer_form, writer_of, reader_form, reader_of, box_form, box_of, setup_line_of}
use Rattle.m3_script.specs.SetupLaws.{MachineAgain, ActLineAgain, QuantumAgain, FilesAgain, AwaitItemAgain, ItemAgain, WriterAgain, ReaderAgain, BoxAgain, GrantLineAgain}
use Rattle.m3_script.proofs.NumbersAgain.{within_again, act_again, ep_again, id_again, u32_again, bytes_again}
use Rattle.m3_script.proofs.OtherWords.{no_await, no_grant}

pub machine_again : MachineAgain
unfolding machine_of machine_form form_test
machine_again tiles memory r = rw (within_again 3 16 tiles (lit< tt) r.0, within_again 1 1048576 memory (lit< tt) r.1) refl

pub act_line_again : ActLineAgain
unfolding setup_line_of act_of act_form form_test
act_line_again case act tile r = rw (act_again act r.0, ep_again tile r.1) refl

pub quantum_again : QuantumAgain
unfolding setup_line_of quantum_of count_test
quantum_again case quantum r = rw (within_again 1 64 quantum (lit< tt) r) refl

pub files_again : FilesAgain
unfolding setup_line_of files_of count_test
files_again case g r = rw (id_again g r) refl

pub await_item_again : AwaitItemAgain
unfolding setup_line_of item_of await_item_of await_item_form form_test
await_item_again case act ep r = rw (act_again act r.0, ep_again ep r.1) refl

-- the words of a command make an item
pub item_again : ItemAgain
unfolding setup_line_of item_of act_command_of
item_again case act command ws r is = rw (no_await case ws command is, act_again act r, is) refl

pub writer_again : WriterAgain
unfolding setup_line_of writer_of writer_form form_test
writer_again case act mem send reply chunk ring bytes r =
    rw (
      act_again act r.0,
      ep_again mem r.1,
      ep_again send r.2,
      ep_again reply r.3,
      within_again 1 4096 chunk (lit< tt) r.4.0,
      within_again 1 32 ring (lit< tt) r.4.1,
      bytes_again case 65536 bytes r.5,
    ) refl

pub reader_again : ReaderAgain
unfolding setup_line_of reader_of reader_form form_test
reader_again case act mem recv chunk ring fuel r =
    rw (
      act_again act r.0,
      ep_again mem r.1,
      ep_again recv r.2,
      within_again 1 4096 chunk (lit< tt) r.3.0,
      within_again 1 32 ring (lit< tt) r.3.1,
      within_again 1 16384 fuel (lit< tt) r.4,
    ) refl

pub box_again : BoxAgain
unfolding setup_line_of box_of box_form form_test
box_again case act logic fuel r = rw (act_again act r.0, u32_again logic r.1, within_again 1 16384 fuel (lit< tt) r.2) refl

-- the words of a grant make a line of the setup
pub grant_line_again : GrantLineAgain
unfolding setup_line_of grant_of
grant_line_again case line ws is =
    rw (
      no_grant (codes "act") refl (λ vs. refl) ws line is,
      no_grant (codes "prog") refl (λ vs. refl) ws line is,
      no_grant (codes "writer") refl (λ vs. refl) ws line is,
      no_grant (codes "reader") refl (λ vs. refl) ws line is,
      no_grant (codes "box") refl (λ vs. refl) ws line is,
      no_grant (codes "quantum") refl (λ vs. refl) ws line is,
      no_grant (codes "files") refl (λ vs. refl) ws line is,
      is,
    ) refl
