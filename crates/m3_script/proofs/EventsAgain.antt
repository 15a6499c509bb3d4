-- Events that are printed are read back, form by form.
use Rattle.std.proofs.Common.{◌≡◌, false, eqb, arith, [], ◌∷◌, length, Ok, refl}
use Rattle.std.specs.Prelude.{decimal}
use Rattle.m3_base.specs.declared.command.Command.{Command}
use Rattle.m3_text.specs.declared.hexes.HexCase.{HexCase}
use Rattle.m3_text.specs.LineForm.{count_test}
use Rattle.m3_script.specs.CommandForms.{command_of}
use Rattle.m3_script.specs.Setups.{act_command_of}
use Rattle.m3_script.specs.Events.{take_of, do_of, tend_of, turn_of, close_of, switch_of, revoke_of, order_of, name_of, create_of, extend_of, remove_of, open_of, close_file_of, file_of, event_of, await_of, quantum_of, end_of, move_of, act_move_of, entry_event_of}
use Rattle.m3_script.specs.EventLaws.{TakeAgain, DoAgain, TendAgain, TurnAgain, CloseAgain, SwitchAgain, GrantAgain, RevokeAgain, CreateAgain, ExtendAgain, RemoveAgain, OpenAgain, CloseFileAgain, EntryAgain, MoveAgain, IdleMoveAgain, AwaitMoveAgain, QuantumMoveAgain, EndMoveAgain, CommandMoveAgain}
use Rattle.m3_script.proofs.NumbersAgain.{act_again, ep_again, id_again, u32_again, length_again}
use Rattle.m3_script.proofs.OtherWords.{no_await, no_quantum, no_end}

pub take_again : TakeAgain
unfolding event_of take_of count_test
take_again case to from r = rw (ep_again to r.0, ep_again from r.1) refl

pub do_again : DoAgain
unfolding event_of do_of act_command_of
do_again case act command ws r is = rw (act_again act r, is) refl

pub tend_again : TendAgain
unfolding event_of tend_of count_test
tend_again case act r = rw (act_again act r) refl

pub turn_again : TurnAgain
unfolding event_of turn_of count_test
turn_again case act r = rw (act_again act r) refl

pub close_again : CloseAgain
unfolding event_of close_of count_test
close_again case = refl

-- ---- orders

pub switch_again : SwitchAgain
unfolding event_of order_of switch_of count_test
switch_again case tile act r = rw (ep_again tile r.0, act_again act r.1) refl

pub grant_again : GrantAgain
unfolding event_of order_of
grant_again case line ws is = rw is refl

pub revoke_again : RevokeAgain
unfolding event_of order_of revoke_of count_test
revoke_again case g r = rw (id_again g r) refl

-- ---- lines on files

pub create_again : CreateAgain
unfolding event_of file_of create_of name_of count_test
create_again case name r = rw r refl

pub extend_again : ExtendAgain
unfolding event_of file_of extend_of name_of count_test
extend_again case name bytes r = rw (r.0, length_again bytes r.1) refl

pub remove_again : RemoveAgain
unfolding event_of file_of remove_of name_of count_test
remove_again case name r = rw r refl

-- a permission by the word that is printed for it
pub open_again : OpenAgain
unfolding event_of file_of open_of name_of count_test
open_again case name off act ep perm w is r = rw (r.0, is, u32_again off r.1, act_again act r.2.0, ep_again ep r.2.1) refl

pub close_file_again : CloseFileAgain
unfolding event_of file_of close_file_of count_test
close_file_again case g r = rw (id_again g r) refl

-- ---- entries

-- an event that is no turn is the same in an entry
pub entry_again : EntryAgain
unfolding entry_event_of
entry_again case ws event other is = rw (other, is) refl

pub move_again : MoveAgain
unfolding entry_event_of act_move_of
move_again case act made ws r is =
    let some : eqb (length (decimal act ∷ ws)) 0 ≡ false = grind arith in
    rw (some, act_again act r, is) refl

pub idle_move_again : IdleMoveAgain
unfolding move_of
idle_move_again case = refl

pub await_move_again : AwaitMoveAgain
unfolding move_of await_of count_test
await_move_again case ep r = rw (ep_again ep r) refl

pub quantum_move_again : QuantumMoveAgain
unfolding move_of quantum_of count_test
quantum_move_again case = refl

pub end_move_again : EndMoveAgain
unfolding move_of end_of count_test
end_move_again case = refl

no_words : (case : HexCase) (command : Command) → command_of case [] ≡ Ok command → ⊥
unfolding command_of
no_words case command is = absurd cc

-- the words of a command make a move
pub command_move_again : CommandMoveAgain
unfolding move_of
command_move_again case command [] is = absurd (no_words case command is)
command_move_again case command (w ∷ ws) is =
    let some : eqb (length (w ∷ ws)) 0 ≡ false = grind arith in
    rw (some, no_await case (w ∷ ws) command is, no_quantum case (w ∷ ws) command is, no_end case (w ∷ ws) command is, is) refl
