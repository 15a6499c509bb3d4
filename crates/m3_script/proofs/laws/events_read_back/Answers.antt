use Rattle.m3_script.proofs.EventsAgain.{take_again, do_again, tend_again, turn_again, close_again, switch_again, grant_again, revoke_again, create_again, extend_again, remove_again, open_again, close_file_again, entry_again, move_again, idle_move_again, await_move_again, quantum_move_again, end_move_again, command_move_again}
use Rattle.m3_script.proofs.laws.events_read_back.Goals as goal

pub returns-clause-take_form : goal.returns-clause-take_form
returns-clause-take_form c = take_again

pub returns-clause-do_form : goal.returns-clause-do_form
returns-clause-do_form c = do_again

pub returns-clause-tend_form : goal.returns-clause-tend_form
returns-clause-tend_form c = tend_again

pub returns-clause-turn_form : goal.returns-clause-turn_form
returns-clause-turn_form c = turn_again

pub returns-clause-close_form : goal.returns-clause-close_form
returns-clause-close_form c = close_again

pub returns-clause-switch_form : goal.returns-clause-switch_form
returns-clause-switch_form c = switch_again

pub returns-clause-grant_form : goal.returns-clause-grant_form
returns-clause-grant_form c = grant_again

pub returns-clause-revoke_form : goal.returns-clause-revoke_form
returns-clause-revoke_form c = revoke_again

pub returns-clause-create_form : goal.returns-clause-create_form
returns-clause-create_form c = create_again

pub returns-clause-extend_form : goal.returns-clause-extend_form
returns-clause-extend_form c = extend_again

pub returns-clause-remove_form : goal.returns-clause-remove_form
returns-clause-remove_form c = remove_again

pub returns-clause-open_form : goal.returns-clause-open_form
returns-clause-open_form c = open_again

pub returns-clause-close_file_form : goal.returns-clause-close_file_form
returns-clause-close_file_form c = close_file_again

pub returns-clause-entry_form : goal.returns-clause-entry_form
returns-clause-entry_form c = entry_again

pub returns-clause-move_form : goal.returns-clause-move_form
returns-clause-move_form c = move_again

pub returns-clause-idle_move_form : goal.returns-clause-idle_move_form
returns-clause-idle_move_form c = idle_move_again

pub returns-clause-await_move_form : goal.returns-clause-await_move_form
returns-clause-await_move_form c = await_move_again

pub returns-clause-quantum_move_form : goal.returns-clause-quantum_move_form
returns-clause-quantum_move_form c = quantum_move_again

pub returns-clause-end_move_form : goal.returns-clause-end_move_form
returns-clause-end_move_form c = end_move_again

pub returns-clause-command_move_form : goal.returns-clause-command_move_form
returns-clause-command_move_form c = command_move_again
