use Rattle.m3_script.proofs.SetupsAgain.{machine_again, act_line_again, quantum_again, files_again, await_item_again, item_again, writer_again, reader_again, box_again, grant_line_again}
use Rattle.m3_script.proofs.laws.setup_lines_read_back.Goals as goal

pub returns-clause-machine_form : goal.returns-clause-machine_form
returns-clause-machine_form c = machine_again

pub returns-clause-act_line_form : goal.returns-clause-act_line_form
returns-clause-act_line_form c = act_line_again

pub returns-clause-quantum_form : goal.returns-clause-quantum_form
returns-clause-quantum_form c = quantum_again

pub returns-clause-files_form : goal.returns-clause-files_form
returns-clause-files_form c = files_again

pub returns-clause-await_item_form : goal.returns-clause-await_item_form
returns-clause-await_item_form c = await_item_again

pub returns-clause-item_form : goal.returns-clause-item_form
returns-clause-item_form c = item_again

pub returns-clause-writer_form : goal.returns-clause-writer_form
returns-clause-writer_form c = writer_again

pub returns-clause-reader_form : goal.returns-clause-reader_form
returns-clause-reader_form c = reader_again

pub returns-clause-box_form : goal.returns-clause-box_form
returns-clause-box_form c = box_again

pub returns-clause-grant_line_form : goal.returns-clause-grant_line_form
returns-clause-grant_line_form c = grant_line_again
