use Rattle.m3_script.proofs.GrantsAgain.{recv_again, send_again, range_again, part_again, r_again, w_again, rw_again}
use Rattle.m3_script.proofs.laws.grants_read_back.Goals as goal

pub returns-clause-recv_form : goal.returns-clause-recv_form
returns-clause-recv_form c = recv_again

pub returns-clause-send_form : goal.returns-clause-send_form
returns-clause-send_form c = send_again

pub returns-clause-range_form : goal.returns-clause-range_form
returns-clause-range_form c = range_again

pub returns-clause-part_form : goal.returns-clause-part_form
returns-clause-part_form c = part_again

pub returns-clause-read_only_form : goal.returns-clause-read_only_form
returns-clause-read_only_form c = r_again

pub returns-clause-write_only_form : goal.returns-clause-write_only_form
returns-clause-write_only_form c = w_again

pub returns-clause-read_write_form : goal.returns-clause-read_write_form
returns-clause-read_write_form c = rw_again
