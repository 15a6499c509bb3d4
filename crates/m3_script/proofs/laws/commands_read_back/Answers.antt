use Rattle.m3_script.proofs.CommandsAgain.{send_again, call_again, reply_again, fetch_again, acknowledge_again, read_again, write_again}
use Rattle.m3_script.proofs.laws.commands_read_back.Goals as goal

pub returns-clause-send_form : goal.returns-clause-send_form
returns-clause-send_form c = send_again

pub returns-clause-call_form : goal.returns-clause-call_form
returns-clause-call_form c = call_again

pub returns-clause-reply_form : goal.returns-clause-reply_form
returns-clause-reply_form c = reply_again

pub returns-clause-fetch_form : goal.returns-clause-fetch_form
returns-clause-fetch_form c = fetch_again

pub returns-clause-acknowledge_form : goal.returns-clause-acknowledge_form
returns-clause-acknowledge_form c = acknowledge_again

pub returns-clause-read_form : goal.returns-clause-read_form
returns-clause-read_form c = read_again

pub returns-clause-write_form : goal.returns-clause-write_form
returns-clause-write_form c = write_again
