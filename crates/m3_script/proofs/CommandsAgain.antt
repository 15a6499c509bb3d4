-- Commands that are printed are read back, form by form.
use Rattle.std.proofs.Common.{refl, lit<}
use Rattle.m3_text.specs.LineForm.{count_test, form_test}
use Rattle.m3_script.specs.CommandForms.{command_of, any_send_of, send_of, call_of, reply_of, fetch_of, acknowledge_of, read_of, write_of}
use Rattle.m3_script.specs.CommandLaws.{SendAgain, CallAgain, ReplyAgain, FetchAgain, AcknowledgeAgain, ReadAgain, WriteAgain}
use Rattle.m3_script.proofs.NumbersAgain.{within_again, ep_again, u32_again, bytes_again}

pub send_again : SendAgain
unfolding command_of any_send_of send_of count_test
send_again case ep payload r = rw (ep_again ep r.0, bytes_again case 8192 payload r.1) refl

pub call_again : CallAgain
unfolding command_of any_send_of call_of form_test
call_again case ep payload reply r = rw (ep_again ep r.0, ep_again reply r.2, bytes_again case 8192 payload r.1) refl

pub reply_again : ReplyAgain
unfolding command_of reply_of count_test
reply_again case ep token payload r = rw (ep_again ep r.0, u32_again token r.1, bytes_again case 8192 payload r.2) refl

pub fetch_again : FetchAgain
unfolding command_of fetch_of count_test
fetch_again case ep r = rw (ep_again ep r) refl

pub acknowledge_again : AcknowledgeAgain
unfolding command_of acknowledge_of count_test
acknowledge_again case ep token r = rw (ep_again ep r.0, u32_again token r.1) refl

pub read_again : ReadAgain
unfolding command_of read_of count_test
read_again case ep off len r = rw (ep_again ep r.0, u32_again off r.1, within_again 0 65535 len (lit< tt) r.2) refl

pub write_again : WriteAgain
unfolding command_of write_of count_test
write_again case ep off payload r = rw (ep_again ep r.0, u32_again off r.1, bytes_again case 8192 payload r.2) refl
