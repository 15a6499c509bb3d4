-- Outcomes that are printed are words of visible characters, and are read back.
use Rattle.std.proofs.Common.{◌≡◌, ℕ, ◌^◌, ◌<◌, ◌≤◌, true, false, ◌&&◌, leb, [], ◌∷◌, ◌++◌, length, Option, Some, None, Ok, refl, arith, lit<}
use Rattle.std.specs.List.{list_all}
use Rattle.m3_base.specs.declared.command.Answer.{Answer}
use Rattle.m3_base.specs.declared.command.Answer.TheVariants as answer
use Rattle.m3_base.specs.declared.command.Refusal.TheVariants as refusal
use Rattle.m3_base.specs.declared.event.IdleWhy.TheVariants as idle
use Rattle.m3_base.specs.declared.event.No.{No}
use Rattle.m3_base.specs.declared.event.No.TheVariants as no
use Rattle.m3_base.specs.declared.event.Said.{Said}
use Rattle.m3_base.specs.declared.event.Said.TheVariants as said
use Rattle.m3_base.specs.declared.ids.FlightId.{FlightId}
use Rattle.m3_text.specs.declared.hexes.HexCase.TheVariants as case
use Rattle.m3_text.specs.Refusable.{◌>>=◌}
use Rattle.m3_text.proofs.ValuesAgain.{flight_again}
use Rattle.m3_script.proofs.NumbersAgain.{act_again, id_again, u32_again, length_again, label_again, bytes_again}
use Rattle.m3_journal.specs.Outcomes.{said_words}
use Rattle.m3_journal.specs.Spelled.{SaidInRange}
use Rattle.m3_journal.specs.Reading.Outcomes.{named_answer_of, closing_answer_of, answered_of, file_word_of, plain_of, cause_said_of, act_said_of, flight_said_of, flight_and_grant, held_of, credit_of, refused_of, grant_said_of, triple_of, order_sent_of, done_of, land_refused_of, message_of, reply_message_of, extent_of, long_of, more_of, said_of}
use Rattle.m3_journal.proofs.ClearWords.{is_clear, act_clear, id_clear, u32_clear, length_clear, label_clear, bytes_clear, flight_clear}
use Rattle.m3_journal.proofs.Causes.{refusal_again, code_clear, name_clear, code_is_no_closed, idle_again, idle_clear, no_again, no_clear, way_again, way_clear, answer_again}

-- ---- what an event came to

answered_again : (id : FlightId) (x : Answer) (closed : Option ℕ) → SaidInRange (said.Answered id x closed) → said_of (said_words (said.Answered id x closed)) ≡ Ok (said.Answered id x closed)
unfolding said_of more_of answered_of named_answer_of closing_answer_of
answered_again id answer.Sent None r = rw (flight_again id r.0, answer_again answer.Sent r.1) refl
answered_again id answer.Replied None r = rw (flight_again id r.0, answer_again answer.Replied r.1) refl
answered_again id answer.Written None r = rw (flight_again id r.0, answer_again answer.Written r.1) refl
answered_again id (answer.Bytes bytes) None r = rw (flight_again id r.0, answer_again (answer.Bytes bytes) r.1) refl
answered_again id (answer.Refused why) None r = rw (code_is_no_closed why, flight_again id r.0, answer_again (answer.Refused why) r.1) refl
answered_again id answer.Sent (Some g) r = rw (flight_again id r.0, answer_again answer.Sent r.1, id_again g r.2) refl
answered_again id answer.Replied (Some g) r = rw (flight_again id r.0, answer_again answer.Replied r.1, id_again g r.2) refl
answered_again id answer.Written (Some g) r = rw (flight_again id r.0, answer_again answer.Written r.1, id_again g r.2) refl
answered_again id (answer.Bytes bytes) (Some g) r = rw (flight_again id r.0, answer_again (answer.Bytes bytes) r.1, id_again g r.2) refl
answered_again id (answer.Refused why) (Some g) r = rw (flight_again id r.0, answer_again (answer.Refused why) r.1, id_again g r.2) refl

answered_clear : (id : FlightId) (x : Answer) (closed : Option ℕ) → SaidInRange (said.Answered id x closed)
    → (list_all is_clear (said_words (said.Answered id x closed)) && leb (length (said_words (said.Answered id x closed))) 7) ≡ true
answered_clear id answer.Sent None r = rw (flight_clear id r.0) refl
answered_clear id answer.Replied None r = rw (flight_clear id r.0) refl
answered_clear id answer.Written None r = rw (flight_clear id r.0) refl
answered_clear id (answer.Bytes bytes) None r = rw (flight_clear id r.0, bytes_clear 8192 bytes r.1) refl
answered_clear id (answer.Refused why) None r = rw (flight_clear id r.0, code_clear why, name_clear why) refl
answered_clear id answer.Sent (Some g) r = rw (flight_clear id r.0, id_clear g r.2) refl
answered_clear id answer.Replied (Some g) r = rw (flight_clear id r.0, id_clear g r.2) refl
answered_clear id answer.Written (Some g) r = rw (flight_clear id r.0, id_clear g r.2) refl
answered_clear id (answer.Bytes bytes) (Some g) r = rw (flight_clear id r.0, bytes_clear 8192 bytes r.1, id_clear g r.2) refl
answered_clear id (answer.Refused why) (Some g) r = rw (flight_clear id r.0, code_clear why, name_clear why, id_clear g r.2) refl

pub said_again : (s : Said) → SaidInRange s → said_of (said_words s) ≡ Ok s
unfolding said_of more_of plain_of file_word_of flight_said_of act_said_of cause_said_of triple_of credit_of refused_of held_of grant_said_of flight_and_grant long_of message_of reply_message_of land_refused_of order_sent_of done_of extent_of answered_of named_answer_of closing_answer_of
said_again said.Nothing r = refl
said_again said.Awake r = refl
said_again said.Yield r = refl
said_again said.Asleep r = refl
said_again said.Ended r = refl
said_again said.Created r = refl
said_again said.Extended r = refl
said_again said.Removed r = refl
said_again said.Revoke r = refl
said_again (said.Flying id) r = rw (flight_again id r) refl
said_again (said.Landed id) r = rw (flight_again id r) refl
said_again (said.Bounced id) r = rw (flight_again id r) refl
said_again (said.Routed id) r = rw (flight_again id r) refl
said_again (said.Saving act) r = rw (act_again act r) refl
said_again (said.Saved act) r = rw (act_again act r) refl
said_again (said.Current act) r = rw (act_again act r) refl
said_again (said.Yielded act) r = rw (act_again act r) refl
said_again (said.Save act) r = rw (act_again act r) refl
said_again (said.Credited id g) r = rw (flight_again id r.0, id_again g r.1) refl
said_again (said.Discarded id g) r = rw (flight_again id r.0, id_again g r.1) refl
said_again (said.Installed id g) r = rw (flight_again id r.0, id_again g r.1) refl
said_again (said.Closing id g) r = rw (flight_again id r.0, id_again g r.1) refl
said_again (said.Closed id g) r = rw (flight_again id r.0, id_again g r.1) refl
said_again (said.Message token from label payload) r = rw (u32_again token r.0, act_again from r.1, label_again label r.2, bytes_again case.Lower 8192 payload r.3) refl
said_again (said.ReplyMessage token from label payload) r = rw (u32_again token r.0, act_again from r.1, label_again label r.2, bytes_again case.Lower 8192 payload r.3) refl
said_again (said.Acknowledged None) r = refl
said_again (said.Acknowledged (Some id)) r = rw (flight_again id r) refl
said_again (said.Refused why) r = rw (refusal_again why) refl
said_again (said.Idle why) r = rw (idle_again why) refl
said_again (said.LandRefused id why) r = rw (refusal_again why, flight_again id r) refl
said_again (said.Held id act) r = rw (flight_again id r.0, act_again act r.1) refl
said_again (said.Done g None) r = rw (id_again g r.0) refl
said_again (said.Done g (Some revoked)) r = rw (id_again g r.0, id_again revoked r.1) refl
said_again (said.No why) r = rw (no_again why) refl
said_again (said.Granted g id held) r = rw (way_again held, flight_again id r.0, id_again g r.1) refl
said_again (said.CloseSent g id held) r = rw (way_again held, flight_again id r.0, id_again g r.1) refl
said_again (said.Revoking g) r = rw (id_again g r) refl
said_again (said.Part of at len) r = rw (id_again of r.0, u32_again at r.1, length_again len r.2) refl
said_again (said.Answered id x closed) r = answered_again id x closed r

pub said_clear : (s : Said) → SaidInRange s → (list_all is_clear (said_words s) && leb (length (said_words s)) 7) ≡ true
said_clear said.Nothing r = refl
said_clear said.Awake r = refl
said_clear said.Yield r = refl
said_clear said.Asleep r = refl
said_clear said.Ended r = refl
said_clear said.Created r = refl
said_clear said.Extended r = refl
said_clear said.Removed r = refl
said_clear said.Revoke r = refl
said_clear (said.Flying id) r = rw (flight_clear id r) refl
said_clear (said.Landed id) r = rw (flight_clear id r) refl
said_clear (said.Bounced id) r = rw (flight_clear id r) refl
said_clear (said.Routed id) r = rw (flight_clear id r) refl
said_clear (said.Saving act) r = rw (act_clear act r) refl
said_clear (said.Saved act) r = rw (act_clear act r) refl
said_clear (said.Current act) r = rw (act_clear act r) refl
said_clear (said.Yielded act) r = rw (act_clear act r) refl
said_clear (said.Save act) r = rw (act_clear act r) refl
said_clear (said.Credited id g) r = rw (flight_clear id r.0, id_clear g r.1) refl
said_clear (said.Discarded id g) r = rw (flight_clear id r.0, id_clear g r.1) refl
said_clear (said.Installed id g) r = rw (flight_clear id r.0, id_clear g r.1) refl
said_clear (said.Closing id g) r = rw (flight_clear id r.0, id_clear g r.1) refl
said_clear (said.Closed id g) r = rw (flight_clear id r.0, id_clear g r.1) refl
said_clear (said.Message token from label payload) r = rw (u32_clear token r.0, act_clear from r.1, label_clear label r.2, bytes_clear 8192 payload r.3) refl
said_clear (said.ReplyMessage token from label payload) r = rw (u32_clear token r.0, act_clear from r.1, label_clear label r.2, bytes_clear 8192 payload r.3) refl
said_clear (said.Acknowledged None) r = refl
said_clear (said.Acknowledged (Some id)) r = rw (flight_clear id r) refl
said_clear (said.Refused why) r = rw (code_clear why, name_clear why) refl
said_clear (said.Idle why) r = rw (idle_clear why) refl
said_clear (said.LandRefused id why) r = rw (flight_clear id r, code_clear why, name_clear why) refl
said_clear (said.Held id act) r = rw (flight_clear id r.0, act_clear act r.1) refl
said_clear (said.Done g None) r = rw (id_clear g r.0) refl
said_clear (said.Done g (Some revoked)) r = rw (id_clear g r.0, id_clear revoked r.1) refl
said_clear (said.No why) r = rw (no_clear why) refl
said_clear (said.Granted g id held) r = rw (id_clear g r.1, flight_clear id r.0, way_clear held) refl
said_clear (said.CloseSent g id held) r = rw (id_clear g r.1, flight_clear id r.0, way_clear held) refl
said_clear (said.Revoking g) r = rw (id_clear g r) refl
said_clear (said.Part of at len) r = rw (id_clear of r.0, u32_clear at r.1, length_clear len r.2) refl
said_clear (said.Answered id x closed) r = answered_clear id x closed r
