-- Worked rows: the calls of two list programs in a short journal, and calls on fuel.
use Rattle.std.specs.Prelude.{◌≡◌, List, [], ◌∷◌, take}
use Rattle.std.proofs.Common.{refl}
use Rattle.m3_base.specs.declared.command.Command.{Command}
use Rattle.m3_base.specs.declared.command.Reply.{Reply}
use Rattle.m3_base.specs.declared.message.Message.{Message}
use Rattle.m3_base.specs.declared.program.Seen.{Seen}
use Rattle.m3_base.specs.declared.program.Move.{Move}
use Rattle.m3_base.specs.Ideal.Opening.{opening}
use Rattle.m3_base.specs.Calls.JournalCalls.{Call, Known, PendingAnswer, last_input}
use Rattle.m3_base.specs.Calls.Fuel.{calls_on_fuel, program_calls}
use Rattle.m3_base.specs.Calls.Relation.{IsProgramRun}
use Rattle.m3_base.specs.Calls.ListProgram.{program_items, AreItems, ListMoves}
use Rattle.m3_base.specs.Calls.ShortJournal.{one_byte, short_setup, short_journal}

abbrev pub call : Seen → Move → Call
call seen move = record { seen = seen; move = move }

-- the message that the receiver fetches
abbrev pub fetched_message : Message
fetched_message =
    record {
      header = record {
        flags = 0;
        reply_ep = 255;
        sender = 0;
        lane = 0;
        length = 1;
        send = 2;
        reply = 0;
        number = 1;
        label = 5;
      };
      payload = 42 ∷ [];
    }

abbrev pub sender_calls : List Call
sender_calls = call Seen.First (Move.Do one_byte) ∷ call (Seen.Answer Reply.Sent) Move.Ended ∷ []

abbrev pub receiver_calls : List Call
receiver_calls =
    call Seen.First (Move.Await 0)
    ∷ call Seen.Awake (Move.Do (Command.Fetch 0))
    ∷ call (Seen.Answer (Reply.Fetched 0 fetched_message)) Move.Ended
    ∷ []

-- what each program sees at its calls, and its moves
pub short_sender_calls : program_calls short_setup 0 short_journal ≡ sender_calls
short_sender_calls = refl

pub short_receiver_calls : program_calls short_setup 1 short_journal ≡ receiver_calls
short_receiver_calls = refl

-- while the command flies its answer is pending; at the end the answer was seen
pub short_pending :
    last_input 0 (opening short_setup.memory short_setup.lines) (take 4 short_journal)
    ≡ PendingAnswer 1
short_pending = refl

pub short_last_input :
    last_input 0 (opening short_setup.memory short_setup.lines) short_journal
    ≡ Known (Seen.Answer Reply.Sent)
short_last_input = refl

-- the moves are the items and Ended, and obey the relation of a list program
pub short_items : AreItems (program_items 1 short_setup.lines) receiver_calls
short_items = ([], refl)

pub short_prefix : AreItems (program_items 1 short_setup.lines) (take 1 receiver_calls)
short_prefix = (Move.Do (Command.Fetch 0) ∷ Move.Ended ∷ [], refl)

pub short_run :
    IsProgramRun ListMoves (program_items 0 short_setup.lines) short_setup 0 short_journal
short_run =
    record {
      reach = ([], ([], (refl, refl), ([], (refl, refl), refl)));
      fuel = tt;
    }

-- with as many calls as there is fuel, a further end is none of the program's; a further move is
pub no_fuel_for_the_end : calls_on_fuel 1 sender_calls ≡ take 1 sender_calls
no_fuel_for_the_end = refl

pub fuel_for_all : calls_on_fuel 2 sender_calls ≡ sender_calls
fuel_for_all = refl

pub no_fuel_for_a_move : calls_on_fuel 0 sender_calls ≡ sender_calls
no_fuel_for_a_move = refl
