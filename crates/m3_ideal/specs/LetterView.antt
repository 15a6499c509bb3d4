-- What a letter is to a reader: a message with its header.
use Rattle.std.specs.Prelude.{ℕ, Bool, true, false, length, Option, Some, None}
use Rattle.m3_base.specs.declared.message.Message.{Message}
use Rattle.m3_ideal.specs.declared.letter.ReplyPlace.{ReplyPlace}
use Rattle.m3_ideal.specs.declared.letter.Letter.TheInside.{Inside}

abbrev pub flags : Bool → ℕ
flags true = 1
flags false = 0

abbrev pub place_ep : Option ReplyPlace → ℕ
place_ep None = 255
place_ep (Some place) = place.ep

abbrev pub place_grant : Option ReplyPlace → ℕ
place_grant None = 0
place_grant (Some place) = place.grant

abbrev pub message_of : Inside → Message
message_of l =
    record {
      header = record {
        flags = flags l.is_reply;
        reply_ep = place_ep l.reply;
        sender = l.sender;
        lane = 0;
        length = length l.payload;
        send = l.send;
        reply = place_grant l.reply;
        number = l.number;
        label = l.label;
      };
      payload = l.payload;
    }
