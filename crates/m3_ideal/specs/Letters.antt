-- Where a reply to a message goes.
use Rattle.std.specs.Prelude.{◌≡◌, true, false, Option, Some, None}
use Rattle.m3_base.specs.declared.message.Message.{Message}
use Rattle.m3_base.specs.Ideal.Issue.{wants_no_reply}
use Rattle.m3_ideal.specs.declared.letter.Address.{Address}

pub record IsAddress (m : Message) (a : Address) : Type 0 where
  pub wanted : wants_no_reply (Some m) ≡ false
  pub to : a.to ≡ m.header.sender
  pub ep : a.ep ≡ m.header.reply_ep
  pub grant : a.grant ≡ m.header.reply

abbrev pub Addresses : Message → Option Address → Type 0
Addresses m None = wants_no_reply (Some m) ≡ true
Addresses m (Some a) = IsAddress m a
