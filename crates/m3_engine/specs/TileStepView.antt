-- What a tile's code answers, as the local steps have it.
use Rattle.std.specs.Prelude.{◌≡◌, ℕ, Bool, true, false, not, ◌==◌, ◌++◌, Option, Some, None, option_map}
use Rattle.m3_base.specs.declared.message.Message.{Message}
use Rattle.m3_base.specs.declared.packet.Packet.{Packet}
use Rattle.m3_base.specs.declared.event.Said.{Said}
use Rattle.m3_base.specs.Ideal.Context.{Context}
use Rattle.m3_base.specs.Ideal.Arrival.{Arrival}
use Rattle.m3_base.specs.Ideal.Flights.{name_of}
use Rattle.m3_core.specs.declared.issued.Issued.{Issued}
use Rattle.m3_engine.specs.declared.fetched_message.Shown.{Shown}
use Rattle.m3_kernel.specs.ParcelView.{out_of}
use Rattle.m3_engine.specs.declared.tile.TileDid.{TileDid}
use Rattle.m3_model.specs.Config.Site.{Site}
use Rattle.m3_model.specs.LocalStep.{LocalResult, data_out, answer_tile, closed_out}
use Rattle.m3_model.specs.Tile.Step.{arrive_named}
use Rattle.m3_base.specs.ExtentFiles.ScriptEntries.{plain_outcome}

abbrev pub shown_of : Message → Shown
shown_of m = record { is_reply = not (m.header.flags == 0); from = m.header.sender; label = m.header.label; payload = m.payload }

abbrev pub said_shown : ℕ → Shown → Bool → Said
said_shown t s true = Said.ReplyMessage t s.from s.label s.payload
said_shown t s false = Said.Message t s.from s.label s.payload

abbrev pub said_fetched : Option Shown → Option ℕ → Said
said_fetched (Some s) (Some t) = said_shown t s s.is_reply
said_fetched None (Some t) = Said.Nothing
said_fetched s None = Said.Nothing

-- what is said of a command, and the packet that goes out
abbrev pub said_issued : Option Shown → Issued → Said
said_issued s (Issued.Fetched t) = said_fetched s t
said_issued s (Issued.Acknowledged p) = Said.Acknowledged (option_map name_of p)
said_issued s (Issued.Refused why) = Said.Refused why
said_issued s (Issued.Flies id p) = Said.Flying id

abbrev pub packet_issued : Issued → Option Packet
packet_issued (Issued.Fetched t) = None
packet_issued (Issued.Acknowledged p) = p
packet_issued (Issued.Refused why) = None
packet_issued (Issued.Flies id p) = Some p

-- ---- what comes of a packet

-- the answer and the part after it are those of the local step
pub record Does {S : Type 0} (did : TileDid) (now : S) (deed : LocalResult S) : Type 0 where
  pub outcome : did.outcome ≡ deed.outcome
  pub part : now ≡ deed.part
  pub out : out_of did.emit ≡ deed.out

-- what came of a packet that arrived at a context
pub record Lands (h : Site) (d : TileDid) (old new : Context) (p : Packet) : Type 0 where
  pub arrival : Arrival
  pub arrives : arrive_named h old p ≡ Some arrival
  pub outcome : d.outcome ≡ plain_outcome arrival.said
  pub out : out_of d.emit ≡ data_out (answer_tile h arrival.answer) arrival.answer ++ closed_out arrival.freed
  pub context : new ≡ arrival.context
