-- The words of packets.
use Rattle.std.specs.Prelude.{ℕ, List, [], ◌∷◌, ◌++◌, ◌==◌, if◌then◌else◌, length, codes, decimal}
use Rattle.m3_base.specs.declared.ids.FlightId.{FlightId}
use Rattle.m3_base.specs.declared.message.Header.{Header}
use Rattle.m3_base.specs.declared.message.Message.{Message}
use Rattle.m3_base.specs.declared.packet.Fresh.{Fresh}
use Rattle.m3_base.specs.declared.packet.Packet.{Packet}
use Rattle.m3_base.specs.Ideal.Landing.{message_id}
use Rattle.m3_text.specs.Hex.{hex_text}
use Rattle.m3_text.specs.Printing.{flight_word}
use Rattle.m3_journal.specs.Orders.{extent_words}
use Rattle.m3_journal.specs.Outcomes.{answer_words}

-- a reply's first word is its own
abbrev pub message_word : Header → List ℕ
message_word h = if h.flags == 1 then codes "reply" else codes "message"

-- the endpoint that waits for a reply, and its grant; 255 is none
abbrev pub wish_words : Header → List (List ℕ)
wish_words h =
    if h.reply_ep == 255 then codes "reply" ∷ codes "none" ∷ []
    else codes "reply" ∷ decimal h.reply_ep ∷ codes "grant" ∷ decimal h.reply ∷ []

-- an endpoint and the grant of its record
abbrev pub receiver_words : ℕ → ℕ → ℕ → List (List ℕ)
receiver_words act ep grant = codes "to" ∷ decimal act ∷ codes "ep" ∷ decimal ep ∷ codes "grant" ∷ decimal grant ∷ []

-- what a send record says of its messages
abbrev pub terms_words : ℕ → ℕ → ℕ → List (List ℕ)
terms_words label size limit = codes "label" ∷ decimal label ∷ codes "size" ∷ decimal size ∷ codes "credits" ∷ decimal limit ∷ []

-- a record's form and its grant
abbrev pub record_grant_words : List ℕ → ℕ → List (List ℕ)
record_grant_words form grant = form ∷ codes "grant" ∷ decimal grant ∷ []

abbrev pub record_words : Fresh → List (List ℕ)
record_words (Fresh.Send grant to to_ep to_grant label size limit) =
    record_grant_words (codes "send") grant ++ (receiver_words to to_ep to_grant ++ terms_words label size limit)
record_words (Fresh.Receive grant slots size) =
    record_grant_words (codes "recv") grant ++ codes "slots" ∷ decimal slots ∷ codes "size" ∷ decimal size ∷ []
record_words (Fresh.Memory grant start len perm) =
    record_grant_words (codes "range") grant ++ extent_words start len perm

abbrev pub access_words : List ℕ → FlightId → ℕ → ℕ → List (List ℕ)
access_words name id grant place = name ∷ flight_word id ∷ codes "grant" ∷ decimal grant ∷ codes "place" ∷ decimal place ∷ []

-- the send grant of a message, and its label
abbrev pub origin_words : ℕ → ℕ → List (List ℕ)
origin_words send label = codes "send" ∷ decimal send ∷ codes "label" ∷ decimal label ∷ []

-- what a message says beside where it goes
abbrev pub content_words : Message → List (List ℕ)
content_words m =
    origin_words m.header.send m.header.label ++ (wish_words m.header ++ hex_text m.payload ∷ [])

abbrev pub packet_words : Packet → List (List ℕ)
packet_words (Packet.Message to ep grant m) =
    message_word m.header ∷ flight_word (message_id m) ∷ (receiver_words to ep grant ++ content_words m)
packet_words (Packet.Credit id to grant) =
    codes "credit" ∷ flight_word id ∷ codes "to" ∷ decimal to ∷ codes "grant" ∷ decimal grant ∷ []
packet_words (Packet.Read id grant place buffer) =
    access_words (codes "read") id grant place ++ codes "len" ∷ decimal (length buffer) ∷ []
packet_words (Packet.Write id grant place payload) =
    access_words (codes "write") id grant place ++ hex_text payload ∷ []
packet_words (Packet.Answer id answer) = codes "answer" ∷ flight_word id ∷ answer_words answer
packet_words (Packet.Install id to ep fresh) =
    codes "install" ∷ flight_word id ∷ codes "to" ∷ decimal to ∷ codes "ep" ∷ decimal ep ∷ record_words fresh
packet_words (Packet.Close id to ep grant) = codes "close" ∷ flight_word id ∷ receiver_words to ep grant
