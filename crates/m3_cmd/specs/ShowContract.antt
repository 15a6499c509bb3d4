-- What the words `show` answer to bytes.
use Rattle.std.specs.Prelude.{◌≡◌, ◌⊎◌, ℕ, ◌+◌, ◌<◌, ◌≤◌, List, [], ◌∷◌, ◌++◌, map, length, Err, codes, decimal, ⊤}
use Rattle.m3_base.specs.declared.packet.Packet.{Packet}
use Rattle.m3_text.specs.Printing.{line_text, text_of_lines}
use Rattle.m3_journal.specs.Packets.{packet_words}
use Rattle.m3_wire.specs.Grammar.{IsFirst, IsRead, Refuses, TakesNone}
use Rattle.m3_wire.specs.Packets.{IsPacket, packet_part}
use Rattle.m3_wire.specs.declared.refusal.WireRefusal.{WireRefusal}
use Rattle.m3_cmd.specs.CommandLine.{limit_of}
use Rattle.m3_cmd.specs.declared.words.InputForm.{InputForm}
use Rattle.m3_cmd.specs.declared.show.ShowRefusal.{ShowRefusal}

-- the bytes are the spellings of these packets, one after the other
abbrev pub AreSpelled : List Packet → List ℕ → Type 0
AreSpelled [] bytes = bytes ≡ []
AreSpelled (p ∷ ps) bytes = (text : List ℕ) × (rest : List ℕ) × (bytes ≡ text ++ rest) × IsPacket p text × AreSpelled ps rest

abbrev pub packet_line : Packet → List ℕ
packet_line p = line_text (packet_words p)

-- the text has a line for each packet whose spelling stands in the bytes, and they are nothing else
pub record IsShown (bytes text : List ℕ) : Type 0 where
  pub packets : List Packet
  pub spelled : AreSpelled packets bytes
  pub is_text : text ≡ text_of_lines (map packet_line packets)

abbrev pub ArePackets : List ℕ → Type 0
ArePackets bytes = (packets : List Packet) × AreSpelled packets bytes

abbrev pub AreNoPackets : List ℕ → Type 0
AreNoPackets bytes = (packets : List Packet) → AreSpelled packets bytes → ⊥

-- behind so many bytes, which are packets, others stand that no packet begins and that this refusal refuses
pub record IsRefusedAfter (bytes : List ℕ) (before : ℕ) (refusal : WireRefusal) : Type 0 where
  pub packets : List Packet
  pub front : List ℕ
  pub rest : List ℕ
  pub parts : bytes ≡ front ++ rest
  pub spelled : AreSpelled packets front
  pub place : before ≡ length front
  pub some : 0 < length rest
  pub none : (q : Packet) (text more : List ℕ) → IsPacket q text → rest ≡ text ++ more → ⊥
  pub refuses : Refuses IsPacket packet_part rest refusal
  pub named : TakesNone refusal

abbrev pub place_of : WireRefusal → ℕ
place_of (WireRefusal.Short at) = at
place_of (WireRefusal.BadKind at) = at
place_of (WireRefusal.BadFlags at) = at
place_of (WireRefusal.BadReserved at) = at
place_of (WireRefusal.BadField at) = at
place_of WireRefusal.NoMemory = 0

abbrev pub kind_word : WireRefusal → List ℕ
kind_word (WireRefusal.Short at) = codes "short"
kind_word (WireRefusal.BadKind at) = codes "kind"
kind_word (WireRefusal.BadFlags at) = codes "flags"
kind_word (WireRefusal.BadReserved at) = codes "reserved"
kind_word (WireRefusal.BadField at) = codes "field"
kind_word WireRefusal.NoMemory = codes "memory"

-- the place counts from the first byte of all
abbrev pub bad_byte_line : ℕ → WireRefusal → List ℕ
bad_byte_line before refusal = codes "bad byte " ++ (decimal (before + place_of refusal) ++ (codes ": " ++ (kind_word refusal ++ 10 ∷ [])))

-- the text names the first byte at which the bytes are no packets
pub record IsBadByte (bytes text : List ℕ) : Type 0 where
  pub before : ℕ
  pub refusal : WireRefusal
  pub refused : IsRefusedAfter bytes before refusal
  pub is_text : text ≡ bad_byte_line before refusal

-- with 0 the packets' lines, with 2 the line of the first byte at which the bytes are no packets
abbrev pub IsShowAnswer : List ℕ → ℕ → List ℕ → Type 0
IsShowAnswer bytes status text =
    ((status ≡ 0) × IsShown bytes text)
    ⊎ ((status ≡ 2) × AreNoPackets bytes × IsBadByte bytes text)

abbrev pub refused_after : ℕ → WireRefusal → ShowRefusal
refused_after before (WireRefusal.Short at) = ShowRefusal.Bad before (WireRefusal.Short at)
refused_after before (WireRefusal.BadKind at) = ShowRefusal.Bad before (WireRefusal.BadKind at)
refused_after before (WireRefusal.BadFlags at) = ShowRefusal.Bad before (WireRefusal.BadFlags at)
refused_after before (WireRefusal.BadReserved at) = ShowRefusal.Bad before (WireRefusal.BadReserved at)
refused_after before (WireRefusal.BadField at) = ShowRefusal.Bad before (WireRefusal.BadField at)
refused_after before WireRefusal.NoMemory = ShowRefusal.NoMemory

-- the refused byte is one of the most that are read, or their end
abbrev pub IsNamed : ShowRefusal → Type 0
IsNamed ShowRefusal.NoMemory = ⊤
IsNamed (ShowRefusal.Bad before refusal) = before + place_of refusal ≤ limit_of InputForm.Show

-- with 2 the line of bytes that aren't shown
abbrev pub IsRefusalLine : ShowRefusal → ℕ → List ℕ → Type 0
IsRefusalLine ShowRefusal.NoMemory status text = ⊥
IsRefusalLine (ShowRefusal.Bad before refusal) status text = (status ≡ 2) × (text ≡ bad_byte_line before refusal)

-- the first n bytes are a packet, and its line is put
pub record IsNext (old new rest : List ℕ) (n : ℕ) : Type 0 where
  pub packet : Packet
  pub first : IsFirst IsPacket rest packet n
  pub again : (q : Packet) (text more : List ℕ) → IsPacket q text → rest ≡ text ++ more → ◌≡◌ {A = Packet × ℕ} (packet, n) (q, length text)
  pub put : new ≡ old ++ (packet_line packet ++ 10 ∷ [])

-- no packet begins the bytes, and the refusal says why, unless memory ran out
pub record IsNone (rest : List ℕ) (e : WireRefusal) : Type 0 where
  pub refuses : Refuses IsPacket packet_part rest e
  pub never : (q : Packet) (text more : List ℕ) → IsPacket q text → rest ≡ text ++ more → IsRead {X = Packet × ℕ} (Err e) (q, length text)

-- why bytes aren't shown
abbrev pub IsWhy : List ℕ → ShowRefusal → Type 0
IsWhy bytes ShowRefusal.NoMemory = ⊤
IsWhy bytes (ShowRefusal.Bad before refusal) = AreNoPackets bytes × IsRefusedAfter bytes before refusal
