-- Headers, and the bytes that spell them.
use Rattle.std.specs.Prelude.{◌≡◌, ℕ, ◌≤◌, ◌==◌, nat_le, ◌||◌, Bool, true, if◌then◌else◌, List, ◌∷◌, ◌++◌}
use Rattle.byteorder.specs.Endian.{little_bytes}
use Rattle.m3_base.specs.declared.message.Header.{Header}
use Rattle.m3_wire.specs.declared.refusal.Part.{Part}
use Rattle.m3_base.specs.Limits.{Within}

abbrev pub IsAct : ℕ → Type 0
IsAct a = Within 0 63 a

abbrev pub IsGrant : ℕ → Type 0
IsGrant g = Within 1 4096 g

-- the number of a flight
abbrev pub IsCount : ℕ → Type 0
IsCount n = Within 1 4294967295 n

abbrev pub IsLabel : ℕ → Type 0
IsLabel l = Within 0 18446744073709551615 l

-- none for a reply, else an endpoint or none
abbrev pub is_reply_ep : ℕ → ℕ → Bool
is_reply_ep flags e = if flags == 1 then e == 255 else (nat_le e 15 || (e == 255))

-- the grant of the reply endpoint is 0 exactly where there is none
abbrev pub least_reply : ℕ → ℕ
least_reply e = if e == 255 then 0 else 1

abbrev pub most_reply : ℕ → ℕ
most_reply e = if e == 255 then 0 else 4096

-- the fields of a header are within their ranges
pub record FitsHeader (h : Header) : Type 0 where
  pub flags : Within 0 1 h.flags
  pub reply_ep : is_reply_ep h.flags h.reply_ep ≡ true
  pub sender : IsAct h.sender
  pub lane : Within 0 0 h.lane
  pub len : Within 0 512 h.length
  pub send : IsGrant h.send
  pub reply : Within (least_reply h.reply_ep) (most_reply h.reply_ep) h.reply
  pub count : IsCount h.number
  pub label : IsLabel h.label

abbrev pub header_bytes : Header → List ℕ
header_bytes h =
    h.flags ∷ h.reply_ep ∷ h.sender ∷ h.lane ∷ little_bytes 2 h.length ++ little_bytes 2 0
    ++ little_bytes 4 h.send ++ little_bytes 4 h.reply ++ little_bytes 4 h.number ++ little_bytes 8 h.label

-- the bytes spell the header
abbrev pub IsHeader : Header → List ℕ → Type 0
IsHeader h text = FitsHeader h × (text ≡ header_bytes h)

-- the part in which a byte of a header lies
abbrev pub header_part : ℕ → Part
header_part at = if at == 0 then Part.Flags else if (at == 6) || (at == 7) then Part.Reserved else Part.Field

abbrev pub part_in_header : List ℕ → ℕ → Part
part_in_header bytes at = header_part at
