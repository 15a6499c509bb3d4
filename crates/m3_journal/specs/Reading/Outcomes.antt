-- Outcomes read from their words, by how many there are.
use Rattle.std.specs.Prelude.{ℕ, ◌-◌, ◌==◌, ◌&&◌, ◌||◌, nat_le, nat_lt, Bool, true, false, if◌then◌else◌, List, [], ◌∷◌, length, take, drop, codes, Option, Some, None, Result, Ok, Err}
use Rattle.std.specs.Str.{bytes_eq}
use Rattle.m3_base.specs.declared.command.Answer.{Answer}
use Rattle.m3_base.specs.declared.event.Said.{Said}
use Rattle.m3_base.specs.declared.ids.FlightId.{FlightId}
use Rattle.m3_text.specs.declared.hexes.HexCase.{HexCase}
use Rattle.m3_text.specs.declared.refusal.Why.{Why}
use Rattle.m3_text.specs.declared.refusal.Why.TheVariants as why
use Rattle.m3_text.specs.Flights.{flight_of}
use Rattle.m3_text.specs.Hex.{hex_of}
use Rattle.m3_text.specs.Number.{number}
use Rattle.m3_text.specs.Refusable.{◌>>=◌}
use Rattle.m3_text.specs.LineForm.{word, matches}
use Rattle.m3_text.specs.CauseOrder.{both}
use Rattle.m3_journal.specs.Reading.Causes.{refusal_of, idle_of, no_of}

-- ---- a name and a number at the end of a line

-- whether the last word but one is this
abbrev pub has_tail : List ℕ → List (List ℕ) → Bool
has_tail name ws = bytes_eq (word (length ws - 2) ws) name

abbrev pub last_word : List (List ℕ) → List ℕ
last_word ws = word (length ws - 1) ws

-- the words before the last two
abbrev pub front : List (List ℕ) → List (List ℕ)
front ws = take (length ws - 2) ws

-- ---- answers

unfoldable pub bytes_answer_of : List ℕ → Result Answer Why
bytes_answer_of w = do
  bytes ← hex_of HexCase.Lower 8192 w
  Ok (Answer.Bytes bytes)

unfoldable pub refused_answer_of : List ℕ → List ℕ → Result Answer Why
refused_answer_of code name = do
  why ← refusal_of code name
  Ok (Answer.Refused why)

unfoldable pub answer_of : List (List ℕ) → Result Answer Why
answer_of ws =
    if matches (codes "sent" ∷ []) ws then Ok Answer.Sent
    else if matches (codes "replied" ∷ []) ws then Ok Answer.Replied
    else if matches (codes "written" ∷ []) ws then Ok Answer.Written
    else if matches (codes "bytes" ∷ [] ∷ []) ws then bytes_answer_of (word 1 ws)
    else if matches (codes "refused" ∷ [] ∷ [] ∷ []) ws then refused_answer_of (word 1 ws) (word 2 ws)
    else Err why.Form

-- a flight's name and its answer
unfoldable pub named_answer_of : List (List ℕ) → Result (FlightId × Answer) Why
named_answer_of ws = both (flight_of (word 1 ws)) (answer_of (drop 2 ws))

unfoldable pub closing_answer_of : List (List ℕ) → Result ((FlightId × Answer) × ℕ) Why
closing_answer_of ws = both (named_answer_of (front ws)) (number 1 4096 (last_word ws))

-- with a grant at the end where its endpoint became free
unfoldable pub answered_of : List (List ℕ) → Result Said Why
answered_of ws =
    if nat_le 5 (length ws) && has_tail (codes "closed") ws
    then (closing_answer_of ws >>= λ x. Ok (Said.Answered x.0.0 x.0.1 (Some x.1)))
    else (named_answer_of ws >>= λ x. Ok (Said.Answered x.0 x.1 None))

-- ---- one word

unfoldable pub file_word_of : List ℕ → Result Said Why
file_word_of w =
    if bytes_eq w (codes "created") then Ok Said.Created
    else if bytes_eq w (codes "extended") then Ok Said.Extended
    else if bytes_eq w (codes "removed") then Ok Said.Removed
    else if bytes_eq w (codes "revoke") then Ok Said.Revoke
    else Err why.Form

unfoldable pub plain_of : List ℕ → Result Said Why
plain_of w =
    if bytes_eq w (codes "none") then Ok Said.Nothing
    else if bytes_eq w (codes "acknowledged") then Ok (Said.Acknowledged None)
    else if bytes_eq w (codes "awake") then Ok Said.Awake
    else if bytes_eq w (codes "yield") then Ok Said.Yield
    else if bytes_eq w (codes "asleep") then Ok Said.Asleep
    else if bytes_eq w (codes "ended") then Ok Said.Ended
    else file_word_of w

-- ---- two words: a name, and what it is said of

unfoldable pub cause_said_of : List ℕ → List ℕ → Result Said Why
cause_said_of name w =
    if bytes_eq name (codes "idle") then (idle_of w >>= λ why. Ok (Said.Idle why))
    else if bytes_eq name (codes "refused") then (no_of w >>= λ why. Ok (Said.No why))
    else if bytes_eq name (codes "done") then (number 1 4096 w >>= λ g. Ok (Said.Done g None))
    else if bytes_eq name (codes "revoking") then (number 1 4096 w >>= λ g. Ok (Said.Revoking g))
    else Err why.Form

unfoldable pub act_said_of : List ℕ → List ℕ → Result Said Why
act_said_of name w =
    if bytes_eq name (codes "save") then (number 0 63 w >>= λ a. Ok (Said.Save a))
    else if bytes_eq name (codes "saving") then (number 0 63 w >>= λ a. Ok (Said.Saving a))
    else if bytes_eq name (codes "saved") then (number 0 63 w >>= λ a. Ok (Said.Saved a))
    else if bytes_eq name (codes "current") then (number 0 63 w >>= λ a. Ok (Said.Current a))
    else if bytes_eq name (codes "yielded") then (number 0 63 w >>= λ a. Ok (Said.Yielded a))
    else cause_said_of name w

unfoldable pub flight_said_of : List ℕ → List ℕ → Result Said Why
flight_said_of name w =
    if bytes_eq name (codes "flying") then (flight_of w >>= λ id. Ok (Said.Flying id))
    else if bytes_eq name (codes "landed") then (flight_of w >>= λ id. Ok (Said.Landed id))
    else if bytes_eq name (codes "routed") then (flight_of w >>= λ id. Ok (Said.Routed id))
    else if bytes_eq name (codes "bounced") then (flight_of w >>= λ id. Ok (Said.Bounced id))
    else act_said_of name w

-- ---- three words

unfoldable pub flight_and_grant : List ℕ → List ℕ → Result (FlightId × ℕ) Why
flight_and_grant v w = do
  id ← flight_of v
  g ← number 1 4096 w
  Ok (id, g)

unfoldable pub held_of : List ℕ → List ℕ → Result Said Why
held_of v w = do
  id ← flight_of v
  a ← number 0 63 w
  Ok (Said.Held id a)

unfoldable pub credit_of : List ℕ → List ℕ → Result Said Why
credit_of v w =
    if bytes_eq v (codes "credit") then (flight_of w >>= λ id. Ok (Said.Acknowledged (Some id)))
    else Err why.Form

unfoldable pub refused_of : List ℕ → List ℕ → Result Said Why
refused_of v w = do
  why ← refusal_of v w
  Ok (Said.Refused why)

unfoldable pub grant_said_of : List ℕ → List ℕ → List ℕ → Result Said Why
grant_said_of name v w =
    if bytes_eq name (codes "credited") then (flight_and_grant v w >>= λ x. Ok (Said.Credited x.0 x.1))
    else if bytes_eq name (codes "discarded") then (flight_and_grant v w >>= λ x. Ok (Said.Discarded x.0 x.1))
    else if bytes_eq name (codes "installed") then (flight_and_grant v w >>= λ x. Ok (Said.Installed x.0 x.1))
    else if bytes_eq name (codes "closing") then (flight_and_grant v w >>= λ x. Ok (Said.Closing x.0 x.1))
    else if bytes_eq name (codes "closed") then (flight_and_grant v w >>= λ x. Ok (Said.Closed x.0 x.1))
    else Err why.Form

unfoldable pub triple_of : List ℕ → List ℕ → List ℕ → Result Said Why
triple_of name v w =
    if bytes_eq name (codes "acknowledged") then credit_of v w
    else if bytes_eq name (codes "refused") then refused_of v w
    else if bytes_eq name (codes "held") then held_of v w
    else grant_said_of name v w

-- ---- more words

unfoldable pub way_of : List ℕ → Result Bool Why
way_of w =
    if bytes_eq w (codes "routed") then Ok false
    else if bytes_eq w (codes "held") then Ok true
    else Err why.Form

-- a grant, the flight of the packet that went out for it, and whether it was held; the way's form comes first
unfoldable pub order_sent_of : List (List ℕ) → Result (ℕ × FlightId × Bool) Why
order_sent_of ws = do
  held ← way_of (word 3 ws)
  id ← flight_of (word 2 ws)
  g ← number 1 4096 (word 1 ws)
  Ok (g, id, held)

unfoldable pub done_of : List (List ℕ) → Result Said Why
done_of ws = do
  g ← number 1 4096 (word 1 ws)
  revoked ← number 1 4096 (word 3 ws)
  Ok (Said.Done g (Some revoked))

-- the cause's form comes before a number of the flight
unfoldable pub land_refused_of : List (List ℕ) → Result Said Why
land_refused_of ws = do
  why ← refusal_of (word 2 ws) (word 3 ws)
  id ← flight_of (word 1 ws)
  Ok (Said.LandRefused id why)

unfoldable pub message_of : List (List ℕ) → Result Said Why
message_of ws = do
  token ← number 0 4294967295 (word 1 ws)
  from ← number 0 63 (word 3 ws)
  label ← number 0 18446744073709551615 (word 5 ws)
  payload ← hex_of HexCase.Lower 8192 (word 6 ws)
  Ok (Said.Message token from label payload)

unfoldable pub reply_message_of : List (List ℕ) → Result Said Why
reply_message_of ws = do
  token ← number 0 4294967295 (word 1 ws)
  from ← number 0 63 (word 3 ws)
  label ← number 0 18446744073709551615 (word 5 ws)
  payload ← hex_of HexCase.Lower 8192 (word 6 ws)
  Ok (Said.ReplyMessage token from label payload)

unfoldable pub extent_of : List (List ℕ) → Result Said Why
extent_of ws = do
  of ← number 1 4096 (word 2 ws)
  at ← number 0 4294967295 (word 4 ws)
  len ← number 1 4294967295 (word 6 ws)
  Ok (Said.Part of at len)

unfoldable pub long_of : List (List ℕ) → Result Said Why
long_of ws =
    if matches (codes "message" ∷ [] ∷ codes "from" ∷ [] ∷ codes "label" ∷ [] ∷ [] ∷ []) ws then message_of ws
    else if matches (codes "reply" ∷ [] ∷ codes "from" ∷ [] ∷ codes "label" ∷ [] ∷ [] ∷ []) ws then reply_message_of ws
    else if matches (codes "refused" ∷ [] ∷ [] ∷ [] ∷ []) ws then land_refused_of ws
    else if matches (codes "granted" ∷ [] ∷ [] ∷ [] ∷ []) ws then (order_sent_of ws >>= λ x. Ok (Said.Granted x.0 x.1 x.2))
    else if matches (codes "close" ∷ [] ∷ [] ∷ [] ∷ []) ws then (order_sent_of ws >>= λ x. Ok (Said.CloseSent x.0 x.1 x.2))
    else if matches (codes "done" ∷ [] ∷ codes "revoked" ∷ [] ∷ []) ws then done_of ws
    else if matches (codes "part" ∷ codes "of" ∷ [] ∷ codes "at" ∷ [] ∷ codes "len" ∷ [] ∷ []) ws then extent_of ws
    else Err why.Form

-- ---- any number of words

unfoldable pub more_of : List (List ℕ) → Result Said Why
more_of ws =
    if nat_lt (length ws) 3 then Err why.Form
    else if bytes_eq (word 0 ws) (codes "answered") then answered_of ws
    else if length ws == 3 then triple_of (word 0 ws) (word 1 ws) (word 2 ws)
    else long_of ws

unfoldable pub said_of : List (List ℕ) → Result Said Why
said_of ws =
    if length ws == 1 then plain_of (word 0 ws)
    else if length ws == 2 then flight_said_of (word 0 ws) (word 1 ws)
    else more_of ws

abbrev pub is_of_grant : List ℕ → Bool
is_of_grant name =
    bytes_eq name (codes "credited") || bytes_eq name (codes "discarded")
    || bytes_eq name (codes "installed") || bytes_eq name (codes "closing") || bytes_eq name (codes "closed")

-- whether the words are of a landing or of a saved activity, by their first and their number
unfoldable pub is_restoring : List (List ℕ) → Bool
is_restoring ws =
    if length ws == 2 then bytes_eq (word 0 ws) (codes "landed") || bytes_eq (word 0 ws) (codes "saved")
    else if bytes_eq (word 0 ws) (codes "answered") then nat_le 3 (length ws)
    else if bytes_eq (word 0 ws) (codes "refused") then length ws == 4
    else if length ws == 3 then is_of_grant (word 0 ws)
    else false

unfoldable pub restored_of : List (List ℕ) → Result (Said × ℕ) Why
restored_of ws = both (said_of (front ws)) (number 0 63 (last_word ws))

-- what an event came to, and the activity that it restored, where `restore` names one at the end
unfoldable pub outcome_of : List (List ℕ) → Result (Said × Option ℕ) Why
outcome_of ws =
    if is_restoring (front ws) && has_tail (codes "restore") ws then (restored_of ws >>= λ x. Ok (x.0, Some x.1))
    else (said_of ws >>= λ said. Ok (said, None))
