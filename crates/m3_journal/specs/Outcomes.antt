-- The words of outcomes.
use Rattle.std.specs.Prelude.{ℕ, Bool, true, false, List, [], ◌∷◌, ◌++◌, codes, decimal, Option, Some, None}
use Rattle.m3_base.specs.declared.command.Answer.{Answer}
use Rattle.m3_base.specs.declared.command.Refusal.{Refusal}
use Rattle.m3_base.specs.declared.event.IdleWhy.{IdleWhy}
use Rattle.m3_base.specs.declared.event.No.{No}
use Rattle.m3_base.specs.declared.event.Said.{Said}
use Rattle.m3_base.specs.declared.event.Outcome.{Outcome}
use Rattle.m3_base.specs.declared.ids.FlightId.{FlightId}
use Rattle.m3_text.specs.Hex.{hex_text}
use Rattle.m3_text.specs.Printing.{flight_word}
use Rattle.m3_journal.specs.Commands.{optional}
use Rattle.m3_base.specs.RefusalCodes.{refusal_name}

abbrev pub refusal_digits : Refusal → List ℕ
refusal_digits Refusal.NoEndpoint = codes "1"
refusal_digits Refusal.NoCredits = codes "2"
refusal_digits Refusal.TooLarge = codes "3"
refusal_digits Refusal.Revoked = codes "4"
refusal_digits Refusal.Full = codes "5"
refusal_digits Refusal.OutOfRange = codes "6"
refusal_digits Refusal.NoPermission = codes "7"
refusal_digits Refusal.NoReplyWanted = codes "8"
refusal_digits Refusal.NoSuchToken = codes "9"
refusal_digits Refusal.BadReplyEndpoint = codes "10"

-- a refusal's code and name
abbrev pub refusal_words : Refusal → List (List ℕ)
refusal_words why = refusal_digits why ∷ refusal_name why ∷ []

abbrev pub answer_words : Answer → List (List ℕ)
answer_words Answer.Sent = codes "sent" ∷ []
answer_words Answer.Replied = codes "replied" ∷ []
answer_words Answer.Written = codes "written" ∷ []
answer_words (Answer.Bytes bytes) = codes "bytes" ∷ hex_text bytes ∷ []
answer_words (Answer.Refused why) = codes "refused" ∷ refusal_words why

abbrev pub idle_word : IdleWhy → List ℕ
idle_word IdleWhy.NotCurrent = codes "not-current"
idle_word IdleWhy.Ended = codes "ended"
idle_word IdleWhy.Busy = codes "busy"
idle_word IdleWhy.Waiting = codes "waiting"
idle_word IdleWhy.EmptyLink = codes "empty-link"
idle_word IdleWhy.NotResting = codes "not-resting"
idle_word IdleWhy.EmptyHold = codes "empty-hold"
idle_word IdleWhy.NothingToClose = codes "nothing-to-close"

abbrev pub no_word : No → List ℕ
no_word No.NotHome = codes "not-home"
no_word No.Already = codes "already"
no_word No.Leaving = codes "leaving"
no_word No.NoGrant = codes "no-grant"
no_word No.Closing = codes "closing"
no_word No.SlotTaken = codes "slot-taken"
no_word No.OutsideParent = codes "outside-parent"
no_word No.MorePermission = codes "more-permission"
no_word No.TooMany = codes "too-many"
no_word No.BadName = codes "bad-name"
no_word No.NoFile = codes "no-file"
no_word No.Exists = codes "exists"
no_word No.InUse = codes "in-use"
no_word No.NoSpace = codes "no-space"

-- where the packet of an order went
abbrev pub way_word : Bool → List ℕ
way_word true = codes "held"
way_word false = codes "routed"

abbrev pub acknowledged_words : Option FlightId → List (List ℕ)
acknowledged_words None = codes "acknowledged" ∷ []
acknowledged_words (Some id) = codes "acknowledged" ∷ codes "credit" ∷ flight_word id ∷ []

abbrev pub answered_words : FlightId → Answer → Option ℕ → List (List ℕ)
answered_words id answer closed =
    codes "answered" ∷ flight_word id ∷ answer_words answer ++ optional (codes "closed") closed

abbrev pub message_words : List ℕ → ℕ → ℕ → ℕ → List ℕ → List (List ℕ)
message_words kind token from label payload =
    kind ∷ decimal token ∷ codes "from" ∷ decimal from ∷ codes "label" ∷ decimal label ∷ hex_text payload ∷ []

abbrev pub said_words : Said → List (List ℕ)
said_words (Said.Flying id) = codes "flying" ∷ flight_word id ∷ []
said_words (Said.Message token from label payload) = message_words (codes "message") token from label payload
said_words (Said.ReplyMessage token from label payload) = message_words (codes "reply") token from label payload
said_words Said.Nothing = codes "none" ∷ []
said_words (Said.Acknowledged credit) = acknowledged_words credit
said_words (Said.Refused why) = codes "refused" ∷ refusal_words why
said_words Said.Awake = codes "awake" ∷ []
said_words Said.Yield = codes "yield" ∷ []
said_words Said.Asleep = codes "asleep" ∷ []
said_words Said.Ended = codes "ended" ∷ []
said_words (Said.Idle why) = codes "idle" ∷ idle_word why ∷ []
said_words (Said.Landed id) = codes "landed" ∷ flight_word id ∷ []
said_words (Said.LandRefused id why) = codes "refused" ∷ flight_word id ∷ refusal_words why
said_words (Said.Answered id answer closed) = answered_words id answer closed
said_words (Said.Credited id g) = codes "credited" ∷ flight_word id ∷ decimal g ∷ []
said_words (Said.Discarded id g) = codes "discarded" ∷ flight_word id ∷ decimal g ∷ []
said_words (Said.Installed id g) = codes "installed" ∷ flight_word id ∷ decimal g ∷ []
said_words (Said.Closing id g) = codes "closing" ∷ flight_word id ∷ decimal g ∷ []
said_words (Said.Closed id g) = codes "closed" ∷ flight_word id ∷ decimal g ∷ []
said_words (Said.Bounced id) = codes "bounced" ∷ flight_word id ∷ []
said_words (Said.Routed id) = codes "routed" ∷ flight_word id ∷ []
said_words (Said.Held id act) = codes "held" ∷ flight_word id ∷ decimal act ∷ []
said_words (Said.Saving act) = codes "saving" ∷ decimal act ∷ []
said_words (Said.Saved act) = codes "saved" ∷ decimal act ∷ []
said_words (Said.Current act) = codes "current" ∷ decimal act ∷ []
said_words (Said.Yielded act) = codes "yielded" ∷ decimal act ∷ []
said_words (Said.Done g revoked) = codes "done" ∷ decimal g ∷ optional (codes "revoked") revoked
said_words (Said.Save act) = codes "save" ∷ decimal act ∷ []
said_words (Said.No why) = codes "refused" ∷ no_word why ∷ []
said_words (Said.Granted g id held) = codes "granted" ∷ decimal g ∷ flight_word id ∷ way_word held ∷ []
said_words (Said.Revoking g) = codes "revoking" ∷ decimal g ∷ []
said_words (Said.CloseSent g id held) = codes "close" ∷ decimal g ∷ flight_word id ∷ way_word held ∷ []
said_words Said.Created = codes "created" ∷ []
said_words Said.Extended = codes "extended" ∷ []
said_words Said.Removed = codes "removed" ∷ []
said_words (Said.Part of at len) =
    codes "part" ∷ codes "of" ∷ decimal of ∷ codes "at" ∷ decimal at ∷ codes "len" ∷ decimal len ∷ []
said_words Said.Revoke = codes "revoke" ∷ []

-- an event that restores an activity names it at the end
abbrev pub outcome_words : Outcome → List (List ℕ)
outcome_words o = said_words o.said ++ optional (codes "restore") o.restore
