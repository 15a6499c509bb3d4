-- Words that name a cause: why a command is refused, why an event is idle, and why an order is refused.
use Rattle.std.specs.Prelude.{ℕ, if◌then◌else◌, List, codes, Result, Ok, Err}
use Rattle.std.specs.Str.{bytes_eq}
use Rattle.m3_base.specs.declared.command.Refusal.{Refusal}
use Rattle.m3_base.specs.declared.event.IdleWhy.{IdleWhy}
use Rattle.m3_base.specs.declared.event.No.{No}
use Rattle.m3_text.specs.declared.refusal.Why.{Why}
use Rattle.m3_text.specs.declared.refusal.Why.TheVariants as why
use Rattle.m3_text.specs.Refusable.{◌>>=◌}
use Rattle.m3_journal.specs.Outcomes.{refusal_digits}

unfoldable pub later_refusal_named : List ℕ → Result Refusal Why
later_refusal_named w =
    if bytes_eq w (codes "out-of-range") then Ok Refusal.OutOfRange
    else if bytes_eq w (codes "no-permission") then Ok Refusal.NoPermission
    else if bytes_eq w (codes "no-reply-wanted") then Ok Refusal.NoReplyWanted
    else if bytes_eq w (codes "no-such-token") then Ok Refusal.NoSuchToken
    else if bytes_eq w (codes "bad-reply-endpoint") then Ok Refusal.BadReplyEndpoint
    else Err why.Form

unfoldable pub refusal_named : List ℕ → Result Refusal Why
refusal_named w =
    if bytes_eq w (codes "no-endpoint") then Ok Refusal.NoEndpoint
    else if bytes_eq w (codes "no-credits") then Ok Refusal.NoCredits
    else if bytes_eq w (codes "too-large") then Ok Refusal.TooLarge
    else if bytes_eq w (codes "revoked") then Ok Refusal.Revoked
    else if bytes_eq w (codes "full") then Ok Refusal.Full
    else later_refusal_named w

-- a code and the name that goes with it
unfoldable pub refusal_with_code : List ℕ → Refusal → Result Refusal Why
refusal_with_code code r = if bytes_eq code (refusal_digits r) then Ok r else Err why.Form

abbrev pub refusal_of : List ℕ → List ℕ → Result Refusal Why
refusal_of code name = refusal_named name >>= refusal_with_code code

unfoldable pub idle_of : List ℕ → Result IdleWhy Why
idle_of w =
    if bytes_eq w (codes "not-current") then Ok IdleWhy.NotCurrent
    else if bytes_eq w (codes "ended") then Ok IdleWhy.Ended
    else if bytes_eq w (codes "busy") then Ok IdleWhy.Busy
    else if bytes_eq w (codes "waiting") then Ok IdleWhy.Waiting
    else if bytes_eq w (codes "empty-link") then Ok IdleWhy.EmptyLink
    else if bytes_eq w (codes "not-resting") then Ok IdleWhy.NotResting
    else if bytes_eq w (codes "empty-hold") then Ok IdleWhy.EmptyHold
    else if bytes_eq w (codes "nothing-to-close") then Ok IdleWhy.NothingToClose
    else Err why.Form

unfoldable pub file_no_of : List ℕ → Result No Why
file_no_of w =
    if bytes_eq w (codes "bad-name") then Ok No.BadName
    else if bytes_eq w (codes "no-file") then Ok No.NoFile
    else if bytes_eq w (codes "exists") then Ok No.Exists
    else if bytes_eq w (codes "in-use") then Ok No.InUse
    else if bytes_eq w (codes "no-space") then Ok No.NoSpace
    else Err why.Form

-- the kernel's causes, and those of files
unfoldable pub later_no_of : List ℕ → Result No Why
later_no_of w =
    if bytes_eq w (codes "closing") then Ok No.Closing
    else if bytes_eq w (codes "slot-taken") then Ok No.SlotTaken
    else if bytes_eq w (codes "outside-parent") then Ok No.OutsideParent
    else if bytes_eq w (codes "more-permission") then Ok No.MorePermission
    else if bytes_eq w (codes "too-many") then Ok No.TooMany
    else file_no_of w

unfoldable pub no_of : List ℕ → Result No Why
no_of w =
    if bytes_eq w (codes "not-home") then Ok No.NotHome
    else if bytes_eq w (codes "already") then Ok No.Already
    else if bytes_eq w (codes "leaving") then Ok No.Leaving
    else if bytes_eq w (codes "no-grant") then Ok No.NoGrant
    else later_no_of w
