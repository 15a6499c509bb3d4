-- Outcomes that are printed are words of visible characters, and are read back.
use Rattle.std.proofs.Common.{◌≡◌, ℕ, ◌^◌, ◌<◌, ◌≤◌, Bool, true, false, ◌&&◌, [], ◌∷◌, ◌++◌, Ok, refl, arith, lit<, codes}
use Rattle.std.specs.Str.{bytes_eq}
use Rattle.m3_base.specs.declared.command.Answer.{Answer}
use Rattle.m3_base.specs.declared.command.Answer.TheVariants as answer
use Rattle.m3_base.specs.declared.command.Refusal.{Refusal}
use Rattle.m3_base.specs.declared.command.Refusal.TheVariants as refusal
use Rattle.m3_base.specs.declared.event.IdleWhy.{IdleWhy}
use Rattle.m3_base.specs.declared.event.IdleWhy.TheVariants as idle
use Rattle.m3_base.specs.declared.event.No.{No}
use Rattle.m3_base.specs.declared.event.No.TheVariants as no
use Rattle.m3_base.specs.declared.event.Said.TheVariants as said
use Rattle.m3_text.specs.declared.hexes.HexCase.TheVariants as case
use Rattle.m3_text.specs.Refusable.{◌>>=◌}
use Rattle.m3_script.proofs.NumbersAgain.{bytes_again}
use Rattle.m3_journal.specs.Outcomes.{answer_words, idle_word, no_word, way_word, refusal_digits}
use Rattle.m3_base.specs.RefusalCodes.{refusal_name}
use Rattle.m3_journal.specs.Spelled.{AnswerInRange}
use Rattle.m3_journal.specs.Reading.Causes.{refusal_named, later_refusal_named, refusal_with_code, refusal_of, idle_of, no_of, later_no_of, file_no_of}
use Rattle.m3_journal.specs.Reading.Outcomes.{bytes_answer_of, refused_answer_of, answer_of, way_of}
use Rattle.m3_journal.proofs.ClearWords.{is_clear}

-- ---- causes

pub refusal_again : (x : Refusal) → refusal_of (refusal_digits x) (refusal_name x) ≡ Ok x
unfolding refusal_named later_refusal_named refusal_with_code
refusal_again refusal.NoEndpoint = refl
refusal_again refusal.NoCredits = refl
refusal_again refusal.TooLarge = refl
refusal_again refusal.Revoked = refl
refusal_again refusal.Full = refl
refusal_again refusal.OutOfRange = refl
refusal_again refusal.NoPermission = refl
refusal_again refusal.NoReplyWanted = refl
refusal_again refusal.NoSuchToken = refl
refusal_again refusal.BadReplyEndpoint = refl

pub code_clear : (x : Refusal) → is_clear (refusal_digits x) ≡ true
code_clear refusal.NoEndpoint = refl
code_clear refusal.NoCredits = refl
code_clear refusal.TooLarge = refl
code_clear refusal.Revoked = refl
code_clear refusal.Full = refl
code_clear refusal.OutOfRange = refl
code_clear refusal.NoPermission = refl
code_clear refusal.NoReplyWanted = refl
code_clear refusal.NoSuchToken = refl
code_clear refusal.BadReplyEndpoint = refl

pub name_clear : (x : Refusal) → is_clear (refusal_name x) ≡ true
name_clear refusal.NoEndpoint = refl
name_clear refusal.NoCredits = refl
name_clear refusal.TooLarge = refl
name_clear refusal.Revoked = refl
name_clear refusal.Full = refl
name_clear refusal.OutOfRange = refl
name_clear refusal.NoPermission = refl
name_clear refusal.NoReplyWanted = refl
name_clear refusal.NoSuchToken = refl
name_clear refusal.BadReplyEndpoint = refl

-- no refusal's code is a word that could end an outcome
pub code_is_no_restore : (x : Refusal) → bytes_eq (refusal_digits x) (codes "restore") ≡ false
code_is_no_restore refusal.NoEndpoint = refl
code_is_no_restore refusal.NoCredits = refl
code_is_no_restore refusal.TooLarge = refl
code_is_no_restore refusal.Revoked = refl
code_is_no_restore refusal.Full = refl
code_is_no_restore refusal.OutOfRange = refl
code_is_no_restore refusal.NoPermission = refl
code_is_no_restore refusal.NoReplyWanted = refl
code_is_no_restore refusal.NoSuchToken = refl
code_is_no_restore refusal.BadReplyEndpoint = refl

pub code_is_no_closed : (x : Refusal) → bytes_eq (refusal_digits x) (codes "closed") ≡ false
code_is_no_closed refusal.NoEndpoint = refl
code_is_no_closed refusal.NoCredits = refl
code_is_no_closed refusal.TooLarge = refl
code_is_no_closed refusal.Revoked = refl
code_is_no_closed refusal.Full = refl
code_is_no_closed refusal.OutOfRange = refl
code_is_no_closed refusal.NoPermission = refl
code_is_no_closed refusal.NoReplyWanted = refl
code_is_no_closed refusal.NoSuchToken = refl
code_is_no_closed refusal.BadReplyEndpoint = refl

pub idle_again : (x : IdleWhy) → idle_of (idle_word x) ≡ Ok x
unfolding idle_of
idle_again idle.NotCurrent = refl
idle_again idle.Ended = refl
idle_again idle.Busy = refl
idle_again idle.Waiting = refl
idle_again idle.EmptyLink = refl
idle_again idle.NotResting = refl
idle_again idle.EmptyHold = refl
idle_again idle.NothingToClose = refl

pub idle_clear : (x : IdleWhy) → is_clear (idle_word x) ≡ true
idle_clear idle.NotCurrent = refl
idle_clear idle.Ended = refl
idle_clear idle.Busy = refl
idle_clear idle.Waiting = refl
idle_clear idle.EmptyLink = refl
idle_clear idle.NotResting = refl
idle_clear idle.EmptyHold = refl
idle_clear idle.NothingToClose = refl

pub no_again : (x : No) → no_of (no_word x) ≡ Ok x
unfolding no_of later_no_of file_no_of
no_again no.NotHome = refl
no_again no.Already = refl
no_again no.Leaving = refl
no_again no.NoGrant = refl
no_again no.Closing = refl
no_again no.SlotTaken = refl
no_again no.OutsideParent = refl
no_again no.MorePermission = refl
no_again no.TooMany = refl
no_again no.BadName = refl
no_again no.NoFile = refl
no_again no.Exists = refl
no_again no.InUse = refl
no_again no.NoSpace = refl

pub no_clear : (x : No) → is_clear (no_word x) ≡ true
no_clear no.NotHome = refl
no_clear no.Already = refl
no_clear no.Leaving = refl
no_clear no.NoGrant = refl
no_clear no.Closing = refl
no_clear no.SlotTaken = refl
no_clear no.OutsideParent = refl
no_clear no.MorePermission = refl
no_clear no.TooMany = refl
no_clear no.BadName = refl
no_clear no.NoFile = refl
no_clear no.Exists = refl
no_clear no.InUse = refl
no_clear no.NoSpace = refl

pub way_again : (held : Bool) → way_of (way_word held) ≡ Ok held
unfolding way_of
way_again true = refl
way_again false = refl

pub way_clear : (held : Bool) → is_clear (way_word held) ≡ true
way_clear true = refl
way_clear false = refl

-- ---- answers

pub answer_again : (x : Answer) → AnswerInRange x → answer_of (answer_words x) ≡ Ok x
unfolding answer_of bytes_answer_of refused_answer_of
answer_again answer.Sent r = refl
answer_again answer.Replied r = refl
answer_again answer.Written r = refl
answer_again (answer.Bytes bytes) r = rw (bytes_again case.Lower 8192 bytes r) refl
answer_again (answer.Refused why) r = rw (refusal_again why) refl
