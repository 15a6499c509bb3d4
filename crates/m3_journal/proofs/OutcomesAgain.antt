-- Outcomes that are printed, with the activity that they restored, are read back.
use Rattle.std.proofs.Common.{◌≡◌, ℕ, ◌^◌, ◌<◌, ◌≤◌, Bool, true, false, ◌&&◌, leb, List, [], ◌∷◌, ◌++◌, append-nil, length, length-append, Option, Some, None, Ok, refl, arith, lit<, codes}
use Rattle.std.specs.Prelude.{decimal}
use Rattle.std.specs.List.{list_all}
use Rattle.m3_base.specs.declared.command.Answer.{Answer}
use Rattle.m3_base.specs.declared.command.Answer.TheVariants as answer
use Rattle.m3_base.specs.declared.command.Refusal.TheVariants as refusal
use Rattle.m3_base.specs.declared.event.IdleWhy.TheVariants as idle
use Rattle.m3_base.specs.declared.event.No.{No}
use Rattle.m3_base.specs.declared.event.No.TheVariants as no
use Rattle.m3_base.specs.declared.event.Said.{Said}
use Rattle.m3_base.specs.declared.event.Said.TheVariants as said
use Rattle.m3_base.specs.declared.ids.FlightId.{FlightId}
use Rattle.m3_text.specs.declared.hexes.HexCase.TheVariants as case
use Rattle.m3_text.specs.Refusable.{◌>>=◌}
use Rattle.std.proofs.lemmas.Bool.Decides.{nat_tests}
use Rattle.std.proofs.lemmas.List.Folds.{list_all-append}
use Rattle.m3_script.proofs.NumbersAgain.{act_again}
use Rattle.m3_script.specs.InRange.{ActInRange}
use Rattle.m3_journal.specs.Commands.{optional}
use Rattle.m3_journal.specs.Outcomes.{said_words}
use Rattle.m3_journal.specs.Spelled.{SaidInRange, may_restore, RestoreInRange}
use Rattle.m3_journal.specs.Reading.Outcomes.{is_restoring, restored_of, outcome_of, has_tail, front}
use Rattle.m3_journal.proofs.ClearWords.{is_clear, act_clear}
use Rattle.m3_journal.proofs.Causes.{code_is_no_restore}
use Rattle.m3_journal.proofs.SaidAgain.{said_again, said_clear}
use Rattle.std.proofs.lemmas.Bool.{and_parts as split}

-- ---- without an activity at the end

-- whether the last two words name an activity that was restored
abbrev ends_restored : List (List ℕ) → Bool
ends_restored ws = is_restoring (front ws) && has_tail (codes "restore") ws

answered_alone : (id : FlightId) (x : Answer) (closed : Option ℕ) → ends_restored (said_words (said.Answered id x closed) ++ []) ≡ false
unfolding is_restoring
answered_alone id answer.Sent None = refl
answered_alone id answer.Replied None = refl
answered_alone id answer.Written None = refl
answered_alone id (answer.Bytes bytes) None = refl
answered_alone id (answer.Refused why) None = rw (code_is_no_restore why) refl
answered_alone id answer.Sent (Some g) = refl
answered_alone id answer.Replied (Some g) = refl
answered_alone id answer.Written (Some g) = refl
answered_alone id (answer.Bytes bytes) (Some g) = refl
answered_alone id (answer.Refused why) (Some g) = refl

alone : (s : Said) → ends_restored (said_words s ++ []) ≡ false
unfolding is_restoring
alone said.Nothing = refl
alone said.Awake = refl
alone said.Yield = refl
alone said.Asleep = refl
alone said.Ended = refl
alone said.Created = refl
alone said.Extended = refl
alone said.Removed = refl
alone said.Revoke = refl
alone (said.Flying id) = refl
alone (said.Landed id) = refl
alone (said.Bounced id) = refl
alone (said.Routed id) = refl
alone (said.Saving act) = refl
alone (said.Saved act) = refl
alone (said.Current act) = refl
alone (said.Yielded act) = refl
alone (said.Save act) = refl
alone (said.Credited id g) = refl
alone (said.Discarded id g) = refl
alone (said.Installed id g) = refl
alone (said.Closing id g) = refl
alone (said.Closed id g) = refl
alone (said.Message token from label payload) = refl
alone (said.ReplyMessage token from label payload) = refl
alone (said.Acknowledged None) = refl
alone (said.Acknowledged (Some id)) = refl
alone (said.Refused why) = refl
alone (said.Idle why) = refl
alone (said.LandRefused id why) = refl
alone (said.Held id act) = refl
alone (said.Done g None) = refl
alone (said.Done g (Some revoked)) = refl
alone (said.No why) = refl
alone (said.Granted g id held) = refl
alone (said.CloseSent g id held) = refl
alone (said.Revoking g) = refl
alone (said.Part of at len) = refl
alone (said.Answered id x closed) = answered_alone id x closed

-- ---- with one

answered_restored : (id : FlightId) (x : Answer) (closed : Option ℕ) (a : ℕ) → SaidInRange (said.Answered id x closed) → ActInRange a
    → outcome_of (said_words (said.Answered id x closed) ++ codes "restore" ∷ decimal a ∷ []) ≡ Ok (said.Answered id x closed, Some a)
unfolding outcome_of restored_of is_restoring
answered_restored id answer.Sent None a r s = rw (said_again (said.Answered id answer.Sent None) r, act_again a s) refl
answered_restored id answer.Sent (Some g) a r s = rw (said_again (said.Answered id answer.Sent (Some g)) r, act_again a s) refl
answered_restored id answer.Replied None a r s = rw (said_again (said.Answered id answer.Replied None) r, act_again a s) refl
answered_restored id answer.Replied (Some g) a r s = rw (said_again (said.Answered id answer.Replied (Some g)) r, act_again a s) refl
answered_restored id answer.Written None a r s = rw (said_again (said.Answered id answer.Written None) r, act_again a s) refl
answered_restored id answer.Written (Some g) a r s = rw (said_again (said.Answered id answer.Written (Some g)) r, act_again a s) refl
answered_restored id (answer.Bytes bytes) None a r s = rw (said_again (said.Answered id (answer.Bytes bytes) None) r, act_again a s) refl
answered_restored id (answer.Bytes bytes) (Some g) a r s = rw (said_again (said.Answered id (answer.Bytes bytes) (Some g)) r, act_again a s) refl
answered_restored id (answer.Refused why) None a r s = rw (said_again (said.Answered id (answer.Refused why) None) r, act_again a s) refl
answered_restored id (answer.Refused why) (Some g) a r s = rw (said_again (said.Answered id (answer.Refused why) (Some g)) r, act_again a s) refl

restored : (x : Said) (a : ℕ) → SaidInRange x → may_restore x ≡ true → ActInRange a → outcome_of (said_words x ++ codes "restore" ∷ decimal a ∷ []) ≡ Ok (x, Some a)
unfolding outcome_of restored_of is_restoring
restored (said.Landed id) a r m s = rw (said_again (said.Landed id) r, act_again a s) refl
restored (said.LandRefused id why) a r m s = rw (said_again (said.LandRefused id why) r, act_again a s) refl
restored (said.Credited id g) a r m s = rw (said_again (said.Credited id g) r, act_again a s) refl
restored (said.Discarded id g) a r m s = rw (said_again (said.Discarded id g) r, act_again a s) refl
restored (said.Installed id g) a r m s = rw (said_again (said.Installed id g) r, act_again a s) refl
restored (said.Closing id g) a r m s = rw (said_again (said.Closing id g) r, act_again a s) refl
restored (said.Closed id g) a r m s = rw (said_again (said.Closed id g) r, act_again a s) refl
restored (said.Saved act) a r m s = rw (said_again (said.Saved act) r, act_again a s) refl
restored (said.Answered id x closed) a r m s = answered_restored id x closed a r s
restored x a r m s = absurd cc

-- ---- any outcome

pub outcome_again : (x : Said) (a : Option ℕ) → SaidInRange x → RestoreInRange x a → outcome_of (said_words x ++ optional (codes "restore") a) ≡ Ok (x, a)
unfolding outcome_of
outcome_again x None r s = rw (alone x, append-nil (said_words x), said_again x r) refl
outcome_again x (Some a) r s = restored x a r s.0 s.1

-- its words have no colon, and are at most nine
pub outcome_clear : (x : Said) (a : Option ℕ) → SaidInRange x → RestoreInRange x a
    → (list_all is_clear (said_words x ++ optional (codes "restore") a) ≡ true) × (length (said_words x ++ optional (codes "restore") a) ≤ 9)
outcome_clear x None r s =
    let c = split (list_all is_clear (said_words x)) (leb (length (said_words x)) 7) (said_clear x r) in
    let few : length (said_words x) ≤ 7 = grind (arith, nat_tests, c.1) in
    rw (append-nil (said_words x)) (c.0, omega arith)
outcome_clear x (Some a) r s =
    let c = split (list_all is_clear (said_words x)) (leb (length (said_words x)) 7) (said_clear x r) in
    let few : length (said_words x) ≤ 7 = grind (arith, nat_tests, c.1) in (
      rw (list_all-append is_clear (said_words x) (codes "restore" ∷ decimal a ∷ []), c.0, act_clear a s.1) refl,
      simp length-append (omega arith),
    )
