-- Reading line after line, as a loop does.
use Rattle.std.proofs.Common.{◌≡◌, ℕ, ◌+◌, true, List, ◌∷◌, length, Result, Ok, sym, eqb}
use Rattle.std.proofs.lemmas.Bool.{eqb-true}
use Rattle.std.specs.Str.Lines.{lines}
use Rattle.std.proofs.lemmas.List.{nil_from_length}
use Rattle.m3_text.specs.declared.refusal.LineRefusal.{LineRefusal}
use Rattle.m3_text.specs.declared.refusal.LineRefusal.TheVariants as refusals
use Rattle.m3_text.specs.declared.refusal.Why.{Why}
use Rattle.m3_text.specs.Refusable.{Fails}
use Rattle.m3_script.specs.ScriptText.{Refused}
use Rattle.m3_script.specs.ParserView.{refusal, Refuses}
use Rattle.m3_journal.specs.Reading.Journals.{DraftValue, JournalValue, draft_after_all, journal_of_reading, journal_of_draft}

module _ (step : DraftValue → List ℕ → Result DraftValue Why) where
  pub goes_on : (l : List ℕ) (ls : List (List ℕ)) (d e : DraftValue) (n : ℕ) (total : Result JournalValue Refused) → step d l ≡ Ok e
      → journal_of_reading (draft_after_all step (l ∷ ls) d n) ≡ total → journal_of_reading (draft_after_all step ls e (n + 1)) ≡ total
  unfolding draft_after_all
  goes_on l ls d e n total is so_far = rw is at so_far

  pub is_refused : (l : List ℕ) (ls : List (List ℕ)) (d : DraftValue) (n : ℕ) (error : LineRefusal) (total : Result JournalValue Refused) → Fails error (step d l)
      → journal_of_reading (draft_after_all step (l ∷ ls) d n) ≡ total → Refuses (refusal n error) total
  unfolding draft_after_all
  is_refused l ls d n refusals.NoMemory total is so_far = tt
  is_refused l ls d n (refusals.Bad why) total is so_far = sym (rw is at so_far)

  pub at_end : (text : List ℕ) (d : DraftValue) (n : ℕ) (total : Result JournalValue Refused) → true ≡ eqb (length text) 0
      → journal_of_reading (draft_after_all step (lines text) d n) ≡ total → total ≡ journal_of_draft (d, n)
  unfolding draft_after_all
  at_end text d n total none so_far =
      let e = rw (nil_from_length text (eqb-true _ _ (sym none))) at so_far in sym e
