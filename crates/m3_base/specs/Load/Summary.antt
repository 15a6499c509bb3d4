-- The summary of a load's journal, which the journal's audit follows.
use Rattle.std.specs.Prelude.{ℕ, Bool, true, false, List, [], ◌∷◌, length, codes, decimal}
use Rattle.m3_base.specs.declared.event.Said.{Said}
use Rattle.m3_base.specs.declared.event.Entry.{Entry}
use Rattle.m3_base.specs.Lists.Counting.{how_many}

-- the load's number, and how many entries, fetched messages, bounced flights and switches there are
pub data SummaryLine : Type 0 where
  Load Entries Fetched Bounced Switches : ℕ → SummaryLine

-- whether a fetch gave a message or a reply
abbrev pub is_fetch : Said → Bool
is_fetch (Said.Message token from label payload) = true
is_fetch (Said.ReplyMessage token from label payload) = true
is_fetch said = false

-- whether a flight was bounced
abbrev pub is_bounce : Said → Bool
is_bounce (Said.Bounced id) = true
is_bounce said = false

-- whether a switch was ordered that was not refused
abbrev pub is_switch : Said → Bool
is_switch (Said.Save a) = true
is_switch said = false

-- how many entries have such an outcome
abbrev pub outcome_count : (Said → Bool) → List Entry → ℕ
outcome_count test es = how_many (λ e. test e.outcome.said) es

-- the lines of a journal's summary
abbrev pub summary_lines : ℕ → List Entry → List SummaryLine
summary_lines n es =
    Load n
    ∷ Entries (length es)
    ∷ Fetched (outcome_count is_fetch es)
    ∷ Bounced (outcome_count is_bounce es)
    ∷ Switches (outcome_count is_switch es)
    ∷ []

-- the words of a line
abbrev pub summary_words : SummaryLine → List (List ℕ)
summary_words (Load n) = codes "load" ∷ decimal n ∷ []
summary_words (Entries n) = codes "entries" ∷ decimal n ∷ []
summary_words (Fetched n) = codes "fetched" ∷ decimal n ∷ []
summary_words (Bounced n) = codes "bounced" ∷ decimal n ∷ []
summary_words (Switches n) = codes "switches" ∷ decimal n ∷ []
