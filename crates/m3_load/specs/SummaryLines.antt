-- A summary as its lines.
use Rattle.std.specs.Prelude.{◌<◌, ℕ, ◌+◌, List, [], ◌∷◌}
use Rattle.m3_base.specs.declared.event.Entry.{Entry}
use Rattle.m3_base.specs.Lists.Counting.{one}
use Rattle.m3_base.specs.Load.Summary.{SummaryLine, Load, Entries, Fetched, Bounced, Switches, summary_words, is_fetch, is_bounce, is_switch}
use Rattle.m3_text.specs.Printing.{line_text}
use Rattle.m3_load.specs.declared.summary.Summary.{Summary}

abbrev pub lines_of : Summary → List SummaryLine
lines_of s =
    Load s.load ∷ Entries s.entries ∷ Fetched s.fetched ∷ Bounced s.bounced ∷ Switches s.switches ∷ []

abbrev pub summary_line : SummaryLine → List ℕ
summary_line l = line_text (summary_words l)

-- ---- counting

-- with an entry more
abbrev pub with_entry : Entry → Summary → Summary
with_entry e s =
    record s {
      entries = s.entries + 1;
      fetched = s.fetched + one (is_fetch e.outcome.said);
      bounced = s.bounced + one (is_bounce e.outcome.said);
      switches = s.switches + one (is_switch e.outcome.said);
    }

-- each count can grow
pub record CanCount (s : Summary) : Type 0 where
  pub entries : s.entries < 4294967295
  pub fetched : s.fetched < 4294967295
  pub bounced : s.bounced < 4294967295
  pub switches : s.switches < 4294967295
