-- Entries read from their words: an event, a colon behind its last word, and what it came to.
use Rattle.std.specs.Prelude.{ℕ, zero, suc, ◌+◌, ◌-◌, ◌==◌, ◌&&◌, nat_lt, Bool, true, not, if◌then◌else◌, List, [], ◌∷◌, ◌++◌, length, take, drop, slice_index, codes, Option, Result, Ok, Err}
use Rattle.std.specs.Str.{bytes_eq}
use Rattle.m3_base.specs.declared.event.Entry.{Entry}
use Rattle.m3_base.specs.declared.event.Event.{Event}
use Rattle.m3_base.specs.declared.event.Made.{Made}
use Rattle.m3_base.specs.declared.event.Said.{Said}
use Rattle.m3_text.specs.declared.hexes.HexCase.{HexCase}
use Rattle.m3_text.specs.declared.refusal.Why.{Why}
use Rattle.m3_text.specs.declared.refusal.Why.TheVariants as why
use Rattle.m3_text.specs.Refusable.{◌>>=◌}
use Rattle.m3_text.specs.LineForm.{word}
use Rattle.m3_text.specs.CauseOrder.{both}
use Rattle.m3_script.specs.Events.{entry_event_of}
use Rattle.m3_journal.specs.Reading.Outcomes.{outcome_of}

-- what is read, unless it fits no form; then the other
abbrev pub unless_form : {A : Type 0} → Result A Why → Result A Why → Result A Why
unless_form (Ok x) other = Ok x
unless_form (Err why.Form) other = other
unless_form (Err why.Number) other = Err why.Number
unless_form (Err why.Hex) other = Err why.Hex
unless_form (Err why.Place) other = Err why.Place
unless_form (Err why.Rule) other = Err why.Rule

-- ---- the two sides of an entry

-- a word that may be the last of an event: a colon stands behind it
abbrev pub is_event_end : List ℕ → Bool
is_event_end w = nat_lt 1 (length w) && (slice_index w (length w - 1) == 58)

-- the words up to place k, without the colon
abbrev pub event_side : ℕ → List (List ℕ) → List (List ℕ)
event_side k ws = take k ws ++ take (length (word k ws) - 1) (word k ws) ∷ []

abbrev pub outcome_side : ℕ → List (List ℕ) → List (List ℕ)
outcome_side k ws = drop (k + 1) ws

-- a turn has its move in its words exactly where it isn't idle
abbrev pub is_paired : List (List ℕ) → List (List ℕ) → Bool
is_paired es os =
    if bytes_eq (word 0 es) (codes "turn")
    then (if length es == 2 then bytes_eq (word 0 os) (codes "idle") else not (bytes_eq (word 0 os) (codes "idle")))
    else true

abbrev pub entry_with : (Event × Option Made) × (Said × Option ℕ) → Entry
entry_with x = record { event = x.0.0; outcome = record { made = x.0.1; said = x.1.0; restore = x.1.1 } }

-- the first cause of the two sides is the entry's
unfoldable pub sides_of : List (List ℕ) → List (List ℕ) → Result ((Event × Option Made) × (Said × Option ℕ)) Why
sides_of es os = both (entry_event_of HexCase.Lower es) (outcome_of os)

unfoldable pub paired_of : List (List ℕ) → List (List ℕ) → Result Entry Why
paired_of es os = if is_paired es os then (sides_of es os >>= λ x. Ok (entry_with x)) else Err why.Form

-- ---- where an entry is cut

-- the entry whose event ends at place k
unfoldable pub entry_at : ℕ → List (List ℕ) → Result Entry Why
entry_at k ws =
    if is_event_end (word k ws) then paired_of (event_side k ws) (outcome_side k ws) else Err why.Form

-- the entry whose event ends before place n: a file's name may end with a colon, too, so that each place is tried,
-- from the last, until both sides fit a form
unfoldable pub entry_before : ℕ → List (List ℕ) → Result Entry Why
entry_before zero ws = Err why.Form
entry_before (suc n) ws = unless_form (entry_at n ws) (entry_before n ws)

abbrev pub entry_of : List (List ℕ) → Result Entry Why
entry_of ws = entry_before (length ws) ws
