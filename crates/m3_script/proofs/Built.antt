-- A line of a script is read as any reader of the format reads it: by cases on its first word.
use Rattle.std.proofs.Common.{◌≡◌, ℕ, Bool, true, false, List, Result, Ok, Err, refl, codes, drop}
use Rattle.std.specs.Prelude.{⊤, if◌then◌else◌}
use Rattle.std.specs.Str.{bytes_eq}
use Rattle.m3_base.specs.declared.event.Event.{Event}
use Rattle.m3_base.specs.declared.setup_line.SetupLine.{SetupLine}
use Rattle.m3_text.specs.declared.hexes.HexCase.{HexCase}
use Rattle.m3_text.specs.declared.refusal.Why.{Why}
use Rattle.m3_text.specs.declared.refusal.Why.TheVariants as why
use Rattle.m3_text.specs.Refusable.{◌>>=◌}
use Rattle.m3_text.specs.LineForm.{word, count_test}
use Rattle.m3_script.specs.declared.line.Line.{Line}
use Rattle.m3_script.specs.Built.{EventsOfScripts, SetupsOfScripts}
use Rattle.m3_script.specs.Events.{event_of}
use Rattle.m3_script.specs.LineForms.{begins_event, begins_setup_line, line_of, opening_of}
use Rattle.m3_script.specs.Setups.{machine_of, setup_line_of}

-- ---- what a reading with a variant round its value comes from

event_under : (r : Result Event Why) (event : Event) → (r >>= λ x. Ok (Line.Event x)) ≡ Ok (Line.Event event) → r ≡ Ok event
event_under (Ok x) event e = cc
event_under (Err w) event e = absurd cc

setup_under : (r : Result SetupLine Why) (line : SetupLine) → (r >>= λ x. Ok (Line.Setup x)) ≡ Ok (Line.Setup line) → r ≡ Ok line
setup_under (Ok x) line e = cc
setup_under (Err w) line e = absurd cc

setup_no_event : (r : Result SetupLine Why) (event : Event) → (r >>= λ x. Ok (Line.Setup x)) ≡ Ok (Line.Event event) → ⊥
setup_no_event (Ok x) event e = absurd cc
setup_no_event (Err w) event e = absurd cc

event_no_setup : (r : Result Event Why) (line : SetupLine) → (r >>= λ x. Ok (Line.Event x)) ≡ Ok (Line.Setup line) → ⊥
event_no_setup (Ok x) line e = absurd cc
event_no_setup (Err w) line e = absurd cc

-- ---- the first and the last line are neither

abbrev IsOpening : Result Line Why → Type 0
IsOpening (Ok (Line.Setup line)) = ⊥
IsOpening (Ok (Line.Event event)) = ⊥
IsOpening r = ⊤

machine_opens : (r : Result (ℕ × ℕ) Why) → IsOpening (r >>= λ m. Ok (Line.Machine m.0 m.1))
machine_opens (Ok m) = tt
machine_opens (Err w) = tt

begin_opens : (r : Result ⊤ Why) → IsOpening (r >>= λ count. Ok Line.Begin)
begin_opens (Ok u) = tt
begin_opens (Err w) = tt

opens_by : (machine begin : Bool) (vs : List (List ℕ))
    → IsOpening (
    if machine then (machine_of vs >>= λ m. Ok (Line.Machine m.0 m.1))
    else if begin then (count_test 0 vs >>= λ count. Ok Line.Begin)
    else Err why.Form
    )
opens_by true begin vs = machine_opens (machine_of vs)
opens_by false true vs = begin_opens (count_test 0 vs)
opens_by false false vs = tt

opens : (ws : List (List ℕ)) → IsOpening (opening_of ws)
unfolding opening_of
opens ws = let w = word 0 ws in opens_by (bytes_eq w (codes "machine")) (bytes_eq w (codes "begin")) (drop 1 ws)

no_event : (r : Result Line Why) (event : Event) → IsOpening r → r ≡ Ok (Line.Event event) → ⊥
no_event (Ok (Line.Machine tiles memory)) event is e = absurd cc
no_event (Ok (Line.Setup line)) event is e = is
no_event (Ok Line.Begin) event is e = absurd cc
no_event (Ok (Line.Event x)) event is e = is
no_event (Err w) event is e = absurd cc

no_setup : (r : Result Line Why) (line : SetupLine) → IsOpening r → r ≡ Ok (Line.Setup line) → ⊥
no_setup (Ok (Line.Machine tiles memory)) line is e = absurd cc
no_setup (Ok (Line.Setup x)) line is e = is
no_setup (Ok Line.Begin) line is e = absurd cc
no_setup (Ok (Line.Event event)) line is e = is
no_setup (Err w) line is e = absurd cc

-- ---- by the first word

event_by : (b c : Bool) (ws : List (List ℕ)) (event : Event) → begins_event (word 0 ws) ≡ b → begins_setup_line (word 0 ws) ≡ c
    → line_of ws ≡ Ok (Line.Event event) → event_of HexCase.Either ws ≡ Ok event
unfolding line_of
event_by true c ws event begins sets e = event_under (event_of HexCase.Either ws) event (rw begins at e)
event_by false true ws event begins sets e = absurd (setup_no_event (setup_line_of HexCase.Either ws) event (rw (begins, sets) at e))
event_by false false ws event begins sets e = absurd (no_event (opening_of ws) event (opens ws) (rw (begins, sets) at e))

pub event_of_script : EventsOfScripts
event_of_script ws event e = event_by (begins_event (word 0 ws)) (begins_setup_line (word 0 ws)) ws event refl refl e

setup_by : (b c : Bool) (ws : List (List ℕ)) (line : SetupLine) → begins_event (word 0 ws) ≡ b → begins_setup_line (word 0 ws) ≡ c
    → line_of ws ≡ Ok (Line.Setup line) → setup_line_of HexCase.Either ws ≡ Ok line
unfolding line_of
setup_by true c ws line begins sets e = absurd (event_no_setup (event_of HexCase.Either ws) line (rw begins at e))
setup_by false true ws line begins sets e = setup_under (setup_line_of HexCase.Either ws) line (rw (begins, sets) at e)
setup_by false false ws line begins sets e = absurd (no_setup (opening_of ws) line (opens ws) (rw (begins, sets) at e))

pub setup_of_script : SetupsOfScripts
setup_of_script ws line e = setup_by (begins_event (word 0 ws)) (begins_setup_line (word 0 ws)) ws line refl refl e
