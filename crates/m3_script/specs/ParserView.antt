-- What the functions of the reader return, compared with what is read.
use Rattle.std.specs.Prelude.{◌≡◌, ℕ, Result, Ok, Err, ⊤}
use Rattle.m3_text.specs.declared.refusal.LineRefusal.{LineRefusal}
use Rattle.m3_text.specs.declared.refusal.Why.{Why}
use Rattle.m3_text.specs.Refusable.{Fails}
use Rattle.m3_script.specs.declared.reading.ParserState.{ParserState}
use Rattle.m3_script.specs.declared.script.Script.{Script}
use Rattle.m3_script.specs.declared.script.ScriptRefusal.{ScriptRefusal}
use Rattle.m3_script.specs.ScriptText.{ScriptValue, State, Empty, InSetup, Running, Refused}

abbrev pub state : ParserState → State
state ParserState.Empty = Empty
state (ParserState.InSetup x) = InSetup x
state (ParserState.Running x events) = Running x events.items

-- `begin` is still to come
abbrev pub IsBefore : State → Type 0
IsBefore (Running x events) = ⊥
IsBefore s = ⊤

-- a state that a function changes in place is what the reading leads to; after a refusal nothing is said of it
abbrev pub Leads : {X : Type 0} → Result ⊤ LineRefusal → X → Result X Why → Type 0
Leads (Ok done) new reading = reading ≡ Ok new
Leads (Err e) new reading = Fails e reading

abbrev pub script_value : Script → ScriptValue
script_value s = record { setup = s.setup; events = s.events.items }

abbrev pub refusal : ℕ → LineRefusal → ScriptRefusal
refusal n LineRefusal.NoMemory = ScriptRefusal.NoMemory
refusal n (LineRefusal.Bad why) = ScriptRefusal.Bad n why

abbrev pub Refuses : {X : Type 0} → ScriptRefusal → Result X Refused → Type 0
Refuses ScriptRefusal.NoMemory given = ⊤
Refuses (ScriptRefusal.Bad line why) given = given ≡ Err (record { line = line; why = why })

-- a parse gives the script that is spelled, or names the bad line, unless memory ran out
abbrev pub Parses : Result Script ScriptRefusal → Result ScriptValue Refused → Type 0
Parses (Ok s) given = given ≡ Ok (script_value s)
Parses (Err e) given = Refuses e given
