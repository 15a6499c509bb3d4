-- Reading line after line, as a loop does.
use Rattle.std.proofs.Common.{◌≡◌, ℕ, ◌+◌, true, List, ◌∷◌, length, Result, Ok, sym, eqb}
use Rattle.std.proofs.lemmas.Bool.{eqb-true}
use Rattle.std.specs.Str.Lines.{lines}
use Rattle.std.proofs.lemmas.List.{nil_from_length}
use Rattle.m3_text.specs.Refusable.{Fails}
use Rattle.m3_text.specs.declared.refusal.LineRefusal.{LineRefusal}
use Rattle.m3_text.specs.declared.refusal.LineRefusal.TheVariants as refusals
use Rattle.m3_script.specs.declared.script.Mode.{Mode}
use Rattle.m3_script.specs.ScriptText.{ScriptValue, State, Refused, after_line, after_lines, then_from, script_at_end}
use Rattle.m3_script.specs.ParserView.{Refuses, refusal}

pub goes_on : (mode : Mode) (boxes : ℕ) (text l rest : List ℕ) (s t : State) (n : ℕ) (total : Result ScriptValue Refused) → lines text ≡ l ∷ lines rest → after_line mode boxes s l ≡ Ok t
    → after_lines mode boxes (lines text) s n ≡ total → after_lines mode boxes (lines rest) t (n + 1) ≡ total
unfolding after_lines
goes_on mode boxes text l rest s t n total cut is so_far =
    let e : then_from n (after_lines mode boxes (lines rest)) (after_line mode boxes s l) ≡ total = rw cut at so_far in
    rw is at e

pub is_refused : (mode : Mode) (boxes : ℕ) (text l rest : List ℕ) (s : State) (n : ℕ) (error : LineRefusal) (total : Result ScriptValue Refused) → lines text ≡ l ∷ lines rest → Fails error (after_line mode boxes s l)
    → after_lines mode boxes (lines text) s n ≡ total → Refuses (refusal n error) total
unfolding after_lines
is_refused mode boxes text l rest s n refusals.NoMemory total cut is so_far = tt
is_refused mode boxes text l rest s n (refusals.Bad why) total cut is so_far =
    let e : then_from n (after_lines mode boxes (lines rest)) (after_line mode boxes s l) ≡ total = rw cut at so_far in
    sym (rw is at e)

pub at_end : (mode : Mode) (boxes : ℕ) (text : List ℕ) (s : State) (n : ℕ) (total : Result ScriptValue Refused) → true ≡ eqb (length text) 0 → after_lines mode boxes (lines text) s n ≡ total → total ≡ script_at_end n s
unfolding after_lines
at_end mode boxes text s n total none so_far =
    let e = rw (nil_from_length text (eqb-true _ _ (sym none))) at so_far in sym e
