-- Each event of a script names what its setup has, and has the numbers of its grant in their ranges; and the programs
-- of its setup are lists of items.
use Rattle.std.proofs.Common.{◌≡◌, ℕ, ◌+◌, ◌<◌, ◌≤◌, Bool, true, false, List, [], ◌∷◌, ◌++◌, length-append, Result, Ok, Err, refl, subst, arith}
use Rattle.std.specs.Prelude.{not, if◌then◌else◌, nat_lt, length, IfOk, ⊤}
use Rattle.std.proofs.lemmas.List.Elements.{All-push, All-nil, All-weaker}
use Rattle.std.proofs.lemmas.Bool.Decides.{nat_tests}
use Rattle.std.specs.Str.Lines.{lines}
use Rattle.m3_base.specs.declared.event.Event.{Event}
use Rattle.m3_base.specs.declared.order.Order.{Order}
use Rattle.m3_base.specs.declared.setup_line.SetupLine.{SetupLine}
use Rattle.m3_base.specs.Setup.Rules.{SetupValue, is_machine}
use Rattle.m3_text.specs.declared.refusal.Why.{Why}
use Rattle.m3_text.specs.declared.refusal.Why.TheVariants as why
use Rattle.m3_text.specs.Lines.{words, is_plain}
use Rattle.std.specs.List.{All, list_all}
use Rattle.m3_text.specs.Refusable.{◌>>=◌}
use Rattle.m3_script.specs.declared.line.Line.{Line}
use Rattle.m3_script.specs.declared.line.Line.TheVariants as line
use Rattle.m3_script.specs.declared.script.Mode.{Mode}
use Rattle.m3_script.specs.declared.script.Script.{Script}
use Rattle.m3_script.specs.declared.script.ScriptRefusal.{ScriptRefusal}
use Rattle.m3_script.specs.ParserView.{Parses, script_value}
use Rattle.m3_script.specs.LineForms.{line_of}
use Rattle.m3_script.specs.Rules.{is_allowed, names_undeclared, IsBuilt, IsInRanges, IsListed, IsOrder, AllBuilt, AllInRanges, AllListed, AllNamed, AreOrders}
use Rattle.m3_script.proofs.GrantRanges.{FitsForms, LineInRanges, line_has}
use Rattle.m3_script.specs.ScriptText.{ScriptValue, State, Empty, InSetup, Running, Refused, state_with_machine, state_with_line, is_refused, events_with, after_words, words_of_line, is_skipped, after_line, after_lines, then_from, script_at_end, script_of}

abbrev Fits : SetupValue → Event → Type 0
Fits x e = (names_undeclared e x ≡ false) × FitsForms e

abbrev pub Kept : Mode → State → Type 0
Kept mode Empty = ⊤
Kept mode (InSetup x) = All IsListed x.lines
Kept mode (Running x es) = All IsListed x.lines × All (Fits x) es × AreOrders mode es

abbrev ok : State → Result State Why
ok s = Ok s

ok_is : (a b : State) → ok a ≡ ok b → a ≡ b
ok_is a b e = cc

abbrev whole : ScriptValue → Result ScriptValue Refused
whole s = Ok s

whole_is : (a b : ScriptValue) → whole a ≡ whole b → a ≡ b
whole_is a b e = cc

-- what is left where a test or a part refuses nothing
unless : (b : Bool) (w : Why) (r : Result State Why) (t : State) → (if b then Err w else r) ≡ Ok t → r ≡ Ok t
unless true w r t e = absurd cc
unless false w r t e = e

in_setup : (mode : Mode) (r : Result SetupValue Why) (t : State) → IfOk r (λ x. All IsListed x.lines) → (r >>= λ x. Ok (InSetup x)) ≡ Ok t → Kept mode t
in_setup mode (Ok x) t listed e = subst (Kept mode) (ok_is (InSetup x) t e) listed
in_setup mode (Err w) t listed e = absurd cc

first_listed : (b : Bool) (tiles memory : ℕ)
    → IfOk (if b then Ok (record { tiles = tiles; memory = memory; lines = [] }) else Err why.Rule) (λ (x : SetupValue). All IsListed x.lines)
first_listed true tiles memory = All-nil IsListed
first_listed false tiles memory = tt

next_listed : (b : Bool) (x : SetupValue) (l : SetupLine) → IsListed l → All IsListed x.lines
    → IfOk (if b then Err why.Rule else Ok (record x { lines = x.lines ++ l ∷ [] })) (λ (y : SetupValue). All IsListed y.lines)
next_listed true x l is listed = tt
next_listed false x l is listed = All-push IsListed x.lines l listed is

orders_none : (mode : Mode) → AreOrders mode []
orders_none Mode.Run = tt
orders_none Mode.Auto = (All-nil IsOrder, omega arith)
orders_none Mode.Tiles = (All-nil IsOrder, omega arith)

order_pushed : (es : List Event) (e : Event) → IsOrder e → nat_lt (length es) 4096 ≡ true → All IsOrder es × (length es ≤ 4096) → All IsOrder (es ++ e ∷ []) × (length (es ++ e ∷ []) ≤ 4096)
order_pushed es e is few before =
    let less : length es < 4096 = grind (arith, nat_tests, few) in
    (All-push IsOrder es e before.0 is, omega (arith, less, length-append es (e ∷ [])))

order_more : (es : List Event) (e : Event) → is_allowed Mode.Auto es e ≡ true → All IsOrder es × (length es ≤ 4096) → All IsOrder (es ++ e ∷ []) × (length (es ++ e ∷ []) ≤ 4096)
order_more es (Event.Order o) allowed before = order_pushed es (Event.Order o) tt allowed before
order_more es (Event.Do a c) allowed before = absurd cc
order_more es (Event.Turn a) allowed before = absurd cc
order_more es (Event.Take to from) allowed before = absurd cc
order_more es (Event.Tend a) allowed before = absurd cc
order_more es Event.Close allowed before = absurd cc
order_more es (Event.File l) allowed before = absurd cc

as_auto : (es : List Event) (e : Event) → is_allowed Mode.Tiles es e ≡ true → is_allowed Mode.Auto es e ≡ true
as_auto es (Event.Order o) allowed = allowed
as_auto es (Event.Do a c) allowed = absurd cc
as_auto es (Event.Turn a) allowed = absurd cc
as_auto es (Event.Take to from) allowed = absurd cc
as_auto es (Event.Tend a) allowed = absurd cc
as_auto es Event.Close allowed = absurd cc
as_auto es (Event.File l) allowed = absurd cc

orders_more : (mode : Mode) (es : List Event) (e : Event) → is_allowed mode es e ≡ true → AreOrders mode es → AreOrders mode (es ++ e ∷ [])
orders_more Mode.Run es e allowed before = tt
orders_more Mode.Auto es e allowed before = order_more es e allowed before
orders_more Mode.Tiles es e allowed before = order_more es e (as_auto es e allowed) before

happens : (mode : Mode) (x : SetupValue) (es : List Event) (e : Event) (b d : Bool) (t : State) → is_allowed mode es e ≡ b → names_undeclared e x ≡ d → FitsForms e → All IsListed x.lines × All (Fits x) es × AreOrders mode es
    → (events_with mode x es e >>= λ fs. Ok (Running x fs)) ≡ Ok t → Kept mode t
happens mode x es e false d t allowed missed ranges before is = let no = rw allowed at is in absurd cc
happens mode x es e true true t allowed missed ranges before is = let no = rw (allowed, missed) at is in absurd cc
happens mode x es e true false t allowed missed ranges before is =
    let yes : ok (Running x (es ++ e ∷ [])) ≡ ok t = rw (allowed, missed) at is in
    subst (Kept mode) (ok_is (Running x (es ++ e ∷ [])) t yes) (before.0, All-push (Fits x) es e before.1 (missed, ranges), orders_more mode es e allowed before.2)

line_keeps : (mode : Mode) (boxes : ℕ) (s : State) (l : Line) (t : State) → LineInRanges l → Kept mode s → after_words mode boxes s l ≡ Ok t → Kept mode t
unfolding after_words
line_keeps mode boxes Empty (line.Machine tiles memory) t ranges k e = in_setup mode (state_with_machine tiles memory) t (first_listed (is_machine tiles memory) tiles memory) e
line_keeps mode boxes Empty (line.Setup l) t ranges k e = absurd cc
line_keeps mode boxes Empty line.Begin t ranges k e = absurd cc
line_keeps mode boxes Empty (line.Event f) t ranges k e = absurd cc
line_keeps mode boxes (InSetup x) (line.Machine tiles memory) t ranges k e = absurd cc
line_keeps mode boxes (InSetup x) (line.Setup l) t ranges k e = in_setup mode (state_with_line boxes x l) t (next_listed (is_refused boxes x l) x l ranges k) e
line_keeps mode boxes (InSetup x) line.Begin t ranges k e = subst (Kept mode) (ok_is (Running x []) t e) (k, All-nil (Fits x), orders_none mode)
line_keeps mode boxes (InSetup x) (line.Event f) t ranges k e = absurd cc
line_keeps mode boxes (Running x es) (line.Machine tiles memory) t ranges k e = absurd cc
line_keeps mode boxes (Running x es) (line.Setup l) t ranges k e = absurd cc
line_keeps mode boxes (Running x es) line.Begin t ranges k e = absurd cc
line_keeps mode boxes (Running x es) (line.Event f) t ranges k e = happens mode x es f (is_allowed mode es f) (names_undeclared f x) t refl refl ranges k e

form_keeps : (mode : Mode) (boxes : ℕ) (s : State) (r : Result Line Why) (t : State) → IfOk r LineInRanges → Kept mode s → (r >>= after_words mode boxes s) ≡ Ok t → Kept mode t
form_keeps mode boxes s (Ok l) t ranges k e = line_keeps mode boxes s l t ranges k e
form_keeps mode boxes s (Err w) t ranges k e = absurd cc

words_keep : (mode : Mode) (boxes : ℕ) (s : State) (ws : List (List ℕ)) (t : State) → Kept mode s → words_of_line mode boxes s ws ≡ Ok t → Kept mode t
unfolding words_of_line
words_keep mode boxes s ws t k e = form_keeps mode boxes s (line_of ws) t (line_has ws) k (unless (nat_lt 13 (length ws)) why.Form (line_of ws >>= after_words mode boxes s) t e)

or_skipped : (mode : Mode) (b : Bool) (s : State) (r : Result State Why) (t : State) → Kept mode s → (r ≡ Ok t → Kept mode t) → (if b then Ok s else r) ≡ Ok t → Kept mode t
or_skipped mode true s r t k other e = subst (Kept mode) (ok_is s t e) k
or_skipped mode false s r t k other e = other e

bytes_keep : (mode : Mode) (boxes : ℕ) (s : State) (l : List ℕ) (t : State) → Kept mode s → after_line mode boxes s l ≡ Ok t → Kept mode t
unfolding after_line
bytes_keep mode boxes s l t k e =
    or_skipped mode (is_skipped (words l)) s (words_of_line mode boxes s (words l)) t k (words_keep mode boxes s (words l) t k)
    (unless (not (list_all is_plain l)) why.Form (if is_skipped (words l) then Ok s else words_of_line mode boxes s (words l)) t e)

next : {C : Type 0} (r : Result State Why) (n : ℕ) (f : State → ℕ → Result ScriptValue Refused) (script : ScriptValue) → then_from n f r ≡ Ok script
    → ((t : State) → r ≡ Ok t → f t (n + 1) ≡ Ok script → C) → C
next (Ok t) n f script e k = k t refl e
next (Err w) n f script e k = absurd cc

abbrev AllFit : Mode → ScriptValue → Type 0
AllFit mode script = All IsListed script.setup.lines × All (Fits script.setup) script.events × AreOrders mode script.events

at_end : (mode : Mode) (n : ℕ) (s : State) (script : ScriptValue) → Kept mode s → script_at_end n s ≡ Ok script → AllFit mode script
at_end mode n Empty script k e = absurd cc
at_end mode n (InSetup x) script k e = absurd cc
at_end mode n (Running x es) script k e = subst (AllFit mode) (whole_is (record { setup = x; events = es }) script e) k

lines_keep : (mode : Mode) (boxes : ℕ) (ls : List (List ℕ)) (s : State) (n : ℕ) (script : ScriptValue) → Kept mode s → after_lines mode boxes ls s n ≡ Ok script → AllFit mode script
unfolding after_lines
lines_keep mode boxes [] s n script k e = at_end mode n s script k e
lines_keep mode boxes (l ∷ ls) s n script k e =
    next (after_line mode boxes s l) n (after_lines mode boxes ls) script e
    (λ t is more. lines_keep mode boxes ls t (n + 1) script (bytes_keep mode boxes s l t k is) more)

all_fit : (mode : Mode) (boxes : ℕ) (bytes : List ℕ) (script : ScriptValue) → script_of mode boxes bytes ≡ Ok script → AllFit mode script
all_fit mode boxes bytes script e = lines_keep mode boxes (lines bytes) Empty 1 script tt e

pub named_of : (mode : Mode) (boxes : ℕ) (bytes : List ℕ) (r : Result Script ScriptRefusal) → Parses r (script_of mode boxes bytes) → IfOk r (λ s. AllNamed s.setup s.events.items)
named_of mode boxes bytes (Ok s) parsed = All-weaker (Fits s.setup) (λ e. names_undeclared e s.setup ≡ false) (λ e fits. fits.0) s.events.items (all_fit mode boxes bytes (script_value s) parsed).1
named_of mode boxes bytes (Err e) parsed = tt

pub ranges_of : (mode : Mode) (boxes : ℕ) (bytes : List ℕ) (r : Result Script ScriptRefusal) → Parses r (script_of mode boxes bytes) → IfOk r (λ s. AllInRanges s.events.items)
ranges_of mode boxes bytes (Ok s) parsed = All-weaker (Fits s.setup) IsInRanges (λ e fits. fits.1.0) s.events.items (all_fit mode boxes bytes (script_value s) parsed).1
ranges_of mode boxes bytes (Err e) parsed = tt

pub listed_of : (mode : Mode) (boxes : ℕ) (bytes : List ℕ) (r : Result Script ScriptRefusal) → Parses r (script_of mode boxes bytes) → IfOk r (λ s. AllListed s.setup.lines)
listed_of mode boxes bytes (Ok s) parsed = (all_fit mode boxes bytes (script_value s) parsed).0
listed_of mode boxes bytes (Err e) parsed = tt

pub orders_of : (mode : Mode) (boxes : ℕ) (bytes : List ℕ) (r : Result Script ScriptRefusal) → Parses r (script_of mode boxes bytes) → IfOk r (λ s. AreOrders mode s.events.items)
orders_of mode boxes bytes (Ok s) parsed = (all_fit mode boxes bytes (script_value s) parsed).2
orders_of mode boxes bytes (Err e) parsed = tt

pub built_of : (mode : Mode) (boxes : ℕ) (bytes : List ℕ) (r : Result Script ScriptRefusal) → Parses r (script_of mode boxes bytes) → IfOk r (λ s. AllBuilt s.events.items)
built_of mode boxes bytes (Ok s) parsed = All-weaker (Fits s.setup) IsBuilt (λ e fits. fits.1.1) s.events.items (all_fit mode boxes bytes (script_value s) parsed).1
built_of mode boxes bytes (Err e) parsed = tt
