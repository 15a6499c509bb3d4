-- Which activities have a program: by the setup's lines, its facts, its site and its list programs.
use Rattle.std.proofs.Common.{◌≡◌, ℕ, zero, suc, ◌<◌, ◌≤◌, Bool, true, false, List, [], ◌∷◌, ◌++◌, get_or, set, length, replicate, Option, Some, None, refl, sym, ap, ◌∙◌, subst, arith, ⊎_elim, inl, inr}
use Rattle.std.specs.Prelude.{◌==◌, ◌||◌, ◌⊎◌, not, is_some, is_none, if◌then◌else◌}
use Rattle.std.specs.List.{list_any}
use Rattle.std.proofs.lemmas.Bool.{or_parts}
use Rattle.std.proofs.lemmas.Bool.{cases_eq, cases_lt}
use Rattle.std.proofs.lemmas.Bool.Decides.{nat_tests}
use Rattle.std.proofs.lemmas.List.{get_or-set_other, length-set, length-replicate}
use Rattle.std.proofs.lemmas.List.Elements.{All-tail}
use Rattle.m3_base.specs.declared.program.Move.{Move}
use Rattle.m3_base.specs.declared.setup_line.SetupLine.{SetupLine}
use Rattle.m3_base.specs.declared.setup_line.ProgramKind.{ProgramKind}
use Rattle.m3_base.specs.Calls.ListProgram.{item_of_line, program_items}
use Rattle.m3_base.specs.Ideal.State.{same_act}
use Rattle.m3_base.specs.Limits.{is_short}
use Rattle.m3_base.specs.Lists.EachElement.{Each}
use Rattle.m3_base.specs.Lists.Keyed as keyed
use Rattle.m3_base.specs.Setup.Rules.{Facts, SetupValue, AllKept, IsValid, no_lines, breaks_rule, facts_with_line, facts_with_lines, facts_of, home_at, is_undeclared, is_programmed, program_in, program_of, programmed_acts}
use Rattle.m3_model.specs.Config.FromSetup.{with_home, with_homes}
use Rattle.m3_model.specs.Config.KnownActivities.{is_home}
use Rattle.m3_model.specs.Config.Site.{Home, Site, has_program, home_act, home_has_program, home_of}
use Rattle.m3_model.specs.SetupOpening.{opened_site}
use Rattle.m3_kernel.proofs.ProgrammedActs.{setup_program, is_listed}
use Rattle.m3_machine.proofs.DeclaredHomes.{declared_home, home_declared}
use Rattle.m3_machine.specs.ProgramCalls.{HasPrograms}
use Rattle.m3_machine.specs.ProgramTable.{program_table}
use Rattle.m3_programs.specs.SetupPrograms.{list_of, setup_programs}
use Rattle.m3_script.specs.Rules.{AllListed, IsListed}
use Rattle.m3_script.specs.Rules.{has_program as setup_has_program}
use Rattle.m3_cmd.proofs.ProgramTables.{program_of_items, program_there, no_program_there}

-- ---- by the lines: who has items is who has a program

listed_append : (a : ℕ) (xs ys : List ℕ) → is_listed a (xs ++ ys) ≡ (is_listed a xs || is_listed a ys)
listed_append a [] ys = refl
listed_append a (x ∷ xs) ys = or_more (x == a) (is_listed a (xs ++ ys)) (is_listed a xs) (is_listed a ys) (listed_append a xs ys)
  where
    or_more : (b c d e : Bool) → c ≡ (d || e) → (b || c) ≡ ((b || d) || e)
    or_more true c d e h = refl
    or_more false c d e h = h

item_some : (a : ℕ) (items rest : List Move) (b : Bool) → is_some (program_of_items rest) ≡ b → (is_some (program_of_items items) || b) ≡ is_some (program_of_items (items ++ rest))
item_some a [] rest b h = sym h
item_some a (item ∷ items) rest b h = refl

one_item : (a b : ℕ) (m : Move) → is_listed a (b ∷ []) ≡ is_some (program_of_items (if b == a then m ∷ [] else []))
one_item a b m = by (b == a)
  where
    by : (t : Bool) → (t || false) ≡ is_some (program_of_items (if t then m ∷ [] else []))
    by true = refl
    by false = refl

line_items : (a : ℕ) (l : SetupLine) → IsListed l → is_listed a (program_of l) ≡ is_some (program_of_items (item_of_line a l))
line_items a (SetupLine.Act b t) listed = refl
line_items a (SetupLine.Quantum q) listed = refl
line_items a (SetupLine.Grant line) listed = refl
line_items a (SetupLine.Files g) listed = refl
line_items a (SetupLine.Item b c) listed = one_item a b (Move.Do c)
line_items a (SetupLine.AwaitItem b ep) listed = one_item a b (Move.Await ep)
line_items a (SetupLine.Writer b m s r chunk ring bytes) listed = absurd listed
line_items a (SetupLine.Reader b m r chunk ring fuel) listed = absurd listed
line_items a (SetupLine.Boxed b logic fuel) listed = absurd listed

has_items : (a : ℕ) (ls : List SetupLine) → AllListed ls → is_listed a (programmed_acts ls) ≡ is_some (program_of_items (program_items a ls))
has_items a [] listed = refl
has_items a (l ∷ ls) listed =
    let rest = has_items a ls (All-tail IsListed l ls listed) in
    listed_append a (program_of l) (programmed_acts ls)
    ∙ ap (λ b. b || is_listed a (programmed_acts ls)) (line_items a l (listed 0 l (omega arith)))
    ∙ item_some a (item_of_line a l) (program_items a ls) (is_listed a (programmed_acts ls)) (sym rest)

-- ---- by the site

abbrev IsTold : List ℕ → Home → Type 0
IsTold ps x = x.has_program ≡ is_listed x.act ps

told_append : (ps : List ℕ) (xs : List Home) (x : Home) → Each (IsTold ps) xs → IsTold ps x → Each (IsTold ps) (xs ++ x ∷ [])
told_append ps [] x are is = (is, tt)
told_append ps (y ∷ ys) x are is = (are.0, told_append ps ys x are.1 is)

told_line : (ps : List ℕ) (h : Site) (l : SetupLine) → Each (IsTold ps) h.homes → Each (IsTold ps) (with_home ps h l).homes
told_line ps h (SetupLine.Act a t) are = told_append ps h.homes (record { act = a; tile = t; has_program = list_any (λ b. b == a) ps }) are refl
told_line ps h (SetupLine.Quantum q) are = are
told_line ps h (SetupLine.Grant line) are = are
told_line ps h (SetupLine.Files g) are = are
told_line ps h (SetupLine.Item b c) are = are
told_line ps h (SetupLine.AwaitItem b ep) are = are
told_line ps h (SetupLine.Writer b m s r chunk ring bytes) are = are
told_line ps h (SetupLine.Reader b m r chunk ring fuel) are = are
told_line ps h (SetupLine.Boxed b logic fuel) are = are

told_lines : (ps : List ℕ) (h : Site) (ls : List SetupLine) → Each (IsTold ps) h.homes → Each (IsTold ps) (with_homes ps h ls).homes
told_lines ps h [] are = are
told_lines ps h (l ∷ ls) are = told_lines ps (with_home ps h l) ls (told_line ps h l are)

told_by : (ps : List ℕ) (a : ℕ) (x : Home) (t : Bool) (rest : Option Home) → same_act a x.act ≡ t → IsTold ps x → (is_some rest ≡ true → home_has_program rest ≡ is_listed a ps)
    → is_some (if t then Some x else rest) ≡ true → home_has_program (if t then Some x else rest) ≡ is_listed a ps
told_by ps a x true rest same told others there = told ∙ ap (λ n. is_listed n ps) (let e : x.act ≡ a = grind (arith, nat_tests, same) in e)
told_by ps a x false rest same told others there = others there

told_found : (ps : List ℕ) (a : ℕ) (xs : List Home) → Each (IsTold ps) xs → is_some (keyed.find home_act same_act a xs) ≡ true
    → home_has_program (keyed.find home_act same_act a xs) ≡ is_listed a ps
told_found ps a [] are there = absurd cc
told_found ps a (x ∷ xs) are there =
    told_by ps a x (same_act a x.act) (keyed.find home_act same_act a xs) refl are.0 (λ found. told_found ps a xs are.1 found) there

-- an activity of the site has a program where the lines give it one
pub site_program : (s : SetupValue) (a : ℕ) → is_home (opened_site s) a ≡ true → has_program (opened_site s) a ≡ is_listed a (programmed_acts s.lines)
site_program s a home =
    let first : Site = record { homes = []; quantum = 8; memory = s.memory } in
    told_found (programmed_acts s.lines) a (opened_site s).homes (told_lines (programmed_acts s.lines) first s.lines tt) home

no_site_program : (o : Option Home) → is_some o ≡ false → home_has_program o ≡ false
no_site_program None none = refl
no_site_program (Some x) none = absurd cc

-- ---- who has a program is declared

abbrev Declares : Facts → Type 0
Declares f = (a : ℕ) → is_programmed (program_in f.programs a) ≡ true → is_undeclared a f ≡ false

still_declared : (homes : List (Option ℕ)) (b t a : ℕ) → is_none (home_at homes a) ≡ false → is_none (home_at (set homes b (Some t)) a) ≡ false
still_declared [] b t a is = is
still_declared (h ∷ hs) zero t zero is = refl
still_declared (h ∷ hs) zero t (suc a) is = is
still_declared (h ∷ hs) (suc b) t zero is = is
still_declared (h ∷ hs) (suc b) t (suc a) is = still_declared hs b t a is

with_kind : (f : Facts) (b : ℕ) (kind : ProgramKind) (a : ℕ) → Declares f → is_undeclared b f ≡ false → is_programmed (program_in (set f.programs b kind) a) ≡ true → is_undeclared a f ≡ false
with_kind f b kind a before declared has =
    ⊎_elim
    (λ (e : a ≡ b). subst (λ c. is_undeclared c f ≡ false) (sym e) declared)
    (λ (other : a ≡ b → ⊥). before a (ap is_programmed (sym (get_or-set_other f.programs b a kind ProgramKind.Absent other)) ∙ has))
    (cases_eq a b)

declares_line : (l : SetupLine) (f : Facts) → breaks_rule l f ≡ false → IsListed l → Declares f → Declares (facts_with_line l f)
declares_line (SetupLine.Act b t) f kept listed before = λ a has. still_declared f.homes b t a (before a has)
declares_line (SetupLine.Quantum q) f kept listed before = before
declares_line (SetupLine.Grant line) f kept listed before = before
declares_line (SetupLine.Files g) f kept listed before = before
declares_line (SetupLine.Item b c) f kept listed before = λ a has.
    with_kind f b ProgramKind.Listed a before (or_parts (is_undeclared b f) _ (or_parts (not (is_short c)) _ kept).1).0 has
declares_line (SetupLine.AwaitItem b ep) f kept listed before = λ a has. with_kind f b ProgramKind.Listed a before (or_parts (is_undeclared b f) _ kept).0 has
declares_line (SetupLine.Writer b m s r chunk ring bytes) f kept listed before = absurd listed
declares_line (SetupLine.Reader b m r chunk ring fuel) f kept listed before = absurd listed
declares_line (SetupLine.Boxed b logic fuel) f kept listed before = absurd listed

declares_lines : (ls : List SetupLine) (f : Facts) → AllKept ls f → AllListed ls → Declares f → Declares (facts_with_lines ls f)
declares_lines [] f kept listed before = before
declares_lines (l ∷ ls) f kept listed before =
    declares_lines ls (facts_with_line l f) kept.1.1 (All-tail IsListed l ls listed) (declares_line l f kept.0 (listed 0 l (omega arith)) before)

none_programmed : (a n : ℕ) → is_programmed (program_in (replicate n ProgramKind.Absent) a) ≡ false
none_programmed a zero = refl
none_programmed zero (suc n) = refl
none_programmed (suc a) (suc n) = none_programmed a n

programs_declared : (s : SetupValue) → IsValid s → AllListed s.lines → Declares (facts_of s)
programs_declared s valid listed = declares_lines s.lines (no_lines s.tiles s.memory) valid.lines listed (λ a has. let e = sym (none_programmed a 64) ∙ has in absurd cc)

-- ---- all of it

homes_count : (ls : List SetupLine) (f : Facts) → length (facts_with_lines ls f).homes ≡ length f.homes
homes_count [] f = refl
homes_count (SetupLine.Act a t ∷ ls) f = homes_count ls (facts_with_line (SetupLine.Act a t) f) ∙ length-set f.homes a (Some t)
homes_count (SetupLine.Quantum q ∷ ls) f = homes_count ls (facts_with_line (SetupLine.Quantum q) f)
homes_count (SetupLine.Grant line ∷ ls) f = homes_count ls (facts_with_line (SetupLine.Grant line) f)
homes_count (SetupLine.Files g ∷ ls) f = homes_count ls (facts_with_line (SetupLine.Files g) f)
homes_count (SetupLine.Item a c ∷ ls) f = homes_count ls (facts_with_line (SetupLine.Item a c) f)
homes_count (SetupLine.AwaitItem a ep ∷ ls) f = homes_count ls (facts_with_line (SetupLine.AwaitItem a ep) f)
homes_count (SetupLine.Writer a m s r chunk ring bytes ∷ ls) f = homes_count ls (facts_with_line (SetupLine.Writer a m s r chunk ring bytes) f)
homes_count (SetupLine.Reader a m r chunk ring fuel ∷ ls) f = homes_count ls (facts_with_line (SetupLine.Reader a m r chunk ring fuel) f)
homes_count (SetupLine.Boxed a logic fuel ∷ ls) f = homes_count ls (facts_with_line (SetupLine.Boxed a logic fuel) f)

homes_are_64 : (s : SetupValue) → length (facts_of s).homes ≡ 64
homes_are_64 s = homes_count s.lines (no_lines s.tiles s.memory) ∙ length-replicate {A = Option ℕ} 64 None

low_or : (homes : List (Option ℕ)) (a : ℕ) → is_none (home_at homes a) ≡ false → a < length homes
low_or [] a declared = absurd cc
low_or (h ∷ hs) zero declared = omega arith
low_or (h ∷ hs) (suc a) declared = omega (arith, low_or hs a declared)

-- an activity that the setup declares is below 64
pub declared_low : (s : SetupValue) (a : ℕ) → is_undeclared a (facts_of s) ≡ false → a < 64
declared_low s a declared = omega (arith, low_or (facts_of s).homes a declared, homes_are_64 s)

-- an activity that the setup declares has a program at its site where the setup's facts give it one
pub declared_program : (s : SetupValue) (a : ℕ) → IsValid s → is_undeclared a (facts_of s) ≡ false → has_program (opened_site s) a ≡ setup_has_program a s
declared_program s a valid declared = site_program s a (declared_home s valid a declared) ∙ sym (setup_program a s (declared_low s a declared))

by_there : (s : SetupValue) (a : ℕ) (there : Bool) → IsValid s → AllListed s.lines → a < 64 → is_home (opened_site s) a ≡ there
    → is_some (program_of_items (program_items a s.lines)) ≡ has_program (opened_site s) a
by_there s a true valid listed low home = sym (site_program s a home ∙ has_items a s.lines listed)
by_there s a false valid listed low away =
    let none : has_program (opened_site s) a ≡ false = no_site_program (home_of a (opened_site s)) away in
    by (setup_has_program a s) refl ∙ sym none
  where
    facts_items : setup_has_program a s ≡ is_some (program_of_items (program_items a s.lines))
    facts_items = setup_program a s low ∙ has_items a s.lines listed

    by : (b : Bool) → setup_has_program a s ≡ b → is_some (program_of_items (program_items a s.lines)) ≡ false
    by false is = sym facts_items ∙ is
    by true is = let e = sym away ∙ declared_home s valid a (programs_declared s valid listed a is) in absurd cc

by_low : (s : SetupValue) (a : ℕ) → IsValid s → AllListed s.lines → (a < 64) ⊎ (64 ≤ a)
    → is_some (get_or (program_table (setup_programs s.lines)) a None) ≡ has_program (opened_site s) a
by_low s a valid listed (inl low) = ap is_some (program_there s.lines a low) ∙ by_there s a (is_home (opened_site s) a) valid listed low refl
by_low s a valid listed (inr high) = ap is_some (no_program_there s.lines a high) ∙ sym (no_site_program (home_of a (opened_site s)) (away (is_home (opened_site s) a) refl))
  where
    away : (b : Bool) → is_home (opened_site s) a ≡ b → is_home (opened_site s) a ≡ false
    away false is = is
    away true is = absurd (let low = declared_low s a (home_declared s valid a is) in omega (arith, low, high))

pub has_programs : (s : SetupValue) → IsValid s → AllListed s.lines → HasPrograms (opened_site s) (program_table (setup_programs s.lines))
has_programs s valid listed = λ a. by_low s a valid listed (cases_lt a 64)

-- a program that the setup gives is there, of the activity's items
some_items : (items : List Move) → is_some (program_of_items items) ≡ true → program_of_items items ≡ Some (list_of items)
some_items [] some = absurd cc
some_items (item ∷ items) some = refl

pub program_is : (s : SetupValue) (a : ℕ) → IsValid s → AllListed s.lines → setup_has_program a s ≡ true
    → get_or (program_table (setup_programs s.lines)) a None ≡ Some (list_of (program_items a s.lines))
program_is s a valid listed has =
    let declared = programs_declared s valid listed a has in
    let low = declared_low s a declared in
    program_there s.lines a low ∙ some_items (program_items a s.lines) (sym (has_items a s.lines listed) ∙ sym (setup_program a s low) ∙ has)

pub programmed_declared : (s : SetupValue) (a : ℕ) → IsValid s → AllListed s.lines → setup_has_program a s ≡ true → is_undeclared a (facts_of s) ≡ false
programmed_declared s a valid listed has = programs_declared s valid listed a has
