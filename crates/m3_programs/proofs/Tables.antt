-- A table of programs, line by line.
use Rattle.std.proofs.Common.{◌≡◌, ◌≢◌, ℕ, zero, suc, ◌+◌, ◌<◌, Bool, true, false, List, [], ◌∷◌, ◌++◌, append_assoc, append-nil, length, replicate, refl, sym, ap, ◌∙◌, subst, eqb, arith}
use Rattle.std.specs.Prelude.{not, OnOk, Result, Ok, Err}
use Rattle.std.proofs.lemmas.Bool.{ne_eqb}
use Rattle.std.proofs.lemmas.Bool.Decides.{nat_tests}
use Rattle.std.proofs.lemmas.List.{length-set, length-replicate}
use Rattle.std.proofs.lemmas.Bool.{not-false, or_parts}
use Rattle.std.proofs.lemmas.List.Elements.{All-nil, All-cons}
use Rattle.std.specs.List.{All}
use Rattle.m3_base.specs.declared.command.Command.{Command}
use Rattle.m3_base.specs.declared.setup_line.ProgramKind.{ProgramKind}
use Rattle.m3_base.specs.Limits.{is_short}
use Rattle.m3_base.specs.Setup.Rules.{Facts, AllKept, breaks_rule, facts_with_line, forbids_program}
use Rattle.m3_base.specs.declared.program.Move.{Move}
use Rattle.m3_base.specs.declared.setup_line.SetupLine.{SetupLine}
use Rattle.m3_base.specs.Calls.ListProgram.{program_items, item_of_line}
use Rattle.m3_programs.specs.ListProgramView.{ListState}
use Rattle.m3_programs.specs.SetupPrograms.{HaveItems, IsShortLine, IsTableOf, kept_program, list_of, with_item, program_at, programs_from, setup_programs}

-- ---- the items of one line more

items_after : (a : ℕ) (lines : List SetupLine) (l : SetupLine) → program_items a (lines ++ l ∷ []) ≡ program_items a lines ++ item_of_line a l
items_after a [] l = append-nil (item_of_line a l)
items_after a (x ∷ xs) l =
    ap (λ k. item_of_line a x ++ k) (items_after a xs l) ∙ sym (append_assoc (item_of_line a x) (program_items a xs) (item_of_line a l))

-- a line that has no item leaves each program as it is
same_items : (a : ℕ) (ps : List ListState) (lines : List SetupLine) (l : SetupLine) → ((b : ℕ) → item_of_line b l ≡ []) → HaveItems a ps lines → HaveItems a ps (lines ++ l ∷ [])
same_items a [] lines l none has = tt
same_items a (p ∷ ps) lines l none has = (
  has.0 ∙ ap list_of (sym (items_after a lines l ∙ ap (λ k. program_items a lines ++ k) (none a) ∙ append-nil (program_items a lines))),
  same_items (a + 1) ps lines l none has.1,
)

table_same : (ps : List ListState) (lines : List SetupLine) (l : SetupLine) → ((b : ℕ) → item_of_line b l ≡ []) → IsTableOf ps lines → IsTableOf ps (lines ++ l ∷ [])
table_same ps lines l none t = record { count = t.count; items = same_items 0 ps lines l none t.items }

-- those of the activities above the line's own stay
above_items : (a b : ℕ) (item : Move) (ps : List ListState) (lines : List SetupLine) (l : SetupLine) → a < b
    → ((c : ℕ) → c ≢ a → item_of_line c l ≡ []) → HaveItems b ps lines → HaveItems b ps (lines ++ l ∷ [])
above_items a b item [] lines l above none has = tt
above_items a b item (p ∷ ps) lines l above none has =
    let other : b ≢ a = λ e. omega (arith, e) in (
      has.0 ∙ ap list_of (sym (items_after b lines l ∙ ap (λ k. program_items b lines ++ k) (none b other) ∙ append-nil (program_items b lines))),
      above_items a (b + 1) item ps lines l (omega arith) none has.1,
    )

item_in : (a k b : ℕ) (item : Move) (ps : List ListState) (lines : List SetupLine) (l : SetupLine) → k < length ps → b ≡ a + k → item_of_line b l ≡ item ∷ []
    → ((c : ℕ) → c ≢ b → item_of_line c l ≡ []) → HaveItems a ps lines → HaveItems a (with_item k item ps) (lines ++ l ∷ [])
item_in a k b item [] lines l within place own none has = absurd (omega (arith, within))
item_in a zero b item (p ∷ ps) lines l within place own none has =
    let same : b ≡ a = omega (arith, place) in
    let mine : item_of_line a l ≡ item ∷ [] = subst (λ c. item_of_line c l ≡ item ∷ []) same own in (
      ap (λ (q : ListState). record q { items = q.items ++ item ∷ [] }) has.0
          ∙ ap list_of (sym (items_after a lines l ∙ ap (λ k. program_items a lines ++ k) mine)),
      above_items a (a + 1) item ps lines l (omega arith) (λ c other. none c (λ is. other (is ∙ same))) has.1,
    )
item_in a (suc k) b item (p ∷ ps) lines l within place own none has =
    let other : a ≢ b = λ is. omega (arith, place, is) in (
      has.0 ∙ ap list_of (sym (items_after a lines l ∙ ap (λ k. program_items a lines ++ k) (none a other) ∙ append-nil (program_items a lines))),
      item_in (a + 1) k b item ps lines l (omega (arith, within)) (omega (arith, place)) own none has.1,
    )

table_item : (ps : List ListState) (lines : List SetupLine) (a : ℕ) (item : Move) (l : SetupLine) → a < 64 → item_of_line a l ≡ item ∷ []
    → ((c : ℕ) → c ≢ a → item_of_line c l ≡ []) → IsTableOf ps lines → IsTableOf (with_item a item ps) (lines ++ l ∷ [])
table_item ps lines a item l within own none t = record {
  count = length-set ps a _ ∙ t.count;
  items = item_in 0 a a item ps lines l (omega (arith, within, t.count)) (omega arith) own none t.items;
}

same : (a : ℕ) → eqb a a ≡ true
same a = grind (arith, nat_tests)

own_command : (a : ℕ) (c : Command) → item_of_line a (SetupLine.Item a c) ≡ Move.Do c ∷ []
own_command a c = rw (same a) refl

own_await : (a ep : ℕ) → item_of_line a (SetupLine.AwaitItem a ep) ≡ Move.Await ep ∷ []
own_await a ep = rw (same a) refl

other_test : (a b : ℕ) → b ≢ a → eqb a b ≡ false
other_test a b other = ne_eqb a b (λ is. other (sym is))

other_command : (a : ℕ) (c : Command) (b : ℕ) → b ≢ a → item_of_line b (SetupLine.Item a c) ≡ []
other_command a c b other = rw (other_test a b other) refl

other_await : (a ep b : ℕ) → b ≢ a → item_of_line b (SetupLine.AwaitItem a ep) ≡ []
other_await a ep b other = rw (other_test a b other) refl

no_item : (l : SetupLine) → ((a : ℕ) (c : Command) → l ≡ SetupLine.Item a c → ⊥) → ((a ep : ℕ) → l ≡ SetupLine.AwaitItem a ep → ⊥) → (b : ℕ) → item_of_line b l ≡ []
no_item (SetupLine.Item a c) no_command no_await b = absurd (no_command a c refl)
no_item (SetupLine.AwaitItem a ep) no_command no_await b = absurd (no_await a ep refl)
no_item (SetupLine.Act a t) no_command no_await b = refl
no_item (SetupLine.Quantum q) no_command no_await b = refl
no_item (SetupLine.Grant line) no_command no_await b = refl
no_item (SetupLine.Files g) no_command no_await b = refl
no_item (SetupLine.Writer a m s r chunk ring bytes) no_command no_await b = refl
no_item (SetupLine.Reader a m r chunk ring fuel) no_command no_await b = refl
no_item (SetupLine.Boxed a logic fuel) no_command no_await b = refl

-- ---- what `add_line` does

pub then_same : (ps : List ListState) (l : SetupLine) → ((a : ℕ) (c : Command) → l ≡ SetupLine.Item a c → ⊥) → ((a ep : ℕ) → l ≡ SetupLine.AwaitItem a ep → ⊥)
    → (lines : List SetupLine) → IsTableOf ps lines → IsTableOf ps (lines ++ l ∷ [])
then_same ps l no_command no_await lines t = table_same ps lines l (no_item l no_command no_await) t

module _ {X E : Type 0} where
  pub then_command : (r : Result X E) (ps new : List ListState) (a : ℕ) (c : Command) (l : SetupLine) → l ≡ SetupLine.Item a c → a < 64
      → OnOk r (new ≡ with_item a (Move.Do c) ps) → (lines : List SetupLine) → IsTableOf ps lines → OnOk r (IsTableOf new (lines ++ l ∷ []))
  then_command (Ok x) ps new a c l is within new_is lines t =
      rw (is, new_is) (table_item ps lines a (Move.Do c) (SetupLine.Item a c) within (own_command a c) (other_command a c) t)
  then_command (Err e) ps new a c l is within new_is lines t = tt

  pub then_await : (r : Result X E) (ps new : List ListState) (a ep : ℕ) (l : SetupLine) → l ≡ SetupLine.AwaitItem a ep → a < 64
      → OnOk r (new ≡ with_item a (Move.Await ep) ps) → (lines : List SetupLine) → IsTableOf ps lines → OnOk r (IsTableOf new (lines ++ l ∷ []))
  then_await (Ok x) ps new a ep l is within new_is lines t =
      rw (is, new_is) (table_item ps lines a (Move.Await ep) (SetupLine.AwaitItem a ep) within (own_await a ep) (other_await a ep) t)
  then_await (Err e) ps new a ep l is within new_is lines t = tt

-- ---- at first

empties : (a n : ℕ) → HaveItems a (replicate n (list_of [])) []
empties a zero = tt
empties a (suc n) = (refl, empties (a + 1) n)

pub empty_table : (ps : List ListState) → ps ≡ replicate 64 (list_of []) → IsTableOf ps []
empty_table ps is = record {
  count = ap length is ∙ length-replicate 64 (list_of []);
  items = subst (λ xs. HaveItems 0 xs []) (sym is) (empties 0 64);
}

-- ---- collecting them

kept_is : (a : ℕ) (items : List Move) (p : ListState) → p ≡ list_of items → kept_program a p ≡ program_at a items
kept_is a [] p is = rw is refl
kept_is a (m ∷ ms) p is = let some : eqb (length (m ∷ ms)) 0 ≡ false = grind arith in rw is (rw some refl)

pub collected : (a : ℕ) (p : ListState) (ps : List ListState) (lines : List SetupLine) (got new total : List (ℕ × ListState)) → HaveItems a (p ∷ ps) lines
    → got ++ programs_from a (suc (length ps)) lines ≡ total → new ≡ got ++ kept_program a p → new ++ programs_from (a + 1) (length ps) lines ≡ total
collected a p ps lines got new total has is added =
    ap (λ k. k ++ programs_from (a + 1) (length ps) lines) (added ∙ ap (λ k. got ++ k) (kept_is a (program_items a lines) p has.0))
    ∙ append_assoc got (program_at a (program_items a lines)) (programs_from (a + 1) (length ps) lines) ∙ is

pub collected_none : (ps : List ListState) (lines : List SetupLine) → length ps ≡ 64 → programs_from 0 (length ps) lines ≡ setup_programs lines
unfolding setup_programs
collected_none ps lines count = ap (λ n. programs_from 0 n lines) count

pub collected_all : (a : ℕ) (ps : List ListState) (lines : List SetupLine) (got total : List (ℕ × ListState)) → length ps ≡ 0
    → got ++ programs_from a (length ps) lines ≡ total → got ≡ total
collected_all a ps lines got total none is = sym (ap (λ n. got ++ programs_from a n lines) none ∙ append-nil got) ∙ is

-- ---- the items of a setup are short

short_line : (l : SetupLine) (f : Facts) → breaks_rule l f ≡ false → IsShortLine l
short_line (SetupLine.Item a c) f kept = not-false (is_short c) (or_parts (not (is_short c)) (forbids_program a ProgramKind.Listed 1 f) kept).0
short_line (SetupLine.AwaitItem a ep) f kept = tt
short_line (SetupLine.Act a t) f kept = tt
short_line (SetupLine.Quantum q) f kept = tt
short_line (SetupLine.Grant line) f kept = tt
short_line (SetupLine.Files g) f kept = tt
short_line (SetupLine.Writer a m s r chunk ring bytes) f kept = tt
short_line (SetupLine.Reader a m r chunk ring fuel) f kept = tt
short_line (SetupLine.Boxed a logic fuel) f kept = tt

pub short_lines : (ls : List SetupLine) (f : Facts) → AllKept ls f → All IsShortLine ls
short_lines [] f kept = All-nil IsShortLine
short_lines (l ∷ ls) f kept = All-cons IsShortLine l ls (short_line l f kept.0) (short_lines ls (facts_with_line l f) kept.1.1)
