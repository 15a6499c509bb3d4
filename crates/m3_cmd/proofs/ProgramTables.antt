-- The list programs of a setup, by the numbers of their activities.
use Rattle.std.proofs.Common.{◌≡◌, ◌≢◌, ℕ, zero, suc, ◌+◌, ◌<◌, ◌≤◌, List, [], ◌∷◌, ◌++◌, get_or, length, map, replicate, Option, Some, None, refl, sym, ap, ◌∙◌, subst, arith, ⊎_elim}
use Rattle.std.proofs.lemmas.List.{get_or-set_same, get_or-set_other, get_or-replicate, get_or_past, length-set, length-replicate}
use Rattle.std.proofs.lemmas.Bool.{cases_eq}
use Rattle.m3_base.specs.declared.program.Move.{Move}
use Rattle.m3_base.specs.declared.setup_line.SetupLine.{SetupLine}
use Rattle.m3_base.specs.Calls.ListProgram.{program_items}
use Rattle.m3_machine.specs.ProgramTable.{program_table, with_programs}
use Rattle.m3_programs.specs.ListProgramView.{ListState}
use Rattle.m3_programs.specs.SetupPrograms.{list_of, program_at, programs_from, setup_programs}

-- an activity's program, where it has items
abbrev pub program_of_items : List Move → Option ListState
program_of_items [] = None
program_of_items (item ∷ items) = Some (list_of (item ∷ items))

put : ℕ → List Move → List (Option ListState) → List (Option ListState)
put a items table = with_programs (program_at a items) table

put_step : (a : ℕ) (items : List Move) (rest : List (ℕ × ListState)) (table : List (Option ListState)) → with_programs (program_at a items ++ rest) table ≡ with_programs rest (put a items table)
unfolding put
put_step a [] rest table = refl
put_step a (item ∷ items) rest table = refl

put_length : (a : ℕ) (items : List Move) (table : List (Option ListState)) → length (put a items table) ≡ length table
unfolding put
put_length a [] table = refl
put_length a (item ∷ items) table = length-set table a _

put_same : (a : ℕ) (items : List Move) (table : List (Option ListState)) → a < length table → get_or table a None ≡ None → get_or (put a items table) a None ≡ program_of_items items
unfolding put
put_same a [] table within none = none
put_same a (item ∷ items) table within none = get_or-set_same table a (Some (list_of (item ∷ items))) None within

put_other : (a b : ℕ) (items : List Move) (table : List (Option ListState)) → b ≢ a → get_or (put a items table) b None ≡ get_or table b None
unfolding put
put_other a b [] table other = refl
put_other a b (item ∷ items) table other = get_or-set_other table a b (Some (list_of (item ∷ items))) None other

-- those before the first number stay
before : (a n b : ℕ) (lines : List SetupLine) (table : List (Option ListState)) → b < a → get_or (with_programs (programs_from a n lines) table) b None ≡ get_or table b None
before a zero b lines table less = refl
before a (suc n) b lines table less =
    let items = program_items a lines in
    ap (λ t. get_or t b None) (put_step a items (programs_from (a + 1) n lines) table)
    ∙ before (a + 1) n b lines (put a items table) (omega (arith, less))
    ∙ put_other a b items table (λ e. omega (arith, less, e))

within : (a n b : ℕ) (lines : List SetupLine) (table : List (Option ListState)) → a ≤ b → b < a + n → b < length table → get_or table b None ≡ None
    → get_or (with_programs (programs_from a n lines) table) b None ≡ program_of_items (program_items b lines)
within a zero b lines table from to low none = absurd (omega (arith, from, to))
within a (suc n) b lines table from to low none =
    let items = program_items a lines in
    ap (λ t. get_or t b None) (put_step a items (programs_from (a + 1) n lines) table)
    ∙ ⊎_elim
    (λ (e : b ≡ a).
    before (a + 1) n b lines (put a items table) (omega (arith, e))
    ∙ subst (λ c. get_or (put a items table) c None ≡ program_of_items (program_items c lines)) (sym e)
    (put_same a items table (omega (arith, e, low)) (subst (λ c. get_or table c None ≡ None) e none)))
    (λ (other : b ≡ a → ⊥).
    within (a + 1) n b lines (put a items table) (let more : a + 1 ≤ b = omega (arith, from, other) in more) (omega (arith, to)) (omega (arith, low, put_length a items table))
    (put_other a b items table other ∙ none))
    (cases_eq b a)

pub program_there : (lines : List SetupLine) (a : ℕ) → a < 64 → get_or (program_table (setup_programs lines)) a None ≡ program_of_items (program_items a lines)
unfolding setup_programs
program_there lines a low =
    let empty : List (Option ListState) = replicate 64 None in
    within 0 64 a lines empty (omega arith) (omega (arith, low)) (omega (arith, low, length-replicate {A = Option ListState} 64 None)) (get_or-replicate 64 a None None low)

length_from : (a n : ℕ) (lines : List SetupLine) (table : List (Option ListState)) → length (with_programs (programs_from a n lines) table) ≡ length table
length_from a zero lines table = refl
length_from a (suc n) lines table =
    let items = program_items a lines in
    ap (λ (t : List (Option ListState)). length t) (put_step a items (programs_from (a + 1) n lines) table) ∙ length_from (a + 1) n lines (put a items table) ∙ put_length a items table

pub no_program_there : (lines : List SetupLine) (a : ℕ) → 64 ≤ a → get_or (program_table (setup_programs lines)) a None ≡ None
unfolding setup_programs
no_program_there lines a high =
    get_or_past (program_table (programs_from 0 64 lines)) a None
    (omega (arith, high, length_from 0 64 lines (replicate 64 None), length-replicate {A = Option ListState} 64 None))

-- a program's number is the same before and behind
pub pairs_same : (xs : List (ℕ × ListState)) → map (λ x. (x.0, x.1)) xs ≡ xs
pairs_same [] = refl
pairs_same (x ∷ xs) = ap (λ ys. x ∷ ys) (pairs_same xs)
