-- Which activities have a program: those that the setup's facts give one are those whose lines do.
use Rattle.std.proofs.Common.{◌≡◌, ℕ, ◌<◌, Bool, true, false, ◌||◌, ◌==◌, List, [], ◌∷◌, ◌++◌, length, set, refl, sym, ap, ◌∙◌, arith, ⊎_elim}
use Rattle.std.specs.List.{list_any}
use Rattle.std.proofs.lemmas.List.{get_or-set_same, get_or-set_other, get_or-replicate, length-set, length-replicate}
use Rattle.std.proofs.lemmas.Bool.{cases_eq}
use Rattle.std.proofs.lemmas.Bool.Decides.{nat_tests}
use Rattle.m3_base.specs.declared.setup_line.SetupLine.{SetupLine}
use Rattle.m3_base.specs.declared.setup_line.ProgramKind.{ProgramKind}
use Rattle.m3_base.specs.Setup.Rules.{Facts, SetupValue, facts_of, facts_with_line, facts_with_lines, no_lines, program_in, program_of, programmed_acts, is_programmed}

abbrev pub is_listed : ℕ → List ℕ → Bool
is_listed a acts = list_any (λ b. b == a) acts

listed_more : (a : ℕ) (xs ys : List ℕ) → is_listed a (xs ++ ys) ≡ (is_listed a xs || is_listed a ys)
listed_more a [] ys = refl
listed_more a (x ∷ xs) ys = grind (arith, nat_tests, listed_more a xs ys)

either : (x y z : Bool) → (x || (y || z)) ≡ ((y || x) || z)
either true true z = refl
either true false z = refl
either false true z = refl
either false false z = refl

module _ (a : ℕ) where
  abbrev pub has : Facts → Bool
  has f = is_programmed (program_in f.programs a)

  set_line : (b : ℕ) (kind : ProgramKind) (ps : List ProgramKind) → is_programmed kind ≡ true → a < length ps → is_programmed (program_in (set ps b kind) a) ≡ (is_listed a (b ∷ []) || is_programmed (program_in ps a))
  set_line b kind ps some low =
      ⊎_elim
      (λ (e : a ≡ b). grind (arith, nat_tests, e, some, get_or-set_same ps b kind ProgramKind.Absent (omega (arith, e, low))))
      (λ (ne : a ≡ b → ⊥). grind (arith, nat_tests, ne, get_or-set_other ps b a kind ProgramKind.Absent ne))
      (cases_eq a b)

  line_program : (l : SetupLine) (f : Facts) → a < length f.programs → has (facts_with_line l f) ≡ (is_listed a (program_of l) || has f)
  line_program (SetupLine.Act b t) f low = refl
  line_program (SetupLine.Quantum q) f low = refl
  line_program (SetupLine.Grant line) f low = refl
  line_program (SetupLine.Files g) f low = refl
  line_program (SetupLine.Item b c) f low = set_line b ProgramKind.Listed f.programs refl low
  line_program (SetupLine.AwaitItem b ep) f low = set_line b ProgramKind.Listed f.programs refl low
  line_program (SetupLine.Writer b m s r chunk ring bytes) f low = set_line b ProgramKind.Single f.programs refl low
  line_program (SetupLine.Reader b m r chunk ring fuel) f low = set_line b ProgramKind.Single f.programs refl low
  line_program (SetupLine.Boxed b logic fuel) f low = set_line b ProgramKind.Single f.programs refl low

  line_count : (l : SetupLine) (f : Facts) → length (facts_with_line l f).programs ≡ length f.programs
  line_count (SetupLine.Act b t) f = refl
  line_count (SetupLine.Quantum q) f = refl
  line_count (SetupLine.Grant line) f = refl
  line_count (SetupLine.Files g) f = refl
  line_count (SetupLine.Item b c) f = length-set f.programs b ProgramKind.Listed
  line_count (SetupLine.AwaitItem b ep) f = length-set f.programs b ProgramKind.Listed
  line_count (SetupLine.Writer b m s r chunk ring bytes) f = length-set f.programs b ProgramKind.Single
  line_count (SetupLine.Reader b m r chunk ring fuel) f = length-set f.programs b ProgramKind.Single
  line_count (SetupLine.Boxed b logic fuel) f = length-set f.programs b ProgramKind.Single

  lines_program : (ls : List SetupLine) (f : Facts) → a < length f.programs → has (facts_with_lines ls f) ≡ (is_listed a (programmed_acts ls) || has f)
  lines_program [] f low = refl
  lines_program (l ∷ ls) f low =
      lines_program ls (facts_with_line l f) (omega (arith, line_count l f, low))
      ∙ ap (λ b. is_listed a (programmed_acts ls) || b) (line_program l f low)
      ∙ either (is_listed a (programmed_acts ls)) (is_listed a (program_of l)) (has f)
      ∙ ap (λ b. b || has f) (sym (listed_more a (program_of l) (programmed_acts ls)))

  or_false : (b : Bool) → (b || false) ≡ b
  or_false true = refl
  or_false false = refl

  pub setup_program : (s : SetupValue) → a < 64 → has (facts_of s) ≡ is_listed a (programmed_acts s.lines)
  setup_program s low =
      lines_program s.lines (no_lines s.tiles s.memory) (omega (arith, low, length-replicate 64 ProgramKind.Absent))
      ∙ ap (λ b. is_listed a (programmed_acts s.lines) || b) (ap is_programmed (get_or-replicate 64 a ProgramKind.Absent ProgramKind.Absent low))
      ∙ or_false (is_listed a (programmed_acts s.lines))

pub some_program : (kind : ProgramKind) → (kind ≡ ProgramKind.Absent → ⊥) → true ≡ is_programmed kind
some_program ProgramKind.Absent ne = absurd (ne refl)
some_program ProgramKind.Listed ne = refl
some_program ProgramKind.Single ne = refl
