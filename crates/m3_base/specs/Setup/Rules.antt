-- The rules that each line of a setup obeys, by what the lines before it say.
use Rattle.std.specs.Prelude.{◌≡◌, ℕ, ◌+◌, ◌-◌, ◌*◌, ◌/◌, ◌<◌, Bool, true, false, not, ◌&&◌, ◌||◌, ◌==◌, nat_lt, nat_le, List, [], ◌∷◌, ◌++◌, length, replicate, slice_index_or, slice_set, Option, Some, None, is_some, is_none}
use Rattle.std.specs.List.{list_any}
use Rattle.m3_base.specs.declared.packet.Fresh.{Fresh}
use Rattle.m3_base.specs.declared.packet.Perm.{Perm}
use Rattle.m3_base.specs.declared.order.GrantLine.{GrantLine}
use Rattle.m3_base.specs.declared.setup_line.SetupLine.{SetupLine}
use Rattle.m3_base.specs.declared.setup_line.ProgramKind.{ProgramKind}
use Rattle.m3_base.specs.Ideal.State.{Grant, holder, holder_ep, parent_of, parent_in, grant_in}
use Rattle.m3_base.specs.Ideal.GrantRules.{form, fresh_of, new_grant, make_refusal}
use Rattle.m3_base.specs.Limits.{is_within, is_in_limits, is_short}

-- a setup is its number of tiles, its bytes of memory and its further lines
pub record SetupValue : Type 0 where
  pub tiles : ℕ
  pub memory : ℕ
  pub lines : List SetupLine

-- ---- what the lines before say

pub record Facts : Type 0 where
  pub tiles : ℕ
  pub memory : ℕ
  -- for each activity, its home tile once it is declared, and the kind of its program
  pub homes : List (Option ℕ)
  pub programs : List ProgramKind
  pub grants : List Grant
  -- the numbers of the handed-in logics that have their box
  pub boxes : List ℕ
  -- of all programs
  pub weight : ℕ
  pub has_quantum : Bool
  pub has_files : Bool

abbrev pub no_lines : ℕ → ℕ → Facts
no_lines tiles memory =
    record {
      tiles = tiles;
      memory = memory;
      homes = replicate 64 None;
      programs = replicate 64 ProgramKind.Absent;
      grants = [];
      boxes = [];
      weight = 0;
      has_quantum = false;
      has_files = false;
    }

abbrev pub home_at : List (Option ℕ) → ℕ → Option ℕ
home_at homes a = slice_index_or homes a None

abbrev pub program_in : List ProgramKind → ℕ → ProgramKind
program_in programs a = slice_index_or programs a ProgramKind.Absent

-- a writer's bytes are cut into chunks, of which the last may be shorter; each chunk and the end weigh 5
abbrev pub chunks : ℕ → ℕ → ℕ
chunks chunk bytes = (bytes + (chunk - 1)) / chunk

abbrev pub writer_weight : ℕ → ℕ → ℕ
writer_weight chunk bytes = 5 * (chunks chunk bytes + 1)

abbrev pub with_grant : GrantLine → List Grant → Option Fresh → List Grant
with_grant line gs None = gs
with_grant line gs (Some f) = gs ++ new_grant line f ∷ []

-- a grant of the setup stands from opening on
abbrev pub grant_added : GrantLine → List Grant → List Grant
grant_added line gs = with_grant line gs (form (length gs + 1) line (parent_in gs (parent_of line)))

-- an item weighs 1, a reader or a logic its fuel, and a writer as above
abbrev pub facts_with_program : ℕ → ProgramKind → ℕ → Facts → Facts
facts_with_program a kind weight f = record f { programs = slice_set f.programs a kind; weight = f.weight + weight }

abbrev pub facts_with_line : SetupLine → Facts → Facts
facts_with_line (SetupLine.Act a t) f = record f { homes = slice_set f.homes a (Some t) }
facts_with_line (SetupLine.Quantum q) f = record f { has_quantum = true }
facts_with_line (SetupLine.Grant line) f = record f { grants = grant_added line f.grants }
facts_with_line (SetupLine.Files g) f = record f { has_files = true }
facts_with_line (SetupLine.Item a c) f = facts_with_program a ProgramKind.Listed 1 f
facts_with_line (SetupLine.AwaitItem a ep) f = facts_with_program a ProgramKind.Listed 1 f
facts_with_line (SetupLine.Writer a m s r chunk ring bytes) f =
    facts_with_program a ProgramKind.Single (writer_weight chunk (length bytes)) f
facts_with_line (SetupLine.Reader a m r chunk ring fuel) f = facts_with_program a ProgramKind.Single fuel f
facts_with_line (SetupLine.Boxed a logic fuel) f =
    facts_with_program a ProgramKind.Single fuel (record f { boxes = f.boxes ++ logic ∷ [] })

abbrev pub facts_with_lines : List SetupLine → Facts → Facts
facts_with_lines [] f = f
facts_with_lines (l ∷ ls) f = facts_with_lines ls (facts_with_line l f)

abbrev pub facts_of : SetupValue → Facts
facts_of s = facts_with_lines s.lines (no_lines s.tiles s.memory)

-- ---- the rules

abbrev pub is_undeclared : ℕ → Facts → Bool
is_undeclared a f = is_none (home_at f.homes a)

-- the files lie in a range or part that may be read and written and has a block at least
abbrev pub may_hold_files : Option Fresh → Bool
may_hold_files (Some (Fresh.Memory g start len Perm.Rw)) = nat_le 256 len
may_hold_files f = false

-- one kind of program for an activity, and only items repeat
abbrev pub is_taken : ProgramKind → ProgramKind → Bool
is_taken ProgramKind.Absent kind = false
is_taken ProgramKind.Listed ProgramKind.Listed = false
is_taken before kind = true

-- all programs together weigh at most 16,384
abbrev pub forbids_program : ℕ → ProgramKind → ℕ → Facts → Bool
forbids_program a kind weight f =
    is_undeclared a f || (is_taken (program_in f.programs a) kind || nat_lt 16384 (f.weight + weight))

abbrev pub is_pipe : ℕ → ℕ → Bool
is_pipe chunk ring = is_within 1 4096 chunk && is_within 1 32 ring

abbrev pub is_fuel : ℕ → Bool
is_fuel fuel = is_within 1 16384 fuel

abbrev pub forbids_writer : ℕ → ℕ → ℕ → ℕ → Facts → Bool
forbids_writer a chunk ring bytes f =
    not (is_pipe chunk ring && nat_le bytes 65536)
    || forbids_program a ProgramKind.Single (writer_weight chunk bytes) f

-- whether a line is refused after these
abbrev pub breaks_rule : SetupLine → Facts → Bool
breaks_rule (SetupLine.Act a t) f = is_some (home_at f.homes a) || not (nat_le 2 t && nat_lt t f.tiles)
breaks_rule (SetupLine.Quantum q) f = f.has_quantum || not (is_within 1 64 q)
breaks_rule (SetupLine.Grant line) f =
    is_undeclared (holder line) f || (not (is_in_limits line) || is_some (make_refusal f.memory f.grants line))
breaks_rule (SetupLine.Files g) f = f.has_files || not (may_hold_files (fresh_of (grant_in f.grants g)))
breaks_rule (SetupLine.Item a c) f = not (is_short c) || forbids_program a ProgramKind.Listed 1 f
breaks_rule (SetupLine.AwaitItem a ep) f = forbids_program a ProgramKind.Listed 1 f
breaks_rule (SetupLine.Writer a m s r chunk ring bytes) f =
    forbids_writer a chunk ring (length bytes) f
breaks_rule (SetupLine.Reader a m r chunk ring fuel) f =
    not (is_pipe chunk ring && is_fuel fuel) || forbids_program a ProgramKind.Single fuel f
breaks_rule (SetupLine.Boxed a logic fuel) f =
    not (is_fuel fuel) || (list_any (λ k. k == logic) f.boxes || forbids_program a ProgramKind.Single fuel f)

-- ---- whole setups

-- the tiles and the bytes of memory that a machine may have
abbrev pub is_machine : ℕ → ℕ → Bool
is_machine tiles memory = is_within 3 16 tiles && is_within 1 1048576 memory

-- the numbers that name an activity of the line, or a grant's endpoint, are in their ranges
abbrev pub InRange : SetupLine → Type 0
InRange (SetupLine.Act a t) = a < 64
InRange (SetupLine.Quantum q) = Unit {0}
InRange (SetupLine.Grant line) = (holder line < 64) × (holder_ep line < 16)
InRange (SetupLine.Files g) = Unit {0}
InRange (SetupLine.Item a c) = a < 64
InRange (SetupLine.AwaitItem a ep) = a < 64
InRange (SetupLine.Writer a m s r chunk ring bytes) = a < 64
InRange (SetupLine.Reader a m r chunk ring fuel) = a < 64
InRange (SetupLine.Boxed a logic fuel) = a < 64

abbrev pub AllKept : List SetupLine → Facts → Type 0
AllKept [] f = Unit {0}
AllKept (l ∷ ls) f = (breaks_rule l f ≡ false) × (InRange l × AllKept ls (facts_with_line l f))

-- a setup that keeps all rules
pub record IsValid (s : SetupValue) : Type 0 where
  pub machine : is_machine s.tiles s.memory ≡ true
  pub lines : AllKept s.lines (no_lines s.tiles s.memory)

-- ---- which activities have a program

abbrev pub program_of : SetupLine → List ℕ
program_of (SetupLine.Item a c) = a ∷ []
program_of (SetupLine.AwaitItem a ep) = a ∷ []
program_of (SetupLine.Writer a m s r chunk ring bytes) = a ∷ []
program_of (SetupLine.Reader a m r chunk ring fuel) = a ∷ []
program_of (SetupLine.Boxed a logic fuel) = a ∷ []
program_of line = []

-- one that has several items stands there several times
abbrev pub programmed_acts : List SetupLine → List ℕ
programmed_acts [] = []
programmed_acts (l ∷ ls) = program_of l ++ programmed_acts ls

abbrev pub is_programmed : ProgramKind → Bool
is_programmed ProgramKind.Absent = false
is_programmed kind = true
