-- The state at opening.
use Rattle.std.specs.Prelude.{ℕ, ◌+◌, List, [], ◌∷◌, ◌++◌, length, replicate, Option, Some, None}
use Rattle.m3_base.specs.declared.packet.Fresh.{Fresh}
use Rattle.m3_base.specs.declared.order.GrantLine.{GrantLine}
use Rattle.m3_base.specs.declared.setup_line.SetupLine.{SetupLine}
use Rattle.m3_base.specs.Ideal.Context.{Context, new_context, new_endpoint, with_endpoint}
use Rattle.m3_base.specs.Ideal.State.{State, context_of, new_context_in, put_context, holder, holder_ep, parent_of, parent_in}
use Rattle.m3_base.specs.Ideal.GrantRules.{form, new_grant}

-- the contexts with a new record at this endpoint
abbrev pub contexts_with_record : ℕ → Fresh → List Context → Option Context → List Context
contexts_with_record ep f cs None = cs
contexts_with_record ep f cs (Some c) = put_context (with_endpoint c ep (new_endpoint f)) cs

abbrev pub state_with_grant : State → GrantLine → Option Fresh → State
state_with_grant s line None = s
state_with_grant s line (Some f) =
    record s {
      contexts = contexts_with_record (holder_ep line) f s.contexts (context_of (holder line) s.contexts);
      grants = s.grants ++ new_grant line f ∷ [];
    }

abbrev pub with_line : State → SetupLine → State
with_line s (SetupLine.Act a t) = record s { contexts = new_context_in (new_context a) s.contexts }
with_line s (SetupLine.Grant line) =
    state_with_grant s line (form (length s.grants + 1) line (parent_in s.grants (parent_of line)))
-- quanta, files and programs are no part of an ideal state
with_line s line = s

abbrev pub with_lines : State → List SetupLine → State
with_lines s [] = s
with_lines s (l ∷ ls) = with_lines (with_line s l) ls

-- no flight, and each grant of the setup with its record at its holder
abbrev pub opening : ℕ → List SetupLine → State
opening memory lines =
    with_lines (record { memory = replicate memory 0; contexts = []; flights = []; kernel_next = 1; grants = [] }) lines
