-- What is written of the texts that statuses stand for.
use Rattle.std.specs.Prelude.{◌≡◌, ◌≢◌, ◌⊎◌, ℕ, List, [], Option, Result, Ok, Err}
use Rattle.std.specs.declared.alloc.AllocError.{AllocError}
use Rattle.m3_base.specs.Io.Streams.{Appends, AppendsSome}
use Rattle.m3_cmd.specs.declared.output.Output.{Output}

-- such a text is written, the whole of it
pub record WritesAll (Is : List ℕ → Type 0) (old new : Option (List ℕ)) : Type 0 where
  pub text : List ℕ
  pub output : Is text
  pub written : Appends old new text

-- a prefix of the text of some status is written
pub record WritesSome (Is : ℕ → List ℕ → Type 0) (old new : Option (List ℕ)) : Type 0 where
  pub status : ℕ
  pub text : List ℕ
  pub output : Is status text
  pub part : AppendsSome old new text

-- nothing is written, or a prefix of the text of some status
abbrev pub WritesAtMost : (ℕ → List ℕ → Type 0) → Option (List ℕ) → Option (List ℕ) → Type 0
WritesAtMost Is old new = Appends old new [] ⊎ WritesSome Is old new

-- the whole output is written and its status answered, unless the sink failed, whose faults rose; without an output 5 is
-- answered, and nothing is written
abbrev pub Writes : Result Output AllocError → Type 0 → ℕ → Option (List ℕ) → Option (List ℕ) → Type 0
Writes (Ok o) rose result old new =
    (result ≢ 4 → (result ≡ o.status) × Appends old new o.text.items)
    × (o.status ≢ 4 → result ≡ 4 → rose × AppendsSome old new o.text.items)
Writes (Err e) rose result old new = (result ≡ 5) × Appends old new []
