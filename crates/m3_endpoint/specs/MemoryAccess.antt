-- What a memory record permits.
use Rattle.std.specs.Prelude.{ℕ, ◌+◌, Bool, true, false, not, nat_lt, [], ◌∷◌, Option, Some, None, Result, Ok, Err}
use Rattle.m3_base.specs.declared.command.Refusal.{Refusal}
use Rattle.m3_base.specs.Ideal.Context.{MemoryRecord}
use Rattle.m3_base.specs.Ideal.Issue.{first_of, permits}

abbrev pub range_refusal : MemoryRecord → ℕ → ℕ → Bool → Option Refusal
range_refusal r off len write =
    first_of (
    (nat_lt r.length (off + len), Refusal.OutOfRange)
    ∷ (not (permits write r.perm), Refusal.NoPermission)
    ∷ []
    )

abbrev pub place_or_refusal : MemoryRecord → ℕ → Option Refusal → Result ℕ Refusal
place_or_refusal r off None = Ok (r.start + off)
place_or_refusal r off (Some why) = Err why
