-- The next numbers of contexts, and of all issuers.
use Rattle.std.specs.Prelude.{◌≡◌, ℕ, ◌<◌, List, length, slice_index_or, Option, Some, None}
use Rattle.m3_base.specs.Ideal.Context.{Context}
use Rattle.m3_base.specs.Ideal.State.{context_of}

-- the next number of an activity that isn't declared is the one that its context will begin with
abbrev pub next_of : Option Context → ℕ
next_of None = 1
next_of (Some c) = c.next

-- no activity's next number has changed
abbrev pub SameNexts : List Context → List Context → Type 0
SameNexts old new = (a : ℕ) → next_of (context_of a new) ≡ next_of (context_of a old)

-- the next numbers of the issuers are those of the contexts, and then the kernel's
pub record AreNexts (nexts : List ℕ) (cs : List Context) (last : ℕ) : Type 0 where
  pub size : length nexts ≡ 65
  pub of_kernel : slice_index_or nexts 64 0 ≡ last
  pub of_acts : (a : ℕ) → a < 64 → slice_index_or nexts a 0 ≡ next_of (context_of a cs)
