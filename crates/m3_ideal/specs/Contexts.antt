-- What a call does at the context of an activity.
use Rattle.std.specs.Prelude.{◌≡◌, ℕ, List, Option, Some, None, IsSome}
use Rattle.m3_base.specs.Ideal.Context.{Context}
use Rattle.m3_base.specs.Ideal.State.{context_of, put_context}

-- it is there, and becomes one of which P holds
abbrev pub AtContext : Option Context → List Context → List Context → (Context → Context → Type 0) → Type 0
AtContext None old new P = ⊥
AtContext (Some c) old new P = (d : Context) × (d.act ≡ c.act) × (new ≡ put_context d old) × P c d

-- and its next number stays
abbrev pub AtKept : Option Context → List Context → List Context → (Context → Context → Type 0) → Type 0
AtKept o old new P = AtContext o old new (λ c d. (d.next ≡ c.next) × P c d)

-- the activity of the number n has a context, or it has none
abbrev pub IsDeclared : Option ℕ → ℕ → List Context → Type 0
IsDeclared None n cs = context_of n cs ≡ None
IsDeclared (Some a) n cs = (a ≡ n) × IsSome (context_of n cs)
