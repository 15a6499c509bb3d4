-- The fetched messages stand in the order in which they were fetched.
use Rattle.std.specs.Prelude.{ℕ, ◌+◌, ◌≤◌, Bool, nat_lt, List, [], ◌∷◌}
use Rattle.m3_base.specs.Ideal.Context.{Fetched}

-- their tokens ascend, from low on, and are below next
abbrev pub AreOrdered : ℕ → List Fetched → ℕ → Type 0
AreOrdered low [] next = low ≤ next
AreOrdered low (f ∷ fs) next = (low ≤ f.token) × AreOrdered (f.token + 1) fs next

abbrev pub is_smaller : ℕ → Fetched → Bool
is_smaller t f = nat_lt f.token t
