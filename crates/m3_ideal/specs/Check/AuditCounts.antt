-- The credits of the ideal machine, counted by grant in one pass.
use Rattle.std.specs.Prelude.{◌≡◌, ℕ, ◌+◌, ◌<◌, ◌==◌, List, length, slice_index_or, if◌then◌else◌}
use Rattle.m3_base.specs.declared.packet.Packet.{Packet}
use Rattle.m3_base.specs.Lists.Counting.{total, how_many}
use Rattle.m3_base.specs.Ideal.Context.{Context, Endpoint}
use Rattle.m3_base.specs.Ideal.Credits.{held_at, queued_at, queued_credits, carries_credit, credits_held, credits_flying, credits_queued}
use Rattle.m3_base.specs.Ideal.State.{State}
use Rattle.m3_ideal.specs.declared.audits.credits.Credits.{Credits}

-- so many for this grant, and nothing for another
abbrev pub only : ℕ → ℕ → ℕ → ℕ
only n more g = if n == g then more else 0

-- the count of each grant rose by what there is of it
abbrev pub Rises : (ℕ → ℕ) → List ℕ → List ℕ → Type 0
Rises more old new = (g : ℕ) → g < 4097 → slice_index_or new g 0 ≡ slice_index_or old g 0 + more g

-- the counts rose by what these endpoints have
pub record CountsEndpoints (es : List Endpoint) (old new : Credits) : Type 0 where
  pub held : Rises (λ g. total (held_at g) es) old.held new.held
  pub queued : Rises (λ g. total (queued_at g) es) old.queued new.queued
  pub flying : new.flying ≡ old.flying
  pub flights : new.flights ≡ old.flights

-- by what those of these contexts have
pub record CountsContexts (cs : List Context) (old new : Credits) : Type 0 where
  pub held : Rises (λ g. total (λ c. total (held_at g) c.endpoints) cs) old.held new.held
  pub queued : Rises (λ g. total (λ c. total (queued_at g) c.endpoints) cs) old.queued new.queued
  pub flying : new.flying ≡ old.flying
  pub flights : new.flights ≡ old.flights

-- by what these flights carry, where these are all contexts
pub record CountsFlights (cs : List Context) (ps : List Packet) (old new : Credits) : Type 0 where
  pub held : Rises (λ g. total (queued_credits g) ps) old.held new.held
  pub flying : Rises (λ g. how_many (carries_credit g cs) ps) old.flying new.flying
  pub queued : new.queued ≡ old.queued
  pub flights : new.flights ≡ old.flights + length ps

-- the counts are those of the state
pub record AreCredits (s : State) (counts : Credits) : Type 0 where
  pub held : (g : ℕ) → g < 4097 → slice_index_or counts.held g 0 ≡ credits_held g s
  pub flying : (g : ℕ) → g < 4097 → slice_index_or counts.flying g 0 ≡ credits_flying g s
  pub queued : (g : ℕ) → g < 4097 → slice_index_or counts.queued g 0 ≡ credits_queued g s
  pub flights : counts.flights ≡ length s.flights
