-- The credits that contexts and packets have, by the numbers of send grants, and where a context is found.
use Rattle.std.specs.Prelude.{◌≡◌, ℕ, ◌+◌, Bool, false, ◌==◌, ◌&&◌, List, [], ◌∷◌, length, slice_index_or, Option, Some, None, option_copied, if◌then◌else◌}
use Rattle.std.specs.Borrow.{Bor}
use Rattle.m3_base.specs.declared.packet.Packet.{Packet}
use Rattle.m3_base.specs.Ideal.Context.{Context}
use Rattle.m3_base.specs.Lists.Counting.{total, how_many}
use Rattle.m3_base.specs.Ideal.Credits.{held_at, queued_at, queued_credits, is_refusal, gives_back_in}
use Rattle.m3_base.specs.Ideal.State.{same_act}
use Rattle.m3_endpoint.specs.Counters.{Adds}
use Rattle.m3_machine.specs.declared.credit_counts.CreditCounts.{CreditCounts}

-- ---- a table of contexts by activity

-- the last of these contexts that is the activity's, or else that one
abbrev pub last_of : Option Context → ℕ → List Context → Option Context
last_of o a [] = o
last_of o a (c ∷ cs) = last_of (if same_act a c.act then Some c else o) a cs

abbrev pub listed : List (Option (Bor Context)) → ℕ → Option Context
listed table a = option_copied (slice_index_or table a None)

-- these contexts were entered, one after the other
pub record Enters (cs : List Context) (old new : List (Option (Bor Context))) : Type 0 where
  pub size : length new ≡ length old
  pub found : (a : ℕ) → listed new a ≡ last_of (listed old a) a cs

-- they were, into a table with a place for each number of an activity
abbrev pub EntersWhole : List Context → List (Option (Bor Context)) → List (Option (Bor Context)) → Type 0
EntersWhole cs old new = length old ≡ 256 → Enters cs old new

-- ---- the credits, where the activities' contexts are found so

-- a message through g, a reply to one, a credit of g, or a refused answer to either of the first two
abbrev pub carries : ℕ → (ℕ → Option Context) → Packet → Bool
carries g find (Packet.Message to ep h m) = m.header.send == g
carries g find (Packet.Credit id to h) = h == g
carries g find (Packet.Answer id answer) = is_refusal answer && gives_back_in g id.number (find id.issuer)
carries g find packet = false

abbrev pub held : ℕ → List Context → List Packet → ℕ
held g cs ps = total (λ c. total (held_at g) c.endpoints) cs + total (queued_credits g) ps

abbrev pub flying : ℕ → (ℕ → Option Context) → List Packet → ℕ
flying g find ps = how_many (carries g find) ps

abbrev pub queued : ℕ → List Context → ℕ
queued g cs = total (λ c. total (queued_at g) c.endpoints) cs

-- the counts rose by what these contexts and these packets have
pub record Counts (find : ℕ → Option Context) (cs : List Context) (ps : List Packet) (old new : CreditCounts) : Type 0 where
  pub held_is : Adds (λ g. held g cs ps) old.held.items new.held.items
  pub flying_is : Adds (λ g. flying g find ps) old.flying.items new.flying.items
  pub queued_is : Adds (λ g. queued g cs) old.queued.items new.queued.items

-- they did, by a table of contexts that stayed as it was
abbrev pub CountsBy : List Context → List Packet → List (Option (Bor Context)) → List (Option (Bor Context)) → CreditCounts → CreditCounts → Type 0
CountsBy cs ps table same old new = (same ≡ table) × Counts (listed table) cs ps old new
