-- The lines that close a machine's journal: on credits, on tiles, on flights, and whether nothing is to be done.
use Rattle.std.specs.Prelude.{◌≡◌, ℕ, ◌+◌, ◌<◌, List, [], ◌∷◌, ◌++◌, length, min, slice_index_or, Option, Some, None, if◌then◌else◌}
use Rattle.m3_base.specs.declared.journal.AuditLine.{AuditLine}
use Rattle.m3_base.specs.declared.packet.Packet.{Packet}
use Rattle.m3_base.specs.declared.packet.Fresh.{Fresh}
use Rattle.m3_base.specs.Ideal.Context.{Context}
use Rattle.m3_base.specs.Ideal.State.{Grant, is_live}
use Rattle.m3_endpoint.specs.Counters.{most}
use Rattle.m3_machine.specs.declared.credit_counts.CreditCounts.{CreditCounts}
use Rattle.m3_machine.specs.CreditCounts.{last_of, held, flying, queued}

-- ---- what is counted

pub record AreCounts (f : ℕ → ℕ) (counts : List ℕ) : Type 0 where
  pub size : length counts ≡ 4097
  pub same : (g : ℕ) → g < 4097 → slice_index_or counts g 0 ≡ min most (f g)

-- one count for each number up to 4,096
pub record IsSized (t : CreditCounts) : Type 0 where
  pub held_size : length t.held.items ≡ 4097
  pub flying_size : length t.flying.items ≡ 4097
  pub queued_size : length t.queued.items ≡ 4097

-- the counts of these contexts and these packets
pub record AreCreditsOf (cs : List Context) (ps : List Packet) (t : CreditCounts) : Type 0 where
  pub held_are : AreCounts (λ g. held g cs ps) t.held.items
  pub flying_are : AreCounts (λ g. flying g (λ a. last_of None a cs) ps) t.flying.items
  pub queued_are : AreCounts (λ g. queued g cs) t.queued.items

-- ---- the lines on credits

-- the credits of grants by number: held, flying and queued
module _ (held flying queued : ℕ → ℕ) where
  -- the line of a send grant
  abbrev pub credit_line : ℕ → Fresh → List AuditLine
  credit_line g (Fresh.Send h to to_ep to_grant label size limit) = AuditLine.Credit g (held g) (flying g) (queued g) limit ∷ []
  credit_line g f = []

  -- of the live ones of these grants, the first of which has the number g
  abbrev pub live_lines_from : ℕ → List Grant → List AuditLine
  live_lines_from g [] = []
  live_lines_from g (x ∷ xs) = (if is_live x.standing then credit_line g x.fresh else []) ++ live_lines_from (g + 1) xs

-- as the counts have them
abbrev pub counts_line : CreditCounts → ℕ → Fresh → List AuditLine
counts_line t = credit_line (λ g. slice_index_or t.held.items g 0) (λ g. slice_index_or t.flying.items g 0) (λ g. slice_index_or t.queued.items g 0)

abbrev pub counts_lines : CreditCounts → ℕ → List Grant → List AuditLine
counts_lines t = live_lines_from (λ g. slice_index_or t.held.items g 0) (λ g. slice_index_or t.flying.items g 0) (λ g. slice_index_or t.queued.items g 0)

abbrev pub live_line : CreditCounts → ℕ → Option Grant → List AuditLine
live_line t g None = []
live_line t g (Some x) = if is_live x.standing then counts_line t g x.fresh else []

-- as these contexts and these packets have them
module _ (cs : List Context) (ps : List Packet) where
  abbrev pub held_count : ℕ → ℕ
  held_count g = min most (held g cs ps)

  abbrev pub flying_count : ℕ → ℕ
  flying_count g = min most (flying g (λ a. last_of None a cs) ps)

  abbrev pub queued_count : ℕ → ℕ
  queued_count g = min most (queued g cs)

  abbrev pub live_lines : List Grant → List AuditLine
  live_lines = live_lines_from held_count flying_count queued_count 1
