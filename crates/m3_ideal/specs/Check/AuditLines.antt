-- Audit lines as the counts have them.
use Rattle.std.specs.Prelude.{◌≡◌, ℕ, ◌+◌, ◌<◌, Bool, true, false, List, [], ◌∷◌, ◌++◌, length, drop, slice_get, slice_index_or, Option, Some, None}
use Rattle.m3_base.specs.declared.journal.AuditLine.{AuditLine}
use Rattle.m3_base.specs.declared.packet.Fresh.{Fresh}
use Rattle.m3_base.specs.Ideal.State.{Grant, is_live}
use Rattle.m3_base.specs.Journal.Legal.{only_credits}
use Rattle.m3_ideal.specs.declared.audits.credits.Credits.{Credits}

-- the line of a send grant
abbrev pub counted_line : Credits → ℕ → Fresh → List AuditLine
counted_line t g (Fresh.Send h to to_ep to_grant label size limit) =
    AuditLine.Credit g (slice_index_or t.held g 0) (slice_index_or t.flying g 0) (slice_index_or t.queued g 0) limit ∷ []
counted_line t g f = []

abbrev pub counted_line_if : Bool → Credits → ℕ → Fresh → List AuditLine
counted_line_if true t g f = counted_line t g f
counted_line_if false t g f = []

-- of a grant, if it is a live send grant
abbrev pub grant_line : Credits → ℕ → Grant → List AuditLine
grant_line t g x = counted_line_if (is_live x.standing) t g x.fresh

-- of these grants, the first of which has the number g
abbrev pub counted_lines : Credits → ℕ → List Grant → List AuditLine
counted_lines t g [] = []
counted_lines t g (x ∷ xs) = grant_line t g x ++ counted_lines t (g + 1) xs

-- the first line on credits stands at this place, or there is none
abbrev pub IsFirstCredit : List AuditLine → Option ℕ → Type 0
IsFirstCredit ls None = only_credits ls ≡ []
IsFirstCredit ls (Some i) =
    (i < length ls) × ((l : AuditLine) → slice_get ls i ≡ Some l → only_credits ls ≡ l ∷ only_credits (drop (i + 1) ls))

-- the lines on credits begin with these, and go on with those of the rest; or they don't begin with them
abbrev pub BeginsWith : List AuditLine → List AuditLine → Option (List AuditLine) → Type 0
BeginsWith line ls None = (rest : List AuditLine) → only_credits ls ≡ line ++ rest → ⊥
BeginsWith line ls (Some rest) = only_credits ls ≡ line ++ only_credits rest
