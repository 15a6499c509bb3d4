-- The words of audit lines.
use Rattle.std.specs.Prelude.{ℕ, Bool, true, false, List, [], ◌∷◌, codes, decimal, Option, Some, None}
use Rattle.m3_base.specs.declared.journal.AuditLine.{AuditLine}

abbrev pub current_words : Option ℕ → List (List ℕ)
current_words None = codes "none" ∷ []
current_words (Some act) = codes "act" ∷ decimal act ∷ []

abbrev pub yes_word : Bool → List ℕ
yes_word true = codes "yes"
yes_word false = codes "no"

-- the credits at the sender, under way and at the receiver, of as many as there are
abbrev pub count_words : ℕ → ℕ → ℕ → ℕ → List (List ℕ)
count_words held flying queued limit =
    codes "held" ∷ decimal held ∷ codes "flying" ∷ decimal flying
    ∷ codes "queued" ∷ decimal queued ∷ codes "limit" ∷ decimal limit ∷ []

abbrev pub audit_words : AuditLine → List (List ℕ)
audit_words (AuditLine.Credit g held flying queued limit) =
    codes "audit" ∷ codes "credit" ∷ decimal g ∷ count_words held flying queued limit
audit_words (AuditLine.Tile tile act) = codes "audit" ∷ codes "tile" ∷ decimal tile ∷ current_words act
audit_words (AuditLine.Flights count) = codes "audit" ∷ codes "flights" ∷ decimal count ∷ []
audit_words (AuditLine.Quiet quiet) = codes "audit" ∷ codes "quiet" ∷ yes_word quiet ∷ []
