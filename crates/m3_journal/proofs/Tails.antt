-- The front of borrowed words.
use Rattle.std.proofs.Common.{◌≡◌, ℕ, ◌-◌, ◌<◌, false, List, [], ◌∷◌, length, take, Bor, refl, arith}
use Rattle.std.proofs.lemmas.List.{length-map, take-map}
use Rattle.m3_text.specs.Lines.{texts}
use Rattle.m3_journal.specs.Reading.Outcomes.{front, is_restoring}

pub texts_front : (ws : List (Bor (List ℕ))) → texts (take (length ws - 2) ws) ≡ front (texts ws)
texts_front ws = simp (length-map, take-map)

-- fewer than two words have no end that names an activity
pub short_front : (ws : List (Bor (List ℕ))) → length ws < 2 → is_restoring (front (texts ws)) ≡ false
unfolding is_restoring
short_front [] lt = refl
short_front (w ∷ []) lt = refl
short_front (v ∷ w ∷ ws) lt = absurd (omega arith)
