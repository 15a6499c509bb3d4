-- The closing lines on tiles, one more at a time.
use Rattle.std.proofs.Common.{◌≡◌, ℕ, suc, ◌+◌, ◌-◌, ◌<◌, List, [], ◌∷◌, ◌++◌, length, get_or, map, Option, Some, None, Bool, true, false, not, is_some, is_none, refl, sym, ap, subst, ◌∙◌, append_assoc, arith}
use Rattle.std.proofs.lemmas.Bool.{false≢true}
use Rattle.std.proofs.lemmas.List.{get_or-map, length-map}
use Rattle.m3_base.specs.declared.journal.AuditLine.{AuditLine}
use Rattle.m3_engine.specs.TileView.{TileAt, tiles_of}
use Rattle.m3_model.specs.Tile.Step.{act_in}
use Rattle.m3_model.specs.Abstraction.{current_act}
use Rattle.m3_trace.specs.DriverOfMachine.{tile_lines_from}

lines_more : (t count : ℕ) (current : List (Option ℕ)) → t < count → tile_lines_from t (count - t) current ≡ AuditLine.Tile t (get_or current t None) ∷ tile_lines_from (t + 1) (count - (t + 1)) current
lines_more t count current within =
    let e : count - t ≡ suc (count - (t + 1)) = omega arith in ap (λ n. tile_lines_from t n current) e

-- the tile's own line was added
pub line_added : (t count : ℕ) (current : List (Option ℕ)) (old new : List AuditLine) (act : Option ℕ) → t < count → act ≡ get_or current t None → new ≡ old ++ AuditLine.Tile t act ∷ [] → old ++ tile_lines_from t (count - t) current ≡ new ++ tile_lines_from (t + 1) (count - (t + 1)) current
line_added t count current old new act within e added =
    let left : List AuditLine = tile_lines_from (t + 1) (count - (t + 1)) current in
    ap (λ ls. old ++ ls) (lines_more t count current within)
    ∙ sym (append_assoc old (AuditLine.Tile t (get_or current t None) ∷ []) left)
    ∙ ap (λ a. (old ++ AuditLine.Tile t a ∷ []) ++ left) (sym e)
    ∙ ap (λ ls. ls ++ left) (sym added)

-- who runs on a tile that was read
pub act_read : (tiles : List TileAt) (t : ℕ) (x : TileAt) → t < length tiles → x ≡ get_or tiles t x → act_in x.tile.current ≡ get_or (map current_act (tiles_of tiles)) t None
act_read tiles t x within e =
    ap (λ (y : TileAt). current_act y.tile) e
    ∙ sym (get_or-map current_act (tiles_of tiles) t x.tile None (subst (λ n. t < n) (sym (length-map tiles (λ (y : TileAt). y.tile))) within) ∙ ap current_act (get_or-map (λ (y : TileAt). y.tile) tiles t x x.tile within))

-- the four parts, one after the other
pub all_lines : (none credits tiled flown lines credit_part tile_part : List AuditLine) (f q : AuditLine) → none ≡ [] → credits ≡ none ++ credit_part → tiled ≡ credits ++ tile_part → flown ≡ tiled ++ f ∷ [] → lines ≡ flown ++ q ∷ []
    → lines ≡ credit_part ++ tile_part ++ (f ∷ []) ++ q ∷ []
all_lines none credits tiled flown lines credit_part tile_part f q e0 e1 e2 e3 e4 =
    e4
    ∙ ap (λ ls. ls ++ q ∷ []) (e3 ∙ ap (λ ls. ls ++ f ∷ []) (e2 ∙ ap (λ ls. ls ++ tile_part) (e1 ∙ ap (λ ls. ls ++ credit_part) e0)))

pub is_none_from : {X : Type 0} (b : Bool) (o : Option X) → is_some o ≡ not b → b ≡ is_none o
is_none_from true None e = refl
is_none_from false (Some x) e = refl
is_none_from false None e = absurd (false≢true e)
is_none_from true (Some x) e = absurd (false≢true (sym e))
