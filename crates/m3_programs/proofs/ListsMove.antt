-- A list program has a move from each meaning: its next item, or its end.
use Rattle.std.proofs.Common.{◌≡◌, ℕ, zero, suc, List, [], ◌∷◌, drop, refl, sym, ap, subst, ◌∙◌}
use Rattle.m3_base.specs.declared.program.Move.{Move}
use Rattle.m3_base.specs.declared.program.Seen.{Seen}
use Rattle.m3_base.specs.Calls.ListProgram.{ListMoves}
use Rattle.m3_programs.specs.ItemMoves.{ItemMoves}
use Rattle.m3_programs.specs.ListsMove.{ListsMove}

drop_next : (n : ℕ) (items : List Move) → drop (suc n) items ≡ drop 1 (drop n items)
drop_next zero [] = refl
drop_next (suc n) [] = refl
drop_next zero (x ∷ xs) = refl
drop_next (suc n) (x ∷ xs) = drop_next n xs

pub lists_move : ListsMove
lists_move items [] seen = (Move.Ended, [], (refl, refl))
lists_move items (n ∷ more) seen = by_left (drop n items) refl
  where
    by_left : (left : List Move) → drop n items ≡ left → (move : Move) × (new : List ℕ) × ItemMoves items (n ∷ more) seen move new
    by_left [] e = (Move.Ended, n ∷ more, subst (λ l. ListMoves l seen Move.Ended l) (sym e) (refl, refl))
    by_left (x ∷ xs) e = (x, suc n ∷ [], subst (λ l. ListMoves l seen x (drop (suc n) items)) (sym e) (refl, drop_next n items ∙ ap (drop 1) e))
