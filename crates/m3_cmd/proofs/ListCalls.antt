-- The calls of a list program: its moves are its items and then Ended, as far as it was called.
use Rattle.std.proofs.Common.{◌≡◌, ℕ, List, [], ◌∷◌, ◌++◌, refl, ap, ◌∙◌, subst}
use Rattle.m3_base.specs.declared.program.Move.{Move}
use Rattle.m3_base.specs.Calls.JournalCalls.{Call}
use Rattle.m3_base.specs.Calls.Relation.{Leads, IsReach}
use Rattle.m3_base.specs.Calls.ListProgram.{AreItems, ListMoves, moves_of}
use Rattle.m3_programs.specs.ItemMoves.{ItemMoves, items_left}
use Rattle.m3_trace.specs.ProgramEnds.{EndsLast}

-- the relation on the items that are left
left_leads : (items : List Move) (m n : List ℕ) (cs : List Call) → Leads (ItemMoves items) m cs n → Leads ListMoves (items_left items m) cs (items_left items n)
left_leads items m n [] e = ap (items_left items) e
left_leads items m n (c ∷ cs) l = (items_left items l.0, l.1, left_leads items l.0 n cs l.2)

ends : (c : Call) (cs : List Call) → EndsLast (c ∷ cs) → c.move ≡ Move.Ended → AreItems [] (c ∷ cs)
ends c [] last is = ([], ap (λ m. m ∷ []) is)
ends c (d ∷ cs) last is = let none : d ∷ cs ≡ [] = last.0 is in absurd cc

from_items : (items left : List Move) (cs : List Call) → EndsLast cs → Leads ListMoves items cs left → AreItems items cs
from_items items left [] last l = (items ++ Move.Ended ∷ [], refl)
from_items [] left (c ∷ cs) last l = ends c cs last l.1.0
from_items (item ∷ items) left (c ∷ cs) last l =
    let rest = from_items items left cs last.1 (subst (λ k. Leads ListMoves k cs left) l.1.1 l.2) in
    (rest.0, ap (λ m. m ∷ (moves_of cs ++ rest.0)) l.1.0 ∙ ap (λ ms. item ∷ ms) rest.1)

-- calls that obey the relation of a list program, none of whose items was made, have the items as their moves and then
-- Ended, as far as they go
pub calls_are_items : (items : List Move) (cs : List Call) → EndsLast cs → IsReach (ItemMoves items) (0 ∷ []) cs → AreItems items cs
calls_are_items items cs last reach = from_items items (items_left items reach.0) cs last (left_leads items (0 ∷ []) reach.0 cs reach.1)
