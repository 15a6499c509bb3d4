-- The kernel after a change of its data.
use Rattle.std.proofs.Common.{◌≡◌, ℕ, true, List, get_or, set, Option, Some, None, sym, ap, ◌∙◌, subst, arith}
use Rattle.std.specs.Prelude.{slice_get, slice_set}
use Rattle.std.proofs.lemmas.Bool.Decides.{nat_tests}
use Rattle.std.proofs.lemmas.List.{map-set}
use Rattle.m3_model.specs.Config.Site.{Site}
use Rattle.m3_model.specs.Kernel.State.{ActivityEntry, Kernel}
use Rattle.m3_model.specs.Kernel.Step.{with_entry}
use Rattle.m3_kernel.specs.ActivityView.{seat_value, seats_of}
use Rattle.m3_kernel.specs.LookupTables.{test, IsOnly, is_of, AreTables}
use Rattle.m3_kernel.specs.declared.seat.Seat.{Seat as CodeSeat}
use Rattle.m3_kernel.specs.declared.berth.Berth.{Berth}
use Rattle.m3_kernel.proofs.FindEntry.{replaced_set}
use Rattle.m3_base.proofs.Options.{some_if_number}

-- the place of a seat is that of its activity
pub own_place : (h : Site) (xs : List ActivityEntry) (index : List (Option ℕ)) (berths : List Berth) → AreTables h xs index berths → (at : ℕ) (x : ActivityEntry) → slice_get xs at ≡ Some x → IsOnly (is_of x.act) xs (Some at)
own_place h xs index berths kept at x here =
    let own : is_of x.act x ≡ true = grind (arith, nat_tests) in
    subst (λ (o : Option ℕ). IsOnly (is_of x.act) xs o) (some_if_number at (get_or index x.act None) (sym (kept.places x.act at) ∙ ap (test (is_of x.act)) here ∙ own)) (kept.places x.act)

-- a seat in place of the one there, of its activity
pub with_seat_set : (k : Kernel) (at : ℕ) (y : ActivityEntry) → IsOnly (is_of y.act) k.seats (Some at) → with_entry y k ≡ record k { seats = slice_set k.seats at y }
with_seat_set k at y only = ap (λ xs. record k { seats = xs }) (replaced_set y k.seats at only)

-- ---- the code's lists

pub seats_set : (items : List CodeSeat) (at : ℕ) (y : CodeSeat) → seats_of (set items at y) ≡ set (seats_of items) at (seat_value y)
seats_set items at y = map-set seat_value items at y
