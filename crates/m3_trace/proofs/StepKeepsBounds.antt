-- Each step that is served keeps next numbers and next tokens low, and contexts that come back have low ones.
use Rattle.std.proofs.Common.{◌≡◌, ℕ, suc, ◌+◌, ◌≤◌, Bool, true, false, List, [], ◌∷◌, get_or, Option, Some, None, refl, subst, arith}
use Rattle.std.specs.Prelude.{◌&&◌, nat_le, ◌==◌, if◌then◌else◌}
use Rattle.std.specs.List.{list_all}
use Rattle.std.proofs.lemmas.Bool.Decides.{nat_tests}
use Rattle.m3_base.specs.declared.command.Command.{Command}
use Rattle.m3_base.specs.declared.event.Event.{Event}
use Rattle.m3_base.specs.declared.event.Made.{Made}
use Rattle.m3_base.specs.Ideal.Context.{Context, Endpoint, Free}
use Rattle.m3_model.specs.Config.KnownActivities.{most_next, next_token_at, has_bounded_token, has_bounded_counters}
use Rattle.m3_model.specs.Config.Site.{Site, tile_of}
use Rattle.m3_model.specs.Parcel.{Parcel}
use Rattle.m3_model.specs.Kernel.Step.{kernel_take, kernel_tend, kernel_order, kernel_close}
use Rattle.m3_model.specs.Machine.{Machine, Part, Kernel_part, Memory_part, Tile_part, MachineResult, empty_tile, tile_at, of_kernel, link_at, part_at, part_step, tile_for_event, parcel_taken, front, machine_step}
use Rattle.m3_model.specs.NumberBounds.{HasBoundedCounters, TileBounded, ParcelBounded, LinkBounded, CountersBounded, RestoresBounded}
use Rattle.m3_model.specs.Events.{IsServed}
use Rattle.m3_refine.proofs.lists.EachElement.{each_read}
use Rattle.m3_refine.proofs.bounds.BoundsOfParts.{LowPart, LowMade, low_seats_more, low_in_more, low_deed_more, low_at_link, low_done}
use Rattle.m3_refine.proofs.bounds.TileKeepsBounds.{do_low, take_low, memory_low}
use Rattle.m3_refine.proofs.bounds.TurnKeepsBounds.{turn_low}
use Rattle.m3_refine.proofs.bounds.KernelKeepsBounds.{kernel_take_low, kernel_tend_low, kernel_order_low, kernel_close_low}

module _ (h : Site) (n : ℕ) where
  nothing_low : (x : Part) (to from : ℕ) → LowPart n x → LowMade (n + 1) (part_step h x (Event.Take to from) None None)
  nothing_low (Kernel_part k) to from l = (low_seats_more n k.seats l, tt)
  nothing_low (Memory_part x) to from l = (tt, tt)
  nothing_low (Tile_part t) to from l = (low_in_more n t.current l, tt)

  command_low : (x : Part) (a : ℕ) (c : Command) → LowPart n x → LowMade (n + 1) (part_step h x (Event.Do a c) None None)
  command_low (Kernel_part k) a c l = tt
  command_low (Memory_part x) a c l = tt
  command_low (Tile_part t) a c l = do_low h n t l a c

  module _ (m : Machine) (low : CountersBounded n m) where
    tile_low : (t : ℕ) → TileBounded n (tile_at t m)
    tile_low t = each_read (TileBounded n) m.tiles t (empty_tile t) low.tiles tt

    part_low : (t : ℕ) → LowPart n (part_at t m)
    part_low t = by_tests (t == 0) (t == 1)
      where
        by_tests : (a b : Bool) → LowPart n (if a then Kernel_part m.kernel else (if b then Memory_part m.memory else Tile_part (tile_at t m)))
        by_tests true b = low.seats
        by_tests false true = tt
        by_tests false false = tile_low t

    takes_low : (to from : ℕ) (q : Parcel) → ParcelBounded n q → LowMade (n + 1) (part_step h (part_at to m) (Event.Take to from) None (Some q))
    takes_low to from q l = by_tests (to == 0) (to == 1)
      where
        by_tests : (a b : Bool) → LowMade (n + 1) (part_step h (if a then Kernel_part m.kernel else (if b then Memory_part m.memory else Tile_part (tile_at to m))) (Event.Take to from) None (Some q))
        by_tests true b = low_deed_more n (of_kernel (kernel_take h m.kernel q)) (kernel_take_low h n m.kernel q low.seats l)
        by_tests false true = memory_low h (n + 1) m.memory q
        by_tests false false = take_low h n (tile_at to m) (tile_low to) q l

    link_low : (to from : ℕ) (qs : List Parcel) → LinkBounded n qs → LowMade (n + 1) (part_step h (part_at to m) (Event.Take to from) None (front qs))
    link_low to from [] l = nothing_low (part_at to m) to from (part_low to)
    link_low to from (q ∷ qs) l = takes_low to from q l.0

    made_low : (e : Event) → IsServed e → LowMade (n + 1) (part_step h (part_at (tile_for_event h e) m) e None (parcel_taken e m))
    made_low (Event.Do a c) s = command_low (part_at (tile_of h a) m) a c (part_low (tile_of h a))
    made_low (Event.Take to from) s = link_low to from (link_at from to m) (low_at_link n from to m low)
    made_low (Event.Tend a) s = low_deed_more n (of_kernel (kernel_tend h m.kernel a)) (kernel_tend_low h n m.kernel a low.seats)
    made_low Event.Close s = low_deed_more n (of_kernel (kernel_close h m.kernel)) (kernel_close_low h n m.kernel low.seats)
    made_low (Event.Order o) s = low_deed_more n (of_kernel (kernel_order h m.kernel o)) (kernel_order_low h n m.kernel o low.seats)
    made_low (Event.Turn a) s = absurd s
    made_low (Event.File l) s = absurd s

    pub step_low : (e : Event) (d : MachineResult) → IsServed e → machine_step h m e None ≡ Some d → CountersBounded (n + 1) d.machine
    step_low e d s is = low_done n (tile_for_event h e) e m (part_step h (part_at (tile_for_event h e) m) e None (parcel_taken e m)) d low (made_low e s) is

    pub turn_step_low : (a : ℕ) (made : Option Made) (d : MachineResult) → machine_step h m (Event.Turn a) made ≡ Some d → CountersBounded (n + 1) d.machine
    turn_step_low a made d is = low_done n (tile_of h a) (Event.Turn a) m (part_step h (part_at (tile_of h a) m) (Event.Turn a) made None) d low (turn_low h n (part_at (tile_of h a) m) (part_low (tile_of h a)) a made) is

-- ---- what comes back

tokens_low : (es : List Endpoint) → ((ep : ℕ) → next_token_at (get_or es ep Free) ≤ most_next) → list_all has_bounded_token es ≡ true
tokens_low [] l = refl
tokens_low (e ∷ es) l = both (has_bounded_token e) (list_all has_bounded_token es) (let z = l 0 in grind (arith, nat_tests, z)) (tokens_low es (λ ep. l (suc ep)))
  where
    both : (a b : Bool) → a ≡ true → b ≡ true → (a && b) ≡ true
    both true true p q = refl
    both true false p q = q
    both false b p q = p

context_low : (n : ℕ) (c : Context) → n ≤ 2097152 → HasBoundedCounters n c → has_bounded_counters c ≡ true
context_low n c few low = both (nat_le c.next most_next) (list_all has_bounded_token c.endpoints) (let z = low.number in grind (arith, nat_tests, z, few)) (tokens_low c.endpoints (λ ep. let z = low.tokens ep in omega (arith, z, few)))
  where
    both : (a b : Bool) → a ≡ true → b ≡ true → (a && b) ≡ true
    both true true p q = refl
    both true false p q = q
    both false b p q = p

pub low_comes : (n : ℕ) (m : Machine) → n ≤ 2097152 → CountersBounded n m → RestoresBounded m
low_comes n m few low t from a c xs qs e = context_low n c few (subst (LinkBounded n) e (low_at_link n from t m low)).0
