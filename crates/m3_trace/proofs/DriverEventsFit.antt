-- What the driver does next names activities and tiles of the setup alone, where the orders that are left do.
use Rattle.std.proofs.Common.{◌≡◌, ℕ, ◌+◌, ◌*◌, ◌<◌, Bool, true, false, List, [], ◌∷◌, Option, Some, None, refl, ◌∙◌, ap, arith}
use Rattle.std.specs.Prelude.{not, ◌&&◌, ◌==◌, length, is_some, nat_lt, slice_index_or, if◌then◌else◌}
use Rattle.std.specs.List.{list_any}
use Rattle.m3_base.specs.declared.event.Event.{Event}
use Rattle.m3_base.specs.declared.order.Order.{Order}
use Rattle.m3_base.specs.Ideal.Context.{Context}
use Rattle.m3_base.specs.Lists.EachElement.{Each}
use Rattle.m3_base.specs.Placement.Driver.{tiles, first_for, first_some, least_of, tend_of, close_of, order_of, switch_to}
use Rattle.m3_base.specs.Placement.Order.{least_closing}
use Rattle.m3_model.specs.Config.KnownActivities.{is_home}
use Rattle.m3_model.specs.Config.Site.{Home, Site, has_program, home_has_program, home_of}
use Rattle.m3_model.specs.Invariant.Structure.{MachineStructure}
use Rattle.m3_model.specs.Kernel.State.{ActivityEntry}
use Rattle.m3_model.specs.Kernel.Step.{is_moving_at, ready_at}
use Rattle.m3_model.specs.Machine.{Machine, tile_at}
use Rattle.m3_model.specs.Parcel.{Parcel}
use Rattle.m3_model.specs.ReadyLists.{IsReadyAt, ReadyOk}
use Rattle.m3_model.specs.Tile.State.{Resident, Tile}
use Rattle.m3_model.specs.Tile.Step.{is_waiting, resident_of}
use Rattle.m3_refine.proofs.abstraction.EntriesMatchActors.{AreSeats, are_seats}
use Rattle.m3_refine.proofs.lists.EachElement.{InSome}
use Rattle.m3_model.specs.Kernel.Driver.{can_tend, least_tend, wanted_at}
use Rattle.m3_trace.specs.Continuation.{FitsSetup}
use Rattle.m3_trace.specs.DriverOfMachine.{next_event_left, next_take, next_take_at, next_take_on, take_if, take_on, turn_at, turn_by}

below : Each (λ t. t < 16) tiles
below = (omega arith, (omega arith, (omega arith, (omega arith, (omega arith, (omega arith, (omega arith, (omega arith, (omega arith, (omega arith, (omega arith, (omega arith, (omega arith, (omega arith, (omega arith, (omega arith, tt))))))))))))))))

program_home : (o : Option Home) → home_has_program o ≡ true → is_some o ≡ true
program_home None e = absurd (cc)
program_home (Some x) e = refl

-- who has a program has a home
pub programmed_home : (h : Site) (a : ℕ) → has_program h a ≡ true → is_home h a ≡ true
programmed_home h a e = program_home (home_of a h) e

module _ (h : Site) where
  first_fits : (os : List (Option Event)) → Each (InSome (FitsSetup h)) os → InSome (FitsSetup h) (first_some os)
  first_fits [] e = tt
  first_fits (None ∷ os) e = first_fits os e.1
  first_fits (Some x ∷ os) e = e.0

  for_fits : (ts : List ℕ) (f : ℕ → Option Event) → Each (λ t. t < 16) ts → ((t : ℕ) → t < 16 → InSome (FitsSetup h) (f t)) → InSome (FitsSetup h) (first_for ts f)
  for_fits [] f low k = tt
  for_fits (t ∷ ts) f low k = first_fits (f t ∷ first_for ts f ∷ []) (k t low.0, (for_fits ts f low.1 k, tt))

  -- ---- takes

  take_fits : (to from : ℕ) → to < 16 → from < 16 → (qs : List Parcel) → InSome (FitsSetup h) (take_if to from qs)
  take_fits to from a b [] = tt
  take_fits to from a b (q ∷ qs) = (tt, (a, b), tt)

  takes_fit : (links : List (List Parcel)) (to : ℕ) → to < 16 → InSome (FitsSetup h) (next_take_at links to)
  unfolding next_take_at
  takes_fit links to high = for_fits tiles (take_on links to) below (λ from low. take_fits to from high low (slice_index_or links (16 * from + to) []))

  all_takes : (m : Machine) → InSome (FitsSetup h) (next_take m)
  unfolding next_take_on
  all_takes m = for_fits tiles (next_take_at m.links) below (takes_fit m.links)

  -- ---- tends

  abbrev Known : ℕ → Type 0
  Known a = is_home h a ≡ true

  least_known : (xs : List ActivityEntry) → Each (λ x. is_home h x.act ≡ true) xs → InSome Known (least_tend xs)
  least_known [] e = tt
  least_known (x ∷ xs) e = by_test (can_tend x) (least_known xs e.1)
    where
      by_least : (b : Bool) (n : ℕ) → Known n → Known (if b then n else x.act)
      by_least true n k = k
      by_least false n k = e.0

      least_one : (o : Option ℕ) → InSome Known o → Known (least_of o x.act)
      least_one None k = e.0
      least_one (Some n) k = by_least (nat_lt n x.act) n k

      by_test : (b : Bool) → InSome Known (least_tend xs) → InSome Known (if b then Some (least_of (least_tend xs) x.act) else least_tend xs)
      by_test true k = least_one (least_tend xs) k
      by_test false k = k

  tend_fits : (o : Option ℕ) → InSome Known o → InSome (FitsSetup h) (tend_of o)
  tend_fits None k = tt
  tend_fits (Some a) k = (k, tt, tt)

  close_fits : (o : Option ℕ) → InSome (FitsSetup h) (close_of o)
  close_fits None = tt
  close_fits (Some g) = (tt, tt, tt)

  order_fits : (left : List Order) → Each (λ o. FitsSetup h (Event.Order o)) left → InSome (FitsSetup h) (order_of left)
  order_fits [] e = tt
  order_fits (o ∷ os) e = e.0

  -- ---- switches and turns

  switch_fits : (t : ℕ) → t < 16 → (xs : List ℕ) → Each (IsReadyAt h t) xs → InSome (FitsSetup h) (switch_to t xs)
  switch_fits t low [] e = tt
  switch_fits t low (a ∷ xs) e = (programmed_home h a e.0.1, low, tt)

  turn_fits : (x : Context) (o : Option Resident) → InSome (FitsSetup h) (turn_by h x o)
  turn_fits x None = tt
  turn_fits x (Some y) = by_test (has_program h x.act) (not y.ended && (not (not (length x.flying == 0)) && not (y.yield_sent && is_waiting x y))) refl
    where
      by_test : (b c : Bool) → has_program h x.act ≡ b → InSome (FitsSetup h) (if b && c then Some (Event.Turn x.act) else None)
      by_test true true e = (tt, tt, e)
      by_test true false e = tt
      by_test false c e = tt

  turns_fit : (t : Tile) (o : Option Context) → InSome (FitsSetup h) (turn_at h t o)
  turns_fit t None = tt
  turns_fit t (Some x) = turn_fits x (resident_of x.act t)

  module _ (m : Machine) (sound : MachineStructure h m) (ready : ReadyOk h m.kernel) where
    wanted_fits : (t : ℕ) → t < 16 → InSome (FitsSetup h) (wanted_at h m.kernel t)
    wanted_fits t low = by_test (not (list_any (is_moving_at h t) m.kernel.seats) && slice_index_or m.kernel.yielded t false)
      where
        by_test : (b : Bool) → InSome (FitsSetup h) (if b then switch_to t (ready_at t m.kernel) else None)
        by_test true = switch_fits t low (ready_at t m.kernel) (ready t)
        by_test false = tt

    seats_known : (xs : List ActivityEntry) (ys : List Home) → AreSeats h m.kernel xs ys → Each (λ x. is_home h x.act ≡ true) xs
    seats_known [] [] s = tt
    seats_known [] (y ∷ ys) s = tt
    seats_known (x ∷ xs) [] s = absurd s
    seats_known (x ∷ xs) (y ∷ ys) s = (ap (is_home h) s.0.act ∙ ap is_some s.0.home, seats_known xs ys s.1)

    pub next_fits : (left : List Order) → Each (λ o. FitsSetup h (Event.Order o)) left → InSome (FitsSetup h) (next_event_left h m left)
    next_fits left e =
        let turns : ℕ → Option Event = (λ t. turn_at h (tile_at t m) (tile_at t m).current) in
        first_fits (next_take m ∷ tend_of (least_tend m.kernel.seats) ∷ close_of (least_closing m.kernel.grants 1 m.kernel.grants) ∷ order_of left ∷ first_for tiles (wanted_at h m.kernel) ∷ first_for tiles turns ∷ []) (
          all_takes m,
          (
            tend_fits (least_tend m.kernel.seats) (least_known m.kernel.seats (seats_known m.kernel.seats h.homes (are_seats h m.kernel sound.housed.seats sound.setup.homes))),
            (
              close_fits (least_closing m.kernel.grants 1 m.kernel.grants),
              (order_fits left e, (for_fits tiles (wanted_at h m.kernel) below wanted_fits, (for_fits tiles turns below (λ t low. turns_fit (tile_at t m) (tile_at t m).current), tt))),
            ),
          ),
        )
