-- Yield and Saved, as the kernel takes them.
use Rattle.std.proofs.Common.{◌≡◌, ℕ, ◌<◌, Bool, true, false, cond, List, [], length, get_or, set, Some, None, refl, sym, ap, ◌∙◌, subst, arith}
use Rattle.std.specs.Prelude.{◌&&◌, ◌||◌, not}
use Rattle.std.proofs.lemmas.List.{get_or_default}
use Rattle.m3_base.specs.declared.event.Said.{Said}
use Rattle.m3_base.specs.Ideal.Context.{Context}
use Rattle.m3_model.specs.Config.Site.{Site, tile_of, has_program}
use Rattle.m3_model.specs.Kernel.State.{EntryResidency, Is_placed, Is_leaving, Is_resting, Is_coming, ActivityEntry, Kernel}
use Rattle.m3_model.specs.LocalStep.{LocalResult, local_result, dropped_result}
use Rattle.m3_model.specs.Kernel.Step.{entry_of, with_entry, with_yielded, with_residency, join_ready, is_placed_entry, is_leaving_entry, is_coming_entry, then_restore, take_yield, take_saved, residency_of_saved}
use Rattle.m3_kernel.specs.ActivityView.{seat_value, seats_of, place_of}
use Rattle.m3_kernel.specs.LookupTables.{empty_berth, berth_at, AreTables}
use Rattle.m3_kernel.specs.KernelStateView.{kernel_in, IsKept}
use Rattle.m3_kernel.specs.StepContracts.{IsSeatOf, IsLeavingAt}
use Rattle.m3_kernel.specs.declared.seat.Place.{Place}
use Rattle.m3_kernel.specs.declared.seat.Seat.{Seat as CodeSeat}
use Rattle.m3_kernel.specs.declared.berth.Berth.{Berth}
use Rattle.m3_kernel.specs.declared.state.State.{State}
use Rattle.m3_sched.specs.SchedView.{Scheduler, with_ready_if, with_yield}
use Rattle.m3_kernel.proofs.JoinReady.{join_is}
use Rattle.m3_kernel.proofs.PerformSwitch.{same_seat}
use Rattle.m3_kernel.proofs.ChangeEntry.{kernel_now}
use Rattle.m3_kernel.proofs.ReplaceEntry.{seats_set}
use Rattle.m3_kernel.proofs.TablesAfterChange.{tables_rest}
use Rattle.m3_kernel.proofs.TableLookup.{within_seats, seat_here}

leaving_not : (w : EntryResidency) → (place_of w ≡ Place.Leaving → ⊥) → is_leaving_entry w ≡ false
leaving_not Is_placed e = refl
leaving_not Is_leaving e = absurd (e refl)
leaving_not (Is_resting y) e = refl
leaving_not (Is_coming y) e = refl

at_tile : (w : EntryResidency) → (place_of w ≡ Place.Resting → ⊥) → (place_of w ≡ Place.Coming → ⊥) → (is_placed_entry w || is_leaving_entry w) ≡ true
at_tile Is_placed e f = refl
at_tile Is_leaving e f = refl
at_tile (Is_resting y) e f = absurd (e refl)
at_tile (Is_coming y) e f = absurd (f refl)

pub leaving_there : (k : Kernel) (a at : ℕ) (place : IsSeatOf k a at) → IsLeavingAt k at → place.seat.seating ≡ Is_leaving
leaving_there k a at place l =
    let e : Some place.seat ≡ Some l.seat = sym place.here ∙ l.here in
    let f : place.seat ≡ l.seat = cc in
    ap (λ z. z.seating) f ∙ l.leaves

module _ (s : State) (kept : IsKept s) (a at : ℕ) (place : IsSeatOf (kernel_in s) a at) (x : CodeSeat) (was : x ≡ get_or s.seats.items at x) where
  abbrev h : Site
  h = s.site

  abbrev k : Kernel
  k = kernel_in s

  pub is_it : place.seat ≡ seat_value x
  is_it = same_seat s at place.seat x place.here was

  pub saved_dropped : (c : Context) (w e : Bool) → (place_of (seat_value x).seating ≡ Place.Leaving → ⊥) → take_saved h k c w e (entry_of a k) ≡ dropped_result k
  saved_dropped c w e n =
      ap (take_saved h k c w e) (place.found ∙ ap (λ z. Some z) is_it)
      ∙ ap (λ b. cond b (then_restore h (Said.Saved (seat_value x).act) (tile_of h (seat_value x).act) (join_ready (has_program h (seat_value x).act && (not w && not e)) (tile_of h (seat_value x).act) (seat_value x).act (with_residency (residency_of_saved c e) (seat_value x) k)) []) (dropped_result k)) (leaving_not (seat_value x).seating n)

  -- a Yield of its stay was taken
  module _ (t : ℕ) (tile : t ≡ tile_of h a) (q : Scheduler) (yields : q ≡ with_yield t true s.sched) where
    abbrev pub yielded_kernel : Kernel
    yielded_kernel = record k { ready = q.ready; yielded = q.yielded }

    pub yield_is : (place_of (seat_value x).seating ≡ Place.Resting → ⊥) → (place_of (seat_value x).seating ≡ Place.Coming → ⊥)
        → take_yield h k a (entry_of a k) ≡ local_result (Said.Yielded a) yielded_kernel []
    yield_is e f =
        ap (take_yield h k a) (place.found ∙ ap (λ z. Some z) is_it)
        ∙ ap (λ b. cond b (local_result (Said.Yielded a) (with_yielded (tile_of h a) true k) []) (dropped_result k)) (at_tile (seat_value x).seating e f)
        ∙ ap (λ u. local_result (Said.Yielded a) (with_yielded u true k) []) (sym tile)
        ∙ ap (λ (z : Scheduler). local_result (Said.Yielded a) (record k { ready = z.ready; yielded = z.yielded }) []) (sym yields)

  -- who was Leaving rests
  module _ (leaving : place.seat.seating ≡ Is_leaving) (y : CodeSeat) (c : Context) (e : Bool) (now : seat_value y ≡ record (seat_value x) { seating = residency_of_saved c e }) where
    was_leaving : (seat_value x).seating ≡ Is_leaving
    was_leaving = ap (λ z. z.seating) (sym is_it) ∙ leaving

    within : at < length s.seats.items
    within = within_seats s.seats.items at place.seat place.here

    abbrev items_now : List CodeSeat
    items_now = set s.seats.items at y

    module _ (i : ℕ) (tile : i ≡ tile_of h a) (low : i < 16) (r : Berth) (was_r : r ≡ get_or s.berths.items i r) where
      low_i : i < length s.berths.items
      low_i = let n = kept.tables.tiles in omega arith

      read : r ≡ berth_at s.berths.items i
      read = was_r ∙ get_or_default s.berths.items i r empty_berth low_i

      abbrev left_berth : Berth
      left_berth = record { leaving = None; there = r.there }

      pub rest_tables : AreTables h (seats_of items_now) s.index.items (set s.berths.items i left_berth)
      rest_tables =
          subst (λ (xs : List ActivityEntry). AreTables h xs s.index.items (set s.berths.items i left_berth)) (sym (seats_set s.seats.items at y)) (
          tables_rest h k.seats s.index.items s.berths.items kept.tables at (seat_value x) (seat_value y) (seat_here s.seats.items at x within was) (ap (λ z. z.act) now)
          i (ap (λ z. tile_of h z.act) (sym is_it) ∙ ap (tile_of h) place.act ∙ sym tile) low
          (ap is_leaving_entry was_leaving) (ap (λ z. is_leaving_entry z.seating) now)
          (ap (λ z. is_placed_entry z.seating || is_coming_entry z.seating) now ∙ sym (ap (λ q. is_placed_entry q || is_coming_entry q) was_leaving))
          left_berth refl (ap (λ b. b.there) read)
          )

    abbrev rests_now : ActivityEntry → ActivityEntry
    rests_now z = record z { seating = residency_of_saved c e }

    rested : with_residency (residency_of_saved c e) place.seat k ≡ record k { seats = seats_of items_now }
    rested = ap (λ z. with_entry z k) (ap rests_now is_it ∙ sym now) ∙ kernel_now s kept at x y within was (ap (λ z. z.act) now)

    -- whether it is ready then
    abbrev pub joins_saved : Bool → Bool
    joins_saved w = has_program h a && (not w && not e)

    module _ (w : Bool) (t : ℕ) (tile : t ≡ tile_of h a) (q : Scheduler) (joins : q ≡ with_ready_if (joins_saved w) t a s.sched) where
      abbrev pub rested_kernel : Kernel
      rested_kernel = record k { seats = seats_of items_now; ready = q.ready; yielded = q.yielded }

      abbrev saved_then : ℕ → LocalResult Kernel
      saved_then n = then_restore h (Said.Saved n) (tile_of h n) (join_ready (has_program h n && (not w && not e)) (tile_of h n) n (with_residency (residency_of_saved c e) place.seat k)) []

      pub rest_is : take_saved h k c w e (entry_of a k) ≡ then_restore h (Said.Saved a) t rested_kernel []
      rest_is =
          ap (take_saved h k c w e) place.found
          ∙ ap (λ b. cond b (saved_then place.seat.act) (dropped_result k)) (ap is_leaving_entry leaving)
          ∙ ap saved_then place.act
          ∙ ap (λ p. then_restore h (Said.Saved a) (tile_of h a) (join_ready (joins_saved w) (tile_of h a) a p) []) rested
          ∙ ap (λ u. then_restore h (Said.Saved a) u (join_ready (joins_saved w) u a (record k { seats = seats_of items_now })) []) (sym tile)
          ∙ ap (λ p. then_restore h (Said.Saved a) t p []) (
          join_is (joins_saved w) t a (record k { seats = seats_of items_now })
          ∙ ap (λ (z : Scheduler). record k { seats = seats_of items_now; ready = z.ready; yielded = z.yielded }) (sym joins)
          )
