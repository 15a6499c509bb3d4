-- A switch that is allowed, and what it leaves.
use Rattle.std.proofs.Common.{◌≡◌, ℕ, ◌<◌, Bool, true, false, cond, List, [], ◌∷◌, get_or, set, Option, Some, None, refl, sym, ap, ◌∙◌, subst, arith}
use Rattle.std.specs.Prelude.{slice_get, slice_set, ◌==◌}
use Rattle.std.specs.List.{list_any}
use Rattle.std.proofs.lemmas.Bool.Decides.{nat_tests}
use Rattle.m3_base.specs.declared.event.Said.{Said}
use Rattle.m3_base.specs.declared.event.No.{No}
use Rattle.m3_model.specs.Config.Site.{Site, tile_of}
use Rattle.m3_model.specs.Parcel.{Save}
use Rattle.m3_model.specs.Kernel.State.{SavedActivity, EntryResidency, Is_placed, Is_leaving, Is_resting, Is_coming, ActivityEntry, Kernel}
use Rattle.m3_model.specs.LocalStep.{local_result}
use Rattle.m3_model.specs.Kernel.Step.{entry_of, with_entry, with_residency, leave_ready, is_moving_at, placed_at, switch, switch_entry, after_switch}
use Rattle.m3_kernel.specs.ActivityView.{seat_value, seats_of, place_of, coming_from}
use Rattle.m3_kernel.specs.LookupTables.{is_of, AreTables, IsHeldSet}
use Rattle.m3_kernel.specs.KernelStateView.{kernel_in, IsKept}
use Rattle.m3_kernel.specs.StepContracts.{IsSeatOf, IsLeaver, IsSwitch}
use Rattle.m3_kernel.specs.declared.seat.Place.{Place}
use Rattle.m3_kernel.specs.declared.seat.Seat.{Seat as CodeSeat}
use Rattle.m3_kernel.specs.declared.berth.Berth.{Berth}
use Rattle.m3_kernel.specs.declared.state.State.{State}
use Rattle.m3_kernel.specs.declared.state.switch.Switch.{Switch}
use Rattle.m3_sched.specs.SchedView.{Scheduler, without_ready}
use Rattle.m3_kernel.proofs.UniqueElement.{get_set, only_kept}
use Rattle.m3_kernel.proofs.TableLookup.{seat_here, within_seats}
use Rattle.m3_kernel.proofs.HeldSet.{held_same}
use Rattle.m3_kernel.proofs.TablesAfterChange.{tables_swap}
use Rattle.m3_kernel.proofs.ReplaceEntry.{own_place, with_seat_set, seats_set}

-- the code's seat there is the seat there
pub same_seat : (s : State) (at : ℕ) (seat : ActivityEntry) (x : CodeSeat) → slice_get (kernel_in s).seats at ≡ Some seat → x ≡ get_or s.seats.items at x → seat ≡ seat_value x
same_seat s at seat x here is =
    let e : Some seat ≡ Some (seat_value x) = sym here ∙ seat_here s.seats.items at x (within_seats s.seats.items at seat here) is in
    cc

resting_by : (w : EntryResidency) → place_of w ≡ Place.Resting → (y : SavedActivity) × (w ≡ Is_resting y)
resting_by Is_placed e = absurd (cc)
resting_by Is_leaving e = absurd (cc)
resting_by (Is_resting y) e = (y, refl)
resting_by (Is_coming y) e = absurd (cc)

pub is_switch : (s : State) (t a : ℕ) (w : Switch) (comes : IsSeatOf (kernel_in s) a w.comes) → IsLeaver s t w.leaves → (x : CodeSeat) → x ≡ get_or s.seats.items w.comes x → place_of (seat_value x).seating ≡ Place.Resting → tile_of s.site a ≡ t → IsSwitch s t a w
is_switch s t a w comes leaves x is rests home =
    let y = resting_by comes.seat.seating (ap (λ z. place_of z.seating) (same_seat s w.comes comes.seat x comes.here is) ∙ rests) in
    record { away = y.0; leaves = leaves; comes = comes; resting = y.1; home = ap (tile_of s.site) comes.act ∙ home }

abbrev sits_now : EntryResidency → ActivityEntry → ActivityEntry
sits_now w z = record z { seating = w }

abbrev leaving_now : ActivityEntry → ActivityEntry
leaving_now z = record z { seating = Is_leaving }

abbrev coming_now : ActivityEntry → ActivityEntry
coming_now z = record z { seating = coming_from z.seating }

module _ (s : State) (kept : IsKept s) (t a : ℕ) (low : t < 16) (w : Switch) (ok : IsSwitch s t a w) where
  abbrev h : Site
  h = s.site

  abbrev k : Kernel
  k = kernel_in s

  abbrev b : ActivityEntry
  b = ok.leaves.seat

  abbrev x : ActivityEntry
  x = ok.comes.seat

  abbrev y : SavedActivity
  y = ok.away

  abbrev left_b : ActivityEntry
  left_b = record b { seating = Is_leaving }

  abbrev come_x : ActivityEntry
  come_x = record x { seating = Is_coming y }

  switched_by : (m : Bool) (o : Option ActivityEntry) → cond m None o ≡ Some b → cond m (local_result (Said.No No.Leaving) k []) (after_switch h k t x y o) ≡ after_switch h k t x y (Some b)
  switched_by true o e = absurd (cc)
  switched_by false o e = ap (after_switch h k t x y) e

  -- the step is the switch
  step : switch h k t (entry_of a k) ≡ after_switch h k t x y (Some b)
  step =
      ap (switch h k t) ok.comes.found
      ∙ ap (λ c. cond c (switch_entry h k t x x.seating) (local_result (Said.No No.NotHome) k [])) (let e = ok.home in let n : (tile_of h x.act == t) ≡ true = grind (arith, nat_tests, e) in n)
      ∙ ap (switch_entry h k t x) ok.resting
      ∙ switched_by (list_any (is_moving_at h t) k.seats) (placed_at h t k.seats) ok.leaves.leaves

  apart : slice_get (slice_set k.seats w.leaves left_b) w.comes ≡ Some x
  apart = by_test (w.comes == w.leaves) refl
    where
      by_test : (d : Bool) → (w.comes == w.leaves) ≡ d → slice_get (slice_set k.seats w.leaves left_b) w.comes ≡ Some x
      by_test false d = get_set k.seats w.leaves w.comes b left_b ok.leaves.here ∙ ap (λ c. cond c (Some left_b) (slice_get k.seats w.comes)) d ∙ ok.comes.here
      by_test true d =
          let n : w.comes ≡ w.leaves = grind (arith, nat_tests, d) in
          let e : Some x ≡ Some b = sym ok.comes.here ∙ ap (slice_get k.seats) n ∙ ok.leaves.here in
          let f : x ≡ b = cc in
          let g : Is_resting y ≡ Is_placed = sym ok.resting ∙ ap (λ z. z.seating) f ∙ ok.leaves.placed in
          absurd (cc)

  abbrev swapped : List ActivityEntry
  swapped = slice_set (slice_set k.seats w.leaves left_b) w.comes come_x

  seats_then : with_entry come_x (with_entry left_b k) ≡ record k { seats = swapped }
  seats_then =
      ap (with_entry come_x) (with_seat_set k w.leaves left_b (own_place h k.seats s.index.items s.berths.items kept.tables w.leaves b ok.leaves.here))
      ∙ with_seat_set (record k { seats = slice_set k.seats w.leaves left_b }) w.comes come_x
      (only_kept (is_of x.act) k.seats (Some w.comes) w.leaves b left_b ok.leaves.here (own_place h k.seats s.index.items s.berths.items kept.tables w.comes x ok.comes.here) refl)

  kernel_then : leave_ready t x.act (with_residency (Is_coming y) x (with_residency Is_leaving b k)) ≡ record k { seats = swapped; ready = (without_ready t x.act s.sched).ready }
  kernel_then = ap (leave_ready t x.act) seats_then

  module _ (u v : CodeSeat) (l : CodeSeat) (c : CodeSeat) (was_l : l ≡ get_or s.seats.items w.leaves l) (u_is : seat_value u ≡ record (seat_value l) { seating = Is_leaving }) (was_c : c ≡ get_or (set s.seats.items w.leaves u) w.comes c) (v_is : seat_value v ≡ record (seat_value c) { seating = coming_from (seat_value c).seating }) where
    b_is : b ≡ seat_value l
    b_is = same_seat s w.leaves b l ok.leaves.here was_l

    u_left : seat_value u ≡ left_b
    u_left = u_is ∙ ap leaving_now (sym b_is)

    left_seats : seats_of (set s.seats.items w.leaves u) ≡ slice_set k.seats w.leaves left_b
    left_seats = seats_set s.seats.items w.leaves u ∙ ap (slice_set k.seats w.leaves) u_left

    comer_now : slice_get (seats_of (set s.seats.items w.leaves u)) w.comes ≡ Some x
    comer_now = ap (λ xs. slice_get xs w.comes) left_seats ∙ apart

    x_is : x ≡ seat_value c
    x_is =
        let e : Some x ≡ Some (seat_value c) = sym comer_now ∙ seat_here (set s.seats.items w.leaves u) w.comes c (within_seats (set s.seats.items w.leaves u) w.comes x comer_now) was_c in
        cc

    v_come : seat_value v ≡ come_x
    v_come = v_is ∙ ap coming_now (sym x_is) ∙ ap (λ q. sits_now (coming_from q) x) ok.resting

    pub seats_now : seats_of (set (set s.seats.items w.leaves u) w.comes v) ≡ swapped
    seats_now = seats_set (set s.seats.items w.leaves u) w.comes v ∙ ap (slice_set (seats_of (set s.seats.items w.leaves u)) w.comes) v_come ∙ ap (λ xs. slice_set xs w.comes come_x) left_seats

    pub held_swapped : IsHeldSet (seats_of (set (set s.seats.items w.leaves u) w.comes v)) s.held
    held_swapped =
        subst (λ (xs : List ActivityEntry). IsHeldSet xs s.held) (sym seats_now) (
        held_same (slice_set k.seats w.leaves left_b) w.comes x come_x apart refl s.held s.held (held_same k.seats w.leaves b left_b ok.leaves.here refl s.held s.held kept.held refl refl) refl refl
        )

    module _ (i : ℕ) (tile : i ≡ t) where
      abbrev pub berths_now : List Berth
      berths_now = slice_set s.berths.items i (record { leaving = Some w.leaves; there = Some w.comes })

      pub tables_now : AreTables h (seats_of (set (set s.seats.items w.leaves u) w.comes v)) s.index.items berths_now
      tables_now =
          subst (λ (j : ℕ). AreTables h (seats_of (set (set s.seats.items w.leaves u) w.comes v)) s.index.items (slice_set s.berths.items j (record { leaving = Some w.leaves; there = Some w.comes }))) (sym tile) (
          subst (λ (xs : List ActivityEntry). AreTables h xs s.index.items (slice_set s.berths.items t (record { leaving = Some w.leaves; there = Some w.comes }))) (sym seats_now) (
          tables_swap h k.seats s.index.items s.berths.items kept.tables t low w.leaves w.comes b x left_b come_x ok.leaves.here ok.comes.here ok.leaves.placed y ok.resting ok.leaves.home ok.home ok.leaves.nobody ok.leaves.there refl refl refl refl (record { leaving = Some w.leaves; there = Some w.comes }) refl refl
          )
          )

      module _ (q : Scheduler) (out : q ≡ without_ready t a s.sched) where
        abbrev pub kernel_now : Kernel
        kernel_now = record k { seats = seats_of (set (set s.seats.items w.leaves u) w.comes v); ready = q.ready; yielded = q.yielded }

        step_is : switch h k t (entry_of a k) ≡ local_result (Said.Save b.act) kernel_now ((t, Save b.act) ∷ [])
        step_is =
            step
            ∙ ap (λ p. local_result (Said.Save b.act) p ((t, Save b.act) ∷ [])) (
            kernel_then
            ∙ ap (λ n. record k { seats = swapped; ready = (without_ready t n s.sched).ready }) ok.comes.act
            ∙ ap (λ xs. record k { seats = xs; ready = (without_ready t a s.sched).ready }) (sym seats_now)
            ∙ ap (λ (z : Scheduler). record k { seats = seats_of (set (set s.seats.items w.leaves u) w.comes v); ready = z.ready; yielded = z.yielded }) (sym out)
            )

        pub switch_orders : (n : ℕ) (c : CodeSeat) → c ≡ get_or s.seats.items w.leaves c → n ≡ (seat_value c).act → switch h k t (entry_of a k) ≡ local_result (Said.Save n) kernel_now ((t, Save n) ∷ [])
        switch_orders n c was_c act =
            let same : n ≡ b.act = act ∙ sym (ap (λ z. z.act) (same_seat s w.leaves b c ok.leaves.here was_c)) in
            step_is ∙ ap (λ m. local_result (Said.Save m) kernel_now ((t, Save m) ∷ [])) (sym same)
