-- Who comes is restored.
use Rattle.std.proofs.Common.{◌≡◌, ℕ, ◌<◌, false, List, [], ◌∷◌, ◌++◌, length, get_or, set, Option, Some, None, sym, ap, ◌∙◌, subst}
use Rattle.std.specs.Prelude.{◌||◌}
use Rattle.m3_sched.specs.SchedView.{Scheduler, with_yield}
use Rattle.m3_base.specs.declared.event.Said.{Said}
use Rattle.m3_core.specs.declared.parcel.Emit.{Emit}
use Rattle.m3_core.specs.declared.parcel.Parcel.{Parcel as CodeParcel}
use Rattle.m3_model.specs.Config.Site.{Site, tile_of}
use Rattle.m3_model.specs.Parcel.{Parcel, Restore}
use Rattle.m3_model.specs.Kernel.State.{EntryResidency, Is_placed, Is_coming, ActivityEntry, Kernel}
use Rattle.m3_model.specs.LocalStep.{LocalResult}
use Rattle.m3_kernel.specs.ParcelView.{parcel_of, out_of}
use Rattle.m3_model.specs.Kernel.Step.{with_entry, with_yielded, with_residency, is_placed_entry, is_leaving_entry, is_coming_entry, then_restore, with_restore, with_restore_of}
use Rattle.m3_kernel.specs.ActivityView.{seat_value, seats_of, Restores}
use Rattle.m3_kernel.specs.LookupTables.{AreTables}
use Rattle.m3_kernel.specs.KernelStateView.{kernel_in, IsKept}
use Rattle.m3_kernel.specs.StepContracts.{Does, IsDue}
use Rattle.m3_kernel.specs.declared.done.Done.{Done}
use Rattle.m3_kernel.specs.declared.seat.Seat.{Seat as CodeSeat}
use Rattle.m3_kernel.specs.declared.state.State.{State}
use Rattle.m3_kernel.proofs.PerformSwitch.{same_seat}
use Rattle.m3_kernel.proofs.ChangeEntry.{tables_now, kernel_now}
use Rattle.m3_kernel.proofs.StepOutcome.{restored_done, restores_does}

abbrev placed_now : ActivityEntry → ActivityEntry
placed_now z = record z { seating = Is_placed }

abbrev pub restored_deed : Said → ℕ → Kernel → List (ℕ × Parcel) → LocalResult Kernel
restored_deed said a k out = record { outcome = record { made = None; said = said; restore = Some a }; part = k; out = out }

module _ (s : State) (kept : IsKept s) (t at : ℕ) (due : IsDue s.site t (kernel_in s) at) (x y : CodeSeat) (within : at < length s.seats.items) (was : x ≡ get_or s.seats.items at x) (now : seat_value y ≡ record (seat_value x) { seating = Is_placed }) (q : Scheduler) (came : q ≡ with_yield t false s.sched) where
  abbrev h : Site
  h = s.site

  abbrev k : Kernel
  k = kernel_in s

  x_is : due.seat ≡ seat_value x
  x_is = same_seat s at due.seat x due.here was

  comes : (seat_value x).seating ≡ Is_coming due.away
  comes = ap (λ z. z.seating) (sym x_is) ∙ due.comes

  abbrev items_now : List CodeSeat
  items_now = set s.seats.items at y

  pub restore_tables : AreTables h (seats_of items_now) s.index.items s.berths.items
  restore_tables = tables_now s kept at x y within was (ap (λ z. z.act) now)
      (ap (λ z. is_leaving_entry z.seating) now ∙ sym (ap is_leaving_entry comes))
      (ap (λ z. is_placed_entry z.seating || is_coming_entry z.seating) now ∙ sym (ap (λ q. is_placed_entry q || is_coming_entry q) comes))

  abbrev restored_kernel : Kernel
  restored_kernel = record k { seats = seats_of items_now; ready = q.ready; yielded = q.yielded }

  seated_now : with_residency Is_placed due.seat k ≡ record k { seats = seats_of items_now }
  seated_now = ap (λ z. with_entry z k) (ap placed_now x_is ∙ sym now) ∙ kernel_now s kept at x y within was (ap (λ z. z.act) now)

  kernel_then : with_yielded (tile_of h due.seat.act) false (with_residency Is_placed due.seat k) ≡ restored_kernel
  kernel_then =
      ap (λ u. with_yielded u false (with_residency Is_placed due.seat k)) due.home
      ∙ ap (with_yielded t false) seated_now
      ∙ ap (λ (z : Scheduler). record k { seats = seats_of items_now; ready = z.ready; yielded = z.yielded }) (sym came)

  restored_is : (said : Said) (out : List (ℕ × Parcel)) → then_restore h said t k out ≡ restored_deed said due.seat.act restored_kernel (out ++ (t, Restore due.away.context.act due.away.context due.away.heard) ∷ [])
  restored_is said out =
      ap (with_restore h said t k out) due.due
      ∙ ap (with_restore_of h said t k out due.seat) due.comes
      ∙ ap (λ q. restored_deed said due.seat.act q (out ++ (tile_of h due.seat.act, Restore due.away.context.act due.away.context due.away.heard) ∷ [])) kernel_then
      ∙ ap (λ u. restored_deed said due.seat.act restored_kernel (out ++ (u, Restore due.away.context.act due.away.context due.away.heard) ∷ [])) due.home

  pub restore_does : (done : Done) (said : Said) (first : Option Emit) (n : ℕ) (parcel : CodeParcel) (u : CodeSeat) → u ≡ get_or s.seats.items at u → n ≡ (seat_value u).act → Restores (seat_value x).seating (parcel_of parcel) → done ≡ restored_done said first n (record { to = t; parcel = parcel })
      → Does done restored_kernel (then_restore h said t k (out_of first))
  restore_does done said first n parcel u was_u act restores e =
      let p : parcel_of parcel ≡ Restore due.away.context.act due.away.context due.away.heard = subst (λ (w : EntryResidency). Restores w (parcel_of parcel)) comes restores in
      restores_does done said first n (record { to = t; parcel = parcel }) restored_kernel (then_restore h said t k (out_of first)) e (
      restored_is said (out_of first)
      ∙ ap (λ a. restored_deed said a restored_kernel (out_of first ++ (t, Restore due.away.context.act due.away.context due.away.heard) ∷ [])) (ap (λ z. z.act) (same_seat s at due.seat u due.here was_u) ∙ sym act)
      ∙ ap (λ w. restored_deed said n restored_kernel (out_of first ++ (t, w) ∷ [])) (sym p)
      )
