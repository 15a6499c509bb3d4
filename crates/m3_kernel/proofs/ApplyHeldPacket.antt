-- The data after the front of a hold list was applied.
use Rattle.std.proofs.Common.{◌≡◌, ℕ, ◌<◌, Bool, true, false, cond, List, length, get_or, set, Option, Some, None, refl, sym, ap, ◌∙◌, subst, arith}
use Rattle.std.specs.Prelude.{slice_get, ◌==◌, ◌||◌}
use Rattle.std.proofs.lemmas.Bool.Decides.{nat_tests}
use Rattle.std.proofs.lemmas.Option.{slice_get_within}
use Rattle.m3_base.specs.declared.event.IdleWhy.{IdleWhy}
use Rattle.m3_base.specs.declared.packet.Packet.{Packet}
use Rattle.m3_base.specs.Ideal.State.{same_act}
use Rattle.m3_core.specs.declared.parcel.Heard.{Heard}
use Rattle.m3_core.specs.declared.parcel.Emit.{Emit}
use Rattle.m3_model.specs.Config.Site.{Site, tile_of}
use Rattle.m3_model.specs.Kernel.State.{SavedActivity, EntryResidency, Is_placed, Is_leaving, Is_resting, Is_coming, ActivityEntry, Kernel}
use Rattle.m3_model.specs.LocalStep.{idle_result}
use Rattle.m3_kernel.specs.ParcelView.{out_of}
use Rattle.m3_model.specs.Kernel.Step.{entry_of, with_entry, after_packet, answer_routed, after_tend, join_ready, tend_by, kernel_tend, then_restore, is_placed_entry, is_leaving_entry, is_coming_entry}
use Rattle.m3_kernel.specs.ArrivalView.{answers_to, arrival_of}
use Rattle.m3_kernel.specs.ActivityView.{seat_value, seats_of, away_in, first_held, deliverable_front, deliverable_at, with_saved, HasRoom, RemembersAnswer, Delivered}
use Rattle.m3_kernel.specs.LookupTables.{IsOnly, is_of, AreTables}
use Rattle.m3_kernel.specs.KernelStateView.{kernel_in, IsKept, RoomFor, CanRoute}
use Rattle.m3_kernel.specs.StepContracts.{IsSeatOf, IsAwayAt, NoBack, BackIs, CanAnswer, IsThere, AnswersBy, SendsBack}
use Rattle.m3_kernel.specs.declared.came.Came.{Came}
use Rattle.m3_kernel.specs.declared.seat.Seat.{Seat as CodeSeat}
use Rattle.m3_kernel.specs.declared.state.State.{State}
use Rattle.m3_kernel.specs.declared.state.tend.AnswerTarget.{AnswerTarget}
use Rattle.m3_sched.specs.SchedView.{Scheduler, with_ready_if}
use Rattle.m3_kernel.specs.ReadyJoin.{joins_at_tend}
use Rattle.m3_kernel.proofs.JoinReady.{join_is}
use Rattle.m3_kernel.proofs.UniqueElement.{get_set, only_kept}
use Rattle.m3_kernel.proofs.FindEntry.{is_seat}
use Rattle.m3_kernel.proofs.HeardAnswer.{IsAnswerTo, arrive_answers}
use Rattle.m3_kernel.proofs.TableLookup.{within_seats}
use Rattle.m3_kernel.proofs.ReplaceEntry.{seats_set}
use Rattle.m3_kernel.proofs.PerformSwitch.{same_seat}
use Rattle.m3_kernel.proofs.ChangeEntry.{here, code_here, put_here, room_for, tables_now, kernel_now}
use Rattle.m3_kernel.proofs.TendFront.{met_kernel, met_step, unanswered_idle}

sits_leaving : (w : EntryResidency) (y : SavedActivity) → is_leaving_entry (with_saved w y) ≡ is_leaving_entry w
sits_leaving Is_placed y = refl
sits_leaving Is_leaving y = refl
sits_leaving (Is_resting z) y = refl
sits_leaving (Is_coming z) y = refl

sits_there : (w : EntryResidency) (y : SavedActivity) → (is_placed_entry (with_saved w y) || is_coming_entry (with_saved w y)) ≡ (is_placed_entry w || is_coming_entry w)
sits_there Is_placed y = refl
sits_there Is_leaving y = refl
sits_there (Is_resting z) y = refl
sits_there (Is_coming z) y = refl

pub back_there : (k : Kernel) (p : Packet) (back : AnswerTarget) → BackIs k p (Some back) → IsThere k back
back_there k p AnswerTarget.Nobody b = tt
back_there k p (AnswerTarget.To at) b = slice_get_within k.seats at b.place.seat b.place.here

pub no_back_idle : (h : Site) (s : State) (kept : IsKept s) (a at : ℕ) (place : IsSeatOf (kernel_in s) a at) → IsAwayAt (kernel_in s) at → (p : Packet) → deliverable_front place.seat ≡ Some p → NoBack (kernel_in s) p → h ≡ s.site → kernel_tend h (kernel_in s) a ≡ idle_result IdleWhy.EmptyHold (kernel_in s)
no_back_idle h s kept a at place away p front none same =
    let e : Some place.seat ≡ Some away.seat = sym place.here ∙ away.here in
    let f : place.seat ≡ away.seat = cc in
    ap (λ g. kernel_tend g (kernel_in s) a) same
    ∙ ap (tend_by s.site (kernel_in s)) place.found
    ∙ unanswered_idle s.site (kernel_in s) place.seat (ap (λ b. entry_of b (kernel_in s)) place.act ∙ place.found) place.seat.seating away.away p (ap (λ z. away_in z.seating) f ∙ away.is_away) front none

module _ (s : State) (kept : IsKept s) (a at : ℕ) (place : IsSeatOf (kernel_in s) a at) (x y : CodeSeat) (was : x ≡ get_or s.seats.items at x) (came : Came) (met : Delivered (seat_value x) (seat_value y) came) where
  abbrev h : Site
  h = s.site

  abbrev k : Kernel
  k = kernel_in s

  within : at < length s.seats.items
  within = within_seats s.seats.items at place.seat place.here

  is_it : place.seat ≡ seat_value x
  is_it = same_seat s at place.seat x place.here was

  act_same : (seat_value y).act ≡ (seat_value x).act
  act_same = ap (λ z. z.act) met.seat

  abbrev items_now : List CodeSeat
  items_now = set s.seats.items at y

  -- with these ready lists
  abbrev met_as : Scheduler → Kernel
  met_as q = record k { seats = seats_of items_now; ready = q.ready; yielded = q.yielded }

  pub met_tables : AreTables h (seats_of items_now) s.index.items s.berths.items
  met_tables = tables_now s kept at x y within was act_same
      (ap (λ z. is_leaving_entry z.seating) met.seat ∙ sits_leaving (seat_value x).seating (after_packet met.packet met.context met.away))
      (ap (λ z. is_placed_entry z.seating || is_coming_entry z.seating) met.seat ∙ sits_there (seat_value x).seating (after_packet met.packet met.context met.away))

  -- each hold list that had room has it
  met_room : HasRoom y → (b : ℕ) → CanRoute s b → (u : CodeSeat) → slice_get items_now b ≡ Some u → RoomFor u.seating u
  met_room room b can u e = by_place (b == at) refl
    where
      by_place : (t : Bool) → (b == at) ≡ t → RoomFor u.seating u
      by_place true d =
          let n : b ≡ at = grind (arith, nat_tests, d) in
          let f : u ≡ y = put_here s.seats.items at x y u (code_here s.seats.items at x within was) (ap (slice_get items_now) (sym n) ∙ e) in
          subst (λ (v : CodeSeat). RoomFor v.seating v) (sym f) (room_for y y.seating room)
      by_place false d =
          can u (sym (ap (λ t. cond t (Some y) (slice_get s.seats.items b)) d) ∙ sym (get_set s.seats.items at b x y (code_here s.seats.items at x within was)) ∙ e)

  pub met_can : (m : State) → m.seats.items ≡ items_now → HasRoom y → (back : AnswerTarget) → CanAnswer s back → CanAnswer m back
  met_can m e room AnswerTarget.Nobody can = tt
  met_can m e room (AnswerTarget.To b) can = λ u f. met_room room b can u (ap (λ items. slice_get items b) (sym e) ∙ f)

  front_is : deliverable_front (seat_value x) ≡ Some met.packet
  front_is =
      ap (λ o. deliverable_at o (first_held (seat_value x).hold)) met.was
      ∙ ap (λ ps. deliverable_at (Some met.away) (first_held ps)) met.held
      ∙ ap (λ b. cond b (Some met.packet) None) met.fit

  -- the seat of any activity stays where it is
  seat_stays : (q : Scheduler) (b i : ℕ) → IsSeatOf k b i → IsSeatOf (met_as q) b i
  seat_stays q b i p =
      is_seat (met_as q) b i (
      subst (λ (xs : List ActivityEntry). IsOnly (is_of b) xs (Some i)) (sym (seats_set s.seats.items at y)) (
      only_kept (is_of b) k.seats (Some i) at (seat_value x) (seat_value y) (here s kept at x y within was) p.only (ap (same_act b) act_same)
      )
      )

  answers_by : (q : Scheduler) (back : AnswerTarget) (p : Packet) → BackIs k p (Some back) → IsAnswerTo (answers_to p) came.answer → AnswersBy (met_as q) back came.answer
  answers_by q AnswerTarget.Nobody p b to = subst (λ (o : Option ℕ). IsAnswerTo o came.answer) b to
  answers_by q (AnswerTarget.To i) p b to =
      let t : IsAnswerTo (Some b.aim) came.answer = subst (λ (o : Option ℕ). IsAnswerTo o came.answer) b.answers to in
      record { aim = b.aim; packet = t.0; answers = t.1.0; target_is = t.1.1; place = seat_stays q b.aim i b.place }

  pub met_answers : (q : Scheduler) (back : AnswerTarget) (heard : Option Heard) (hears : RemembersAnswer place.seat heard) → BackIs k hears.packet (Some back) → AnswersBy (met_as q) back came.answer
  met_answers q back heard hears b =
      let e : Some hears.packet ≡ Some met.packet = sym hears.front ∙ ap deliverable_front is_it ∙ front_is in
      let f : hears.packet ≡ met.packet = cc in
      answers_by q back hears.packet b (subst (λ (p : Packet). IsAnswerTo (answers_to p) came.answer) (sym f) (arrive_answers met.away.context met.packet (arrival_of came met.context) met.arrives))

  -- the tend, where what arose went out
  module _ (t : ℕ) (tile : t ≡ tile_of h a) (q : Scheduler) (joins : Bool) (joins_is : joins ≡ joins_at_tend h a (seat_value x).seating) (joined : q ≡ with_ready_if joins t a s.sched) where
    act_is : (seat_value x).act ≡ a
    act_is = ap (λ z. z.act) (sym is_it) ∙ place.act

    met_is : met_kernel h k (joins_at_tend h (seat_value x).act (seat_value x).seating) (seat_value y) ≡ met_as q
    met_is =
        ap (λ n. join_ready (joins_at_tend h n (seat_value x).seating) (tile_of h (seat_value y).act) (seat_value y).act (with_entry (seat_value y) k)) act_is
        ∙ ap (λ b. join_ready b (tile_of h (seat_value y).act) (seat_value y).act (with_entry (seat_value y) k)) (sym joins_is)
        ∙ ap (λ n. join_ready joins (tile_of h n) n (with_entry (seat_value y) k)) (act_same ∙ act_is)
        ∙ ap (λ u. join_ready joins u a (with_entry (seat_value y) k)) (sym tile)
        ∙ ap (join_ready joins t a) (kernel_now s kept at x y within was act_same)
        ∙ join_is joins t a (record k { seats = seats_of items_now })
        ∙ ap met_as (sym joined)

    pub tend_is : (emit : Option Emit) (new : Kernel) → SendsBack h (met_as q) came.answer came.freed emit new → kernel_tend h k a ≡ then_restore h came.said t new (out_of emit)
    tend_is emit new sends =
        ap (tend_by h k) (place.found ∙ ap (λ z. Some z) is_it)
        ∙ met_step h k (seat_value x) (seat_value y) came met
        ∙ ap (λ p. after_tend h (tile_of h (seat_value x).act) came.said came.freed k (answer_routed h p came.answer)) met_is
        ∙ ap (λ n. after_tend h (tile_of h n) came.said came.freed k (answer_routed h (met_as q) came.answer)) act_is
        ∙ ap (λ u. after_tend h u came.said came.freed k (answer_routed h (met_as q) came.answer)) (sym tile)
        ∙ ap (after_tend h t came.said came.freed k) sends.routed
        ∙ ap (then_restore h came.said t new) sends.all
