-- The outcome of a step belongs to its event by its form.
use Rattle.std.proofs.Common.{◌≡◌, ℕ, Bool, true, false, List, [], ◌∷◌, length, Option, Some, None, refl, subst}
use Rattle.std.specs.Prelude.{if◌then◌else◌, ◌==◌, ◌&&◌, ◌||◌, not, ◌++◌}
use Rattle.std.specs.List.{list_any}
use Rattle.m3_base.specs.declared.command.Answer.{Answer}
use Rattle.m3_base.specs.declared.command.Command.{Command}
use Rattle.m3_base.specs.declared.command.Refusal.{Refusal}
use Rattle.m3_base.specs.declared.event.Event.{Event}
use Rattle.m3_base.specs.declared.event.IdleWhy.{IdleWhy}
use Rattle.m3_base.specs.declared.event.Outcome.{Outcome}
use Rattle.m3_base.specs.declared.event.Said.{Said}
use Rattle.m3_base.specs.declared.event.No.{No}
use Rattle.m3_base.specs.declared.order.Order.{Order}
use Rattle.m3_base.specs.Ideal.State.{Grant, grant_in}
use Rattle.m3_base.specs.declared.ids.FlightId.{FlightId}
use Rattle.m3_base.specs.declared.packet.Packet.{Packet}
use Rattle.m3_base.specs.Ideal.Arrival.{Arrival, arrive, landed_said, close_arrives, answer_arrives}
use Rattle.m3_base.specs.Journal.OutcomeForms.{allows_for_do, allows_for_take, allows_for_tend, is_landing_outcome, is_allowed_outcome}
use Rattle.m3_base.specs.Ideal.Context.{Flying, Context, endpoint, with_endpoint}
use Rattle.m3_base.specs.Journal.Entry.{shown_told}
use Rattle.m3_base.specs.Ideal.Acceptance.{fits, arrive_fit}
use Rattle.m3_base.specs.Ideal.Flights.{name_of}
use Rattle.m3_base.specs.Ideal.Issue.{Issued, issue}
use Rattle.m3_base.specs.Ideal.Landing.{bytes_at, written_at, land, has_send, has_live, closed_at, flies_at, flying_at}
use Rattle.m3_base.specs.Placement.Routing.{target}
use Rattle.m3_base.specs.Placement.Take.{is_here}
use Rattle.m3_model.specs.Machine.{Machine, MachineResult, Part, Kernel_part, Memory_part, Tile_part, link_at, machine_step, part_at, part_step, tile_for_event, parcel_taken, without_front, front, done_by}
use Rattle.m3_model.specs.Config.KnownActivities.{is_named}
use Rattle.m3_model.specs.Config.Site.{tile_of, has_program, Site}
use Rattle.m3_model.specs.Parcel.{Heard, Parcel, Data, Save, Saved, Restore, Yield, Closed}
use Rattle.m3_model.specs.Tile.State.{Resident, Tile}
use Rattle.m3_model.specs.Kernel.State.{SavedActivity, EntryResidency, Is_placed, Is_leaving, Is_resting, Is_coming, ActivityEntry, Kernel}
use Rattle.m3_model.specs.LocalStep.{LocalResult, local_result, idle_result, dropped_result, closed_out}
use Rattle.m3_model.specs.Kernel.Step.{Routed, entry_of, with_entry, with_residency, join_ready, is_placed_entry, is_leaving_entry, is_leaving_at, is_moving_at, placed_at, first_due, with_restore_of, then_restore, routing_outcome, target_or, take_routed, residency_of_saved, take_saved, is_under_close, done_grant, take_closed, with_yielded, take_yield, route, kernel_take, after_tend, tend_arrived, arrived_context, after_packet, answer_routed, tend_front, tend_entry, tend_by, after_switch, switch_entry, switch}
use Rattle.m3_model.specs.Memory.Step.{may_serve, serve_result, memory_take}
use Rattle.m3_model.specs.Tile.Step.{act_in, with_current, resident_of, is_waiting_resident, has_ended, do_issued, do_at, take_arrived, take_here, bounced, take_data, take_save, may_return, take_restore, tile_take, arrive_named}
use Rattle.m3_model.specs.Events.{IsServed}
use Rattle.m3_model.specs.Kernel.Step as kernel
use Rattle.m3_model.specs.Tile.Step as tile
use Rattle.m3_refine.proofs.labels.CommandOutcomeBelongs.{IssuedTells, issue_tells}
use Rattle.m3_refine.proofs.labels.OrderOutcomeBelongs.{and_true, HolderIsSeated, grant_form, revoke_form, close_form}
use Rattle.std.proofs.lemmas.Bool.{and_from}

-- ---- what is said of an arrival

-- it belongs to takes and to tends, and is a landing's
abbrev IsArrival : Said → Type 0
IsArrival said = (allows_for_take said ≡ true) × ((allows_for_tend said ≡ true) × (is_landing_outcome said ≡ true))

abbrev ArrivedSays : Option Arrival → Type 0
ArrivedSays None = Unit {0}
ArrivedSays (Some r) = IsArrival r.said

landed_says : (id : FlightId) (o : Option Refusal) → IsArrival (landed_said id o)
landed_says id None = (refl, (refl, refl))
landed_says id (Some why) = (refl, (refl, refl))

credit_says : (id : FlightId) (g : ℕ) (b : Bool) → IsArrival (if b then Said.Credited id g else Said.Discarded id g)
credit_says id g true = (refl, (refl, refl))
credit_says id g false = (refl, (refl, refl))

answer_says : (x : Context) (id : FlightId) (answer : Answer) (o : Option Flying) → ArrivedSays (answer_arrives x id answer o)
answer_says x id answer None = tt
answer_says x id answer (Some f) = (refl, (refl, refl))

close_says : (x closing : Context) (id : FlightId) (ep g : ℕ) (b : Bool) → ArrivedSays (close_arrives x id ep g closing b)
close_says x closing id ep g true = (refl, (refl, refl))
close_says x closing id ep g false = (refl, (refl, refl))

live_says : (x : Context) (o : Option Arrival) (b : Bool) → ArrivedSays o → ArrivedSays (if b then o else None)
live_says x o true k = k
live_says x o false k = tt

arrive_says : (x : Context) (p : Packet) → ArrivedSays (arrive x p)
arrive_says x (Packet.Message to ep g m) = landed_says (name_of (Packet.Message to ep g m)) (land ep g m x).refused
arrive_says x (Packet.Credit id to g) = credit_says id g (has_send g x)
arrive_says x (Packet.Read id g place buffer) = tt
arrive_says x (Packet.Write id g place payload) = tt
arrive_says x (Packet.Answer id answer) = answer_says x id answer (flying_at id.number x.flying)
arrive_says x (Packet.Install id to ep f) = (refl, (refl, refl))
arrive_says x (Packet.Close id to ep g) =
    let closing = with_endpoint x ep (closed_at (endpoint x ep)) in
    live_says x (close_arrives x id ep g closing (flies_at ep x)) (has_live g (endpoint x ep)) (close_says x closing id ep g (flies_at ep x))

arrive_fit_says : (x : Context) (p : Packet) → ArrivedSays (arrive_fit x p)
arrive_fit_says x p = live_says x (arrive x p) (fits x p) (arrive_says x p)

arrive_named_says : (h : Site) (x : Context) (p : Packet) → ArrivedSays (arrive_named h x p)
arrive_named_says h x p = live_says x (arrive_fit x p) (is_named h p) (arrive_fit_says x p)

-- ---- the part's deed

abbrev FormDeed : Event → Option (LocalResult Part) → Type 0
FormDeed e None = Unit {0}
FormDeed e (Some d) = is_allowed_outcome e d.outcome ≡ true

form_issued : (h : Site) (t : Tile) (a : ℕ) (c : Command) (o : Option Issued) → IssuedTells c o → is_allowed_outcome (Event.Do a c) (do_issued h t o).outcome ≡ true
form_issued h t a c None k = refl
form_issued h t a c (Some i) k = and_true (allows_for_do c (shown_told i.told)) k

form_do : (h : Site) (t : Tile) (a : ℕ) (c : Command) (o : Option Context) → is_allowed_outcome (Event.Do a c) (do_at h t a c o).outcome ≡ true
form_do h t a c None = refl
form_do h t a c (Some x) = by_act (x.act == a)
  where
    by_act : (b : Bool) → is_allowed_outcome (Event.Do a c) (if b then do_issued h t (issue x c) else idle_result IdleWhy.NotCurrent t).outcome ≡ true
    by_act true = form_issued h t a c (issue x c) (issue_tells x c)
    by_act false = refl

module _ (h : Site) (to from : ℕ) where
  form_arrived : (t : Tile) (p : Packet) (o : Option Arrival) → ArrivedSays o → is_allowed_outcome (Event.Take to from) (take_arrived h t p o).outcome ≡ true
  form_arrived t p None k = refl
  form_arrived t p (Some r) k = and_true (allows_for_take r.said) k.0

  form_here : (t : Tile) (p : Packet) (o : Option Context) → is_allowed_outcome (Event.Take to from) (take_here h t p o).outcome ≡ true
  form_here t p None = refl
  form_here t p (Some x) = form_arrived t p (arrive_named h x p) (arrive_named_says h x p)

  form_bounced : (t : Tile) (p : Packet) (o : Option ℕ) → is_allowed_outcome (Event.Take to from) (bounced t p o).outcome ≡ true
  form_bounced t p None = refl
  form_bounced t p (Some a) = refl

  form_data : (t : Tile) (p : Packet) → is_allowed_outcome (Event.Take to from) (take_data h t p).outcome ≡ true
  form_data t p = by_here (is_here (target p) (act_in t.current))
    where
      by_here : (b : Bool) → is_allowed_outcome (Event.Take to from) (if b then take_here h t p t.current else bounced t p (target p)).outcome ≡ true
      by_here true = form_here t p t.current
      by_here false = form_bounced t p (target p)

  form_nothing : (part : Part) → FormDeed (Event.Take to from) (part_step h part (Event.Take to from) None None)
  form_nothing (Kernel_part k) = refl
  form_nothing (Memory_part x) = refl
  form_nothing (Tile_part t) = refl

  -- one of two
  either_form : {S : Type 0} (e : Event) (b : Bool) (x y : LocalResult S) → is_allowed_outcome e x.outcome ≡ true → is_allowed_outcome e y.outcome ≡ true → is_allowed_outcome e (if b then x else y).outcome ≡ true
  either_form e true x y k l = k
  either_form e false x y k l = l

  form_save : (t : Tile) (a : ℕ) (o : Option Context) → is_allowed_outcome (Event.Take to from) (take_save t a o).outcome ≡ true
  form_save t a None = refl
  form_save t a (Some x) =
      either_form (Event.Take to from) (x.act == a)
      (local_result (Said.Saving a) (with_current None t) ((0, Saved x.act x (is_waiting_resident x (resident_of a t)) (has_ended (resident_of a t))) ∷ [])) (dropped_result t) refl refl

  form_restored : (t : Tile) (x : Context) (xs : List Heard) (o : Option Resident) → is_allowed_outcome (Event.Take to from) (tile.after_restore t x xs o).outcome ≡ true
  form_restored t x xs None = refl
  form_restored t x xs (Some y) = refl

  form_restore : (t : Tile) (a : ℕ) (x : Context) (xs : List Heard) (o : Option Context) → is_allowed_outcome (Event.Take to from) (take_restore h t a x xs o).outcome ≡ true
  form_restore t a x xs (Some y) = refl
  form_restore t a x xs None =
      either_form (Event.Take to from) (may_return h a x) (tile.after_restore t x xs (resident_of x.act t)) (dropped_result t)
      (form_restored t x xs (resident_of x.act t)) refl

  form_tile : (t : Tile) (q : Parcel) → is_allowed_outcome (Event.Take to from) (tile_take h t q).outcome ≡ true
  form_tile t (Data p) = form_data t p
  form_tile t (Save a) = form_save t a t.current
  form_tile t (Restore a x xs) = form_restore t a x xs t.current
  form_tile t (Saved a x w e) = refl
  form_tile t (Yield a) = refl
  form_tile t (Closed g) = refl

  form_memory : (memory : List ℕ) (q : Parcel) → is_allowed_outcome (Event.Take to from) (memory_take h memory q).outcome ≡ true
  form_memory memory (Data (Packet.Read id g place buffer)) =
      either_form (Event.Take to from) (may_serve h memory id place (length buffer)) (serve_result h memory id (Answer.Bytes (bytes_at place (length buffer) memory))) (dropped_result memory) refl refl
  form_memory memory (Data (Packet.Write id g place payload)) =
      either_form (Event.Take to from) (may_serve h memory id place (length payload)) (serve_result h (written_at place payload memory) id Answer.Written) (dropped_result memory) refl refl
  form_memory memory (Data (Packet.Message to' ep g m)) = refl
  form_memory memory (Data (Packet.Credit id to' g)) = refl
  form_memory memory (Data (Packet.Answer id answer)) = refl
  form_memory memory (Data (Packet.Install id to' ep f)) = refl
  form_memory memory (Data (Packet.Close id to' ep g)) = refl
  form_memory memory (Save a) = refl
  form_memory memory (Saved a x w e) = refl
  form_memory memory (Restore a x xs) = refl
  form_memory memory (Yield a) = refl
  form_memory memory (Closed g) = refl

  -- ---- the kernel: Restore may go out with the take of Saved, and with a tend

  form_coming : (e : Event) (said : Said) (t : ℕ) (k : Kernel) (out : List (ℕ × Parcel)) (x : ActivityEntry) (w : EntryResidency)
      → ((o : Option ℕ) → is_allowed_outcome e (record { made = None; said = said; restore = o }) ≡ true) → is_allowed_outcome e (with_restore_of h said t k out x w).outcome ≡ true
  form_coming e said t k out x (Is_coming y) f = f (Some x.act)
  form_coming e said t k out x Is_placed f = f None
  form_coming e said t k out x Is_leaving f = f None
  form_coming e said t k out x (Is_resting y) f = f None

  form_maybe : (e : Event) (said : Said) (t : ℕ) (k : Kernel) (out : List (ℕ × Parcel)) (o : Option ActivityEntry)
      → ((o : Option ℕ) → is_allowed_outcome e (record { made = None; said = said; restore = o }) ≡ true) → is_allowed_outcome e (kernel.with_restore h said t k out o).outcome ≡ true
  form_maybe e said t k out None f = f None
  form_maybe e said t k out (Some x) f = form_coming e said t k out x x.seating f

  form_then : (e : Event) (said : Said) (t : ℕ) (k : Kernel) (out : List (ℕ × Parcel))
      → ((o : Option ℕ) → is_allowed_outcome e (record { made = None; said = said; restore = o }) ≡ true) → is_allowed_outcome e (then_restore h said t k out).outcome ≡ true
  form_then e said t k out f = form_maybe e said t k out (if list_any (is_leaving_at h t) k.seats then None else first_due h t k.seats) f

  form_routed_said : (id : FlightId) (a : ℕ) (b : Bool) → (allows_for_take (routing_outcome id a b) && true) ≡ true
  form_routed_said id a true = refl
  form_routed_said id a false = refl

  form_routed : (p : Packet) (k : Kernel) (o : Option Routed) → is_allowed_outcome (Event.Take to from) (take_routed p k o).outcome ≡ true
  form_routed p k None = refl
  form_routed p k (Some r) = form_routed_said (name_of p) (target_or (target p)) r.held

  form_rests : (a : ℕ) (o : Option ℕ) → is_allowed_outcome (Event.Take to from) (record { made = None; said = Said.Saved a; restore = o }) ≡ true
  form_rests a None = refl
  form_rests a (Some b) = refl

  form_saved : (k : Kernel) (c : Context) (w e : Bool) (o : Option ActivityEntry) → is_allowed_outcome (Event.Take to from) (take_saved h k c w e o).outcome ≡ true
  form_saved k c w e None = refl
  form_saved k c w e (Some x) = by_leaving (is_leaving_entry x.seating)
    where
      by_leaving : (b : Bool) → is_allowed_outcome (Event.Take to from) (
          if b
          then then_restore h (Said.Saved x.act) (tile_of h x.act) (join_ready (has_program h x.act && (not w && not e)) (tile_of h x.act) x.act (with_residency (residency_of_saved c e) x k)) []
          else dropped_result k
          ).outcome ≡ true
      by_leaving true =
          form_then (Event.Take to from) (Said.Saved x.act) (tile_of h x.act) (join_ready (has_program h x.act && (not w && not e)) (tile_of h x.act) x.act (with_residency (residency_of_saved c e) x k)) [] (form_rests x.act)
      by_leaving false = refl

  form_shut : (k : Kernel) (g : ℕ) (o : Option Grant) → is_allowed_outcome (Event.Take to from) (take_closed k g o).outcome ≡ true
  form_shut k g None = refl
  form_shut k g (Some x) = either_form (Event.Take to from) (is_under_close x) (done_grant g x k) (dropped_result k) refl refl

  form_yield : (k : Kernel) (a : ℕ) (o : Option ActivityEntry) → is_allowed_outcome (Event.Take to from) (take_yield h k a o).outcome ≡ true
  form_yield k a None = refl
  form_yield k a (Some x) =
      either_form (Event.Take to from) (is_placed_entry x.seating || is_leaving_entry x.seating) (local_result (Said.Yielded a) (with_yielded (tile_of h a) true k) []) (dropped_result k) refl refl

  form_kernel : (k : Kernel) (q : Parcel) → is_allowed_outcome (Event.Take to from) (kernel_take h k q).outcome ≡ true
  form_kernel k (Data p) = either_form (Event.Take to from) (is_named h p) (take_routed p k (route h p k)) (dropped_result k) (form_routed p k (route h p k)) refl
  form_kernel k (Saved a c w e) =
      either_form (Event.Take to from) (c.act == a) (take_saved h k c w e (entry_of c.act k)) (dropped_result k) (form_saved k c w e (entry_of c.act k)) refl
  form_kernel k (Yield a) = form_yield k a (entry_of a k)
  form_kernel k (Closed g) = form_shut k g (grant_in k.grants g)
  form_kernel k (Save a) = refl
  form_kernel k (Restore a c xs) = refl

  form_taken : (part : Part) (q : Parcel) → FormDeed (Event.Take to from) (part_step h part (Event.Take to from) None (Some q))
  form_taken (Kernel_part k) q = form_kernel k q
  form_taken (Memory_part x) q = form_memory x q
  form_taken (Tile_part t) q = form_tile t q

  form_take : (part : Part) (o : Option Parcel) → FormDeed (Event.Take to from) (part_step h part (Event.Take to from) None o)
  form_take part None = form_nothing part
  form_take part (Some q) = form_taken part q

  -- ---- tends and switches

  form_tended_said : (a : ℕ) (said : Said) → (allows_for_tend said ≡ true) × (is_landing_outcome said ≡ true) → (o : Option ℕ) → is_allowed_outcome (Event.Tend a) (record { made = None; said = said; restore = o }) ≡ true
  form_tended_said a said k None = and_true (allows_for_tend said) k.0
  form_tended_said a said k (Some b) = and_from (allows_for_tend said) (is_landing_outcome said) k.0 k.1

  form_tended_by : (a t : ℕ) (said : Said) (freed : Option ℕ) (old : Kernel) (o : Option Routed) → (allows_for_tend said ≡ true) × (is_landing_outcome said ≡ true) → is_allowed_outcome (Event.Tend a) (after_tend h t said freed old o).outcome ≡ true
  form_tended_by a t said freed old None k = refl
  form_tended_by a t said freed old (Some r) k = form_then (Event.Tend a) said t r.kernel (r.out ++ closed_out freed) (form_tended_said a said k)

  form_tend_arrived : (a : ℕ) (old k : Kernel) (x : ActivityEntry) (o : Option Arrival) → ArrivedSays o → is_allowed_outcome (Event.Tend a) (tend_arrived h old k x o).outcome ≡ true
  form_tend_arrived a old k x None p = refl
  form_tend_arrived a old k x (Some r) p = form_tended_by a (tile_of h x.act) r.said r.freed old (answer_routed h k r.answer) p.1

  form_front : (a : ℕ) (k : Kernel) (x : ActivityEntry) (ps : List Packet) (y : SavedActivity) (sits : SavedActivity → EntryResidency) (ready : Bool) → is_allowed_outcome (Event.Tend a) (tend_front h k x ps y sits ready).outcome ≡ true
  form_front a k x [] y sits ready = refl
  form_front a k x (p ∷ ps) y sits ready =
      form_tend_arrived a k (
      join_ready (ready && (has_program h x.act && not y.ended)) (tile_of h x.act) x.act (
      with_entry (record x { seating = sits (after_packet p (arrived_context y.context (arrive_fit y.context p)) y); hold = ps }) k
      )
      ) x (arrive_fit y.context p) (arrive_fit_says y.context p)

  form_seat : (a : ℕ) (k : Kernel) (x : ActivityEntry) (w : EntryResidency) → is_allowed_outcome (Event.Tend a) (tend_entry h k x w).outcome ≡ true
  form_seat a k x Is_placed = refl
  form_seat a k x Is_leaving = refl
  form_seat a k x (Is_resting y) = form_front a k x x.hold y Is_resting true
  form_seat a k x (Is_coming y) = form_front a k x x.hold y Is_coming false

  form_tend : (a : ℕ) (k : Kernel) (o : Option ActivityEntry) → is_allowed_outcome (Event.Tend a) (tend_by h k o).outcome ≡ true
  form_tend a k None = refl
  form_tend a k (Some x) = form_seat a k x x.seating

  form_switched : (a t : ℕ) (k : Kernel) (x : ActivityEntry) (y : SavedActivity) (o : Option ActivityEntry) → is_allowed_outcome (Event.Order (Order.Switch t a)) (after_switch h k t x y o).outcome ≡ true
  form_switched a t k x y None = refl
  form_switched a t k x y (Some b) = refl

  form_switching : (a t : ℕ) (k : Kernel) (x : ActivityEntry) (w : EntryResidency) → is_allowed_outcome (Event.Order (Order.Switch t a)) (switch_entry h k t x w).outcome ≡ true
  form_switching a t k x Is_placed = refl
  form_switching a t k x (Is_coming y) = refl
  form_switching a t k x Is_leaving = refl
  form_switching a t k x (Is_resting y) =
      either_form (Event.Order (Order.Switch t a)) (list_any (is_moving_at h t) k.seats) (local_result (Said.No No.Leaving) k []) (after_switch h k t x y (placed_at h t k.seats)) refl
      (form_switched a t k x y (placed_at h t k.seats))

  form_switch : (a t : ℕ) (k : Kernel) (o : Option ActivityEntry) → is_allowed_outcome (Event.Order (Order.Switch t a)) (switch h k t o).outcome ≡ true
  form_switch a t k None = refl
  form_switch a t k (Some x) =
      either_form (Event.Order (Order.Switch t a)) (tile_of h x.act == t) (switch_entry h k t x x.seating) (local_result (Said.No No.NotHome) k [])
      (form_switching a t k x x.seating) refl

form_command : (h : Site) (part : Part) (a : ℕ) (c : Command) → FormDeed (Event.Do a c) (part_step h part (Event.Do a c) None None)
form_command h (Kernel_part k) a c = tt
form_command h (Memory_part x) a c = tt
form_command h (Tile_part t) a c = form_do h t a c t.current

form_tending : (h : Site) (part : Part) (a : ℕ) → FormDeed (Event.Tend a) (part_step h part (Event.Tend a) None None)
form_tending h (Kernel_part k) a = form_tend h 0 0 a k (entry_of a k)
form_tending h (Memory_part x) a = tt
form_tending h (Tile_part t) a = tt

form_ordered : (h : Site) (part : Part) (t a : ℕ) → FormDeed (Event.Order (Order.Switch t a)) (part_step h part (Event.Order (Order.Switch t a)) None None)
form_ordered h (Kernel_part k) t a = form_switch h 0 0 a t k (entry_of a k)
form_ordered h (Memory_part x) t a = tt
form_ordered h (Tile_part x) t a = tt

form_part : (h : Site) (m : Machine) (e : Event) → IsServed e → HolderIsSeated m.kernel e → FormDeed e (part_step h (part_at (tile_for_event h e) m) e None (parcel_taken e m))
form_part h m (Event.Do a c) s k = form_command h (part_at (tile_of h a) m) a c
form_part h m (Event.Take to from) s k = form_take h to from (part_at to m) (front (link_at from to m))
form_part h m (Event.Turn a) s k = absurd s
form_part h m (Event.Tend a) s k = form_tending h (part_at 0 m) a
form_part h m Event.Close s k = close_form h m.kernel
form_part h m (Event.Order (Order.Switch t a)) s k = form_ordered h (part_at 0 m) t a
form_part h m (Event.Order (Order.Grant line)) s k = grant_form h m.kernel line k
form_part h m (Event.Order (Order.Revoke g)) s k = revoke_form h m.kernel g
form_part h m (Event.File l) s k = absurd s

form_done : (t : ℕ) (m : Machine) (e : Event) (o : Option (LocalResult Part)) (d : MachineResult) → FormDeed e o → done_by t m o ≡ Some d → is_allowed_outcome e d.outcome ≡ true
form_done t m e None d p k = absurd (cc)
form_done t m e (Some x) d p k = let same : x.outcome ≡ d.outcome = cc in subst (λ (o : Outcome). is_allowed_outcome e o ≡ true) same p

-- ---- the step's outcome

pub form_of : (h : Site) (m : Machine) (e : Event) (o : Outcome) (next : Machine) → machine_step h m e None ≡ Some (record { outcome = o; machine = next }) → IsServed e → HolderIsSeated m.kernel e → is_allowed_outcome e o ≡ true
form_of h m e o next step served seated =
    form_done (tile_for_event h e) (without_front e m) e (part_step h (part_at (tile_for_event h e) m) e None (parcel_taken e m)) (record { outcome = o; machine = next }) (form_part h m e served seated) step
