-- What a step of a part that no program makes never does: it makes no move, and sends to no tile that isn't there.
use Rattle.std.proofs.Common.{◌≡◌, ℕ, ◌+◌, ◌<◌, Bool, true, false, List, [], ◌∷◌, ◌++◌, Option, Some, None, refl, arith}
use Rattle.std.specs.Prelude.{◌==◌, ◌&&◌, ◌||◌, not, length, if◌then◌else◌}
use Rattle.std.specs.List.{list_any}
use Rattle.m3_base.specs.declared.command.Answer.{Answer}
use Rattle.m3_base.specs.declared.command.Command.{Command}
use Rattle.m3_base.specs.declared.packet.Packet.{Packet}
use Rattle.m3_base.specs.declared.packet.Fresh.{Fresh}
use Rattle.m3_base.specs.declared.order.GrantLine.{GrantLine}
use Rattle.m3_base.specs.declared.order.Order.{Order}
use Rattle.m3_base.specs.declared.event.Event.{Event}
use Rattle.m3_base.specs.declared.event.Made.{Made}
use Rattle.m3_base.specs.declared.event.Said.{Said}
use Rattle.m3_base.specs.declared.event.No.{No}
use Rattle.m3_base.specs.declared.event.IdleWhy.{IdleWhy}
use Rattle.m3_base.specs.Ideal.Context.{Context}
use Rattle.m3_base.specs.Ideal.State.{Grant, grant_in, holder, holder_ep}
use Rattle.m3_base.specs.Ideal.Issue.{Issued, issue}
use Rattle.m3_base.specs.Ideal.Arrival.{Arrival}
use Rattle.m3_base.specs.Ideal.Acceptance.{arrive_fit}
use Rattle.m3_base.specs.Ideal.Landing.{bytes_at, written_at}
use Rattle.m3_base.specs.Ideal.GrantRules.{revoke_refusal, new_grant, change_grant}
use Rattle.m3_base.specs.Placement.Routing.{target}
use Rattle.m3_base.specs.Placement.Take.{is_here}
use Rattle.m3_base.specs.Placement.Order.{least_closing}
use Rattle.m3_base.specs.Lists.EachElement.{Each}
use Rattle.m3_merge.proofs.MergedIsRun.{each_append}
use Rattle.m3_model.specs.Config.Site.{Site, tile_of, has_program}
use Rattle.m3_model.specs.Parcel.{Heard, Parcel, Data, Save, Saved, Restore, Yield, Closed}
use Rattle.m3_model.specs.Tile.State.{Resident, Tile}
use Rattle.m3_model.specs.Kernel.State.{SavedActivity, EntryResidency, Is_placed, Is_leaving, Is_resting, Is_coming, ActivityEntry, Kernel}
use Rattle.m3_model.specs.LocalStep.{LocalResult, local_result, idle_result, dropped_result, data_out, closed_out, answer_tile}
use Rattle.m3_model.specs.Config.KnownActivities.{is_named}
use Rattle.m3_model.specs.Kernel.Step as kernel
use Rattle.m3_model.specs.Kernel.Step.{Routed, kernel_take, kernel_order}
use Rattle.m3_model.specs.Tile.Step as tile
use Rattle.m3_model.specs.Tile.Step.{tile_take, resident_of, act_in}
use Rattle.m3_model.specs.Memory.Step.{may_serve, serve_result, memory_take}
use Rattle.m3_model.specs.Machine.{Part, Kernel_part, Memory_part, Tile_part, part_step}
use Rattle.m3_refine.proofs.arrival.AnswerAndClosed.{tile_for-low}

abbrev pub AreTiles : List (ℕ × Parcel) → Type 0
AreTiles out = Each (λ x. x.0 < 16) out

pub record IsTame {S : Type 0} (d : LocalResult S) : Type 0 where
  pub made : d.outcome.made ≡ None
  pub out : AreTiles d.out

-- a choice between two steps
either_tame : {S : Type 0} (b : Bool) (x y : LocalResult S) → IsTame x → IsTame y → IsTame (if b then x else y)
either_tame true x y p q = p
either_tame false x y p q = q

idle_tame : {S : Type 0} (why : IdleWhy) (s : S) → IsTame (idle_result why s)
idle_tame why s = record { made = refl; out = tt }

abbrev pub TameIn : Option (LocalResult Part) → Type 0
TameIn None = Unit {0}
TameIn (Some d) = IsTame d

-- an event that no program makes
abbrev pub IsNoTurn : Event → Type 0
IsNoTurn (Event.Turn a) = ⊥
IsNoTurn e = Unit {0}

-- a switch is of a tile that is there
abbrev pub OrdersTile : Event → Type 0
OrdersTile (Event.Order (Order.Switch t a)) = t < 16
OrdersTile e = Unit {0}

module _ (h : Site) (low : (a : ℕ) → tile_of h a < 16) where
  closed_low : (o : Option ℕ) → AreTiles (closed_out o)
  closed_low None = tt
  closed_low (Some g) = (omega arith, tt)

  answer_low : (o : Option Packet) → AreTiles (data_out (answer_tile h o) o)
  answer_low None = tt
  answer_low (Some p) = (tile_for-low h low (target p), tt)

  pub new_low : (o : Option Packet) → AreTiles (tile.new_out h o)
  new_low None = tt
  new_low (Some p) = (tile_for-low h low (target p), tt)

  -- ---- tiles

  issued_tame : (t : Tile) (o : Option Issued) → IsTame (tile.do_issued h t o)
  issued_tame t None = idle_tame IdleWhy.Busy t
  issued_tame t (Some i) = record { made = refl; out = new_low i.packet }

  do_tame : (t : Tile) (a : ℕ) (c : Command) (o : Option Context) → IsTame (tile.do_at h t a c o)
  do_tame t a c None = idle_tame IdleWhy.NotCurrent t
  do_tame t a c (Some x) =
      either_tame (x.act == a) (tile.do_issued h t (issue x c)) (idle_result IdleWhy.NotCurrent t) (issued_tame t (issue x c)) (idle_tame IdleWhy.NotCurrent t)

  arrived_tame : (t : Tile) (p : Packet) (o : Option Arrival) → IsTame (tile.take_arrived h t p o)
  arrived_tame t p None = idle_tame IdleWhy.EmptyLink t
  arrived_tame t p (Some r) = record { made = refl; out = each_append (λ (x : ℕ × Parcel). x.0 < 16) (data_out (answer_tile h r.answer) r.answer) (closed_out r.freed) (answer_low r.answer) (closed_low r.freed) }

  here_tame : (t : Tile) (p : Packet) (o : Option Context) → IsTame (tile.take_here h t p o)
  here_tame t p None = idle_tame IdleWhy.EmptyLink t
  here_tame t p (Some x) = arrived_tame t p (tile.arrive_named h x p)

  saving_tame : (t : Tile) (a : ℕ) (o : Option Context) → IsTame (tile.take_save t a o)
  saving_tame t a None = idle_tame IdleWhy.EmptyLink t
  saving_tame t a (Some x) =
      either_tame (x.act == a)
      (local_result (Said.Saving a) (tile.with_current None t) ((0, Saved x.act x (tile.is_waiting_resident x (resident_of a t)) (tile.has_ended (resident_of a t))) ∷ []))
      (dropped_result t) (record { made = refl; out = (omega arith, tt) }) (idle_tame IdleWhy.EmptyLink t)

  restored_tame : (t : Tile) (x : Context) (xs : List Heard) (o : Option Resident) → IsTame (tile.after_restore t x xs o)
  restored_tame t x xs None = idle_tame IdleWhy.EmptyLink t
  restored_tame t x xs (Some y) = record { made = refl; out = tt }

  restoring_tame : (t : Tile) (a : ℕ) (x : Context) (xs : List Heard) (o : Option Context) → IsTame (tile.take_restore h t a x xs o)
  restoring_tame t a x xs (Some y) = idle_tame IdleWhy.EmptyLink t
  restoring_tame t a x xs None =
      either_tame (tile.may_return h a x) (tile.after_restore t x xs (resident_of x.act t)) (dropped_result t)
      (restored_tame t x xs (resident_of x.act t)) (idle_tame IdleWhy.EmptyLink t)

  bounced_tame : (t : Tile) (p : Packet) (o : Option ℕ) → IsTame (tile.bounced t p o)
  bounced_tame t p None = idle_tame IdleWhy.EmptyLink t
  bounced_tame t p (Some a) = record { made = refl; out = (omega arith, tt) }

  tile_tame : (t : Tile) (q : Parcel) → IsTame (tile_take h t q)
  tile_tame t (Data p) =
      either_tame (is_here (target p) (act_in t.current)) (tile.take_here h t p t.current) (tile.bounced t p (target p)) (here_tame t p t.current) (bounced_tame t p (target p))
  tile_tame t (Save a) = saving_tame t a t.current
  tile_tame t (Restore a x xs) = restoring_tame t a x xs t.current
  tile_tame t (Saved a x w e) = idle_tame IdleWhy.EmptyLink t
  tile_tame t (Yield a) = idle_tame IdleWhy.EmptyLink t
  tile_tame t (Closed g) = idle_tame IdleWhy.EmptyLink t

  -- ---- the memory

  memory_tame : (memory : List ℕ) (q : Parcel) → IsTame (memory_take h memory q)
  memory_tame memory (Data (Packet.Read id g place buffer)) =
      either_tame (may_serve h memory id place (length buffer)) (serve_result h memory id (Answer.Bytes (bytes_at place (length buffer) memory))) (dropped_result memory)
      (record { made = refl; out = (low id.issuer, tt) }) (idle_tame IdleWhy.EmptyLink memory)
  memory_tame memory (Data (Packet.Write id g place payload)) =
      either_tame (may_serve h memory id place (length payload)) (serve_result h (written_at place payload memory) id Answer.Written) (dropped_result memory)
      (record { made = refl; out = (low id.issuer, tt) }) (idle_tame IdleWhy.EmptyLink memory)
  memory_tame memory (Data (Packet.Message to ep g m)) = idle_tame IdleWhy.EmptyLink memory
  memory_tame memory (Data (Packet.Credit id to g)) = idle_tame IdleWhy.EmptyLink memory
  memory_tame memory (Data (Packet.Answer id answer)) = idle_tame IdleWhy.EmptyLink memory
  memory_tame memory (Data (Packet.Install id to ep f)) = idle_tame IdleWhy.EmptyLink memory
  memory_tame memory (Data (Packet.Close id to ep g)) = idle_tame IdleWhy.EmptyLink memory
  memory_tame memory (Save a) = idle_tame IdleWhy.EmptyLink memory
  memory_tame memory (Saved a x w e) = idle_tame IdleWhy.EmptyLink memory
  memory_tame memory (Restore a x xs) = idle_tame IdleWhy.EmptyLink memory
  memory_tame memory (Yield a) = idle_tame IdleWhy.EmptyLink memory
  memory_tame memory (Closed g) = idle_tame IdleWhy.EmptyLink memory

  -- ---- the kernel

  coming_tame : (said : Said) (t : ℕ) (k : Kernel) (out : List (ℕ × Parcel)) (x : ActivityEntry) (w : EntryResidency) → AreTiles out → IsTame (kernel.with_restore_of h said t k out x w)
  coming_tame said t k out x (Is_coming y) o =
      record { made = refl; out = each_append (λ (z : ℕ × Parcel). z.0 < 16) out ((tile_of h x.act, Restore y.context.act y.context y.heard) ∷ []) o (low x.act, tt) }
  coming_tame said t k out x Is_placed o = record { made = refl; out = o }
  coming_tame said t k out x Is_leaving o = record { made = refl; out = o }
  coming_tame said t k out x (Is_resting y) o = record { made = refl; out = o }

  maybe_tame : (said : Said) (t : ℕ) (k : Kernel) (out : List (ℕ × Parcel)) (o : Option ActivityEntry) → AreTiles out → IsTame (kernel.with_restore h said t k out o)
  maybe_tame said t k out None o = record { made = refl; out = o }
  maybe_tame said t k out (Some x) o = coming_tame said t k out x x.seating o

  then_tame : (said : Said) (t : ℕ) (k : Kernel) (out : List (ℕ × Parcel)) → AreTiles out → IsTame (kernel.then_restore h said t k out)
  then_tame said t k out o = maybe_tame said t k out (if list_any (kernel.is_leaving_at h t) k.seats then None else kernel.first_due h t k.seats) o

  abbrev RouteLow : Option Routed → Type 0
  RouteLow None = Unit {0}
  RouteLow (Some r) = AreTiles r.out

  route_seat : (p : Packet) (k : Kernel) (x : ActivityEntry) (b : Bool) → RouteLow (Some (if b then record { held = false; kernel = k; out = (tile_of h x.act, Data p) ∷ [] } else record { held = true; kernel = kernel.with_held p x k; out = [] }))
  route_seat p k x true = (low x.act, tt)
  route_seat p k x false = tt

  route_some : (p : Packet) (k : Kernel) (o : Option ActivityEntry) → RouteLow (kernel.route_to h p k o)
  route_some p k None = tt
  route_some p k (Some x) = route_seat p k x (kernel.is_placed_entry x.seating)

  route_low : (p : Packet) (k : Kernel) → RouteLow (kernel.route h p k)
  route_low p k = route_some p k (kernel.entry_for (target p) k)

  routed_tame : (p : Packet) (k : Kernel) (o : Option Routed) → RouteLow o → IsTame (kernel.take_routed p k o)
  routed_tame p k None r = idle_tame IdleWhy.EmptyLink k
  routed_tame p k (Some x) r = record { made = refl; out = r }

  saved_tame : (k : Kernel) (c : Context) (w e : Bool) (o : Option ActivityEntry) → IsTame (kernel.take_saved h k c w e o)
  saved_tame k c w e None = idle_tame IdleWhy.EmptyLink k
  saved_tame k c w e (Some x) = by_leaving (kernel.is_leaving_entry x.seating)
    where
      by_leaving : (b : Bool)
          → IsTame (if b then kernel.then_restore h (Said.Saved x.act) (tile_of h x.act) (kernel.join_ready (has_program h x.act && (not w && not e)) (tile_of h x.act) x.act (kernel.with_residency (kernel.residency_of_saved c e) x k)) [] else dropped_result k)
      by_leaving true = then_tame (Said.Saved x.act) (tile_of h x.act) (kernel.join_ready (has_program h x.act && (not w && not e)) (tile_of h x.act) x.act (kernel.with_residency (kernel.residency_of_saved c e) x k)) [] tt
      by_leaving false = idle_tame IdleWhy.EmptyLink k

  shut_tame : (k : Kernel) (g : ℕ) (o : Option Grant) → IsTame (kernel.take_closed k g o)
  shut_tame k g None = idle_tame IdleWhy.EmptyLink k
  shut_tame k g (Some x) = either_tame (kernel.is_under_close x) (kernel.done_grant g x k) (dropped_result k) (record { made = refl; out = tt }) (idle_tame IdleWhy.EmptyLink k)

  yield_tame : (k : Kernel) (a : ℕ) (o : Option ActivityEntry) → IsTame (kernel.take_yield h k a o)
  yield_tame k a None = idle_tame IdleWhy.EmptyLink k
  yield_tame k a (Some x) =
      either_tame (kernel.is_placed_entry x.seating || kernel.is_leaving_entry x.seating) (local_result (Said.Yielded a) (kernel.with_yielded (tile_of h a) true k) []) (dropped_result k)
      (record { made = refl; out = tt }) (idle_tame IdleWhy.EmptyLink k)

  kernel_tame : (k : Kernel) (q : Parcel) → IsTame (kernel_take h k q)
  kernel_tame k (Data p) =
      either_tame (is_named h p) (kernel.take_routed p k (kernel.route h p k)) (dropped_result k) (routed_tame p k (kernel.route h p k) (route_low p k)) (idle_tame IdleWhy.EmptyLink k)
  kernel_tame k (Saved a c w e) =
      either_tame (c.act == a) (kernel.take_saved h k c w e (kernel.entry_of c.act k)) (dropped_result k) (saved_tame k c w e (kernel.entry_of c.act k)) (idle_tame IdleWhy.EmptyLink k)
  kernel_tame k (Yield a) = yield_tame k a (kernel.entry_of a k)
  kernel_tame k (Closed g) = shut_tame k g (grant_in k.grants g)
  kernel_tame k (Save a) = idle_tame IdleWhy.EmptyLink k
  kernel_tame k (Restore a c xs) = idle_tame IdleWhy.EmptyLink k

  answered_low : (k : Kernel) (o : Option Packet) → RouteLow (kernel.answer_routed h k o)
  answered_low k None = tt
  answered_low k (Some p) = route_low p k

  tended_tame : (t : ℕ) (said : Said) (freed : Option ℕ) (old : Kernel) (o : Option Routed) → RouteLow o → IsTame (kernel.after_tend h t said freed old o)
  tended_tame t said freed old None r = idle_tame IdleWhy.EmptyHold old
  tended_tame t said freed old (Some x) r =
      then_tame said t x.kernel (x.out ++ closed_out freed) (each_append (λ (z : ℕ × Parcel). z.0 < 16) x.out (closed_out freed) r (closed_low freed))

  tend_tame : (old k : Kernel) (x : ActivityEntry) (o : Option Arrival) → IsTame (kernel.tend_arrived h old k x o)
  tend_tame old k x None = idle_tame IdleWhy.EmptyHold old
  tend_tame old k x (Some r) = tended_tame (tile_of h x.act) r.said r.freed old (kernel.answer_routed h k r.answer) (answered_low k r.answer)

  front_tame : (k : Kernel) (x : ActivityEntry) (ps : List Packet) (y : SavedActivity) (sits : SavedActivity → EntryResidency) (ready : Bool) → IsTame (kernel.tend_front h k x ps y sits ready)
  front_tame k x [] y sits ready = idle_tame IdleWhy.EmptyHold k
  front_tame k x (p ∷ ps) y sits ready = tend_tame k (
      kernel.join_ready (ready && (has_program h x.act && not y.ended)) (tile_of h x.act) x.act (
      kernel.with_entry (record x { seating = sits (kernel.after_packet p (kernel.arrived_context y.context (arrive_fit y.context p)) y); hold = ps }) k
      )
      ) x (arrive_fit y.context p)

  seat_tame : (k : Kernel) (x : ActivityEntry) (w : EntryResidency) → IsTame (kernel.tend_entry h k x w)
  seat_tame k x Is_placed = idle_tame IdleWhy.NotResting k
  seat_tame k x Is_leaving = idle_tame IdleWhy.NotResting k
  seat_tame k x (Is_resting y) = front_tame k x x.hold y Is_resting true
  seat_tame k x (Is_coming y) = front_tame k x x.hold y Is_coming false

  tends_tame : (k : Kernel) (o : Option ActivityEntry) → IsTame (kernel.tend_by h k o)
  tends_tame k None = idle_tame IdleWhy.NotResting k
  tends_tame k (Some x) = seat_tame k x x.seating

  -- an order that is refused, or sends nothing
  no_tame : (why : No) (k : Kernel) → IsTame (local_result (Said.No why) k [])
  no_tame why k = record { made = refl; out = tt }

  switched_tame : (k : Kernel) (t : ℕ) (x : ActivityEntry) (y : SavedActivity) (o : Option ActivityEntry) → t < 16 → IsTame (kernel.after_switch h k t x y o)
  switched_tame k t x y None high = no_tame No.Leaving k
  switched_tame k t x y (Some b) high = record { made = refl; out = (high, tt) }

  switch_seat_tame : (k : Kernel) (t : ℕ) (x : ActivityEntry) (w : EntryResidency) → t < 16 → IsTame (kernel.switch_entry h k t x w)
  switch_seat_tame k t x Is_placed high = no_tame No.Already k
  switch_seat_tame k t x (Is_coming y) high = no_tame No.Already k
  switch_seat_tame k t x Is_leaving high = no_tame No.Leaving k
  switch_seat_tame k t x (Is_resting y) high =
      either_tame (list_any (kernel.is_moving_at h t) k.seats) (local_result (Said.No No.Leaving) k []) (kernel.after_switch h k t x y (kernel.placed_at h t k.seats))
      (no_tame No.Leaving k) (switched_tame k t x y (kernel.placed_at h t k.seats) high)

  switch_tame : (k : Kernel) (t : ℕ) (o : Option ActivityEntry) → t < 16 → IsTame (kernel.switch h k t o)
  switch_tame k t None high = no_tame No.NotHome k
  switch_tame k t (Some x) high =
      either_tame (tile_of h x.act == t) (kernel.switch_entry h k t x x.seating) (local_result (Said.No No.NotHome) k [])
      (switch_seat_tame k t x x.seating high) (no_tame No.NotHome k)

  own_tame : (old : Kernel) (said : Bool → Said) (o : Option Routed) → RouteLow o → IsTame (kernel.own_packet_out old said o)
  own_tame old said None r = idle_tame IdleWhy.NothingToClose old
  own_tame old said (Some x) r = record { made = refl; out = r }

  make_tame : (k : Kernel) (line : GrantLine) (o : Option No) (f : Option Fresh) → IsTame (kernel.make_with h k line o f)
  make_tame k line (Some why) f = no_tame why k
  make_tame k line None None = no_tame No.NoGrant k
  make_tame k line None (Some f) =
      let p = Packet.Install (kernel.kernel_id k) (holder line) (holder_ep line) f in
      let next : Kernel = record k { next = k.next + 1; grants = k.grants ++ new_grant line f ∷ [] } in
      own_tame k (λ held. Said.Granted (length k.grants + 1) (kernel.kernel_id k) held) (kernel.route h p next) (route_low p next)

  revoke_tame : (k : Kernel) (g : ℕ) (o : Option No) → IsTame (kernel.revoke_with k g o)
  revoke_tame k g (Some why) = no_tame why k
  revoke_tame k g None = record { made = refl; out = tt }

  order_tame : (k : Kernel) (o : Order) → OrdersTile (Event.Order o) → IsTame (kernel_order h k o)
  order_tame k (Order.Switch t a) high = switch_tame k t (kernel.entry_of a k) high
  order_tame k (Order.Grant line) high = make_tame k line _ _
  order_tame k (Order.Revoke g) high = revoke_tame k g (revoke_refusal (grant_in k.grants g))

  close_tame : (k : Kernel) (g : ℕ) (o : Option Grant) → IsTame (kernel.close_of h k g o)
  close_tame k g None = idle_tame IdleWhy.NothingToClose k
  close_tame k g (Some x) =
      let p = Packet.Close (kernel.kernel_id k) (holder x.line) (holder_ep x.line) g in
      let next : Kernel = record k { next = k.next + 1; grants = change_grant k.grants g (λ y. record y { close_sent = true }) } in
      own_tame k (λ held. Said.CloseSent g (kernel.kernel_id k) held) (kernel.route h p next) (route_low p next)

  least_tame : (k : Kernel) (o : Option ℕ) → IsTame (kernel.close_least h k o)
  least_tame k None = idle_tame IdleWhy.NothingToClose k
  least_tame k (Some g) = close_tame k g (grant_in k.grants g)

  -- ---- any part

  pub part_tame : (x : Part) (e : Event) (made : Option Made) (q : Option Parcel) → IsNoTurn e → OrdersTile e → TameIn (part_step h x e made q)
  part_tame (Kernel_part k) (Event.Take to from) made (Some q) unmade high = let t = kernel_tame k q in record { made = t.made; out = t.out }
  part_tame (Memory_part x) (Event.Take to from) made (Some q) unmade high = let t = memory_tame x q in record { made = t.made; out = t.out }
  part_tame (Tile_part x) (Event.Take to from) made (Some q) unmade high = let t = tile_tame x q in record { made = t.made; out = t.out }
  part_tame (Kernel_part k) (Event.Take to from) made None unmade high = record { made = refl; out = tt }
  part_tame (Memory_part x) (Event.Take to from) made None unmade high = record { made = refl; out = tt }
  part_tame (Tile_part x) (Event.Take to from) made None unmade high = record { made = refl; out = tt }
  part_tame (Kernel_part k) (Event.Do a c) made q unmade high = tt
  part_tame (Memory_part x) (Event.Do a c) made q unmade high = tt
  part_tame (Tile_part x) (Event.Do a c) made q unmade high = let t = do_tame x a c x.current in record { made = t.made; out = t.out }
  part_tame x (Event.Turn a) made q unmade high = absurd unmade
  part_tame (Kernel_part k) (Event.Tend a) made q unmade high = let t = tends_tame k (kernel.entry_of a k) in record { made = t.made; out = t.out }
  part_tame (Memory_part x) (Event.Tend a) made q unmade high = tt
  part_tame (Tile_part x) (Event.Tend a) made q unmade high = tt
  part_tame (Kernel_part k) Event.Close made q unmade high = let t = least_tame k (least_closing k.grants 1 k.grants) in record { made = t.made; out = t.out }
  part_tame (Memory_part x) Event.Close made q unmade high = tt
  part_tame (Tile_part x) Event.Close made q unmade high = tt
  part_tame (Kernel_part k) (Event.Order o) made q unmade high = let t = order_tame k o high in record { made = t.made; out = t.out }
  part_tame (Memory_part x) (Event.Order o) made q unmade high = tt
  part_tame (Tile_part x) (Event.Order o) made q unmade high = tt
  part_tame (Kernel_part k) (Event.File l) made q unmade high = tt
  part_tame (Memory_part x) (Event.File l) made q unmade high = tt
  part_tame (Tile_part x) (Event.File l) made q unmade high = tt
