-- The local steps of the kernel: a take, a tend, a close, an order.
use Rattle.std.specs.Prelude.{ℕ, ◌+◌, Bool, true, false, not, ◌&&◌, ◌||◌, ◌==◌, List, [], ◌∷◌, ◌++◌, length, filter, slice_index_or, slice_set, Option, Some, None, if◌then◌else◌}
use Rattle.std.specs.List.{list_any}
use Rattle.m3_base.specs.declared.ids.FlightId.{FlightId}
use Rattle.m3_base.specs.declared.packet.Packet.{Packet}
use Rattle.m3_base.specs.declared.packet.Fresh.{Fresh}
use Rattle.m3_base.specs.declared.order.GrantLine.{GrantLine}
use Rattle.m3_base.specs.declared.order.Order.{Order}
use Rattle.m3_base.specs.declared.event.Said.{Said}
use Rattle.m3_base.specs.declared.event.No.{No}
use Rattle.m3_base.specs.declared.event.IdleWhy.{IdleWhy}
use Rattle.m3_base.specs.Lists.Keyed as keyed
use Rattle.m3_base.specs.Ideal.Flights.{kernel, name_of}
use Rattle.m3_base.specs.Ideal.Context.{Context}
use Rattle.m3_base.specs.Ideal.State.{Grant, Done, is_done, same_act, grant_in, holder, holder_ep, parent_in, parent_of, undone}
use Rattle.m3_base.specs.Ideal.GrantRules.{form, make_refusal, new_grant, revoke_refusal, after_revoke, change_grant}
use Rattle.m3_base.specs.Placement.Routing.{target}
use Rattle.m3_base.specs.Placement.State.{with_member}
use Rattle.m3_base.specs.Placement.Order.{least_closing}
use Rattle.m3_base.specs.Ideal.Arrival.{Arrival}
use Rattle.m3_base.specs.Ideal.Acceptance.{arrive_fit}
use Rattle.m3_model.specs.Config.KnownActivities.{is_named}
use Rattle.m3_model.specs.Config.Site.{Site, tile_of, has_program}
use Rattle.m3_model.specs.LocalStep.{heard_in_answer, LocalResult, local_result, idle_result, dropped_result, closed_out}
use Rattle.m3_model.specs.Parcel.{Parcel, Data, Save, Saved, Restore, Yield, Closed}
use Rattle.m3_model.specs.Kernel.State.{SavedActivity, EntryResidency, Is_placed, Is_leaving, Is_resting, Is_coming, ActivityEntry, Kernel}

-- ---- seats

abbrev pub entry_act : ActivityEntry → ℕ
entry_act x = x.act

abbrev pub entry_of : ℕ → Kernel → Option ActivityEntry
entry_of a k = keyed.find entry_act same_act a k.seats

abbrev pub with_entry : ActivityEntry → Kernel → Kernel
with_entry x k = record k { seats = keyed.with_replaced entry_act same_act x k.seats }

abbrev pub with_residency : EntryResidency → ActivityEntry → Kernel → Kernel
with_residency w x k = with_entry (record x { seating = w }) k

abbrev pub is_placed_entry : EntryResidency → Bool
is_placed_entry Is_placed = true
is_placed_entry _ = false

abbrev pub is_leaving_entry : EntryResidency → Bool
is_leaving_entry Is_leaving = true
is_leaving_entry _ = false

abbrev pub is_coming_entry : EntryResidency → Bool
is_coming_entry (Is_coming x) = true
is_coming_entry _ = false

-- ---- ready lists

abbrev pub ready_at : ℕ → Kernel → List ℕ
ready_at t k = slice_index_or k.ready t []

abbrev pub with_ready : ℕ → List ℕ → Kernel → Kernel
with_ready t xs k = record k { ready = slice_set k.ready t xs }

abbrev pub with_yielded : ℕ → Bool → Kernel → Kernel
with_yielded t b k = record k { yielded = slice_set k.yielded t b }

abbrev pub join_ready : Bool → ℕ → ℕ → Kernel → Kernel
join_ready b t a k = if b then with_ready t (with_member a (ready_at t k)) k else k

abbrev pub leave_ready : ℕ → ℕ → Kernel → Kernel
leave_ready t a k = with_ready t (filter (λ b. not (b == a)) (ready_at t k)) k

-- ---- routing

pub record Routed : Type 0 where
  pub held : Bool
  pub kernel : Kernel
  pub out : List (ℕ × Parcel)

abbrev pub with_held : Packet → ActivityEntry → Kernel → Kernel
with_held p x k = with_entry (record x { hold = x.hold ++ p ∷ [] }) k

-- on the home link of a placed activity, else at the back of its hold list
abbrev pub route_to : Site → Packet → Kernel → Option ActivityEntry → Option Routed
route_to h p k None = None
route_to h p k (Some x) =
    Some (
    if is_placed_entry x.seating
    then record { held = false; kernel = k; out = (tile_of h x.act, Data p) ∷ [] }
    else record { held = true; kernel = with_held p x k; out = [] }
    )

abbrev pub entry_for : Option ℕ → Kernel → Option ActivityEntry
entry_for None k = None
entry_for (Some a) k = entry_of a k

-- none where the packet is for no activity of the setup
abbrev pub route : Site → Packet → Kernel → Option Routed
route h p k = route_to h p k (entry_for (target p) k)

-- ---- who comes

abbrev pub is_due_entry : Site → ℕ → ActivityEntry → Bool
is_due_entry h t x = (tile_of h x.act == t) && (is_coming_entry x.seating && (length x.hold == 0))

abbrev pub first_due : Site → ℕ → List ActivityEntry → Option ActivityEntry
first_due h t [] = None
first_due h t (x ∷ xs) = if is_due_entry h t x then Some x else first_due h t xs

abbrev pub is_leaving_at : Site → ℕ → ActivityEntry → Bool
is_leaving_at h t x = (tile_of h x.act == t) && is_leaving_entry x.seating

-- Restore goes out last
abbrev pub with_restore_of : Site → Said → ℕ → Kernel → List (ℕ × Parcel) → ActivityEntry → EntryResidency → LocalResult Kernel
with_restore_of h said t k out x (Is_coming y) =
    record {
      outcome = record { made = None; said = said; restore = Some x.act };
      part = with_yielded (tile_of h x.act) false (with_residency Is_placed x k);
      out = out ++ (tile_of h x.act, Restore y.context.act y.context y.heard) ∷ [];
    }
with_restore_of h said t k out x other = local_result said k out

abbrev pub with_restore : Site → Said → ℕ → Kernel → List (ℕ × Parcel) → Option ActivityEntry → LocalResult Kernel
with_restore h said t k out None = local_result said k out
with_restore h said t k out (Some x) = with_restore_of h said t k out x x.seating

-- where the tile has nobody leaving, and the one that comes has nothing held
abbrev pub then_restore : Site → Said → ℕ → Kernel → List (ℕ × Parcel) → LocalResult Kernel
then_restore h said t k out =
    with_restore h said t k out (if list_any (is_leaving_at h t) k.seats then None else first_due h t k.seats)

-- ---- a take

abbrev pub routing_outcome : FlightId → ℕ → Bool → Said
routing_outcome id a true = Said.Held id a
routing_outcome id a false = Said.Routed id

abbrev pub target_or : Option ℕ → ℕ
target_or None = 0
target_or (Some a) = a

abbrev pub take_routed : Packet → Kernel → Option Routed → LocalResult Kernel
take_routed p k None = dropped_result k
take_routed p k (Some r) = local_result (routing_outcome (name_of p) (target_or (target p)) r.held) r.kernel r.out

-- an activity that is saved rests, with nothing heard yet
abbrev pub residency_of_saved : Context → Bool → EntryResidency
residency_of_saved c ended = Is_resting (record { context = c; heard = []; ended = ended })

abbrev pub take_saved : Site → Kernel → Context → Bool → Bool → Option ActivityEntry → LocalResult Kernel
take_saved h k c waiting ended None = dropped_result k
take_saved h k c waiting ended (Some x) =
    if is_leaving_entry x.seating
    then
    then_restore h (Said.Saved x.act) (tile_of h x.act) (
    join_ready (has_program h x.act && (not waiting && not ended)) (tile_of h x.act) x.act (
    with_residency (residency_of_saved c ended) x k
    )
    ) []
    else dropped_result k

abbrev pub done_grant : ℕ → Grant → Kernel → LocalResult Kernel
done_grant g x k =
    local_result (Said.Done g (if x.is_root then Some g else None)) (
    record k { grants = change_grant k.grants g (λ y. record y { standing = Done }) }
    ) []

-- the Close of a grant was sent, and the grant isn't done
abbrev pub is_under_close : Grant → Bool
is_under_close x = x.close_sent && not (is_done x.standing)

abbrev pub take_closed : Kernel → ℕ → Option Grant → LocalResult Kernel
take_closed k g None = dropped_result k
take_closed k g (Some x) = if is_under_close x then done_grant g x k else dropped_result k

abbrev pub take_yield : Site → Kernel → ℕ → Option ActivityEntry → LocalResult Kernel
take_yield h k a None = dropped_result k
take_yield h k a (Some x) =
    if is_placed_entry x.seating || is_leaving_entry x.seating
    then local_result (Said.Yielded a) (with_yielded (tile_of h a) true k) []
    else dropped_result k

-- data that names activities of the setup alone is routed
abbrev pub take_data : Site → Kernel → Packet → LocalResult Kernel
take_data h k p = if is_named h p then take_routed p k (route h p k) else dropped_result k

-- a Saved has to have a context of its activity
abbrev pub kernel_take : Site → Kernel → Parcel → LocalResult Kernel
kernel_take h k (Data p) = take_data h k p
kernel_take h k (Saved a c waiting ended) =
    if c.act == a then take_saved h k c waiting ended (entry_of c.act k) else dropped_result k
kernel_take h k (Yield a) = take_yield h k a (entry_of a k)
kernel_take h k (Closed g) = take_closed k g (grant_in k.grants g)
kernel_take h k (Save a) = dropped_result k
kernel_take h k (Restore a c xs) = dropped_result k

-- ---- a tend

abbrev pub answer_routed : Site → Kernel → Option Packet → Option Routed
answer_routed h k None = Some (record { held = false; kernel = k; out = [] })
answer_routed h k (Some p) = route h p k

abbrev pub after_tend : Site → ℕ → Said → Option ℕ → Kernel → Option Routed → LocalResult Kernel
after_tend h t said freed old None = idle_result IdleWhy.EmptyHold old
after_tend h t said freed old (Some r) = then_restore h said t r.kernel (r.out ++ closed_out freed)

abbrev pub after_packet : Packet → Context → SavedActivity → SavedActivity
after_packet p c x = record x { context = c; heard = x.heard ++ heard_in_answer p }

-- the front is applied to the context; then the answer is routed, and then the activity may come
abbrev pub tend_arrived : Site → Kernel → Kernel → ActivityEntry → Option Arrival → LocalResult Kernel
tend_arrived h old k x None = idle_result IdleWhy.EmptyHold old
tend_arrived h old k x (Some r) = after_tend h (tile_of h x.act) r.said r.freed old (answer_routed h k r.answer)

abbrev pub arrived_context : Context → Option Arrival → Context
arrived_context c None = c
arrived_context c (Some r) = r.context

abbrev pub tend_away :
    Site → Kernel → ActivityEntry → Packet → List Packet → SavedActivity
    → (SavedActivity → EntryResidency) → Bool → LocalResult Kernel
tend_away h k x p ps y sits ready =
    let r = arrive_fit y.context p in
    tend_arrived h k (
    join_ready (ready && (has_program h x.act && not y.ended)) (tile_of h x.act) x.act (
    with_entry (record x { seating = sits (after_packet p (arrived_context y.context r) y); hold = ps }) k
    )
    ) x r

abbrev pub tend_front :
    Site → Kernel → ActivityEntry → List Packet → SavedActivity
    → (SavedActivity → EntryResidency) → Bool → LocalResult Kernel
tend_front h k x [] y sits ready = idle_result IdleWhy.EmptyHold k
tend_front h k x (p ∷ ps) y sits ready = tend_away h k x p ps y sits ready

abbrev pub tend_entry : Site → Kernel → ActivityEntry → EntryResidency → LocalResult Kernel
tend_entry h k x Is_placed = idle_result IdleWhy.NotResting k
tend_entry h k x Is_leaving = idle_result IdleWhy.NotResting k
tend_entry h k x (Is_resting y) = tend_front h k x x.hold y Is_resting true
tend_entry h k x (Is_coming y) = tend_front h k x x.hold y Is_coming false

abbrev pub tend_by : Site → Kernel → Option ActivityEntry → LocalResult Kernel
tend_by h k None = idle_result IdleWhy.NotResting k
tend_by h k (Some x) = tend_entry h k x x.seating

abbrev pub kernel_tend : Site → Kernel → ℕ → LocalResult Kernel
kernel_tend h k a = tend_by h k (entry_of a k)

-- ---- orders

abbrev pub placed_at : Site → ℕ → List ActivityEntry → Option ActivityEntry
placed_at h t [] = None
placed_at h t (x ∷ xs) = if (tile_of h x.act == t) && is_placed_entry x.seating then Some x else placed_at h t xs

abbrev pub is_moving_at : Site → ℕ → ActivityEntry → Bool
is_moving_at h t x = (tile_of h x.act == t) && (is_leaving_entry x.seating || is_coming_entry x.seating)

abbrev pub after_switch : Site → Kernel → ℕ → ActivityEntry → SavedActivity → Option ActivityEntry → LocalResult Kernel
after_switch h k t x y None = local_result (Said.No No.Leaving) k []
after_switch h k t x y (Some b) =
    local_result (Said.Save b.act) (
    leave_ready t x.act (with_residency (Is_coming y) x (with_residency Is_leaving b k))
    ) ((t, Save b.act) ∷ [])

abbrev pub switch_entry : Site → Kernel → ℕ → ActivityEntry → EntryResidency → LocalResult Kernel
switch_entry h k t x Is_placed = local_result (Said.No No.Already) k []
switch_entry h k t x (Is_coming y) = local_result (Said.No No.Already) k []
switch_entry h k t x Is_leaving = local_result (Said.No No.Leaving) k []
switch_entry h k t x (Is_resting y) =
    if list_any (is_moving_at h t) k.seats
    then local_result (Said.No No.Leaving) k []
    else after_switch h k t x y (placed_at h t k.seats)

abbrev pub switch : Site → Kernel → ℕ → Option ActivityEntry → LocalResult Kernel
switch h k t None = local_result (Said.No No.NotHome) k []
switch h k t (Some x) = if tile_of h x.act == t then switch_entry h k t x x.seating else local_result (Said.No No.NotHome) k []

abbrev pub kernel_id : Kernel → FlightId
kernel_id k = record { issuer = kernel; number = k.next }

-- a packet of the kernel's own, and what is said of it, by whether it is held
abbrev pub own_packet_out : Kernel → (Bool → Said) → Option Routed → LocalResult Kernel
own_packet_out old said None = idle_result IdleWhy.NothingToClose old
own_packet_out old said (Some r) = local_result (said r.held) r.kernel r.out

abbrev pub make_with : Site → Kernel → GrantLine → Option No → Option Fresh → LocalResult Kernel
make_with h k line (Some why) f = local_result (Said.No why) k []
make_with h k line None None = local_result (Said.No No.NoGrant) k []
make_with h k line None (Some f) =
    own_packet_out k (λ held. Said.Granted (length k.grants + 1) (kernel_id k) held) (
    route h (Packet.Install (kernel_id k) (holder line) (holder_ep line) f) (
    record k { next = k.next + 1; grants = k.grants ++ new_grant line f ∷ [] }
    )
    )

abbrev pub revoke_with : Kernel → ℕ → Option No → LocalResult Kernel
revoke_with k g (Some why) = local_result (Said.No why) k []
revoke_with k g None = local_result (Said.Revoking g) (record k { grants = after_revoke k.grants g }) []

abbrev pub kernel_order : Site → Kernel → Order → LocalResult Kernel
kernel_order h k (Order.Switch t a) = switch h k t (entry_of a k)
kernel_order h k (Order.Grant line) =
    make_with h k line (make_refusal h.memory k.grants line) (
    form (length k.grants + 1) line (undone (parent_in k.grants (parent_of line)))
    )
kernel_order h k (Order.Revoke g) = revoke_with k g (revoke_refusal (grant_in k.grants g))

-- ---- close

abbrev pub close_of : Site → Kernel → ℕ → Option Grant → LocalResult Kernel
close_of h k g None = idle_result IdleWhy.NothingToClose k
close_of h k g (Some x) =
    own_packet_out k (λ held. Said.CloseSent g (kernel_id k) held) (
    route h (Packet.Close (kernel_id k) (holder x.line) (holder_ep x.line) g) (
    record k { next = k.next + 1; grants = change_grant k.grants g (λ y. record y { close_sent = true }) }
    )
    )

abbrev pub close_least : Site → Kernel → Option ℕ → LocalResult Kernel
close_least h k None = idle_result IdleWhy.NothingToClose k
close_least h k (Some g) = close_of h k g (grant_in k.grants g)

abbrev pub kernel_close : Site → Kernel → LocalResult Kernel
kernel_close h k = close_least h k (least_closing k.grants 1 k.grants)
