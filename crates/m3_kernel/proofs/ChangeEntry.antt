-- The data after a seat has changed.
use Rattle.std.proofs.Common.{◌≡◌, ℕ, ◌<◌, Bool, true, false, cond, List, [], ◌∷◌, ◌++◌, length, get_or, set, Some, Result, Ok, Err, OnOk, refl, sym, ap, ◌∙◌, subst, arith}
use Rattle.std.specs.Prelude.{slice_get, ◌==◌, ◌||◌, ◌&&◌, not}
use Rattle.std.proofs.lemmas.Bool.Decides.{nat_tests}
use Rattle.std.proofs.lemmas.List.{set-get_or, get_or-map}
use Rattle.std.proofs.lemmas.Option.{slice_get-get_or}
use Rattle.m3_base.specs.declared.packet.Packet.{Packet}
use Rattle.m3_model.specs.Config.Site.{Site, tile_of}
use Rattle.m3_model.specs.Parcel.{Parcel, Data}
use Rattle.m3_model.specs.Kernel.State.{EntryResidency, Is_placed, Is_leaving, Is_resting, Is_coming, ActivityEntry, Kernel}
use Rattle.m3_model.specs.Kernel.Step.{with_entry, is_placed_entry, is_leaving_entry, is_coming_entry, Routed, route_to, with_held}
use Rattle.m3_kernel.specs.ActivityView.{seat_value, seats_of, seating_of, place_of, HasRoom}
use Rattle.m3_kernel.specs.LookupTables.{IsOnly, is_of, AreTables, IsHeldSet}
use Rattle.m3_kernel.specs.KernelStateView.{kernel_in, IsKept, RoomFor}
use Rattle.m3_kernel.specs.declared.seat.Place.{Place}
use Rattle.m3_kernel.specs.declared.seat.Seating.{Seating as CodeSeating}
use Rattle.m3_kernel.specs.declared.seat.Seat.{Seat as CodeSeat}
use Rattle.m3_kernel.specs.declared.state.State.{State}
use Rattle.m3_kernel.proofs.UniqueElement.{get_set}
use Rattle.m3_kernel.proofs.TableLookup.{seat_here}
use Rattle.m3_bit_set.specs.BitSet.{has_place}
use Rattle.m3_kernel.proofs.HeldSet.{held_same, held_with, held_without}
use Rattle.m3_kernel.proofs.TablesAfterChange.{tables_sits}
use Rattle.m3_kernel.proofs.ReplaceEntry.{own_place, with_seat_set, seats_set}

pub placed_if : (w : EntryResidency) → place_of w ≡ Place.Placed → is_placed_entry w ≡ true
placed_if Is_placed e = refl
placed_if Is_leaving e = absurd (cc)
placed_if (Is_resting y) e = absurd (cc)
placed_if (Is_coming y) e = absurd (cc)

pub placed_not : (w : EntryResidency) → (place_of w ≡ Place.Placed → ⊥) → is_placed_entry w ≡ false
placed_not Is_placed e = absurd (e refl)
placed_not Is_leaving e = refl
placed_not (Is_resting y) e = refl
placed_not (Is_coming y) e = refl

-- ---- room

pub room_for : (x : CodeSeat) (w : CodeSeating) → HasRoom x → RoomFor w x
room_for x CodeSeating.Placed r = tt
room_for x CodeSeating.Leaving r = r
room_for x (CodeSeating.Resting y) r = r
room_for x (CodeSeating.Coming y) r = r

pub room_of : (x : CodeSeat) (w : CodeSeating) → RoomFor w x → (place_of (seating_of w) ≡ Place.Placed → ⊥) → HasRoom x
room_of x CodeSeating.Placed r e = absurd (e refl)
room_of x CodeSeating.Leaving r e = r
room_of x (CodeSeating.Resting y) r e = r
room_of x (CodeSeating.Coming y) r e = r

pub code_here : (items : List CodeSeat) (at : ℕ) (x : CodeSeat) → at < length items → x ≡ get_or items at x → slice_get items at ≡ Some x
code_here items at x within was = slice_get-get_or items at x within ∙ ap (λ z. Some z) (sym was)

-- the seat at this place is the one that was put there
pub put_here : (items : List CodeSeat) (at : ℕ) (x y z : CodeSeat) → slice_get items at ≡ Some x → slice_get (set items at y) at ≡ Some z → z ≡ y
put_here items at x y z e f =
    let g : Some y ≡ Some z = sym (get_set items at at x y e ∙ ap (λ b. cond b (Some y) (slice_get items at)) (let n : (at == at) ≡ true = grind (arith, nat_tests) in n)) ∙ f in
    cc

pub on_ok : {X E A B : Type 0} (r : Result X E) → (A → B) → OnOk r A → OnOk r B
on_ok (Ok x) f a = f a
on_ok (Err e) f a = tt

abbrev pub routed : Bool → Kernel → List (ℕ × Parcel) → Routed
routed held k out = record { held = held; kernel = k; out = out }

module _ (s : State) (kept : IsKept s) (at : ℕ) (x y : CodeSeat) (within : at < length s.seats.items) (was : x ≡ get_or s.seats.items at x) where
  abbrev h : Site
  h = s.site

  abbrev k : Kernel
  k = kernel_in s

  abbrev pub items_now : List CodeSeat
  items_now = set s.seats.items at y

  abbrev v : ActivityEntry
  v = seat_value x

  abbrev w : ActivityEntry
  w = seat_value y

  pub here : slice_get k.seats at ≡ Some v
  here = seat_here s.seats.items at x within was

  pub seats_same : w ≡ v → seats_of items_now ≡ k.seats
  seats_same e =
      seats_set s.seats.items at y
      ∙ ap (set k.seats at) (e ∙ ap seat_value was ∙ sym (get_or-map seat_value s.seats.items at x v within))
      ∙ set-get_or k.seats at v

  pub tables_same_seats : w ≡ v → AreTables h (seats_of items_now) s.index.items s.berths.items
  tables_same_seats e = subst (λ (xs : List ActivityEntry). AreTables h xs s.index.items s.berths.items) (sym (seats_same e)) kept.tables

  pub kernel_same : w ≡ v → record k { seats = seats_of items_now } ≡ k
  kernel_same e = ap (λ xs. record k { seats = xs }) (seats_same e)

  -- it sits as it did
  pub tables_now : w.act ≡ v.act → is_leaving_entry w.seating ≡ is_leaving_entry v.seating → (is_placed_entry w.seating || is_coming_entry w.seating) ≡ (is_placed_entry v.seating || is_coming_entry v.seating) → AreTables h (seats_of items_now) s.index.items s.berths.items
  tables_now act leaves there =
      subst (λ (xs : List ActivityEntry). AreTables h xs s.index.items s.berths.items) (sym (seats_set s.seats.items at y)) (
      tables_sits h k.seats s.index.items s.berths.items kept.tables at v w here act leaves there
      )

  -- what is held for it is as it was
  pub held_now : w.act ≡ v.act → w.hold ≡ v.hold → IsHeldSet (seats_of items_now) s.held
  held_now act hold =
      subst (λ (xs : List ActivityEntry). IsHeldSet xs s.held) (sym (seats_set s.seats.items at y)) (
      held_same k.seats at v w here act s.held s.held kept.held hold refl
      )

  pub held_added : (held : List ℕ) → w.act ≡ v.act → ((i : ℕ) → has_place held i ≡ ((i == w.act) || has_place s.held i)) → IsHeldSet (seats_of items_now) held
  held_added held act set_is =
      subst (λ (xs : List ActivityEntry). IsHeldSet xs held) (sym (seats_set s.seats.items at y)) (
      held_with k.seats at v w here act s.held held kept.held set_is
      )

  pub held_removed : (held : List ℕ) → w.act ≡ v.act → (b : Bool) → b ≡ (length w.hold == 0) → ((i : ℕ) → has_place held i ≡ (not (b && (i == w.act)) && has_place s.held i)) → (v.hold ≡ [] → w.hold ≡ []) → IsHeldSet (seats_of items_now) held
  held_removed held act b empty set_is less =
      subst (λ (xs : List ActivityEntry). IsHeldSet xs held) (sym (seats_set s.seats.items at y)) (
      held_without k.seats at v w here act s.held held kept.held b empty (own_place h k.seats s.index.items s.berths.items kept.tables at v here) set_is
      (λ none. less (kept.held at v here (ap (has_place s.held) (sym act) ∙ none)))
      )

  pub kernel_now : w.act ≡ v.act → with_entry w k ≡ record k { seats = seats_of items_now }
  kernel_now act =
      with_seat_set k at w (subst (λ (a : ℕ). IsOnly (is_of a) k.seats (Some at)) (sym act) (own_place h k.seats s.index.items s.berths.items kept.tables at v here))
      ∙ ap (λ xs. record k { seats = xs }) (sym (seats_set s.seats.items at y))

  -- ---- routing

  pub routes_placed : (p : Packet) (t : ℕ) → place_of v.seating ≡ Place.Placed → t ≡ tile_of h v.act → w ≡ v
      → route_to h p k (slice_get k.seats at) ≡ Some (routed false (record k { seats = seats_of items_now }) ((t, Data p) ∷ []))
  routes_placed p t placed tile e =
      ap (route_to h p k) here
      ∙ ap (λ b. Some (cond b (routed false (k) ((tile_of h v.act, Data p) ∷ [])) (routed true (with_held p v k) ([])))) (placed_if v.seating placed)
      ∙ ap (λ u. Some (routed false (k) ((u, Data p) ∷ []))) (sym tile)
      ∙ ap (λ q. Some (routed false (q) ((t, Data p) ∷ []))) (sym (kernel_same e))

  pub routes_held : (p : Packet) → (place_of v.seating ≡ Place.Placed → ⊥) → w ≡ record v { hold = v.hold ++ p ∷ [] }
      → route_to h p k (slice_get k.seats at) ≡ Some (routed true (record k { seats = seats_of items_now }) ([]))
  routes_held p away e =
      ap (route_to h p k) here
      ∙ ap (λ b. Some (cond b (routed false (k) ((tile_of h v.act, Data p) ∷ [])) (routed true (with_held p v k) ([])))) (placed_not v.seating away)
      ∙ ap (λ q. Some (routed true (q) ([]))) (ap (λ z. with_entry z k) (sym e) ∙ kernel_now (ap (λ z. z.act) e))
