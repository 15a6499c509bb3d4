-- A context that leaves or reaches its tile, and a packet that bounces, leave the ideal state as it is.
use Rattle.std.proofs.Common.{◌≡◌, ℕ, ◌+◌, ◌*◌, ◌<◌, Bool, false, List, [], ◌∷◌, ◌++◌, Some, None, refl, sym, subst, ◌∙◌, ap, arith, set, get_or, length}
use Rattle.std.proofs.lemmas.List.{set-get_or}
use Rattle.std.specs.Prelude.{◌==◌}
use Rattle.std.proofs.lemmas.Bool.Decides.{nat_tests}
use Rattle.m3_base.specs.declared.ids.FlightId.{FlightId}
use Rattle.m3_base.specs.declared.packet.Packet.{Packet}
use Rattle.m3_base.specs.Ideal.Flights.{name_of, same_name, flight, sorted_by_name}
use Rattle.m3_base.specs.Ideal.Context.{Context}
use Rattle.m3_base.specs.Lists.Keyed as keyed
use Rattle.m3_base.specs.Ideal.State.{context_of, same_act, DistinctActs}
use Rattle.m3_model.specs.Kernel.Step.{entry_act}
use Rattle.m3_base.proofs.FlightNames.{same_name-turned}
use Rattle.m3_model.specs.Parcel.{Parcel, Data, Save, Saved, Restore, Heard}
use Rattle.m3_model.specs.Tile.State.{Tile}
use Rattle.m3_model.specs.Kernel.State.{ActivityEntry, Kernel, Is_leaving}
use Rattle.m3_model.specs.Tile.Step.{with_current}
use Rattle.m3_model.specs.Machine.{Machine, Tile_part, empty_tile, tile_at, link_at, with_link, with_part, with_parcels}
use Rattle.m3_model.specs.Abstraction.{flat_map, flat_links, option_list, tile_contexts, entry_contexts, residency_contexts, held_by, contexts_in, packets_in, closed_in, all_contexts, all_packets, sorted_by_act, closed_from, ideal_of}
use Rattle.m3_refine.proofs.lists.Insertion.{Inserts, inserts_left, inserts_right, around_set, empties, fills, pop_none, pop_one, push_none, push_one}
use Rattle.m3_refine.proofs.lists.Replacement.{around_replaced}
use Rattle.m3_refine.proofs.abstraction.MoveWithinMachine.{moved, moved_none, moved_in, moved_on, context-moves, packet-moves}
use Rattle.m3_base.specs.Ideal.FlightNames.{Distinct}

-- ---- what stands elsewhere is apart

pub other_act : (a : ℕ) (f : List Context) (c : Context) (b : List Context) → context_of a (f ++ c ∷ b) ≡ None → (a == c.act) ≡ false
other_act a [] c b h = grind (arith, nat_tests, h)
other_act a (x ∷ f) c b h = grind (arith, nat_tests, h, other_act a f c b)

apart_middle : (f : List Context) (c : Context) (b : List Context) → DistinctActs (f ++ c ∷ b) → context_of c.act (f ++ b) ≡ None
apart_middle [] c b h = h.0
apart_middle (x ∷ f) c b h =
    let e = other_act x.act f c b h.0 in
    let ih = apart_middle f c b h.1 in
    grind (arith, nat_tests, e, ih)

pub apart_inserts : (c : Context) (xs ys : List Context) → Inserts c xs ys → DistinctActs ys → context_of c.act xs ≡ None
apart_inserts c xs ys h a =
    subst (λ l. context_of c.act l ≡ None) (sym h.without) (apart_middle h.front c h.back (subst DistinctActs h.whole a))

absent_drop : (a : ℕ) (f : List Context) (c : Context) (b : List Context) → context_of a (f ++ c ∷ b) ≡ None → context_of a (f ++ b) ≡ None
absent_drop a [] c b h = grind (arith, h)
absent_drop a (x ∷ f) c b h = grind (arith, h, absent_drop a f c b)

absent_add : (a : ℕ) (f : List Context) (c : Context) (b : List Context) → (a == c.act) ≡ false → context_of a (f ++ b) ≡ None → context_of a (f ++ c ∷ b) ≡ None
absent_add a [] c b d h = grind (arith, h, d)
absent_add a (x ∷ f) c b d h = grind (arith, h, d, absent_add a f c b d)

pub apart_drop : (f : List Context) (c : Context) (b : List Context) → DistinctActs (f ++ c ∷ b) → DistinctActs (f ++ b)
apart_drop [] c b h = h.1
apart_drop (x ∷ f) c b h = (absent_drop x.act f c b h.0, apart_drop f c b h.1)

absent_other : (a : ℕ) (x : Context) (xs : List Context) → context_of a (x ∷ xs) ≡ None → (x.act == a) ≡ false
absent_other a x xs h = grind (arith, nat_tests, h)

absent_rest : (a : ℕ) (x : Context) (xs : List Context) → context_of a (x ∷ xs) ≡ None → context_of a xs ≡ None
absent_rest a x xs h = grind (arith, nat_tests, h)

pub apart_add : (f : List Context) (c : Context) (b : List Context) → context_of c.act (f ++ b) ≡ None → DistinctActs (f ++ b) → DistinctActs (f ++ c ∷ b)
apart_add [] c b h a = (h, a)
apart_add (x ∷ f) c b h a =
    (absent_add x.act f c b (absent_other c.act x (f ++ b) h) a.0, apart_add f c b (absent_rest c.act x (f ++ b) h) a.1)

-- and it stays so where one moves
pub apart_moves : (c : Context) (base xs ys : List Context) → Inserts c base xs → Inserts c base ys → DistinctActs xs → DistinctActs ys
apart_moves c base xs ys h k a =
    let left : DistinctActs base = subst DistinctActs (sym h.without) (apart_drop h.front c h.back (subst DistinctActs h.whole a)) in
    let absent : context_of c.act (k.front ++ k.back) ≡ None = subst (λ l. context_of c.act l ≡ None) k.without (apart_inserts c base xs h a) in
    subst DistinctActs (sym k.whole) (apart_add k.front c k.back absent (subst DistinctActs k.without left))

other_name : (n : FlightId) (f : List Packet) (p : Packet) (b : List Packet) → flight n (f ++ p ∷ b) ≡ None → same_name n (name_of p) ≡ false
other_name n [] p b h = grind (arith, h)
other_name n (x ∷ f) p b h = grind (arith, h, other_name n f p b)

name_middle : (f : List Packet) (p : Packet) (b : List Packet) → Distinct (f ++ p ∷ b) → flight (name_of p) (f ++ b) ≡ None
name_middle [] p b h = h.0
name_middle (x ∷ f) p b h =
    let e = other_name (name_of x) f p b h.0 in
    let ih = name_middle f p b h.1 in
    grind (arith, e, ih, same_name-turned)

pub name_inserts : (p : Packet) (xs ys : List Packet) → Inserts p xs ys → Distinct ys → flight (name_of p) xs ≡ None
name_inserts p xs ys h a =
    subst (λ l. flight (name_of p) l ≡ None) (sym h.without) (name_middle h.front p h.back (subst Distinct h.whole a))

-- ---- a tile takes Save

module _ (m : Machine) (t from : ℕ) (ht : t < length m.tiles) (hi : 16 * from + t < length m.links) (hj : 16 * t + 0 < length m.links) where
  -- what is left once the parcel is taken
  abbrev pub left_by : List Parcel → Tile → Machine
  left_by rest x = with_part t (Tile_part x) (with_link from t rest m)

  pub saves_at : (a : ℕ) (c : Context) (waiting ended : Bool) (rest : List Parcel)
      → link_at from t m ≡ Save a ∷ rest → (tile_at t m).current ≡ Some c → DistinctActs (all_contexts m)
      → ideal_of (with_parcels t ((0, Saved c.act c waiting ended) ∷ []) (left_by rest (with_current None (tile_at t m)))) ≡ ideal_of m
  saves_at a c waiting ended rest g e apart =
      let x = with_current None (tile_at t m) in
      let i = 16 * from + t in
      let j = 16 * t + 0 in
      let r = Saved c.act c waiting ended in
      let seats = flat_map entry_contexts m.kernel.seats in
      let old = flat_links contexts_in m.links in
      let new = flat_links contexts_in (moved m.links i rest j r) in
      let ts = flat_map tile_contexts m.tiles in
      let us = flat_map tile_contexts (set m.tiles t x) in
      let leaves : Inserts c us ts =
      empties tile_contexts (flat_map tile_contexts) (get_or m.tiles t (empty_tile t)) m.tiles (λ y. set m.tiles t y) c x (around_set tile_contexts (empty_tile t) m.tiles t ht) (ap option_list e) refl in
      let before : Inserts c (us ++ (seats ++ old)) (ts ++ (seats ++ old)) = inserts_right (seats ++ old) c us ts leaves in
      let enters : Inserts c old new = moved_in contexts_in m.links i j (Save a) r rest hi hj g c refl refl in
      let after : Inserts c (us ++ (seats ++ old)) (us ++ (seats ++ new)) =
      inserts_left us c (seats ++ old) (seats ++ new) (inserts_left seats c old new enters) in
      let contexts = context-moves c (us ++ (seats ++ old)) (us ++ (seats ++ new)) (ts ++ (seats ++ old)) after before
      (apart_inserts c (us ++ (seats ++ old)) (ts ++ (seats ++ old)) before apart) in
      let packets = moved_none packets_in m.links i j (Save a) r rest hi hj g refl refl in
      let closed = moved_none closed_in m.links i j (Save a) r rest hi hj g refl refl in
      λ k. record {
        memory = m.memory;
        contexts = contexts k;
        flights = sorted_by_name (flat_map held_by m.kernel.seats ++ packets k);
        kernel_next = m.kernel.next;
        grants = closed_from 1 (closed k) m.kernel.grants;
      }

  -- a packet that bounces
  pub bounces_at : (p : Packet) (rest : List Parcel)
      → link_at from t m ≡ Data p ∷ rest → Distinct (all_packets m)
      → ideal_of (with_parcels t ((0, Data p) ∷ []) (left_by rest (tile_at t m))) ≡ ideal_of m
  bounces_at p rest g apart =
      let i = 16 * from + t in
      let j = 16 * t + 0 in
      let hold = flat_map held_by m.kernel.seats in
      let old = flat_links packets_in m.links in
      let new = flat_links packets_in (moved m.links i rest j (Data p)) in
      let on = moved_on packets_in m.links i j (Data p) (Data p) rest hi hj g p refl refl in
      let before : Inserts p (hold ++ on.0) (hold ++ old) = inserts_left hold p on.0 old on.1 in
      let after : Inserts p (hold ++ on.0) (hold ++ new) = inserts_left hold p on.0 new on.2 in
      let packets = packet-moves p (hold ++ on.0) (hold ++ new) (hold ++ old) after before (name_inserts p (hold ++ on.0) (hold ++ old) before apart) in
      let contexts = moved_none contexts_in m.links i j (Data p) (Data p) rest hi hj g refl refl in
      let closed = moved_none closed_in m.links i j (Data p) (Data p) rest hi hj g refl refl in
      let tiles = set-get_or m.tiles t (empty_tile t) in
      λ k. record {
        memory = m.memory;
        contexts = sorted_by_act (flat_map tile_contexts (tiles k) ++ (flat_map entry_contexts m.kernel.seats ++ contexts k));
        flights = packets k;
        kernel_next = m.kernel.next;
        grants = closed_from 1 (closed k) m.kernel.grants;
      }

  -- a tile takes Restore
  pub restores_at : (c : Context) (xs : List Heard) (rest : List Parcel) (x : Tile)
      → link_at from t m ≡ Restore c.act c xs ∷ rest → (tile_at t m).current ≡ None → x.current ≡ Some c → DistinctActs (all_contexts m)
      → ideal_of (left_by rest x) ≡ ideal_of m
  restores_at c xs rest x g e d apart =
      let i = 16 * from + t in
      let seats = flat_map entry_contexts m.kernel.seats in
      let old = flat_links contexts_in m.links in
      let left = flat_links contexts_in (set m.links i rest) in
      let ts = flat_map tile_contexts m.tiles in
      let us = flat_map tile_contexts (set m.tiles t x) in
      let before : Inserts c (ts ++ (seats ++ left)) (ts ++ (seats ++ old)) =
      inserts_left ts c (seats ++ left) (seats ++ old) (inserts_left seats c left old (pop_one contexts_in m.links i (Restore c.act c xs) rest c hi g refl)) in
      let comes : Inserts c ts us =
      fills tile_contexts (flat_map tile_contexts) (get_or m.tiles t (empty_tile t)) m.tiles (λ y. set m.tiles t y) c x (around_set tile_contexts (empty_tile t) m.tiles t ht) (ap option_list e) (ap option_list d) in
      let after : Inserts c (ts ++ (seats ++ left)) (us ++ (seats ++ left)) = inserts_right (seats ++ left) c ts us comes in
      let contexts = context-moves c (ts ++ (seats ++ left)) (us ++ (seats ++ left)) (ts ++ (seats ++ old)) after before
      (apart_inserts c (ts ++ (seats ++ left)) (ts ++ (seats ++ old)) before apart) in
      let packets = pop_none packets_in m.links i (Restore c.act c xs) rest hi g refl in
      let closed = pop_none closed_in m.links i (Restore c.act c xs) rest hi g refl in
      λ k. record {
        memory = m.memory;
        contexts = contexts k;
        flights = sorted_by_name (flat_map held_by m.kernel.seats ++ packets k);
        kernel_next = m.kernel.next;
        grants = closed_from 1 (closed k) m.kernel.grants;
      }

-- ---- the kernel takes Saved

-- the ideal state of both machines is the same, and no activity has two contexts
abbrev pub StaysIdeal : Machine → Machine → Type 0
StaysIdeal m n = (ideal_of n ≡ ideal_of m) × DistinctActs (all_contexts n)

module _ (m : Machine) (i : ℕ) (hi : i < length m.links) where
  -- the seats with this one in place of its activity's, on any further change of ready lists
  pub seats_at : (c : Context) (waiting ended : Bool) (rest : List Parcel) (x y : ActivityEntry) (k : Kernel)
      → get_or m.links i [] ≡ Saved c.act c waiting ended ∷ rest
      → keyed.find entry_act same_act y.act m.kernel.seats ≡ Some x → x.seating ≡ Is_leaving → entry_contexts y ≡ c ∷ [] → y.hold ≡ x.hold
      → k.seats ≡ keyed.with_replaced entry_act same_act y m.kernel.seats → k.next ≡ m.kernel.next → k.grants ≡ m.kernel.grants
      → DistinctActs (all_contexts m)
      → (ideal_of (record m { kernel = k; links = set m.links i rest }) ≡ ideal_of m) × DistinctActs (all_contexts (record m { kernel = k; links = set m.links i rest }))
  seats_at c waiting ended rest x y k g f e d b s n gs apart =
      let old = flat_links contexts_in m.links in
      let left = flat_links contexts_in (set m.links i rest) in
      let ts = flat_map tile_contexts m.tiles in
      let ss = flat_map entry_contexts m.kernel.seats in
      let us = flat_map entry_contexts (keyed.with_replaced entry_act same_act y m.kernel.seats) in
      let before : Inserts c (ts ++ (ss ++ left)) (ts ++ (ss ++ old)) =
      inserts_left ts c (ss ++ left) (ss ++ old) (inserts_left ss c left old (pop_one contexts_in m.links i (Saved c.act c waiting ended) rest c hi g refl)) in
      let r = around_replaced entry_act same_act entry_contexts x y m.kernel.seats f in
      let rests : Inserts c ss us =
      record {
        front = r.front;
        back = r.back;
        without = r.here ∙ ap (λ l. r.front ++ (residency_contexts l ++ r.back)) e;
        whole = r.there ∙ ap (λ l. r.front ++ (l ++ r.back)) d;
      } in
      let after : Inserts c (ts ++ (ss ++ left)) (ts ++ (us ++ left)) = inserts_left ts c (ss ++ left) (us ++ left) (inserts_right left c ss us rests) in
      let contexts = context-moves c (ts ++ (ss ++ left)) (ts ++ (us ++ left)) (ts ++ (ss ++ old)) after before
      (apart_inserts c (ts ++ (ss ++ left)) (ts ++ (ss ++ old)) before apart) in
      let q = around_replaced entry_act same_act held_by x y m.kernel.seats f in
      let hold : flat_map held_by (keyed.with_replaced entry_act same_act y m.kernel.seats) ≡ flat_map held_by m.kernel.seats = q.there ∙ ap (λ l. q.front ++ (l ++ q.back)) b ∙ sym q.here in
      let packets = pop_none packets_in m.links i (Saved c.act c waiting ended) rest hi g refl in
      let closed = pop_none closed_in m.links i (Saved c.act c waiting ended) rest hi g refl in
      let all = ap (λ z. sorted_by_act (ts ++ (flat_map entry_contexts z ++ left))) s ∙ contexts in
      let held = ap (flat_map held_by) s ∙ hold in
      let same : ideal_of (record m { kernel = k; links = set m.links i rest }) ≡ ideal_of m =
      λ z. record {
        memory = m.memory;
        contexts = all z;
        flights = sorted_by_name (held z ++ packets z);
        kernel_next = n z;
        grants = closed_from 1 (closed z) (gs z);
      } in
      let still : DistinctActs (ts ++ (us ++ left)) =
      apart_moves c (ts ++ (ss ++ left)) (ts ++ (ss ++ old)) (ts ++ (us ++ left)) before after apart in
      (same, subst (λ z. DistinctActs (ts ++ (flat_map entry_contexts z ++ left))) (sym s) still)

  -- the kernel sends Restore for an activity that comes
  pub restore_out_at : (c : Context) (xs : List Heard) (x y : ActivityEntry) (k : Kernel)
      → keyed.find entry_act same_act y.act m.kernel.seats ≡ Some x → entry_contexts x ≡ c ∷ [] → entry_contexts y ≡ [] → y.hold ≡ x.hold
      → k.seats ≡ keyed.with_replaced entry_act same_act y m.kernel.seats → k.next ≡ m.kernel.next → k.grants ≡ m.kernel.grants
      → DistinctActs (all_contexts m)
      → ideal_of (record m { kernel = k; links = set m.links i (get_or m.links i [] ++ Restore c.act c xs ∷ []) }) ≡ ideal_of m
  restore_out_at c xs x y k f e d b s n gs apart =
      let old = flat_links contexts_in m.links in
      let new = flat_links contexts_in (set m.links i (get_or m.links i [] ++ Restore c.act c xs ∷ [])) in
      let ts = flat_map tile_contexts m.tiles in
      let ss = flat_map entry_contexts m.kernel.seats in
      let us = flat_map entry_contexts (keyed.with_replaced entry_act same_act y m.kernel.seats) in
      let r = around_replaced entry_act same_act entry_contexts x y m.kernel.seats f in
      let leaves : Inserts c us ss =
      record {
        front = r.front;
        back = r.back;
        without = r.there ∙ ap (λ l. r.front ++ (l ++ r.back)) d;
        whole = r.here ∙ ap (λ l. r.front ++ (l ++ r.back)) e;
      } in
      let before : Inserts c (ts ++ (us ++ old)) (ts ++ (ss ++ old)) = inserts_left ts c (us ++ old) (ss ++ old) (inserts_right old c us ss leaves) in
      let after : Inserts c (ts ++ (us ++ old)) (ts ++ (us ++ new)) =
      inserts_left ts c (us ++ old) (us ++ new) (inserts_left us c old new (push_one contexts_in m.links i (Restore c.act c xs) c hi refl)) in
      let contexts = context-moves c (ts ++ (us ++ old)) (ts ++ (us ++ new)) (ts ++ (ss ++ old)) after before
      (apart_inserts c (ts ++ (us ++ old)) (ts ++ (ss ++ old)) before apart) in
      let q = around_replaced entry_act same_act held_by x y m.kernel.seats f in
      let hold : flat_map held_by (keyed.with_replaced entry_act same_act y m.kernel.seats) ≡ flat_map held_by m.kernel.seats = q.there ∙ ap (λ l. q.front ++ (l ++ q.back)) b ∙ sym q.here in
      let packets = push_none packets_in m.links i (Restore c.act c xs) hi refl in
      let closed = push_none closed_in m.links i (Restore c.act c xs) hi refl in
      let all = ap (λ z. sorted_by_act (ts ++ (flat_map entry_contexts z ++ new))) s ∙ contexts in
      let held = ap (flat_map held_by) s ∙ hold in
      λ z. record {
        memory = m.memory;
        contexts = all z;
        flights = sorted_by_name (held z ++ packets z);
        kernel_next = n z;
        grants = closed_from 1 (closed z) (gs z);
      }
