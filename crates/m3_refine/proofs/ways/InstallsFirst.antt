-- What a step does to the ways: a link is set anew, or the kernel, and the kernel sends packets of its own.
use Rattle.std.proofs.Common.{◌≡◌, ℕ, ◌+◌, ◌*◌, ◌<◌, ◌≤◌, Bool, true, false, List, [], ◌∷◌, ◌++◌, length, Option, Some, None, refl, sym, subst, ◌∙◌, ap, arith}
use Rattle.std.specs.Prelude.{if◌then◌else◌}
use Rattle.std.proofs.lemmas.Bool.Decides.{nat_tests}
use Rattle.m3_base.specs.declared.ids.FlightId.{FlightId}
use Rattle.m3_base.specs.declared.packet.Packet.{Packet}
use Rattle.m3_base.specs.declared.event.Said.{Said}
use Rattle.m3_base.specs.declared.event.No.{No}
use Rattle.m3_base.specs.declared.packet.Fresh.{Fresh}
use Rattle.m3_base.specs.declared.order.GrantLine.{GrantLine}
use Rattle.m3_base.specs.Ideal.Step.{number_of}
use Rattle.m3_base.specs.Ideal.State.{Grant, grant_in, same_act, holder, holder_ep}
use Rattle.m3_base.specs.Ideal.GrantRules.{form, send_form, part_form, new_grant, change_grant}
use Rattle.m3_base.specs.Placement.Routing.{target}
use Rattle.m3_base.specs.Placement.Take.{is_here}
use Rattle.m3_base.specs.Lists.EachElement.{Each}
use Rattle.m3_merge.proofs.MergedIsRun.{each_append, each_map}
use Rattle.m3_model.specs.Config.Site.{Site, tile_of, Home}
use Rattle.m3_model.specs.Parcel.{Parcel, Data, Save, Saved, Restore, Yield, Closed}
use Rattle.m3_model.specs.Kernel.State.{ActivityEntry, EntryResidency, Is_placed, Is_leaving, Is_resting, Is_coming, Kernel}
use Rattle.m3_model.specs.LocalStep.{LocalResult}
use Rattle.m3_model.specs.Kernel.Step.{entry_act, entry_of, is_placed_entry, with_held, route_to, entry_for, route, kernel_id, own_packet_out, make_with, close_of}
use Rattle.m3_model.specs.Machine.{Machine, link_at, with_link, with_parcel, with_parcels, rest}
use Rattle.m3_model.specs.Abstraction.{flat_map}
use Rattle.m3_model.specs.Invariant.Scheduling.{EntryOk}
use Rattle.m3_model.specs.Invariant.Structure.{MachineStructure}
use Rattle.m3_model.specs.Ways.{MayFollow, InstallsFirst, ClosesOneOf, IsOwn, OwnFrom, packets_for, way_by, HasWay, IsOnWay}
use Rattle.m3_refine.proofs.abstraction.EntriesMatchActors.{AreSeats, are_seats}
use Rattle.m3_refine.proofs.lists.EachElement.{InSome, each_found, each_replaced}
use Rattle.m3_refine.proofs.abstraction.ReplaceEntry.{seat_key}
use Rattle.m3_refine.proofs.lists.Update.{links_set}
use Rattle.m3_refine.proofs.ways.WayLists.{first_popped, first_pushed, first_beside, plain_own, plain_behind, plain_before, each_all, closes_more, own_more, closes_for, may_follow}
use Rattle.m3_refine.proofs.ways.KernelWays.{PlainParcel, AllPlain, WayKernel, held_way, count_changed}
use Rattle.m3_base.proofs.ListLookups.{length_pushed}
use Rattle.m3_base.proofs.GrantsByNumber.{grant_past}
use Rattle.std.proofs.lemmas.List.{length-set}

-- ---- one link is set anew

abbrev Same : ℕ → ℕ → Type 0
Same a b = a ≡ b

abbrev pub Tiles : Site → Type 0
Tiles h = (a : ℕ) → tile_of h a < 16

module _ (h : Site) (low : Tiles h) (m : Machine) (len : length m.links ≡ 256) (from to : ℕ) (hf : from < 16) (ht : to < 16) where
  abbrev n : ℕ
  n = length m.kernel.grants

  relinked : (l : List Parcel) → IsOnWay h m → Each (OwnFrom h n from to) l → Each (λ x. from ≡ 0 → to ≡ tile_of h x.act → InstallsFirst (flat_map (packets_for x.act) l ++ x.hold)) m.kernel.seats → IsOnWay h (with_link from to l m)
  relinked l w o s = record {
    own = λ a b ha hb.
        links_set m.links from to l hf ht len (λ x y qs. Each (OwnFrom h n x y) qs) a b hb (w.own a b ha hb)
        (λ e d. subst (λ x. Each (OwnFrom h n x b) l) e (subst (λ y. Each (OwnFrom h n from y) l) d o));
    seats = both m.kernel.seats w.seats s;
  }
    where
      both : (xs : List ActivityEntry) → Each (HasWay h n (λ t. link_at 0 t m)) xs → Each (λ x. from ≡ 0 → to ≡ tile_of h x.act → InstallsFirst (flat_map (packets_for x.act) l ++ x.hold)) xs → Each (HasWay h n (λ t. link_at 0 t (with_link from to l m))) xs
      both [] p q = tt
      both (x ∷ xs) p q = (
        (
          links_set m.links from to l hf ht len (λ a b qs. a ≡ 0 → b ≡ tile_of h x.act → InstallsFirst (flat_map (packets_for x.act) qs ++ x.hold)) 0 (tile_of h x.act) (low x.act)
              (λ c d. p.0.0) (λ e d c f. q.0 e d) refl refl,
          p.0.1,
        ),
        both xs p.1 q.1,
      )

  -- what holds of the old link holds of the new one
  relinked_by : (l : List Parcel) → IsOnWay h m → Each (OwnFrom h n from to) l
      → ((a : ℕ) (ps : List Packet) → InstallsFirst (flat_map (packets_for a) (link_at from to m) ++ ps) → InstallsFirst (flat_map (packets_for a) l ++ ps)) → IsOnWay h (with_link from to l m)
  relinked_by l w o f = relinked l w o (each_map (HasWay h n (λ t. link_at 0 t m)) (λ x. from ≡ 0 → to ≡ tile_of h x.act → InstallsFirst (flat_map (packets_for x.act) l ++ x.hold)) here m.kernel.seats w.seats)
    where
      here : (x : ActivityEntry) → HasWay h n (λ t. link_at 0 t m) x → from ≡ 0 → to ≡ tile_of h x.act → InstallsFirst (flat_map (packets_for x.act) l ++ x.hold)
      here x p e d =
          f x.act x.hold (
          subst (λ a. InstallsFirst (flat_map (packets_for x.act) (link_at a to m) ++ x.hold)) (sym e)
          (subst (λ b. InstallsFirst (flat_map (packets_for x.act) (link_at 0 b m) ++ x.hold)) (sym d) p.0)
          )

  -- the front is taken
  pub way_taken : IsOnWay h m → IsOnWay h (with_link from to (rest (link_at from to m)) m)
  way_taken w = relinked_by (rest (link_at from to m)) w (own_rest (link_at from to m) (w.own from to hf ht)) (λ a ps. first_rest a ps (link_at from to m))
    where
      own_rest : (l : List Parcel) → Each (OwnFrom h n from to) l → Each (OwnFrom h n from to) (rest l)
      own_rest [] o = tt
      own_rest (q ∷ qs) o = o.1

      first_rest : (a : ℕ) (ps : List Packet) (l : List Parcel) → InstallsFirst (flat_map (packets_for a) l ++ ps) → InstallsFirst (flat_map (packets_for a) (rest l) ++ ps)
      first_rest a ps [] i = i
      first_rest a ps (q ∷ qs) i = first_popped a q qs ps i

  -- what is neither an Install nor a Close is sent
  pub way_sent : (q : Parcel) → PlainParcel q → IsOnWay h m → IsOnWay h (with_link from to (link_at from to m ++ q ∷ []) m)
  way_sent q plain w =
      relinked_by (link_at from to m ++ q ∷ []) w (each_append (OwnFrom h n from to) (link_at from to m) (q ∷ []) (w.own from to hf ht) (own q plain, tt)) (λ a ps. sent a ps (link_at from to m) q plain)
    where
      own : (q : Parcel) → PlainParcel q → OwnFrom h n from to q
      own (Data p) k = plain_own h n from to p k
      own (Save a) k = tt
      own (Saved a c x e) k = tt
      own (Restore a c xs) k = tt
      own (Yield a) k = tt
      own (Closed g) k = tt

      sent : (a : ℕ) (ps : List Packet) (l : List Parcel) (q : Parcel) → PlainParcel q → InstallsFirst (flat_map (packets_for a) l ++ ps) → InstallsFirst (flat_map (packets_for a) (l ++ q ∷ []) ++ ps)
      sent a ps l (Data p) k i = first_pushed a l p ps (λ e. (each_all (λ x. MayFollow x p) (plain_behind p k) (flat_map (packets_for a) l), each_all (MayFollow p) (plain_before p k) ps)) i
      sent a ps l (Save b) k i = first_beside a l (Save b) ps refl i
      sent a ps l (Saved b c x e) k i = first_beside a l (Saved b c x e) ps refl i
      sent a ps l (Restore b c xs) k i = first_beside a l (Restore b c xs) ps refl i
      sent a ps l (Yield b) k i = first_beside a l (Yield b) ps refl i
      sent a ps l (Closed g) k i = first_beside a l (Closed g) ps refl i

pub way_all_sent : (h : Site) → Tiles h → (t : ℕ) → t < 16 → (out : List (ℕ × Parcel)) (m : Machine) → length m.links ≡ 256 → AllPlain out → IsOnWay h m → IsOnWay h (with_parcels t out m)
way_all_sent h low t ht [] m len o w = w
way_all_sent h low t ht (x ∷ xs) m len o w =
    way_all_sent h low t ht xs (with_parcel t x m) (length-set m.links (16 * t + x.0) (link_at t x.0 m ++ x.1 ∷ []) ∙ len) o.1 (way_sent h low m len t x.0 ht o.0.0 x.1 o.0.1 w)

-- ---- the kernel is set anew

pub way_kernel : (h : Site) (m : Machine) (k : Kernel) → length m.kernel.grants ≤ length k.grants → IsOnWay h m → Each (HasWay h (length k.grants) (λ t. link_at 0 t m)) k.seats → IsOnWay h (record m { kernel = k })
way_kernel h m k more w s = record {
  own = λ a b ha hb. each_map (OwnFrom h (length m.kernel.grants) a b) (OwnFrom h (length k.grants) a b) (λ q o. own_more h (length m.kernel.grants) (length k.grants) a b q more o) (link_at a b m) (w.own a b ha hb);
  seats = s;
}

-- as many grants as before
pub way_same : (h : Site) (low : Tiles h) (m : Machine) (k : Kernel) → IsOnWay h m → WayKernel h low (length m.kernel.grants) (λ t. link_at 0 t m) k → IsOnWay h (record m { kernel = k })
way_same h low m k w s =
    let e : length k.grants ≡ length m.kernel.grants = s.1 in
    way_kernel h m k (omega (arith, e)) w (subst (λ n. Each (HasWay h n (λ t. link_at 0 t m)) k.seats) (sym e) s.0)

-- ---- the kernel's own packets

-- each seat is found by its activity
pub apart_seats : (h : Site) (k : Kernel) (xs : List ActivityEntry) (ys : List Home) → AreSeats h k xs ys → Each (λ z. entry_of z.act k ≡ Some z) xs
apart_seats h k [] [] a = tt
apart_seats h k [] (y ∷ ys) a = tt
apart_seats h k (x ∷ xs) [] a = absurd a
apart_seats h k (x ∷ xs) (y ∷ ys) a = (subst (λ n. entry_of n k ≡ Some x) (sym a.0.act) a.0.seat, apart_seats h k xs ys a.1)

module _ (h : Site) (low : Tiles h) (m : Machine) (len : length m.links ≡ 256) (w : IsOnWay h m) where
  abbrev count : ℕ
  count = length m.kernel.grants

  abbrev links : ℕ → List Parcel
  links t = link_at 0 t m

  zero_low : 0 < 16
  zero_low = omega arith

  link_closes : (a : ℕ) → Each (ClosesOneOf count) (flat_map (packets_for a) (links (tile_of h a)))
  link_closes a = closes_for h count 0 (tile_of h a) a (links (tile_of h a)) (w.own 0 (tile_of h a) zero_low (low a))

  -- an own packet p, with which the kernel's next number and its grants change
  module _ (next : ℕ) (gs : List Grant) (more : length m.kernel.grants ≤ length gs) (p : Packet) (behind : (q : Packet) → ClosesOneOf (length m.kernel.grants) q → MayFollow q p)
      (one : ClosesOneOf (length gs) p) (a : ℕ) (aim : target p ≡ Some a) (own : IsOwn h (length gs) 0 (tile_of h a) p)
      (before : (x : ActivityEntry) → entry_of a m.kernel ≡ Some x → is_placed_entry x.seating ≡ true → Each (λ y. is_here (target p) (Some y.act) ≡ true → Each (MayFollow p) y.hold) m.kernel.seats) where
    abbrev k1 : Kernel
    k1 = record m.kernel { next = next; grants = gs }

    abbrev m1 : Machine
    m1 = record m { kernel = k1 }

    seats1 : Each (HasWay h (length gs) links) m.kernel.seats
    seats1 = each_map (HasWay h count links) (HasWay h (length gs) links) (λ x s. (s.0, each_map (ClosesOneOf count) (ClosesOneOf (length gs)) (λ q c. closes_more count (length gs) q more c) x.hold s.1)) m.kernel.seats w.seats

    w1 : IsOnWay h m1
    w1 = way_kernel h m k1 more w seats1

    -- all of a way may stand before it
    way_before : (x : ActivityEntry) → HasWay h count links x → Each (λ q. MayFollow q p) (way_by h links x)
    way_before x s =
        each_map (ClosesOneOf count) (λ q. MayFollow q p) behind (way_by h links x)
        (each_append (ClosesOneOf count) (flat_map (packets_for x.act) (links (tile_of h x.act))) x.hold (link_closes x.act) s.1)

    held : (x : ActivityEntry) → HasWay h count links x → HasWay h (length gs) links x → IsOnWay h (record m { kernel = with_held p x k1 })
    held x s t =
        way_kernel h m1 (with_held p x k1) (omega arith) w1 (
        each_replaced (HasWay h (length gs) links) entry_act same_act (record x { hold = x.hold ++ p ∷ [] }) m.kernel.seats seats1
        (held_way h low (length gs) links p x (way_before x s) one t)
        )

    sent : (x : ActivityEntry) → x.act ≡ a → Each (λ y. is_here (target p) (Some y.act) ≡ true → Each (MayFollow p) y.hold) m.kernel.seats → IsOnWay h (with_link 0 (tile_of h x.act) (links (tile_of h x.act) ++ Data p ∷ []) m1)
    sent x key after =
        relinked h low m1 len 0 (tile_of h x.act) zero_low (low x.act) (links (tile_of h x.act) ++ Data p ∷ []) w1
        (each_append (OwnFrom h (length gs) 0 (tile_of h x.act)) (links (tile_of h x.act)) (Data p ∷ []) (w1.own 0 (tile_of h x.act) zero_low (low x.act)) (subst (λ n. IsOwn h (length gs) 0 (tile_of h n) p) (sym key) own, tt))
        (both m.kernel.seats seats1 after)
      where
        both : (ys : List ActivityEntry) → Each (HasWay h (length gs) links) ys → Each (λ y. is_here (target p) (Some y.act) ≡ true → Each (MayFollow p) y.hold) ys
            → Each (λ y. Same 0 0 → tile_of h x.act ≡ tile_of h y.act → InstallsFirst (flat_map (packets_for y.act) (links (tile_of h x.act) ++ Data p ∷ []) ++ y.hold)) ys
        both [] s b = tt
        both (y ∷ ys) s b = (
          (λ e d. subst (λ t. InstallsFirst (flat_map (packets_for y.act) (links t ++ Data p ∷ []) ++ y.hold)) (sym d) (
              first_pushed y.act (links (tile_of h y.act)) p y.hold
              (λ f. (each_map (ClosesOneOf count) (λ q. MayFollow q p) behind (flat_map (packets_for y.act) (links (tile_of h y.act))) (link_closes y.act), b.0 f)) s.0.0
              )),
          both ys s.1 b.1,
        )

    routed : (said : Bool → Said) (o : Option ActivityEntry) → entry_of a m.kernel ≡ o → InSome (HasWay h count links) o → InSome (HasWay h (length gs) links) o
        → IsOnWay h (with_parcels 0 (own_packet_out m.kernel said (route_to h p k1 o)).out (record m { kernel = (own_packet_out m.kernel said (route_to h p k1 o)).part }))
    routed said None e s t = record { own = w.own; seats = w.seats }
    routed said (Some x) e s t = by_place (is_placed_entry x.seating) refl
      where
        by_place : (b : Bool) → is_placed_entry x.seating ≡ b
            → IsOnWay h (with_parcels 0 (own_packet_out m.kernel said (Some (if b then record { held = false; kernel = k1; out = (tile_of h x.act, Data p) ∷ [] } else record { held = true; kernel = with_held p x k1; out = [] }))).out (record m { kernel = (own_packet_out m.kernel said (Some (if b then record { held = false; kernel = k1; out = (tile_of h x.act, Data p) ∷ [] } else record { held = true; kernel = with_held p x k1; out = [] }))).part }))
        by_place true z = sent x (seat_key a m.kernel.seats x e) (before x e z)
        by_place false z = held x s t

    pub own_sent : (said : Bool → Said) → IsOnWay h (with_parcels 0 (own_packet_out m.kernel said (route h p k1)).out (record m { kernel = (own_packet_out m.kernel said (route h p k1)).part }))
    own_sent said =
        subst (λ o. IsOnWay h (with_parcels 0 (own_packet_out m.kernel said (route_to h p k1 (entry_for o k1))).out (record m { kernel = (own_packet_out m.kernel said (route_to h p k1 (entry_for o k1))).part }))) (sym aim) (
        routed said (entry_of a m.kernel) refl (each_found (HasWay h count links) entry_act same_act a m.kernel.seats w.seats) (each_found (HasWay h (length gs) links) entry_act same_act a m.kernel.seats seats1)
        )

  abbrev pub Leaves : LocalResult Kernel → Type 0
  Leaves d = IsOnWay h (with_parcels 0 d.out (record m { kernel = d.part }))

  pub unchanged : IsOnWay h (record m { kernel = m.kernel })
  unchanged = record { own = w.own; seats = w.seats }

  -- ---- a new grant's Install

  pub form_number : (g : ℕ) (line : GrantLine) (o : Option Grant) → InSome (λ f. number_of f ≡ g) (form g line o)
  form_number g (GrantLine.Recv act ep slots size) o = refl
  form_number g (GrantLine.Send act ep of label credits) None = tt
  form_number g (GrantLine.Send act ep of label credits) (Some x) = by_form x.fresh
    where
      by_form : (f : Fresh) → InSome (λ f. number_of f ≡ g) (send_form g of label credits x.line f)
      by_form (Fresh.Send i to to_ep to_grant l size limit) = tt
      by_form (Fresh.Receive i slots size) = refl
      by_form (Fresh.Memory i start length perm) = tt
  form_number g (GrantLine.Range act ep at len perm) o = refl
  form_number g (GrantLine.Part act ep of at len perm) None = tt
  form_number g (GrantLine.Part act ep of at len perm) (Some x) = by_form x.fresh
    where
      by_form : (f : Fresh) → InSome (λ f. number_of f ≡ g) (part_form g at len perm f)
      by_form (Fresh.Send i to to_ep to_grant l size limit) = tt
      by_form (Fresh.Receive i slots size) = tt
      by_form (Fresh.Memory i start length its) = refl

  new_behind : (id : FlightId) (to ep : ℕ) (f : Fresh) → number_of f ≡ count + 1 → (q : Packet) → ClosesOneOf count q → MayFollow q (Packet.Install id to ep f)
  new_behind id to ep f e (Packet.Message a x g y) c = tt
  new_behind id to ep f e (Packet.Credit x a g) c = tt
  new_behind id to ep f e (Packet.Read x g place buffer) c = tt
  new_behind id to ep f e (Packet.Write x g place payload) c = tt
  new_behind id to ep f e (Packet.Answer x answer) c = tt
  new_behind id to ep f e (Packet.Install x a y z) c = tt
  new_behind id to ep f e (Packet.Close x a y g) c = grind (arith, nat_tests, e, c)

  pub way_made : (line : GrantLine) (o : Option No) (f : Option Fresh) → InSome (λ f. number_of f ≡ count + 1) f → Leaves (make_with h m.kernel line o f)
  way_made line (Some why) f k = unchanged
  way_made line None None k = unchanged
  way_made line None (Some f) k =
      let p = Packet.Install (kernel_id m.kernel) (holder line) (holder_ep line) f in
      own_sent (m.kernel.next + 1) (m.kernel.grants ++ new_grant line f ∷ []) (let z = length_pushed m.kernel.grants (new_grant line f) in omega (arith, z)) p (new_behind (kernel_id m.kernel) (holder line) (holder_ep line) f k) tt (holder line) refl (refl, refl)
      (λ x e z. each_all (λ (y : ActivityEntry). is_here (target p) (Some y.act) ≡ true → Each (MayFollow p) y.hold) (λ y i. each_all (MayFollow p) (λ q. tt) y.hold) m.kernel.seats)
      (λ held. Said.Granted (count + 1) (kernel_id m.kernel) held)

  -- ---- a grant's Close

  module _ (sound : MachineStructure h m) where
    placed_empty : (x : ActivityEntry) (s : EntryResidency) → EntryOk h m.tiles x s → is_placed_entry s ≡ true → x.hold ≡ []
    placed_empty x Is_placed o e = o
    placed_empty x Is_leaving o e = absurd (cc)
    placed_empty x (Is_resting y) o e = absurd (cc)
    placed_empty x (Is_coming y) o e = absurd (cc)

    -- nothing is held where its activity is Placed
    none_held : (a : ℕ) (p : Packet) → target p ≡ Some a → (x : ActivityEntry) → entry_of a m.kernel ≡ Some x → is_placed_entry x.seating ≡ true → Each (λ y. is_here (target p) (Some y.act) ≡ true → Each (MayFollow p) y.hold) m.kernel.seats
    none_held a p aim x e z =
        each_map (λ y. entry_of y.act m.kernel ≡ Some y) (λ y. is_here (target p) (Some y.act) ≡ true → Each (MayFollow p) y.hold) here m.kernel.seats
        (apart_seats h m.kernel m.kernel.seats h.homes (are_seats h m.kernel sound.housed.seats sound.setup.homes))
      where
        empty : x.hold ≡ []
        empty = placed_empty x x.seating (sound.seated.seats a x e).0 z

        here : (y : ActivityEntry) → entry_of y.act m.kernel ≡ Some y → is_here (target p) (Some y.act) ≡ true → Each (MayFollow p) y.hold
        here y f i =
            let aimed : is_here (Some a) (Some y.act) ≡ true = subst (λ o. is_here o (Some y.act) ≡ true) aim i in
            let q : a ≡ y.act = grind (arith, nat_tests, aimed) in
            let both : Some x ≡ Some y = sym e ∙ ap (λ n. entry_of n m.kernel) q ∙ f in
            let s : x ≡ y = cc in
            subst (λ l. Each (MayFollow p) l) (sym empty ∙ ap (λ (u : ActivityEntry). u.hold) s) tt

    pub way_closed : (g : ℕ) (o : Option Grant) → grant_in m.kernel.grants g ≡ o → Leaves (close_of h m.kernel g o)
    way_closed g None e = unchanged
    way_closed g (Some x) e =
        let p = Packet.Close (kernel_id m.kernel) (holder x.line) (holder_ep x.line) g in
        let gs = change_grant m.kernel.grants g (λ y. record y { close_sent = true }) in
        let same = count_changed m.kernel.grants g (λ y. record y { close_sent = true }) in
        let there = grant_past m.kernel.grants g x e in
        own_sent (m.kernel.next + 1) gs (omega (arith, same)) p (λ q c. may_follow q p (λ i. refl)) (omega (arith, same, there)) (holder x.line) refl (refl, refl, (omega (arith, same, there)))
        (none_held (holder x.line) p refl) (λ held. Said.CloseSent g (kernel_id m.kernel) held)
