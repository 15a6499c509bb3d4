-- Where a Close is the next that its activity gets, no Install of its grant is on its way to that activity any more.
use Rattle.std.proofs.Common.{◌≡◌, ℕ, zero, suc, ◌+◌, ◌*◌, ◌-◌, ◌<◌, ◌≤◌, Bool, true, false, cond, List, [], ◌∷◌, ◌++◌, length, get_or, Some, refl, sym, subst, ◌∙◌, ap, arith, ⊎_elim}
use Rattle.std.specs.Prelude.{◌==◌}
use Rattle.std.proofs.lemmas.Bool.{cases_lt}
use Rattle.std.proofs.lemmas.Bool.Decides.{nat_tests}
use Rattle.m3_base.specs.declared.ids.FlightId.{FlightId}
use Rattle.m3_base.specs.declared.packet.Packet.{Packet}
use Rattle.m3_base.specs.Ideal.Flights.{same_name, name_before, name_of, flight, new_flight, sorted_by_name}
use Rattle.m3_base.specs.Placement.Routing.{target}
use Rattle.m3_base.specs.Placement.Take.{is_here}
use Rattle.m3_base.specs.Lists.EachElement.{Each}
use Rattle.m3_merge.proofs.MergedIsRun.{each_append, each_map}
use Rattle.m3_model.specs.Config.Site.{Site, tile_of}
use Rattle.m3_model.specs.Parcel.{Parcel, Data, Save, Saved, Restore, Yield, Closed}
use Rattle.m3_model.specs.Kernel.State.{ActivityEntry}
use Rattle.m3_model.specs.Kernel.Step.{entry_act, entry_of}
use Rattle.m3_model.specs.Config.KnownActivities.{is_home}
use Rattle.m3_model.specs.Machine.{Machine, link_at}
use Rattle.m3_model.specs.Abstraction.{flat_map, flat_links, held_by, packets_in, all_packets, ideal_of}
use Rattle.m3_model.specs.Invariant.Scheduling.{HoldOk}
use Rattle.m3_model.specs.Invariant.Parcels.{ParcelOk}
use Rattle.m3_model.specs.Invariant.Structure.{MachineStructure}
use Rattle.m3_model.specs.Ways.{InstallsFirst, IsOwn, OwnFrom, packets_for, way, HasWay, IsOnWay}
use Rattle.m3_refine.proofs.abstraction.EntriesMatchActors.{are_seats}
use Rattle.m3_refine.proofs.lists.EachElement.{InSome, each_found}
use Rattle.m3_base.specs.Ideal.State.{same_act}
use Rattle.m3_refine.proofs.arrival.AnswerAndClosed.{named_target}
use Rattle.m3_refine.proofs.events.take.RouteRefines.{KnownActivity, known_activity}
use Rattle.m3_refine.proofs.ways.InstallsFirst.{apart_seats}
use Rattle.m3_base.specs.Ideal.Step.{is_install_of}

-- ---- each link by its tiles

split_link : (n i : ℕ) → i < 16 * n → (a : ℕ) × (b : ℕ) × (a < n) × (b < 16) × (i ≡ 16 * a + b)
split_link zero i l = absurd (omega (arith, l))
split_link (suc n) i l =
    ⊎_elim
    (λ (less : i < 16 * n). let r = split_link n i less in (r.0, r.1, (let z = r.2 in omega (arith, z)), r.3, r.4))
    (λ (more : 16 * n ≤ i). (n, i - 16 * n, omega arith, omega (arith, l, more), omega (arith, l, more)))
    (cases_lt i (16 * n))

each_by_place : {X : Type 0} (P : X → Type 0) (d : X) (xs : List X) → ((i : ℕ) → i < length xs → P (get_or xs i d)) → Each P xs
each_by_place P d [] f = tt
each_by_place P d (x ∷ xs) f = (f zero (omega arith), each_by_place P d xs (λ i l. f (suc i) (omega (arith, l))))

each_link : (P : List Parcel → Type 0) (links : List (List Parcel)) → length links ≡ 256 → ((a b : ℕ) → a < 16 → b < 16 → P (get_or links (16 * a + b) [])) → Each P links
each_link P links len f =
    each_by_place P [] links (λ i l. let s = split_link 16 i (omega (arith, l, len)) in subst (λ j. P (get_or links j [])) (sym s.4) (f s.0 s.1 s.2 s.3))

-- ---- a flight is one of the packets

each_new : (P : Packet → Type 0) (p : Packet) (ps : List Packet) → P p → Each P ps → Each P (new_flight p ps)
each_new P p [] k e = (k, tt)
each_new P p (x ∷ xs) k e = by_test (name_before (name_of p) (name_of x)) (each_new P p xs k e.1)
  where
    by_test : (b : Bool) → Each P (new_flight p xs) → Each P (cond b (p ∷ x ∷ xs) (x ∷ new_flight p xs))
    by_test true r = (k, e)
    by_test false r = (e.0, r)

each_by_name : (P : Packet → Type 0) (ps : List Packet) → Each P ps → Each P (sorted_by_name ps)
each_by_name P [] e = tt
each_by_name P (p ∷ ps) e = each_new P p (sorted_by_name ps) e.0 (each_by_name P ps e.1)

module _ (h : Site) (m : Machine) (sound : MachineStructure h m) (w : IsOnWay h m) (a : ℕ) (known : is_home h a ≡ true) (g : ℕ) where
  abbrev pub its : KnownActivity h m a
  its = known_activity h m a sound known

  pub seat_found : entry_of a m.kernel ≡ Some its.seat
  seat_found = subst (λ n. entry_of n m.kernel ≡ Some its.seat) its.key its.its.seat

  pub seat_is : its.seat.act ≡ a
  seat_is = its.its.act ∙ its.key

  abbrev count : ℕ
  count = length m.kernel.grants

  pub way_there : HasWay h count (λ t. link_at 0 t m) its.seat
  way_there = subst (InSome (HasWay h count (λ t. link_at 0 t m))) seat_found (each_found (HasWay h count (λ t. link_at 0 t m)) entry_act same_act a m.kernel.seats w.seats)

  -- no Install of this grant for this activity
  abbrev pub IsOther : Packet → Type 0
  IsOther q = target q ≡ Some a → is_install_of g q ≡ false

  abbrev pub IsNone : Packet → Type 0
  IsNone q = is_install_of g q ≡ false

  abbrev OtherIn : Parcel → Type 0
  OtherIn q = Each IsOther (packets_in q)

  module _ (none : Each IsNone (way h m its.seat)) where
    none_linked : Each IsNone (flat_map (packets_for a) (link_at 0 (tile_of h a) m))
    none_linked = subst (λ b. Each IsNone (flat_map (packets_for b) (link_at 0 (tile_of h b) m))) seat_is (each_front (flat_map (packets_for its.seat.act) (link_at 0 (tile_of h its.seat.act) m)) its.seat.hold none)
      where
        each_front : (xs ys : List Packet) → Each IsNone (xs ++ ys) → Each IsNone xs
        each_front [] ys e = tt
        each_front (x ∷ xs) ys e = (e.0, each_front xs ys e.1)

    none_held : Each IsNone its.seat.hold
    none_held = each_back (flat_map (packets_for its.seat.act) (link_at 0 (tile_of h its.seat.act) m)) its.seat.hold none
      where
        each_back : (xs ys : List Packet) → Each IsNone (xs ++ ys) → Each IsNone ys
        each_back [] ys e = e
        each_back (x ∷ xs) ys e = each_back xs ys e.1

    -- on the kernel's link to its home
    own_link : (l : List Parcel) → Each IsNone (flat_map (packets_for a) l) → Each OtherIn l
    own_link [] e = tt
    own_link (Data q ∷ qs) e = ((by_target (is_here (target q) (Some a)) refl e, tt), own_link qs (rest_of (is_here (target q) (Some a)) e))
      where
        by_target : (b : Bool) → is_here (target q) (Some a) ≡ b → Each IsNone (cond b (q ∷ []) [] ++ flat_map (packets_for a) qs) → IsOther q
        by_target true d e t = e.0
        by_target false d e t = absurd (let z : is_here (Some a) (Some a) ≡ false = subst (λ o. is_here o (Some a) ≡ false) t d in grind (arith, nat_tests, z))

        rest_of : (b : Bool) → Each IsNone (cond b (q ∷ []) [] ++ flat_map (packets_for a) qs) → Each IsNone (flat_map (packets_for a) qs)
        rest_of true e = e.1
        rest_of false e = e
    own_link (Save b ∷ qs) e = (tt, own_link qs e)
    own_link (Saved b c x d ∷ qs) e = (tt, own_link qs e)
    own_link (Restore b c xs ∷ qs) e = (tt, own_link qs e)
    own_link (Yield b ∷ qs) e = (tt, own_link qs e)
    own_link (Closed n ∷ qs) e = (tt, own_link qs e)

    -- on another one
    other_packet : (from to : ℕ) → (from ≡ 0 → to ≡ tile_of h a → ⊥) → (q : Packet) → IsOwn h count from to q → IsOther q
    other_packet from to f (Packet.Message b ep k x) o t = refl
    other_packet from to f (Packet.Credit id b k) o t = refl
    other_packet from to f (Packet.Read id k place buffer) o t = refl
    other_packet from to f (Packet.Write id k place payload) o t = refl
    other_packet from to f (Packet.Answer id answer) o t = refl
    other_packet from to f (Packet.Install id b ep x) o t = absurd (f o.0 (let z : b ≡ a = cc in o.1 ∙ ap (tile_of h) z))
    other_packet from to f (Packet.Close id b ep k) o t = refl

    other_parcel : (from to : ℕ) → (from ≡ 0 → to ≡ tile_of h a → ⊥) → (q : Parcel) → OwnFrom h count from to q → OtherIn q
    other_parcel from to f (Data q) o = (other_packet from to f q o, tt)
    other_parcel from to f (Save b) o = tt
    other_parcel from to f (Saved b c x d) o = tt
    other_parcel from to f (Restore b c xs) o = tt
    other_parcel from to f (Yield b) o = tt
    other_parcel from to f (Closed n) o = tt

    on_link : (from to : ℕ) → from < 16 → to < 16 → Each OtherIn (link_at from to m)
    on_link from to hf ht = by_tests (from == 0) refl (to == tile_of h a) refl
      where
        elsewhere : (from ≡ 0 → to ≡ tile_of h a → ⊥) → Each OtherIn (link_at from to m)
        elsewhere f = each_map (OwnFrom h count from to) OtherIn (other_parcel from to f) (link_at from to m) (w.own from to hf ht)

        by_tests : (b : Bool) → (from == 0) ≡ b → (d : Bool) → (to == tile_of h a) ≡ d → Each OtherIn (link_at from to m)
        by_tests true e true f =
            let x : from ≡ 0 = grind (arith, nat_tests, e) in
            let y : to ≡ tile_of h a = grind (arith, nat_tests, f) in
            subst (λ n. Each OtherIn (link_at n to m)) (sym x) (subst (λ n. Each OtherIn (link_at 0 n m)) (sym y) (own_link (link_at 0 (tile_of h a) m) none_linked))
        by_tests true e false f = elsewhere (λ x y. absurd (grind (arith, nat_tests, f, y)))
        by_tests false e d f = elsewhere (λ x y. absurd (grind (arith, nat_tests, e, x)))

    linked : Each IsOther (flat_links packets_in m.links)
    linked = all_links m.links (each_link (Each OtherIn) m.links sound.links on_link)
      where
        one_link : (l : List Parcel) → Each OtherIn l → Each IsOther (flat_map packets_in l)
        one_link [] e = tt
        one_link (q ∷ qs) e = each_append IsOther (packets_in q) (flat_map packets_in qs) e.0 (one_link qs e.1)

        all_links : (ls : List (List Parcel)) → Each (Each OtherIn) ls → Each IsOther (flat_links packets_in ls)
        all_links [] e = tt
        all_links (l ∷ ls) e = each_append IsOther (flat_map packets_in l) (flat_links packets_in ls) (one_link l e.0) (all_links ls e.1)

    -- in the hold lists
    held_other : (z : ActivityEntry) → entry_of z.act m.kernel ≡ Some z → Each IsOther z.hold
    held_other z f = by_act (z.act == a) refl
      where
        by_act : (b : Bool) → (z.act == a) ≡ b → Each IsOther z.hold
        by_act true e =
            let n : z.act ≡ a = grind (arith, nat_tests, e) in
            let both : Some its.seat ≡ Some z = sym seat_found ∙ ap (λ i. entry_of i m.kernel) (sym n) ∙ f in
            let s : its.seat ≡ z = cc in
            subst (λ (y : ActivityEntry). Each IsOther y.hold) s (each_map IsNone IsOther (λ q k t. k) its.seat.hold none_held)
        by_act false e = each_map (HoldOk h z.act) IsOther (λ q o t. absurd (let n : Some z.act ≡ Some a = sym o.1 ∙ t in let i : z.act ≡ a = cc in grind (arith, nat_tests, e, i))) z.hold (sound.seated.seats z.act z f).1

    held : Each IsOther (flat_map held_by m.kernel.seats)
    held = all_seats m.kernel.seats (apart_seats h m.kernel m.kernel.seats h.homes (are_seats h m.kernel sound.housed.seats sound.setup.homes))
      where
        all_seats : (zs : List ActivityEntry) → Each (λ z. entry_of z.act m.kernel ≡ Some z) zs → Each IsOther (flat_map held_by zs)
        all_seats [] e = tt
        all_seats (z ∷ zs) e = each_append IsOther z.hold (flat_map held_by zs) (held_other z e.0) (all_seats zs e.1)

    flight_other : (ps : List Packet) → Each IsOther ps → (j : FlightId) (q : Packet) → flight j (sorted_by_name ps) ≡ Some q → IsOther q
    flight_other ps e j q f = subst (InSome IsOther) f (each_found IsOther name_of same_name j (sorted_by_name ps) (each_by_name IsOther ps e))

    -- no Install of the grant flies to the activity
    pub none_flies : (j : FlightId) (q : Packet) → flight j (ideal_of m).flights ≡ Some q → target q ≡ Some a → is_install_of g q ≡ false
    none_flies = flight_other (all_packets m) (each_append IsOther (flat_map held_by m.kernel.seats) (flat_links packets_in m.links) held linked)

-- a Close at the front of a link to a tile: no Install of its grant flies to its activity
pub lands_here : (h : Site) (m : Machine) (sound : MachineStructure h m) → IsOnWay h m → (t from : ℕ) → t < 16 → from < 16 → (id : FlightId) (a ep g : ℕ) (qs : List Parcel) → link_at from t m ≡ Data (Packet.Close id a ep g) ∷ qs
    → (j : FlightId) (q : Packet) → flight j (ideal_of m).flights ≡ Some q → target q ≡ Some a → is_install_of g q ≡ false
lands_here h m sound w t from ht hf id a ep g qs e =
    let own = (subst (Each (OwnFrom h (length m.kernel.grants) from t)) e (w.own from t hf ht)).0 in
    let ok = (subst (Each (ParcelOk h m.kernel m.tiles from t)) e (sound.parcels from t hf ht)).0 in
    let known : is_home h a ≡ true = named_target h (Packet.Close id a ep g) a ok.0 refl in
    let x = its h m sound w a known g in
    let there : link_at 0 (tile_of h a) m ≡ Data (Packet.Close id a ep g) ∷ qs = ap (λ n. link_at 0 n m) (sym own.1) ∙ ap (λ n. link_at n t m) (sym own.0) ∙ e in
    let first : InstallsFirst (flat_map (packets_for a) (Data (Packet.Close id a ep g) ∷ qs) ++ x.seat.hold) =
    subst (λ l. InstallsFirst (flat_map (packets_for a) l ++ x.seat.hold)) there
    (subst (λ b. InstallsFirst (flat_map (packets_for b) (link_at 0 (tile_of h b) m) ++ x.seat.hold)) (seat_is h m sound w a known g) (way_there h m sound w a known g).0) in
    let none : Each (λ q. is_install_of g q ≡ false) (flat_map (packets_for a) (Data (Packet.Close id a ep g) ∷ qs) ++ x.seat.hold) = behind (a == a) (grind (arith, nat_tests)) x.seat.hold first in
    none_flies h m sound w a known g
    (subst (λ b. Each (λ q. is_install_of g q ≡ false) (flat_map (packets_for b) (link_at 0 (tile_of h b) m) ++ x.seat.hold)) (sym (seat_is h m sound w a known g))
    (subst (λ l. Each (λ q. is_install_of g q ≡ false) (flat_map (packets_for a) l ++ x.seat.hold)) (sym there) none))
  where
    behind : (b : Bool) → b ≡ true → (ps : List Packet) → InstallsFirst ((cond b (Packet.Close id a ep g ∷ []) [] ++ flat_map (packets_for a) qs) ++ ps)
        → Each (λ q. is_install_of g q ≡ false) ((cond b (Packet.Close id a ep g ∷ []) [] ++ flat_map (packets_for a) qs) ++ ps)
    behind true e ps i = (refl, i.0)
    behind false e ps i = absurd (cc)
