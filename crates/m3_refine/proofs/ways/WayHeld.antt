-- Where a Close is the front of a hold list, no Install of its grant is on its way to the activity: no data for it is on
-- the link to its home while the kernel has its context.
use Rattle.std.proofs.Common.{◌≡◌, ℕ, zero, suc, ◌+◌, ◌*◌, Bool, true, false, cond, List, [], ◌∷◌, ◌++◌, get_or, Option, Some, None, refl, sym, subst, ◌∙◌, ap, arith, append_assoc}
use Rattle.std.proofs.lemmas.Bool.Decides.{nat_tests}
use Rattle.m3_base.specs.declared.ids.FlightId.{FlightId}
use Rattle.m3_base.specs.declared.packet.Packet.{Packet}
use Rattle.m3_base.specs.Ideal.Flights.{flight}
use Rattle.m3_base.specs.Ideal.Context.{Context}
use Rattle.m3_base.specs.Ideal.State.{same_act, DistinctActs}
use Rattle.m3_base.specs.Placement.Routing.{target}
use Rattle.m3_base.specs.Placement.Take.{is_here}
use Rattle.m3_base.specs.Lists.EachElement.{Each}
use Rattle.m3_merge.proofs.StampBounds.{each_front, each_back}
use Rattle.m3_model.specs.Config.Site.{Site, tile_of}
use Rattle.m3_model.specs.Parcel.{Parcel, Data, Save, Saved, Restore, Yield, Closed}
use Rattle.m3_model.specs.Tile.State.{Tile}
use Rattle.m3_model.specs.Kernel.State.{SavedActivity, ActivityEntry}
use Rattle.m3_model.specs.Tile.Step.{act_in}
use Rattle.m3_model.specs.Kernel.Step.{entry_act, entry_of}
use Rattle.m3_model.specs.Config.KnownActivities.{is_home}
use Rattle.m3_model.specs.Machine.{Machine, empty_tile, tile_at, link_at}
use Rattle.m3_model.specs.Abstraction.{flat_map, flat_links, option_list, tile_contexts, entry_contexts, residency_contexts, contexts_in, all_contexts, ideal_of}
use Rattle.m3_model.specs.Invariant.Scheduling.{HoldOk, EntryOk}
use Rattle.m3_model.specs.Invariant.LinkWalk.{Off, CurrentAlongLink, placed_on}
use Rattle.m3_model.specs.Invariant.Structure.{MachineStructure}
use Rattle.m3_model.specs.Ways.{InstallsFirst, packets_for, IsOnWay}
use Rattle.m3_refine.proofs.arrival.AnswerAndClosed.{home_tile, named_target}
use Rattle.m3_refine.proofs.lists.Replacement.{around_replaced}
use Rattle.m3_refine.proofs.events.tend.ApplyHeldPacket.{sits_as, away_of, act_away}
use Rattle.m3_refine.proofs.abstraction.CurrentAlongLink.{stays_on, front_data, front_save}
use Rattle.m3_refine.proofs.ways.WayFronts.{its, seat_found, way_there, none_flies}
use Rattle.m3_base.specs.Ideal.Step.{is_install_of}
use Rattle.m3_refine.proofs.abstraction.OtherContexts.{IsOther, before_apart, after_apart, on_link}

-- ---- who is current at a tile

module _ (P : Context → Type 0) where
  abbrev CurrentIs : Option Context → Type 0
  CurrentIs None = Unit {0}
  CurrentIs (Some c) = P c

  as_current : (o : Option Context) (ys : List Context) → Each P (option_list o ++ ys) → CurrentIs o
  as_current None ys e = tt
  as_current (Some c) ys e = e.0

  current_of : (ts : List Tile) (i : ℕ) (d : Tile) → d.current ≡ None → Each P (flat_map tile_contexts ts) → CurrentIs (get_or ts i d).current
  current_of [] i d n e = subst CurrentIs (sym n) tt
  current_of (t ∷ ts) zero d n e = as_current t.current (flat_map tile_contexts ts) e
  current_of (t ∷ ts) (suc i) d n e = current_of ts i d n (each_back P (option_list t.current) (flat_map tile_contexts ts) e)

-- ---- the walk meets no data of an activity that is away

no_data : (a : ℕ) (c : Option ℕ) (qs : List Parcel) (p : Option ℕ) → (c ≡ Some a → ⊥) → Each (IsOther a) (flat_map contexts_in qs) → CurrentAlongLink c qs p → flat_map (packets_for a) qs ≡ []
no_data a c [] p f e w = refl
no_data a c (Data d ∷ qs) p f e w =
    let r = front_data c d qs p w in
    (λ k. by_test (is_here (target d) (Some a)) refl r.0 k ++ flat_map (packets_for a) qs) ∙ no_data a c qs p f e r.1
  where
    same_target : (o c : Option ℕ) → is_here o (Some a) ≡ true → is_here o c ≡ true → c ≡ Some a
    same_target None c k l = absurd (cc)
    same_target (Some b) None k l = absurd (cc)
    same_target (Some b) (Some n) k l = let x : n ≡ a = grind (arith, nat_tests, k, l) in ap (λ i. Some i) x

    by_test : (b : Bool) → is_here (target d) (Some a) ≡ b → is_here (target d) c ≡ true → cond b (d ∷ []) [] ≡ []
    by_test true k l = absurd (f (same_target (target d) c k l))
    by_test false k l = refl
no_data a c (Save b ∷ qs) p f e w = no_data a None qs p (λ i. absurd (cc)) e (front_save c b qs p w).1
no_data a c (Restore b x xs ∷ qs) p f e w = no_data a (Some x.act) qs p (λ i. let n : x.act ≡ a = cc in let z = e.0 in absurd (grind (arith, nat_tests, n, z))) e.1 (back c w)
  where
    back : (c : Option ℕ) → CurrentAlongLink c (Restore b x xs ∷ qs) p → CurrentAlongLink (Some x.act) qs p
    back None w = w
    back (Some n) w = absurd (stays_on Off qs p w refl)
no_data a c (Saved b x y z ∷ qs) p f e w = absurd (stays_on Off qs p w refl)
no_data a c (Yield b ∷ qs) p f e w = absurd (stays_on Off qs p w refl)
no_data a c (Closed g ∷ qs) p f e w = absurd (stays_on Off qs p w refl)

-- ---- who is away

module _ (h : Site) (m : Machine) (sound : MachineStructure h m) (x : ActivityEntry) (b : Bool) (y : SavedActivity) (there : entry_of x.act m.kernel ≡ Some x) (sits : x.seating ≡ sits_as b y) (known : is_home h x.act ≡ true) where
  abbrev T : List Context
  T = flat_map tile_contexts m.tiles

  abbrev L : List Context
  L = flat_links contexts_in m.links

  key : y.context.act ≡ x.act
  key = act_away h m.tiles x b y (subst (λ s. EntryOk h m.tiles x s) sits (sound.seated.seats x.act x there).0)

  others : Each (IsOther y.context.act) T × Each (IsOther y.context.act) L
  others =
      let r = around_replaced entry_act same_act entry_contexts x x m.kernel.seats there in
      let mid : flat_map entry_contexts m.kernel.seats ≡ r.front ++ (y.context ∷ r.back) = r.here ∙ ap (λ s. r.front ++ (residency_contexts s ++ r.back)) sits ∙ ap (λ l. r.front ++ (l ++ r.back)) (away_of b y) in
      let whole : all_contexts m ≡ (T ++ r.front) ++ (y.context ∷ (r.back ++ L)) = ap (λ l. T ++ (l ++ L)) mid ∙ ap (λ l. T ++ l) (append_assoc r.front (y.context ∷ r.back) L) ∙ sym (append_assoc T r.front (y.context ∷ (r.back ++ L))) in
      let apart = subst DistinctActs whole sound.acts in (
        each_front (IsOther y.context.act) T r.front (before_apart (T ++ r.front) y.context (r.back ++ L) apart),
        each_back (IsOther y.context.act) r.back L (after_apart (T ++ r.front) y.context (r.back ++ L) apart),
      )

  -- no data for it is on the link to its home
  pub none_linked_away : flat_map (packets_for x.act) (link_at 0 (tile_of h x.act) m) ≡ []
  none_linked_away =
      let t = tile_of h x.act in
      let at_home = home_tile h x.act sound.setup known in
      let o = subst (λ a. Each (IsOther a) T × Each (IsOther a) L) key others in
      no_data x.act (act_in (tile_at t m).current) (link_at 0 t m) (placed_on h t m.kernel)
      (not_here (tile_at t m).current (current_of (IsOther x.act) m.tiles t (empty_tile t) refl o.0)) (on_link (IsOther x.act) m.links (16 * 0 + t) o.1) (sound.seated.walks t at_home.0 at_home.1)
    where
      not_here : (o : Option Context) → CurrentIs (IsOther x.act) o → act_in o ≡ Some x.act → ⊥
      not_here None k e = cc
      not_here (Some c) k e = let n : c.act ≡ x.act = cc in absurd (grind (arith, nat_tests, n, k))

-- a Close at the front of a hold list: no Install of its grant flies to its activity
pub lands_away : (h : Site) (m : Machine) (sound : MachineStructure h m) → IsOnWay h m → (x : ActivityEntry) (b : Bool) (y : SavedActivity) → entry_of x.act m.kernel ≡ Some x → x.seating ≡ sits_as b y
    → (id : FlightId) (a ep g : ℕ) (ps : List Packet) → x.hold ≡ Packet.Close id a ep g ∷ ps
    → (j : FlightId) (q : Packet) → flight j (ideal_of m).flights ≡ Some q → target q ≡ Some x.act → is_install_of g q ≡ false
lands_away h m sound w x b y there sits id a ep g ps front =
    let ok = (subst (Each (HoldOk h x.act)) front (sound.seated.seats x.act x there).1).0 in
    let known : is_home h x.act ≡ true = named_target h (Packet.Close id a ep g) x.act ok.0 ok.1 in
    let s = its h m sound w x.act known g in
    let both : Some s.seat ≡ Some x = sym (seat_found h m sound w x.act known g) ∙ there in
    let same : s.seat ≡ x = cc in
    let link : flat_map (packets_for x.act) (link_at 0 (tile_of h x.act) m) ≡ [] = none_linked_away h m sound x b y there sits known in
    let first = subst (λ (z : ActivityEntry). InstallsFirst (flat_map (packets_for z.act) (link_at 0 (tile_of h z.act) m) ++ z.hold)) same (way_there h m sound w x.act known g).0 in
    let held : InstallsFirst (Packet.Close id a ep g ∷ ps) = subst (λ l. InstallsFirst l) front (subst (λ l. InstallsFirst (l ++ x.hold)) link first) in
    let none : Each (λ q. is_install_of g q ≡ false) (Packet.Close id a ep g ∷ ps) = (refl, held.0) in
    none_flies h m sound w x.act known g (
    subst (λ (z : ActivityEntry). Each (λ q. is_install_of g q ≡ false) (flat_map (packets_for z.act) (link_at 0 (tile_of h z.act) m) ++ z.hold)) (sym same) (
    subst (λ l. Each (λ q. is_install_of g q ≡ false) (l ++ x.hold)) (sym link) (subst (λ l. Each (λ q. is_install_of g q ≡ false) l) (sym front) none)
    )
    )
