-- Each step of a sound machine keeps Installs before their Closes, whatever the event.
use Rattle.std.proofs.Common.{◌≡◌, ℕ, ◌+◌, ◌*◌, ◌<◌, ◌≤◌, Bool, true, false, List, [], ◌∷◌, length, Option, Some, None, refl, subst, ◌∙◌, arith}
use Rattle.std.specs.Prelude.{if◌then◌else◌, ◌==◌}
use Rattle.std.proofs.lemmas.Bool.Decides.{nat_tests}
use Rattle.m3_base.specs.declared.packet.Packet.{Packet}
use Rattle.m3_base.specs.declared.event.Event.{Event}
use Rattle.m3_base.specs.declared.event.Made.{Made}
use Rattle.m3_base.specs.declared.command.Command.{Command}
use Rattle.m3_base.specs.declared.order.Order.{Order}
use Rattle.m3_base.specs.Ideal.State.{grant_in, parent_in, parent_of, undone}
use Rattle.m3_base.specs.Ideal.GrantRules.{form, make_refusal, revoke_refusal}
use Rattle.m3_base.specs.Placement.Routing.{target}
use Rattle.m3_base.specs.Placement.Take.{is_here}
use Rattle.m3_base.specs.Placement.Order.{least_closing}
use Rattle.m3_base.specs.Lists.EachElement.{Each}
use Rattle.m3_model.specs.Config.KnownActivities.{is_named}
use Rattle.m3_model.specs.Config.Site.{Site, tile_of, home_of}
use Rattle.m3_model.specs.Parcel.{Parcel, Data, Save, Saved, Restore, Yield, Closed}
use Rattle.m3_model.specs.Kernel.State.{Kernel}
use Rattle.m3_model.specs.Tile.State.{Tile}
use Rattle.m3_model.specs.LocalStep.{LocalResult}
use Rattle.m3_model.specs.Tile.Step.{act_in, tile_turn}
use Rattle.m3_model.specs.Kernel.Step.{close_least, make_with}
use Rattle.m3_model.specs.Machine.{Machine, Part, Kernel_part, Memory_part, Tile_part, MachineResult, tile_at, part_at, with_part, link_at, with_link, with_parcels, of_kernel, of_turn, part_step, front, rest, done_by, machine_step}
use Rattle.m3_model.specs.Invariant.Parcels.{ParcelOk}
use Rattle.m3_model.specs.Invariant.Structure.{MachineStructure}
use Rattle.m3_model.specs.Events.{IsWithin}
use Rattle.m3_model.specs.Ways.{IsPlain, IsOwn, OwnFrom, IsOnWay}
use Rattle.m3_refine.proofs.lists.EachElement.{InSome}
use Rattle.m3_refine.proofs.arrival.AnswerAndClosed.{home_tile, named_target}
use Rattle.m3_refine.proofs.theorem.StepIsLocalMove.{tile_below}
use Rattle.m3_refine.proofs.events.take.KernelTakesSavedStep.{data_fits}
use Rattle.m3_refine.proofs.ways.KernelWays.{PlainParcel, AllPlain, WayKernel, take_way, tend_way, switch_way, revoke_way}
use Rattle.m3_refine.proofs.ways.TileWays.{PlainMade, StaysOwn, do_plain, turn_plain, take_plain, memory_plain}
use Rattle.m3_refine.proofs.ways.InstallsFirst.{Tiles, way_taken, way_all_sent, way_same, Leaves, unchanged, form_number, way_made, way_closed}
use Rattle.std.proofs.lemmas.List.{length-set}

module _ (h : Site) (m : Machine) (sound : MachineStructure h m) where
  low : Tiles h
  low a = tile_below h sound.setup a (home_of a h) refl

  -- ---- a part's step over what the machine is without the parcel that was taken

  abbrev PartWay : Machine → Part → Type 0
  PartWay m0 (Kernel_part k) = WayKernel h low (length m0.kernel.grants) (λ t. link_at 0 t m0) k
  PartWay m0 (Memory_part x) = Unit {0}
  PartWay m0 (Tile_part t) = Unit {0}

  abbrev DeedWay : Machine → LocalResult Part → Type 0
  DeedWay m0 d = PartWay m0 d.part × AllPlain d.out

  way_done : (t : ℕ) → t < 16 → (m0 : Machine) → length m0.links ≡ 256 → IsOnWay h m0 → (x : LocalResult Part) → DeedWay m0 x → IsOnWay h (with_parcels t x.out (with_part t x.part m0))
  way_done t ht m0 len w x k = way_all_sent h low t ht x.out (with_part t x.part m0) (still x.part) k.1 (after x.part k.0)
    where
      still : (y : Part) → length (with_part t y m0).links ≡ 256
      still (Kernel_part k) = len
      still (Memory_part y) = len
      still (Tile_part y) = len

      after : (y : Part) → PartWay m0 y → IsOnWay h (with_part t y m0)
      after (Kernel_part k) p = way_same h low m0 k w p
      after (Memory_part y) p = record { own = w.own; seats = w.seats }
      after (Tile_part y) p = record { own = w.own; seats = w.seats }

  from_deed : (t : ℕ) → t < 16 → (m0 : Machine) → length m0.links ≡ 256 → IsOnWay h m0 → (o : Option (LocalResult Part)) → InSome (DeedWay m0) o → (d : MachineResult) → done_by t m0 o ≡ Some d → IsOnWay h d.machine
  from_deed t ht m0 len w None k d is = absurd (cc)
  from_deed t ht m0 len w (Some x) k d is =
      subst (IsOnWay h) (same (record { outcome = x.outcome; machine = with_parcels t x.out (with_part t x.part m0) }) is) (way_done t ht m0 len w x k)
    where
      same : (y : MachineResult) → Some y ≡ Some d → y.machine ≡ d.machine
      same y e = cc

  -- ---- what a part takes

  module _ (w : IsOnWay h m) where
    abbrev count : ℕ
    count = length m.kernel.grants

    front_own : (from to : ℕ) → from < 16 → to < 16 → (q : Parcel) (qs : List Parcel) → link_at from to m ≡ q ∷ qs → OwnFrom h count from to q × ParcelOk h m.kernel m.tiles from to q
    front_own from to hf ht q qs g = ((subst (Each (OwnFrom h count from to)) g (w.own from to hf ht)).0, (subst (Each (ParcelOk h m.kernel m.tiles from to)) g (sound.parcels from to hf ht)).0)

    -- neither an Install nor a Close comes to the kernel
    plain_packet : (from : ℕ) (p : Packet) → IsOwn h count from 0 p → is_named h p ≡ true → IsPlain p
    plain_packet from (Packet.Message a ep g x) o k = tt
    plain_packet from (Packet.Credit id a g) o k = tt
    plain_packet from (Packet.Read id g place buffer) o k = tt
    plain_packet from (Packet.Write id g place payload) o k = tt
    plain_packet from (Packet.Answer id answer) o k = tt
    plain_packet from (Packet.Install id a ep f) o k = let z = (home_tile h a sound.setup (named_target h (Packet.Install id a ep f) a k refl)).0 in let e = o.1 in absurd (omega (arith, z, e))
    plain_packet from (Packet.Close id a ep g) o k = let z = (home_tile h a sound.setup (named_target h (Packet.Close id a ep g) a k refl)).0 in let e = o.1 in absurd (omega (arith, z, e))

    plain_parcel : (from : ℕ) (q : Parcel) → OwnFrom h count from 0 q → ParcelOk h m.kernel m.tiles from 0 q → PlainParcel q
    plain_parcel from (Data p) o k = plain_packet from p o k.0
    plain_parcel from (Save a) o k = tt
    plain_parcel from (Saved a c x e) o k = tt
    plain_parcel from (Restore a c xs) o k = tt
    plain_parcel from (Yield a) o k = tt
    plain_parcel from (Closed g) o k = tt

    -- and none is bounced: it comes from the kernel, whose data is for who is current
    module _ (t : ℕ) (two : 2 ≤ t) (ht : t < 16) (from : ℕ) where
      own_packet : (p : Packet) (qs : List Parcel) → link_at from t m ≡ Data p ∷ qs → IsOwn h count from t p → is_here (target p) (act_in (tile_at t m).current) ≡ false → IsPlain p
      own_packet (Packet.Message a ep g x) qs l o e = tt
      own_packet (Packet.Credit id a g) qs l o e = tt
      own_packet (Packet.Read id g place buffer) qs l o e = tt
      own_packet (Packet.Write id g place payload) qs l o e = tt
      own_packet (Packet.Answer id answer) qs l o e = tt
      own_packet (Packet.Install id a ep f) qs l o e = let z = data_fits h m sound t two ht (Packet.Install id a ep f) qs (subst (λ n. link_at n t m ≡ Data (Packet.Install id a ep f) ∷ qs) o.0 l) in absurd (cc)
      own_packet (Packet.Close id a ep g) qs l o e = let z = data_fits h m sound t two ht (Packet.Close id a ep g) qs (subst (λ n. link_at n t m ≡ Data (Packet.Close id a ep g) ∷ qs) o.0 l) in absurd (cc)

      own_parcel : (q : Parcel) (qs : List Parcel) → link_at from t m ≡ q ∷ qs → OwnFrom h count from t q → StaysOwn h low (tile_at t m) q
      own_parcel (Data p) qs l o = own_packet p qs l o
      own_parcel (Save a) qs l o = tt
      own_parcel (Saved a c x e) qs l o = tt
      own_parcel (Restore a c xs) qs l o = tt
      own_parcel (Yield a) qs l o = tt
      own_parcel (Closed g) qs l o = tt

    module _ (made : Option Made) (to from : ℕ) (ht : to < 16) (hf : from < 16) where
      abbrev left : Machine
      left = with_link from to (rest (link_at from to m)) m

      left_way : IsOnWay h left
      left_way = way_taken h low m sound.links from to hf ht w

      nothing : (x : Part) → PartWay left x → InSome (DeedWay left) (part_step h x (Event.Take to from) made None)
      nothing (Kernel_part k) p = (p, tt)
      nothing (Memory_part x) p = (tt, tt)
      nothing (Tile_part t) p = (tt, tt)

      at_part : PartWay left (part_at to m)
      at_part = by_tests (to == 0) (to == 1)
        where
          by_tests : (a b : Bool) → PartWay left (if a then Kernel_part m.kernel else (if b then Memory_part m.memory else Tile_part (tile_at to m)))
          by_tests true b = (left_way.seats, refl)
          by_tests false true = tt
          by_tests false false = tt

      takes : (q : Parcel) (qs : List Parcel) → link_at from to m ≡ q ∷ qs → InSome (DeedWay left) (part_step h (part_at to m) (Event.Take to from) made (Some q))
      takes q qs g = by_tests (to == 0) refl (to == 1) refl
        where
          by_tests : (a : Bool) → (to == 0) ≡ a → (b : Bool) → (to == 1) ≡ b
              → InSome (DeedWay left) (part_step h (if a then Kernel_part m.kernel else (if b then Memory_part m.memory else Tile_part (tile_at to m))) (Event.Take to from) made (Some q))
          by_tests true e b d =
              let z : to ≡ 0 = grind (arith, nat_tests, e) in
              let k = front_own from 0 hf (omega arith) q qs (subst (λ n. link_at from n m ≡ q ∷ qs) z g) in
              take_way h low count (λ t. link_at 0 t left) m.kernel q (plain_parcel from q k.0 k.1) (left_way.seats, refl)
          by_tests false e true d = (tt, memory_plain h low m.memory q)
          by_tests false e false d =
              let two : 2 ≤ to = grind (arith, nat_tests, e, d) in
              (tt, take_plain h low (tile_at to m) q (own_parcel to two ht from q qs g (front_own from to hf ht q qs g).0))

      link_by : (l : List Parcel) → link_at from to m ≡ l → InSome (DeedWay left) (part_step h (part_at to m) (Event.Take to from) made (front l))
      link_by [] g = nothing (part_at to m) at_part
      link_by (q ∷ qs) g = takes q qs g

      take_kept : (d : MachineResult) → machine_step h m (Event.Take to from) made ≡ Some d → IsOnWay h d.machine
      take_kept d is =
          from_deed to ht left (length-set m.links (16 * from + to) (rest (link_at from to m)) ∙ sound.links) left_way
          (part_step h (part_at to m) (Event.Take to from) made (front (link_at from to m))) (link_by (link_at from to m) refl) d is

    -- ---- the other events

    commands : (x : Part) (made : Option Made) (a : ℕ) (c : Command) → InSome (DeedWay m) (part_step h x (Event.Do a c) made None)
    commands (Kernel_part k) made a c = tt
    commands (Memory_part x) made a c = tt
    commands (Tile_part t) made a c = (tt, do_plain h low t a c)

    turn_by : (o : Option (LocalResult Tile)) → PlainMade h low o → InSome (DeedWay m) (of_turn o)
    turn_by None k = tt
    turn_by (Some d) k = (tt, k)

    turns : (x : Part) (made : Option Made) (a : ℕ) → InSome (DeedWay m) (part_step h x (Event.Turn a) made None)
    turns (Kernel_part k) made a = tt
    turns (Memory_part x) made a = tt
    turns (Tile_part t) made a = turn_by (tile_turn h t a made) (turn_plain h low t a made)

    zero_in : 0 < 16
    zero_in = omega arith

    from_leaves : (x : LocalResult Kernel) → Leaves h low m sound.links w x → (d : MachineResult) → done_by 0 m (Some (of_kernel x)) ≡ Some d → IsOnWay h d.machine
    from_leaves x k d is = subst (IsOnWay h) (same (record { outcome = x.outcome; machine = with_parcels 0 x.out (record m { kernel = x.part }) }) is) k
      where
        same : (y : MachineResult) → Some y ≡ Some d → y.machine ≡ d.machine
        same y e = cc

    close_by : (o : Option ℕ) → Leaves h low m sound.links w (close_least h m.kernel o)
    close_by None = unchanged h low m sound.links w
    close_by (Some g) = way_closed h low m sound.links w sound g (grant_in m.kernel.grants g) refl

    -- each step keeps Installs before their Closes
    pub way_kept : (e : Event) (made : Option Made) (d : MachineResult) → IsWithin e → machine_step h m e made ≡ Some d → IsOnWay h d.machine
    way_kept (Event.Do a c) made d within is = from_deed (tile_of h a) (low a) m sound.links w (part_step h (part_at (tile_of h a) m) (Event.Do a c) made None) (commands (part_at (tile_of h a) m) made a c) d is
    way_kept (Event.Turn a) made d within is = from_deed (tile_of h a) (low a) m sound.links w (part_step h (part_at (tile_of h a) m) (Event.Turn a) made None) (turns (part_at (tile_of h a) m) made a) d is
    way_kept (Event.Take to from) made d within is = take_kept made to from within.0 within.1 d is
    way_kept (Event.Tend a) made d within is =
        from_deed 0 zero_in m sound.links w (part_step h (part_at 0 m) (Event.Tend a) made None) (tend_way h low count (λ t. link_at 0 t m) m.kernel a (w.seats, refl)) d is
    way_kept Event.Close made d within is = from_leaves (close_least h m.kernel (least_closing m.kernel.grants 1 m.kernel.grants)) (close_by (least_closing m.kernel.grants 1 m.kernel.grants)) d is
    way_kept (Event.Order (Order.Switch t a)) made d within is =
        from_deed 0 zero_in m sound.links w (part_step h (part_at 0 m) (Event.Order (Order.Switch t a)) made None) (switch_way h low count (λ t. link_at 0 t m) m.kernel t a within (w.seats, refl)) d is
    way_kept (Event.Order (Order.Revoke g)) made d within is =
        from_deed 0 zero_in m sound.links w (part_step h (part_at 0 m) (Event.Order (Order.Revoke g)) made None)
        (revoke_way h low count (λ t. link_at 0 t m) m.kernel g (revoke_refusal (grant_in m.kernel.grants g)) (w.seats, refl)) d is
    way_kept (Event.Order (Order.Grant line)) made d within is =
        let o = form (count + 1) line (undone (parent_in m.kernel.grants (parent_of line))) in
        let why = make_refusal h.memory m.kernel.grants line in
        from_leaves (make_with h m.kernel line why o) (way_made h low m sound.links w line why o (form_number h low m sound.links w (count + 1) line (undone (parent_in m.kernel.grants (parent_of line))))) d is
    way_kept (Event.File l) made d within is = absurd (cc)
