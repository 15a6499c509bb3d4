-- The kernel takes Saved, without and with Restore; and no tile drops what comes from the kernel.
use Rattle.std.proofs.Common.{◌≡◌, ℕ, ◌+◌, ◌*◌, ◌<◌, ◌≤◌, Bool, true, false, List, [], ◌∷◌, Some, None, refl, sym, subst, ◌∙◌, ap, length}
use Rattle.std.specs.Prelude.{Option}
use Rattle.m3_base.specs.declared.event.Said.{Said}
use Rattle.m3_base.specs.declared.packet.Packet.{Packet}
use Rattle.m3_base.specs.Lists.Keyed as keyed
use Rattle.m3_base.specs.Ideal.Context.{Context}
use Rattle.m3_base.specs.Ideal.State.{same_act, DistinctActs}
use Rattle.m3_base.specs.Placement.Routing.{target}
use Rattle.m3_base.specs.Placement.Take.{is_here}
use Rattle.m3_model.specs.Config.Site.{Site, tile_of}
use Rattle.m3_model.specs.Parcel.{Parcel, Data, Save, Saved, Restore, Heard}
use Rattle.m3_model.specs.Kernel.State.{SavedActivity, Is_placed, Is_leaving, Is_coming, ActivityEntry, Kernel}
use Rattle.m3_model.specs.LocalStep.{LocalResult}
use Rattle.m3_model.specs.Tile.Step.{act_in}
use Rattle.m3_model.specs.Kernel.Step.{entry_act, with_residency, join_ready, residency_of_saved, with_restore, with_restore_of, with_yielded}
use Rattle.m3_model.specs.Machine.{Machine, Kernel_part, tile_at, link_at, with_link, with_part, with_parcels}
use Rattle.m3_model.specs.Abstraction.{residency_contexts, all_contexts, current_act, ideal_of}
use Rattle.m3_model.specs.Invariant.LinkWalk.{CurrentAlongLink, placed_on}
use Rattle.m3_model.specs.Invariant.Structure.{MachineStructure}
use Rattle.m3_refine.proofs.abstraction.MoveContext.{seats_at, restore_out_at, StaysIdeal}
use Rattle.m3_refine.proofs.abstraction.CurrentAlongLink.{front_data, front_save, front_restore}
use Rattle.std.proofs.lemmas.List.{length-set}

joined_seats : (b : Bool) (t a : ℕ) (k : Kernel) → (join_ready b t a k).seats ≡ k.seats
joined_seats true t a k = refl
joined_seats false t a k = refl

joined_next : (b : Bool) (t a : ℕ) (k : Kernel) → (join_ready b t a k).next ≡ k.next
joined_next true t a k = refl
joined_next false t a k = refl

joined_grants : (b : Bool) (t a : ℕ) (k : Kernel) → (join_ready b t a k).grants ≡ k.grants
joined_grants true t a k = refl
joined_grants false t a k = refl

module _ (h : Site) (m : Machine) (from : ℕ) (hi : 16 * from + 0 < length m.links) (c : Context) (waiting ended : Bool) (rest : List Parcel) (x : ActivityEntry)
    (g : link_at from 0 m ≡ Saved c.act c waiting ended ∷ rest) (f : keyed.find entry_act same_act x.act m.kernel.seats ≡ Some x) (e : x.seating ≡ Is_leaving)
    (apart : DistinctActs (all_contexts m)) (ready : Bool) (said : Said) where
  -- the kernel once the activity rests, and the machine with it
  abbrev pub kernel_rested : Kernel
  kernel_rested = join_ready ready (tile_of h x.act) x.act (with_residency (residency_of_saved c ended) x m.kernel)

  abbrev pub rested : Machine
  rested = with_part 0 (Kernel_part kernel_rested) (with_link from 0 rest m)

  rested_both : StaysIdeal m rested
  rested_both =
      seats_at m (16 * from + 0) hi c waiting ended rest x (record x { seating = residency_of_saved c ended }) kernel_rested g f e refl refl
      (joined_seats ready (tile_of h x.act) x.act (with_residency (residency_of_saved c ended) x m.kernel))
      (joined_next ready (tile_of h x.act) x.act (with_residency (residency_of_saved c ended) x m.kernel))
      (joined_grants ready (tile_of h x.act) x.act (with_residency (residency_of_saved c ended) x m.kernel))
      apart

  -- what the kernel does then, where it restores this one or none
  abbrev pub rested_by : LocalResult Kernel → Machine
  rested_by d = with_parcels 0 d.out (with_part 0 (Kernel_part d.part) (with_link from 0 rest m))

  pub saved_at : ideal_of (rested_by (with_restore h said (tile_of h x.act) kernel_rested [] None)) ≡ ideal_of m
  saved_at = rested_both.0

  pub saved_restores_at : (b : ActivityEntry) (y : SavedActivity) → b.seating ≡ Is_coming y → keyed.find entry_act same_act b.act kernel_rested.seats ≡ Some b
      → 16 * 0 + tile_of h b.act < length m.links
      → ideal_of (rested_by (with_restore h said (tile_of h x.act) kernel_rested [] (Some b))) ≡ ideal_of m
  saved_restores_at b y s found hj =
      let out : ideal_of (rested_by (with_restore_of h said (tile_of h x.act) kernel_rested [] b (Is_coming y))) ≡ ideal_of rested =
      restore_out_at rested (16 * 0 + tile_of h b.act) (subst (λ n. 16 * 0 + tile_of h b.act < n) (sym (length-set m.links (16 * from + 0) rest)) hj)
      y.context y.heard b (record b { seating = Is_placed }) (with_yielded (tile_of h b.act) false (with_residency Is_placed b kernel_rested))
      found (ap residency_contexts s) refl refl refl refl refl rested_both.1 in
      subst (λ z. ideal_of (rested_by (with_restore_of h said (tile_of h x.act) kernel_rested [] b z)) ≡ ideal_of m) (sym s) (out ∙ rested_both.0)

-- ---- what the kernel sends fits where it comes

current_is : (o : Option Context) (a : ℕ) → act_in o ≡ Some a → (c : Context) × (o ≡ Some c) × (c.act ≡ a)
current_is None a h = absurd (none_is a h)
  where
    none_is : (a : ℕ) → None ≡ Some a → ⊥
    none_is a h = cc
current_is (Some c) a h = (c, refl, act_is h)
  where
    or_act : Option ℕ → ℕ
    or_act None = c.act
    or_act (Some b) = b

    act_is : Some c.act ≡ Some a → c.act ≡ a
    act_is h = ap or_act h

current_none : (o : Option Context) → act_in o ≡ None → o ≡ None
current_none None h = refl
current_none (Some c) h = absurd (some_is c.act h)
  where
    some_is : (a : ℕ) → Some a ≡ None → ⊥
    some_is a h = cc

module _ (h : Site) (m : Machine) (sound : MachineStructure h m) (t : ℕ) (low : 2 ≤ t) (high : t < 16) where
  walks_to : (qs : List Parcel) → link_at 0 t m ≡ qs → CurrentAlongLink (current_act (tile_at t m)) qs (placed_on h t m.kernel)
  walks_to qs g = subst (λ l. CurrentAlongLink (current_act (tile_at t m)) l (placed_on h t m.kernel)) g (sound.seated.walks t low high)

  -- Save finds its activity current
  pub save_fits : (a : ℕ) (qs : List Parcel) → link_at 0 t m ≡ Save a ∷ qs → (c : Context) × ((tile_at t m).current ≡ Some c) × (c.act ≡ a)
  save_fits a qs g =
      current_is (tile_at t m).current a (front_save (current_act (tile_at t m)) a qs (placed_on h t m.kernel) (walks_to (Save a ∷ qs) g)).0

  -- Restore finds nobody there
  pub restore_fits : (c : Context) (xs : List Heard) (qs : List Parcel) → link_at 0 t m ≡ Restore c.act c xs ∷ qs → (tile_at t m).current ≡ None
  restore_fits c xs qs g =
      current_none (tile_at t m).current (front_restore (current_act (tile_at t m)) c xs qs (placed_on h t m.kernel) (walks_to (Restore c.act c xs ∷ qs) g)).0

  -- data from the kernel never bounces
  pub data_fits : (p : Packet) (qs : List Parcel) → link_at 0 t m ≡ Data p ∷ qs → is_here (target p) (current_act (tile_at t m)) ≡ true
  data_fits p qs g = (front_data (current_act (tile_at t m)) p qs (placed_on h t m.kernel) (walks_to (Data p ∷ qs) g)).0
