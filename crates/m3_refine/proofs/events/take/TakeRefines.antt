-- Any take: whatever stands at the front of the link, at whatever tile.
use Rattle.std.proofs.Common.{◌≡◌, ℕ, zero, suc, ◌<◌, ◌≤◌, Bool, true, false, List, [], ◌∷◌, Some, None, refl, sym, subst, ◌∙◌, ap, arith, Option}
use Rattle.std.proofs.lemmas.Bool.Decides.{nat_tests}
use Rattle.m3_base.specs.declared.packet.Packet.{Packet}
use Rattle.m3_base.specs.declared.event.Event.{Event}
use Rattle.m3_base.specs.Ideal.Context.{Context}
use Rattle.m3_base.specs.Placement.Routing.{target}
use Rattle.m3_base.specs.Placement.Take.{is_here}
use Rattle.m3_base.specs.Lists.EachElement.{Each}
use Rattle.m3_model.specs.Config.Site.{Site, tile_of}
use Rattle.m3_model.specs.Parcel.{Parcel, Data, Save, Saved, Restore, Yield, Closed}
use Rattle.m3_model.specs.Config.KnownActivities.{is_home}
use Rattle.m3_model.specs.Tile.Step.{act_in}
use Rattle.m3_model.specs.Machine.{Machine, tile_at, link_at, machine_step}
use Rattle.m3_model.specs.Invariant.Parcels.{ParcelOk}
use Rattle.m3_model.specs.Invariant.IdealFacts.{IdealFacts}
use Rattle.m3_model.specs.Invariant.Structure.{MachineStructure}
use Rattle.m3_model.specs.Refinement.{Refines}
use Rattle.m3_refine.proofs.arrival.AnswerAndClosed.{home_tile}
use Rattle.m3_refine.proofs.events.take.EmptyLink.{empty_refines}
use Rattle.m3_refine.proofs.events.take.MemoryServes.{serves_refine}
use Rattle.m3_refine.proofs.events.take.TileTakesData.{take_here_refines}
use Rattle.m3_refine.proofs.events.take.TileTakesSaveOrBounces.{save_refines, bounce_refines}
use Rattle.m3_model.specs.NumberBounds.{RestoresBounded}
use Rattle.m3_refine.proofs.events.take.TileTakesRestore.{restore_refines}
use Rattle.m3_refine.proofs.events.take.KernelTakesDataOrYield.{take_data_refines, take_yield_refines}
use Rattle.m3_refine.proofs.events.take.KernelTakesSaved.{take_saved_refines}
use Rattle.m3_refine.proofs.events.take.KernelTakesClosed.{take_closed_refines}

module _ (h : Site) (m : Machine) (sound : MachineStructure h m) (hyp : IdealFacts m) (numbers : RestoresBounded m) (from : ℕ) (hf : from < 16) where
  not_home : (a t : ℕ) → is_home h a ≡ true → t ≡ tile_of h a → 2 ≤ t
  not_home a t k e = let z = (home_tile h a sound.setup k).0 in omega arith

  -- at the kernel
  at_kernel : (q : Parcel) (qs : List Parcel) → link_at from 0 m ≡ q ∷ qs → ParcelOk h m.kernel m.tiles from 0 q → Refines h m (Event.Take 0 from) None (machine_step h m (Event.Take 0 from) None)
  at_kernel (Data p) qs g ok = take_data_refines h m from hf sound p qs g
  at_kernel (Saved a c w d) qs g ok = take_saved_refines h m from hf sound c w d qs (g ∙ ap (λ n. Saved n c w d ∷ qs) ok.4)
  at_kernel (Yield a) qs g ok = take_yield_refines h m from hf sound a qs g
  at_kernel (Closed n) qs g ok = take_closed_refines h m from hf sound n qs g
  at_kernel (Save a) qs g ok = absurd (let z = not_home a 0 ok.1 ok.2 in omega arith)
  at_kernel (Restore a c xs) qs g ok = absurd (let z = not_home c.act 0 ok.1 ok.2 in omega arith)

  -- at a tile of activities
  module _ (t : ℕ) (low : 2 ≤ t) (high : t < 16) where
    from_kernel : (q : Parcel) (qs : List Parcel) → from ≡ 0 → link_at from t m ≡ q ∷ qs → link_at 0 t m ≡ q ∷ qs
    from_kernel q qs e g = subst (λ n. link_at n t m ≡ q ∷ qs) e g

    act_is : (o : Option ℕ) (a : ℕ) → is_here o (Some a) ≡ true → o ≡ Some a
    act_is None a e = absurd (cc)
    act_is (Some b) a e = ap (λ n. Some n) (let z : b ≡ a = grind (arith, nat_tests, e) in z)

    here_none : (o : Option ℕ) → is_here o None ≡ false
    here_none None = refl
    here_none (Some a) = refl

    data_by : (p : Packet) (qs : List Parcel) → link_at from t m ≡ Data p ∷ qs → (o : Option Context) → (tile_at t m).current ≡ o → (b : Bool) → is_here (target p) (act_in o) ≡ b → Refines h m (Event.Take t from) None (machine_step h m (Event.Take t from) None)
    data_by p qs g o e false k = bounce_refines h m t low high sound from hf p qs g (ap (λ z. is_here (target p) (act_in z)) e ∙ k)
    data_by p qs g None e true k = absurd (let z = here_none (target p) in cc)
    data_by p qs g (Some c) e true k = take_here_refines h m t from low high hf sound hyp p qs g c e (act_is (target p) c.act k)

    at_tile : (q : Parcel) (qs : List Parcel) → link_at from t m ≡ q ∷ qs → ParcelOk h m.kernel m.tiles from t q → Refines h m (Event.Take t from) None (machine_step h m (Event.Take t from) None)
    at_tile (Data p) qs g ok = data_by p qs g (tile_at t m).current refl (is_here (target p) (act_in (tile_at t m).current)) refl
    at_tile (Save a) qs g ok = subst (λ n. Refines h m (Event.Take t n) None (machine_step h m (Event.Take t n) None)) (sym ok.0) (save_refines h m t low high sound a qs (from_kernel (Save a) qs ok.0 g))
    at_tile (Restore a c xs) qs g ok =
        subst (λ n. Refines h m (Event.Take t n) None (machine_step h m (Event.Take t n) None)) (sym ok.0)
        (restore_refines h m t low high sound c xs qs (from_kernel (Restore a c xs) qs ok.0 g ∙ ap (λ n. Restore n c xs ∷ qs) ok.3) (numbers t from a c xs qs g))
    at_tile (Saved a c w d) qs g ok = absurd (let z = ok.0 in omega arith)
    at_tile (Yield a) qs g ok = absurd (let z = ok.0 in omega arith)
    at_tile (Closed n) qs g ok = absurd (let z : t ≡ 0 = ok in omega arith)

  by_link : (to : ℕ) → to < 16 → (l : List Parcel) → link_at from to m ≡ l → Refines h m (Event.Take to from) None (machine_step h m (Event.Take to from) None)
  by_link to ht [] g = empty_refines h m to from None ht hf sound g
  by_link zero ht (q ∷ qs) g = at_kernel q qs g (subst (Each (ParcelOk h m.kernel m.tiles from 0)) g (sound.parcels from 0 hf ht)).0
  by_link (suc zero) ht (q ∷ qs) g = serves_refine h m from hf sound hyp q qs g
  by_link (suc (suc n)) ht (q ∷ qs) g = at_tile (suc (suc n)) (omega arith) ht q qs g (subst (Each (ParcelOk h m.kernel m.tiles from (suc (suc n)))) g (sound.parcels from (suc (suc n)) hf ht)).0

  -- a take is a place step, and leaves a sound machine
  pub take_refines : (to : ℕ) → to < 16 → Refines h m (Event.Take to from) None (machine_step h m (Event.Take to from) None)
  take_refines to ht = by_link to ht (link_at from to m) refl
