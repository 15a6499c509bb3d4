-- The invariant of the ideal state gives what the machine's steps need of it.
use Rattle.std.proofs.Common.{◌≡◌, ℕ, zero, suc, ◌+◌, ◌*◌, ◌<◌, Bool, true, false, List, [], ◌∷◌, length, get_or, Some, refl, sym, subst, ◌∙◌, ap, arith, ◌⊎◌, inl, inr}
use Rattle.m3_base.specs.declared.ids.FlightId.{FlightId}
use Rattle.m3_base.specs.declared.packet.Packet.{Packet}
use Rattle.m3_base.specs.Ideal.Flights.{flight, name_of}
use Rattle.m3_base.specs.Ideal.Context.{Context}
use Rattle.m3_base.specs.Ideal.Acceptance.{fits}
use Rattle.m3_base.specs.Placement.Routing.{target}
use Rattle.m3_laws.specs.Invariant.{Invariant}
use Rattle.m3_laws.proofs.invariant.step.Consequences.{InstallLanded, install_aims, fits_at, held_there, close_held, closing_was_sent, close_was_sent, read_inside, write_inside, next_free, kernel_free}
use Rattle.m3_model.specs.Config.Site.{Site}
use Rattle.m3_model.specs.Parcel.{Parcel, Data}
use Rattle.m3_model.specs.Kernel.State.{ActivityEntry, SavedActivity, Is_resting, Is_coming}
use Rattle.m3_model.specs.Tile.State.{Tile}
use Rattle.m3_model.specs.Kernel.Step.{entry_of}
use Rattle.m3_model.specs.Config.KnownActivities.{is_named_context}
use Rattle.m3_model.specs.Machine.{Machine, empty_tile, tile_at, link_at}
use Rattle.m3_model.specs.Abstraction.{ideal_of}
use Rattle.m3_model.specs.Invariant.IdealFacts.{IdealFacts}
use Rattle.m3_model.specs.Invariant.Structure.{MachineStructure}
use Rattle.m3_model.specs.Invariant.Scheduling.{EntryOk, HoldOk}
use Rattle.m3_base.specs.Lists.EachElement.{Each}
use Rattle.std.specs.Prelude.{Option}
use Rattle.m3_base.specs.declared.event.Event.{Event}
use Rattle.m3_base.specs.declared.event.Made.{Made}
use Rattle.m3_model.specs.Machine.{MachineResult}
use Rattle.m3_model.specs.Abstraction.{placement_of}
use Rattle.m3_model.specs.Refinement.{placement_result, Refines}
use Rattle.m3_refine.proofs.labels.EventSaysIdealSteps.{SaysAs}
use Rattle.m3_refine.proofs.labels.OrdersSayIdealSteps.{HasContext, says_of}
use Rattle.m3_laws.specs.JournalLaws.{FitsEvent}
use Rattle.m3_laws.proofs.journals.EntriesKeepInvariant.{event_keeps}
use Rattle.m3_base.specs.Ideal.Step.{is_install_of}
use Rattle.m3_model.specs.Ways.{IsOnWay}
use Rattle.m3_refine.proofs.ways.WayFronts.{lands_here}
use Rattle.m3_refine.proofs.ways.WayHeld.{lands_away}
use Rattle.m3_refine.proofs.abstraction.PopParcel.{popped_flies}
use Rattle.m3_refine.proofs.arrival.CurrentContext.{current_found}
use Rattle.m3_refine.proofs.arrival.AnswerAndClosed.{named_target}
use Rattle.m3_refine.proofs.abstraction.EntriesMatchActors.{SeatOf}
use Rattle.m3_refine.proofs.events.take.RouteRefines.{KnownActivity, known_activity}
use Rattle.m3_refine.proofs.events.tend.ApplyHeldPacket.{sits_as, away_found, away_each, applied_flies}

-- ---- grants

-- ---- where nothing is there, nobody is current

tile_in : (ts : List Tile) (t : ℕ) (c : Context) → (get_or ts t (empty_tile t)).current ≡ Some c → t < length ts
tile_in ts t c e = within ts t (empty_tile t) (λ z. absurd (cc)) e
  where
    within : (xs : List Tile) (i : ℕ) (d : Tile) → (d.current ≡ Some c → ⊥) → (get_or xs i d).current ≡ Some c → i < length xs
    within [] i d n e = absurd (n e)
    within (x ∷ xs) zero d n e = omega arith
    within (x ∷ xs) (suc i) d n e = let z = within xs i d n e in omega (arith, z)

link_in : (ls : List (List Parcel)) (i : ℕ) (q : Parcel) (qs : List Parcel) → get_or ls i [] ≡ q ∷ qs → i < length ls
link_in [] i q qs e = absurd (cc)
link_in (x ∷ ls) zero q qs e = omega arith
link_in (x ∷ ls) (suc i) q qs e = let z = link_in ls i q qs e in omega (arith, z)

-- ---- a Close comes after the Install of its grant

module _ (h : Site) (m : Machine) (sound : MachineStructure h m) (law : Invariant (ideal_of m)) (way : IsOnWay h m) where
  after_install : (id x : FlightId) (to ep g : ℕ) → flight id (ideal_of m).flights ≡ Some (Packet.Close x to ep g)
      → ((j : FlightId) (q : Packet) → flight j (ideal_of m).flights ≡ Some q → target q ≡ Some to → is_install_of g q ≡ false)
      → InstallLanded (ideal_of m) (Packet.Close x to ep g)
  after_install id x to ep g find none j q flies = install_aims (ideal_of m) law id x to ep g find j q flies (none j q flies)

  -- at the front of a link to a tile
  landed_here : (t from : ℕ) → t < 16 → from < 16 → (p : Packet) (qs : List Parcel) → link_at from t m ≡ Data p ∷ qs → flight (name_of p) (ideal_of m).flights ≡ Some p → InstallLanded (ideal_of m) p
  landed_here t from ht hf (Packet.Close id a ep g) qs e find = after_install id id a ep g find (lands_here h m sound way t from ht hf id a ep g qs e)
  landed_here t from ht hf (Packet.Message to ep g x) qs e find = tt
  landed_here t from ht hf (Packet.Credit y to g) qs e find = tt
  landed_here t from ht hf (Packet.Read y g place buffer) qs e find = tt
  landed_here t from ht hf (Packet.Write y g place payload) qs e find = tt
  landed_here t from ht hf (Packet.Answer y answer) qs e find = tt
  landed_here t from ht hf (Packet.Install y to ep f) qs e find = tt

  -- at the front of a hold list
  landed_away : (x : ActivityEntry) (b : Bool) (y : SavedActivity) → entry_of x.act m.kernel ≡ Some x → x.seating ≡ sits_as b y
      → (p : Packet) (ps : List Packet) → x.hold ≡ p ∷ ps → target p ≡ Some x.act → flight (name_of p) (ideal_of m).flights ≡ Some p → InstallLanded (ideal_of m) p
  landed_away x b y there sits (Packet.Close id a ep g) ps front aim find = after_install id id a ep g find (λ j q flies to. lands_away h m sound way x b y there sits id a ep g ps front j q flies (to ∙ aim))
  landed_away x b y there sits (Packet.Message to ep g z) ps front aim find = tt
  landed_away x b y there sits (Packet.Credit z to g) ps front aim find = tt
  landed_away x b y there sits (Packet.Read z g place buffer) ps front aim find = tt
  landed_away x b y there sits (Packet.Write z g place payload) ps front aim find = tt
  landed_away x b y there sits (Packet.Answer z answer) ps front aim find = tt
  landed_away x b y there sits (Packet.Install z to ep f) ps front aim find = tt

  here_fits : (t from : ℕ) (p : Packet) (qs : List Parcel) (c : Context) → link_at from t m ≡ Data p ∷ qs → (tile_at t m).current ≡ Some c → target p ≡ Some c.act → fits c p ≡ true
  here_fits t from p qs c g e aim =
      let tile = tile_in m.tiles t c e in
      let link = link_in m.links (16 * from + t) (Data p) qs g in
      let ht : t < 16 = subst (λ n. t < n) sound.tiles tile in
      let hf : from < 16 = omega (arith, link, sound.links) in
      let flies = popped_flies h m from t hf ht sound p qs g in
      fits_at (ideal_of m) law (name_of p) p c flies aim (current_found m t tile c e sound) (landed_here t from ht hf p qs g flies)

  away_fits : (x : ActivityEntry) (y : SavedActivity) (b : Bool) (p : Packet) (ps : List Packet) → entry_of x.act m.kernel ≡ Some x → x.seating ≡ sits_as b y → x.hold ≡ p ∷ ps → fits y.context p ≡ true
  away_fits x y b p ps there sits front =
      let old : EntryOk h m.tiles x x.seating × Each (HoldOk h x.act) x.hold = sound.seated.seats x.act x there in
      let held : Each (HoldOk h x.act) (p ∷ ps) = subst (Each (HoldOk h x.act)) front old.1 in
      let own : y.context.act ≡ x.act = seat_act_of b (subst (EntryOk h m.tiles x) sits old.0) in
      fits_there (known_activity h m x.act sound (named_target h p x.act held.0.0 held.0.1)) own held.0.1
    where
      seat_act_of : (b : Bool) → EntryOk h m.tiles x (sits_as b y) → y.context.act ≡ x.act
      seat_act_of true o = o.0
      seat_act_of false o = o.0

      fits_there : KnownActivity h m x.act → y.context.act ≡ x.act → target p ≡ Some x.act → fits y.context p ≡ true
      fits_there r own aim =
          let s : SeatOf h m.kernel x r.home = record { act = sym r.key; seat = subst (λ n. entry_of n m.kernel ≡ Some x) (sym r.key) there; home = r.its.home } in
          let found = away_found h m sound x r.home s b y sits in
          let named = away_each h m sound x r.home s b y sits (λ c. is_named_context h c ≡ true) sound.named in
          let flies = applied_flies h m sound x r.home s b y sits p ps front y.context refl named false in
          fits_at (ideal_of m) law (name_of p) p y.context flies (aim ∙ ap Some (sym own)) found (landed_away x b y there sits p ps front aim flies)

  either_fits : (x : ActivityEntry) (y : SavedActivity) (p : Packet) (ps : List Packet) → entry_of x.act m.kernel ≡ Some x → (x.seating ≡ Is_resting y) ⊎ (x.seating ≡ Is_coming y) → x.hold ≡ p ∷ ps → fits y.context p ≡ true
  either_fits x y p ps there (inl e) front = away_fits x y true p ps there e front
  either_fits x y p ps there (inr e) front = away_fits x y false p ps there e front

  -- what a sound machine's steps need, from the invariant of its ideal state
  pub hypotheses : IdealFacts m
  hypotheses = record {
    fits_here = here_fits;
    fits_away = either_fits;
    reads = read_inside (ideal_of m) law;
    writes = write_inside (ideal_of m) law;
    records = λ a ep g c at' e. held_there (ideal_of m) law a ep g c at' e;
    closes = λ id x to ep g e. close_held (ideal_of m) law id x to ep g e;
    sent = closing_was_sent (ideal_of m) law;
    sent_flying = close_was_sent (ideal_of m) law;
    fresh = next_free (ideal_of m) law;
    fresh_kernel = kernel_free (ideal_of m) law;
  }

-- ---- each event keeps the invariant

module _ (h : Site) (m : Machine) (e : Event) (made : Option Made) (d : MachineResult) (k : HasContext (ideal_of m) e) (refined : Refines h m e made (Some d)) where
  pub says : SaysAs (ideal_of m) e made (Some (placement_result h d))
  says = subst (SaysAs (ideal_of m) e made) refined.0 (says_of (ideal_of m) (placement_of h m) e made k)

  pub law_kept : FitsEvent e → Invariant (ideal_of m) → Invariant (ideal_of d.machine)
  law_kept p law = subst Invariant says.1 (event_keeps (ideal_of m) e (record { made = made; said = d.outcome.said; restore = d.outcome.restore }) p law)
