-- An activity that is current, or isn't, makes a command: the whole event.
use Rattle.std.proofs.Common.{◌≡◌, ℕ, ◌<◌, ◌≤◌, Bool, true, false, cond, List, [], ◌∷◌, Some, None, refl, sym, subst, ◌∙◌, ap, arith, length, Option, inr}
use Rattle.std.specs.Prelude.{◌==◌, not, ◌&&◌}
use Rattle.std.proofs.lemmas.Bool.Decides.{nat_tests}
use Rattle.std.proofs.lemmas.List.{set-get_or}
use Rattle.m3_base.specs.declared.ids.FlightId.{FlightId}
use Rattle.m3_base.specs.declared.command.Command.{Command}
use Rattle.m3_base.specs.declared.packet.Packet.{Packet}
use Rattle.m3_base.specs.declared.event.Event.{Event}
use Rattle.m3_base.specs.declared.event.Made.{Made}
use Rattle.m3_base.specs.declared.event.Said.{Said}
use Rattle.m3_base.specs.declared.event.IdleWhy.{IdleWhy}
use Rattle.m3_base.specs.declared.step.Step.{Step}
use Rattle.m3_base.specs.Ideal.Flights.{name_of, same_name, flight, new_flight, sorted_by_name}
use Rattle.m3_base.specs.Ideal.Context.{Context}
use Rattle.m3_base.specs.Ideal.Issue.{Issued, issue, next_id, is_busy, flies_always}
use Rattle.m3_base.specs.Ideal.State.{State, context_of, put_context}
use Rattle.m3_base.specs.Ideal.Step.{At_issue, ideal_run, on_from, with_packet, issue_in, issued_in}
use Rattle.m3_base.specs.Journal.Entry.{shown_told}
use Rattle.m3_base.specs.Placement.Landing as places_landing
use Rattle.m3_base.specs.Placement.Routing as places_routing
use Rattle.m3_base.specs.Placement.State as places_state
use Rattle.m3_base.specs.Placement.State.{is_current}
use Rattle.m3_base.specs.Placement.Step.{placement_step}
use Rattle.m3_base.specs.Placement.Routing.{target}
use Rattle.m3_base.specs.Placement.Command.{next_id_of, push_new, command_by, busy_with}
use Rattle.m3_base.proofs.FlightOrder.{find-new}
use Rattle.m3_model.specs.Config.Site.{Site, tile_of, tile_for}
use Rattle.m3_model.specs.Parcel.{Data}
use Rattle.m3_model.specs.Tile.State.{Tile}
use Rattle.m3_model.specs.LocalStep.{idle_result}
use Rattle.m3_model.specs.Config.KnownActivities.{is_home, is_named, is_named_context}
use Rattle.m3_model.specs.Tile.Step.{resident_of, with_current, do_at, do_issued, new_out}
use Rattle.m3_model.specs.Machine.{Machine, Tile_part, empty_tile, tile_at, with_part, with_parcels, machine_step, done_by, of_tile, part_step}
use Rattle.m3_model.specs.Abstraction.{all_packets, ideal_of, placement_of}
use Rattle.m3_model.specs.Invariant.Parcels.{HasDestination}
use Rattle.m3_model.specs.Invariant.IdealFacts.{IdealFacts}
use Rattle.m3_model.specs.Invariant.Structure.{MachineStructure}
use Rattle.m3_model.specs.Refinement.{Refines}
use Rattle.m3_refine.proofs.abstraction.PushParcel.{longer_places, walks_elsewhere, sending_state, sending_sound}
use Rattle.m3_refine.proofs.abstraction.ChangeContext.{alike-itself}
use Rattle.m3_refine.proofs.abstraction.ChangeCurrentContext.{running_state, running_places, running_sound}
use Rattle.m3_refine.proofs.arrival.AnswerAndClosed.{home_tile, home_is, named_target, Emits}
use Rattle.m3_refine.proofs.arrival.CurrentContext.{current_found, current_each}
use Rattle.m3_refine.proofs.events.HomeTile.{home_range, home_in_tiles, home_part, home_current}
use Rattle.m3_refine.proofs.events.command.Issue.{NewOk, IssuesOk, IssuedOk, issue_ok, WaitsIf, issue_waits}

-- ---- a name that no flight has

new_absent : (id : FlightId) (x : Packet) (fs : List Packet) → flight id (new_flight x fs) ≡ None → (same_name id (name_of x) ≡ false) × (flight id fs ≡ None)
new_absent id x [] e = (grind (arith, e), refl)
new_absent id x (y ∷ fs) e =
    let r = new_absent id x fs in
    let a : same_name id (name_of x) ≡ false = grind (arith, e, r) in
    let b : flight id (y ∷ fs) ≡ None = grind (arith, e, r) in
    (a, b)

pub absent_back : (id : FlightId) (xs : List Packet) → flight id (sorted_by_name xs) ≡ None → flight id xs ≡ None
absent_back id [] e = refl
absent_back id (x ∷ xs) e = let r = new_absent id x (sorted_by_name xs) e in let s = absent_back id xs r.1 in let d = r.0 in grind (arith, d, s)

-- ---- nothing changes

module _ (h : Site) (m : Machine) (e : Event) (made : Option Made) (sound : MachineStructure h m) where
  pub idle_refines : (t : ℕ) (why : IdleWhy) → machine_step h m e made ≡ done_by t m (Some (of_tile (idle_result why (tile_at t m))))
      → placement_step (ideal_of m) (placement_of h m) e made ≡ places_landing.idle_outcome why (ideal_of m) (placement_of h m) → Refines h m e made (machine_step h m e made)
  idle_refines t why step places' =
      let same : with_part t (Tile_part (tile_at t m)) m ≡ m = (λ k. record m { tiles = set-get_or m.tiles t (empty_tile t) k }) in
      subst (Refines h m e made) (sym step)
      (subst (λ n. Refines h m e made (Some (record { outcome = record { made = None; said = Said.Idle why; restore = None }; machine = n }))) (sym same) (places', sound))

-- ---- a new packet

module _ (h : Site) (t : ℕ) (low : 1 ≤ t) (ht : t < 16) where
  goes : (m : Machine) → MachineStructure h m → (q : Packet) → is_named h q ≡ true → (o : Option ℕ) → target q ≡ o
      → (tile_for h o < 16) × HasDestination h (tile_for h o) o × (tile_for h o ≡ places_routing.tile_for o (placement_of h m))
  goes m sound q named None e = (omega arith, refl, refl)
  goes m sound q named (Some a) e =
      ((home_tile h a sound.setup (named_target h q a named e)).1, inr refl, sym (home_is h m a))

  pub emit_new : (m : Machine) → MachineStructure h m → (c : Context) (o : Option Packet) → NewOk h c o → flight (next_id c) (all_packets m) ≡ None
      → Emits h m (with_parcels t (new_out h o) m) (with_packet o (ideal_of m).flights) (ideal_of m).grants (push_new (next_id c) t o (placement_of h m))
  emit_new m sound c None ok absent = record { sound = sound; state = refl; places = refl }
  emit_new m sound c (Some q) ok absent =
      let u = tile_for h (target q) in
      let g = goes m sound q ok.1 (target q) refl in
      let gone : flight (name_of q) (all_packets m) ≡ None = subst (λ n. flight n (all_packets m) ≡ None) (sym ok.0) absent in
      record {
        sound = sending_sound h m t u ht g.0 sound q gone (ok.1, g.1) (walks_elsewhere h m t u ht g.0 (Data q) sound low);
        state = sending_state h m t u ht g.0 sound q gone;
        places = longer_places h m t u ht g.0 (Data q) sound.links
            ∙ ap (λ n. places_state.with_token t n (places_state.Data (name_of q)) (placement_of h m)) g.2
            ∙ ap (λ n. places_state.with_token t (places_routing.tile_for (target q) (placement_of h m)) (places_state.Data n) (placement_of h m)) ok.0;
      }

-- ---- the event

module _ (h : Site) (m : Machine) (a : ℕ) (x : Command) (made : Option Made) (sound : MachineStructure h m) (known : is_home h a ≡ true) where
  abbrev t : ℕ
  t = tile_of h a

  lives : (2 ≤ tile_of h a) × (tile_of h a < 16)
  lives = home_range h m a sound known

  in_tiles : tile_of h a < length m.tiles
  in_tiles = home_in_tiles h m a sound known

  do_step : (o : Option Context) → (tile_at t m).current ≡ o → machine_step h m (Event.Do a x) made ≡ done_by t m (Some (of_tile (do_at h (tile_at t m) a x o)))
  do_step o e =
      ap (λ p. done_by t m (part_step h p (Event.Do a x) made None)) (home_part h m a sound known)
      ∙ ap (λ z. done_by t m (Some (of_tile (do_at h (tile_at t m) a x z)))) e

  abbrev pub done : Option places_landing.PlacementResult
  done = command_by (ideal_of m) (placement_of h m) a (ideal_run (Step.Issue a x ∷ []) (ideal_of m))

  -- not current
  away : (b : Bool) → is_current a (placement_of h m) ≡ b → b ≡ false → placement_step (ideal_of m) (placement_of h m) (Event.Do a x) made ≡ places_landing.idle_outcome IdleWhy.NotCurrent (ideal_of m) (placement_of h m)
  away b e f = ap (λ z. cond (not z) (places_landing.idle_outcome IdleWhy.NotCurrent (ideal_of m) (placement_of h m)) (cond (busy_with x (context_of a (ideal_of m).contexts)) (places_landing.idle_outcome IdleWhy.Busy (ideal_of m) (placement_of h m)) done)) (e ∙ f)

  here : is_current a (placement_of h m) ≡ true → (b : Bool) → busy_with x (context_of a (ideal_of m).contexts) ≡ b
      → placement_step (ideal_of m) (placement_of h m) (Event.Do a x) made ≡ cond b (places_landing.idle_outcome IdleWhy.Busy (ideal_of m) (placement_of h m)) done
  here e b f =
      ap (λ z. cond (not z) (places_landing.idle_outcome IdleWhy.NotCurrent (ideal_of m) (placement_of h m)) (cond (busy_with x (context_of a (ideal_of m).contexts)) (places_landing.idle_outcome IdleWhy.Busy (ideal_of m) (placement_of h m)) done)) e
      ∙ ap (λ z. cond z (places_landing.idle_outcome IdleWhy.Busy (ideal_of m) (placement_of h m)) done) f

  module _ (c : Context) (e : (tile_at (tile_of h a) m).current ≡ Some c) (same : c.act ≡ a) where
    pub found : context_of a (ideal_of m).contexts ≡ Some c
    found = subst (λ n. context_of n (ideal_of m).contexts ≡ Some c) same (current_found m t in_tiles c e sound)

    is_now : is_current a (placement_of h m) ≡ true
    is_now = home_current h m a sound known (Some c) e ∙ (let z : (c.act == a) ≡ true = grind (arith, nat_tests, same) in z)

    abbrev tile_after : Issued → Tile
    tile_after i = with_current (Some i.context) (tile_at (tile_of h a) m)

    abbrev pub machine_after : Issued → Machine
    machine_after i = with_parcels (tile_of h a) (new_out h i.packet) (with_part (tile_of h a) (Tile_part (with_current (Some i.context) (tile_at (tile_of h a) m))) m)

    issued_step : (o : Option Issued) → issue c x ≡ o → machine_step h m (Event.Do a x) made ≡ done_by t m (Some (of_tile (do_issued h (tile_at t m) o)))
    issued_step o i =
        do_step (Some c) e
        ∙ ap (λ b. done_by t m (Some (of_tile (cond b (do_issued h (tile_at t m) (issue c x)) (idle_result IdleWhy.NotCurrent (tile_at t m)))))) (let z : (c.act == a) ≡ true = grind (arith, nat_tests, same) in z)
        ∙ ap (λ z. done_by t m (Some (of_tile (do_issued h (tile_at t m) z)))) i

    busy_is : (b : Bool) → flies_always x && is_busy c ≡ b → busy_with x (context_of a (ideal_of m).contexts) ≡ b
    busy_is b f = ap (busy_with x) found ∙ f

    module _ (i : Issued) (is : issue c x ≡ Some i) (ok : IssuesOk h c i) (free_at : flight (next_id c) (ideal_of m).flights ≡ None) where
      abbrev pub changed : Machine
      changed = with_part (tile_of h a) (Tile_part (with_current (Some i.context) (tile_at (tile_of h a) m))) m

      changed_state : ideal_of changed ≡ record (ideal_of m) { contexts = put_context i.context (ideal_of m).contexts }
      changed_state = running_state h m t lives.1 sound (tile_after i) c i.context e refl ok.0 refl (λ b. alike-itself (resident_of b (tile_at t m)))

      changed_sound : MachineStructure h changed
      changed_sound = running_sound h m t lives.1 sound (tile_after i) c i.context e refl ok.0 refl (λ b. alike-itself (resident_of b (tile_at t m))) ok.1

      pub emitted : Emits h changed (machine_after i) (with_packet i.packet (ideal_of changed).flights) (ideal_of changed).grants (push_new (next_id c) t i.packet (placement_of h changed))
      emitted = emit_new h t (let l = lives.0 in omega arith) lives.1 changed changed_sound c i.packet ok.2 (absent_back (next_id c) (all_packets m) free_at)

      abbrev next : State
      next = record (ideal_of m) { contexts = put_context i.context (ideal_of m).contexts; flights = with_packet i.packet (ideal_of m).flights }

      do_state : ideal_of (machine_after i) ≡ next
      do_state = emitted.state ∙ ap (λ (s : State). record s { flights = with_packet i.packet s.flights }) changed_state

      do_places : placement_of h (machine_after i) ≡ push_new (next_id c) t i.packet (placement_of h m)
      do_places =
          emitted.places
          ∙ ap (push_new (next_id c) t i.packet) (running_places h m t lives.1 sound (tile_after i) c i.context e refl ok.0 refl (λ b. alike-itself (resident_of b (tile_at t m))))

      flies_new : (o : Option Packet) → NewOk h c o → flight (next_id c) (with_packet o (ideal_of m).flights) ≡ o
      flies_new None k = free_at
      flies_new (Some q) k =
          subst (λ n. flight n (new_flight q (ideal_of m).flights) ≡ Some q) k.0 (find-new q (ideal_of m).flights (subst (λ n. flight n (ideal_of m).flights ≡ None) (sym k.0) free_at))

      id_is : next_id_of a (Some c) ≡ next_id c
      id_is = λ k. record { issuer = sym same k; number = c.next }

      ran : ideal_run (Step.Issue a x ∷ []) (ideal_of m) ≡ Some (record { words = At_issue i.told ∷ []; state = next })
      ran = ap (λ o. on_from (ideal_run []) (issue_in (ideal_of m) o x)) found ∙ ap (λ o. on_from (ideal_run []) (issued_in (ideal_of m) o)) is

      pub do_done : done ≡ Some (record { said = shown_told i.told; restore = None; state = ideal_of (machine_after i); places = placement_of h (machine_after i) })
      do_done =
          let told = shown_told i.told in
          let p = placement_of h m in
          ap (command_by (ideal_of m) p a) ran
          ∙ ap (λ o. places_landing.step_outcome told next (push_new (next_id_of a o) (places_state.home a p) (flight (next_id_of a o) next.flights) p)) found
          ∙ ap (λ n. places_landing.step_outcome told next (push_new n (places_state.home a p) (flight n next.flights) p)) id_is
          ∙ ap (λ o. places_landing.step_outcome told next (push_new (next_id c) (places_state.home a p) o p)) (flies_new i.packet ok.2)
          ∙ ap (λ n. places_landing.step_outcome told next (push_new (next_id c) n i.packet p)) (home_is h m a)
          ∙ (λ k. places_landing.step_outcome told (sym do_state k) (sym do_places k))

      do_issues : (flies_always x && is_busy c) ≡ false → Refines h m (Event.Do a x) made (machine_step h m (Event.Do a x) made)
      do_issues quiet =
          subst (Refines h m (Event.Do a x) made) (sym (issued_step (Some i) is))
          (here is_now false (busy_is false quiet) ∙ do_done, emitted.sound)

    do_current : IdealFacts m → (o : Option Issued) → issue c x ≡ o → IssuedOk h c o → WaitsIf (flies_always x && is_busy c) o → Refines h m (Event.Do a x) made (machine_step h m (Event.Do a x) made)
    do_current hyp None i ok w = idle_refines h m (Event.Do a x) made sound t IdleWhy.Busy (issued_step None i) (here is_now true (busy_is true w))
    do_current hyp (Some z) i ok w = do_issues z i ok (hyp.fresh a c found) w

  do_by : IdealFacts m → (o : Option Context) → (tile_at t m).current ≡ o → Refines h m (Event.Do a x) made (machine_step h m (Event.Do a x) made)
  do_by hyp None e = idle_refines h m (Event.Do a x) made sound t IdleWhy.NotCurrent (do_step None e) (away (is_current a (placement_of h m)) refl (home_current h m a sound known None e))
  do_by hyp (Some c) e = by_test (c.act == a) refl
    where
      by_test : (b : Bool) → (c.act == a) ≡ b → Refines h m (Event.Do a x) made (machine_step h m (Event.Do a x) made)
      by_test false d =
          idle_refines h m (Event.Do a x) made sound t IdleWhy.NotCurrent
          (do_step (Some c) e ∙ ap (λ b. done_by t m (Some (of_tile (cond b (do_issued h (tile_at t m) (issue c x)) (idle_result IdleWhy.NotCurrent (tile_at t m)))))) d)
          (away (is_current a (placement_of h m)) refl (home_current h m a sound known (Some c) e ∙ d))
      by_test true d =
          let same : c.act ≡ a = grind (arith, nat_tests, d) in
          let named = current_each m t in_tiles c e (λ z. is_named_context h z ≡ true) sound.named in
          let its : is_home h c.act ≡ true = ap (is_home h) same ∙ known in
          do_current c e same hyp (issue c x) refl (issue_ok h c its named x) (issue_waits c x)

pub do_refines : (h : Site) (m : Machine) (a : ℕ) (x : Command) (made : Option Made) → MachineStructure h m → IdealFacts m → is_home h a ≡ true → Refines h m (Event.Do a x) made (machine_step h m (Event.Do a x) made)
do_refines h m a x made sound hyp known = do_by h m a x made sound known hyp (tile_at (tile_of h a) m).current refl
