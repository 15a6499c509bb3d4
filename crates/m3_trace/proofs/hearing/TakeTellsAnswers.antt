-- Each step of a sound machine makes of what a program is to see what its entry says: turns and takes.
use Rattle.std.proofs.Common.{◌≡◌, ℕ, ◌+◌, ◌*◌, ◌<◌, ◌≤◌, Bool, true, false, cond, List, [], ◌++◌, length, Option, Some, None, refl, sym, subst, ◌∙◌, ap, arith}
use Rattle.std.specs.Prelude.{◌==◌, if◌then◌else◌}
use Rattle.std.proofs.lemmas.Bool.Decides.{nat_tests}
use Rattle.std.proofs.lemmas.List.{length-set}
use Rattle.m3_base.specs.declared.command.Answer.{Answer}
use Rattle.m3_base.specs.Ideal.Landing.{bytes_at, written_at}
use Rattle.m3_base.specs.declared.event.Event.{Event}
use Rattle.m3_base.specs.declared.event.Made.{Made}
use Rattle.m3_base.specs.declared.packet.Packet.{Packet}
use Rattle.m3_base.specs.Calls.JournalCalls.{input_after_answer, input_after_turn}
use Rattle.m3_base.specs.Ideal.Context.{Context}
use Rattle.m3_base.specs.Ideal.State.{context_of}
use Rattle.m3_model.specs.Abstraction.{flat_map, ideal_of}
use Rattle.m3_model.specs.Config.KnownActivities.{is_home}
use Rattle.m3_model.specs.Config.Site.{Site, tile_of}
use Rattle.m3_model.specs.Invariant.Housing.{resident_at}
use Rattle.m3_model.specs.Invariant.Structure.{MachineStructure}
use Rattle.m3_model.specs.Kernel.State.{Kernel}
use Rattle.m3_model.specs.Kernel.Step.{entry_of}
use Rattle.m3_model.specs.LocalStep.{LocalResult, dropped_result}
use Rattle.m3_model.specs.Machine.{Kernel_part, Machine, MachineResult, Memory_part, Tile_part, done_by, link_at, machine_step, of_turn, rest, tile_at, with_link, with_parcels, with_part}
use Rattle.m3_model.specs.Memory.Step.{memory_take, may_serve, serve, serve_result}
use Rattle.m3_model.specs.Parcel.{Closed, Data, Heard, Parcel, Restore, Save, Saved, Yield}
use Rattle.m3_model.specs.Tile.Ask.{turn_ask}
use Rattle.m3_model.specs.Tile.State.{Resident, Tile}
use Rattle.m3_model.specs.Tile.Step.{resident_of, tile_turn}
use Rattle.m3_refine.proofs.abstraction.ChangeResident.{current_home}
use Rattle.m3_refine.proofs.arrival.CurrentContext.{current_found}
use Rattle.m3_refine.proofs.events.HomeTile.{home_range}
use Rattle.m3_refine.proofs.events.take.RouteStep.{itself}
use Rattle.m3_refine.proofs.lists.EachElement.{InSome}
use Rattle.m3_trace.specs.Hearing.{entry_heard, heard_away, heard_in, program_input, resident_input, heard_on_link}
use Rattle.m3_trace.proofs.hearing.OutcomesTell.{heard_said, input_quiet}
use Rattle.m3_trace.proofs.hearing.KernelKeepsAnswers.{KeepsQuiet, quiet_tells}
use Rattle.m3_trace.proofs.hearing.LinksBringAnswers.{after_memory, after_tile, none_away, taken_none}
use Rattle.m3_trace.proofs.hearing.TurnTellsReplies.{TurnTells, turn_tells}
use Rattle.m3_trace.proofs.hearing.StepTellsAnswers.{Goes, at_part, below, from_result, kernel_tells, own_turn, stays_same, tile_then}

module _ (h : Site) (m : Machine) (sound : MachineStructure h m) (a : ℕ) (known : is_home h a ≡ true) where
  abbrev its : Option Resident
  its = resident_at h m.tiles a

  abbrev away : List Heard
  away = heard_away h m a

  abbrev kept : List Heard
  kept = entry_heard (entry_of a m.kernel)

  low : 2 ≤ tile_of h a
  low = (home_range h m a sound known).0

  high : tile_of h a < 16
  high = (home_range h m a sound known).1

  -- ---- a turn

  abbrev turned : ℕ → LocalResult Tile → Machine
  turned t d = with_parcels t d.out (with_part t (Tile_part d.part) m)

  own_goes : (made : Option Made) (x : LocalResult Tile) → tile_turn h (tile_at (tile_of h a) m) a made ≡ Some x → input_after_turn (ideal_of m) a (program_input h m a) x.outcome.made x.outcome.said ≡ program_input h (turned (tile_of h a) x) a
  own_goes made x e =
      let tells = subst (InSome (TurnTells (ideal_of m) (tile_at (tile_of h a) m) a away (turn_ask h (tile_at (tile_of h a) m) a))) e (own_turn h m sound a known made) in
      tells.input ∙ sym (
      tile_then h m sound a known (tile_of h a) (let l = low in omega (arith, l)) high x
      ∙ ap (λ b. resident_input (cond b (resident_of a x.part) its) away) (itself (tile_of h a))
      )

  other_goes : (b t : ℕ) → 1 ≤ t → t < 16 → (b == a) ≡ false → (made : Option Made) (x : LocalResult Tile) → tile_turn h (tile_at t m) b made ≡ Some x → program_input h m a ≡ program_input h (turned t x) a
  other_goes b t l ht d made x e =
      let current : (c : Context) → (tile_at t m).current ≡ Some c → b ≡ c.act → (context_of b (ideal_of m).contexts ≡ Some c) × ([] ≡ []) =
      (λ c here k. (ap (λ n. context_of n (ideal_of m).contexts) k ∙ current_found m t (subst (λ n. t < n) (sym sound.tiles) ht) c here sound, refl)) in
      let tells = subst (InSome (TurnTells (ideal_of m) (tile_at t m) b [] (turn_ask h (tile_at t m) b))) e (turn_tells h (ideal_of m) (tile_at t m) b [] current made) in
      sym (stays_same h m sound a known t l ht x (λ k. tells.others a (let z : (a == b) ≡ false = grind (arith, nat_tests, d) in z) ∙ ap (λ v. resident_of a (tile_at v m)) (let z : t ≡ tile_of h a = grind (arith, nat_tests, k) in z)))

  turned_goes : (b : ℕ) → 1 ≤ tile_of h b → (made : Option Made) (x : LocalResult Tile) → tile_turn h (tile_at (tile_of h b) m) b made ≡ Some x → Goes h m sound a known (Event.Turn b) (record { outcome = x.outcome; machine = turned (tile_of h b) x })
  turned_goes b l made x e = by_act (b == a) refl
    where
      by_act : (c : Bool) → (b == a) ≡ c → (if c then input_after_turn (ideal_of m) a (program_input h m a) x.outcome.made x.outcome.said else program_input h m a) ≡ program_input h (turned (tile_of h b) x) a
      by_act true d =
          let k : a ≡ b = grind (arith, nat_tests, d) in
          subst (λ n. tile_turn h (tile_at (tile_of h n) m) n made ≡ Some x → input_after_turn (ideal_of m) a (program_input h m a) x.outcome.made x.outcome.said ≡ program_input h (turned (tile_of h n) x) a) k (own_goes made x) e
      by_act false d = other_goes b (tile_of h b) l (below h m sound a known b) d made x e

  some_turn_goes : (b : ℕ) → 1 ≤ tile_of h b → (made : Option Made) (o : Option (LocalResult Tile)) → tile_turn h (tile_at (tile_of h b) m) b made ≡ o → (d : MachineResult) → done_by (tile_of h b) m (of_turn o) ≡ Some d → Goes h m sound a known (Event.Turn b) d
  some_turn_goes b l made None e d is = absurd (cc)
  some_turn_goes b l made (Some x) e d is = from_result h m sound a known (Event.Turn b) (record { outcome = x.outcome; machine = turned (tile_of h b) x }) (turned_goes b l made x e) d is

  pub turn_goes : (b : ℕ) (made : Option Made) (d : MachineResult) → machine_step h m (Event.Turn b) made ≡ Some d → Goes h m sound a known (Event.Turn b) d
  turn_goes b made =
      at_part h m sound a known (Event.Turn b) made (tile_of h b) (below h m sound a known b) (λ d e. absurd (cc)) (λ d e. absurd (cc))
      (λ l. some_turn_goes b l made (tile_turn h (tile_at (tile_of h b) m) b made) refl)

  -- ---- a take

  module _ (to from : ℕ) (ht : to < 16) (hf : from < 16) (made : Option Made) where
    abbrev pub left : List Parcel → Machine
    left l = with_link from to (rest l) m

    pub left_links : (l : List Parcel) → length (left l).links ≡ 256
    left_links l = length-set m.links (16 * from + to) (rest l) ∙ sound.links

    -- no tile: neither takes what is for a tile
    not_home : to ≤ 1 → to ≡ tile_of h a → ⊥
    not_home l e = let k = low in omega (arith, l, e, k)

    same_below : to ≤ 1 → (l : List Parcel) → link_at from to m ≡ l → heard_on_link h (left l) a ≡ heard_on_link h m a
    same_below small l g = taken_none h m sound a known from to hf ht l g (λ e d. absurd (not_home small d))

    pub kernel_takes : to ≡ 0 → (l : List Parcel) → link_at from to m ≡ l → (d : LocalResult Kernel) → KeepsQuiet h sound.setup.homes a m.kernel d
        → input_after_answer a (program_input h m a) d.outcome.said ≡ program_input h (with_parcels 0 d.out (with_part 0 (Kernel_part d.part) (left l))) a
    kernel_takes z l g d k = kernel_tells h m sound a known d (left l) refl (same_below (omega (arith, z)) l g) (left_links l) (quiet_tells h sound.setup.homes a m.kernel d k)

    pub memory_takes : to ≡ 1 → (l : List Parcel) → link_at from to m ≡ l → (d : LocalResult (List ℕ)) → heard_said a d.outcome.said ≡ []
        → input_after_answer a (program_input h m a) d.outcome.said ≡ program_input h (with_parcels 1 d.out (with_part 1 (Memory_part d.part) (left l))) a
    memory_takes z l g d k =
        input_quiet a its away d.outcome.said k
        ∙ sym (after_memory h m sound a known (left l) refl refl d ∙ ap (λ x. resident_input its (x ++ kept)) (same_below (omega (arith, z)) l g))

    -- a tile, where the front has nothing for the activity to hear
    pub tile_takes : 1 ≤ to → (l : List Parcel) → heard_on_link h (left l) a ≡ heard_on_link h m a → (d : LocalResult Tile)
        → ((to == tile_of h a) ≡ true → input_after_answer a (resident_input (resident_of a (tile_at to m)) away) d.outcome.said ≡ resident_input (resident_of a d.part) away)
        → ((to == tile_of h a) ≡ false → heard_said a d.outcome.said ≡ [])
        → input_after_answer a (program_input h m a) d.outcome.said ≡ program_input h (with_parcels to d.out (with_part to (Tile_part d.part) (left l))) a
    tile_takes small l same d now other =
        by_test (to == tile_of h a) refl ∙ sym (after_tile h m sound a known (left l) refl refl to small ht d ∙ ap (λ x. resident_input (cond (to == tile_of h a) (resident_of a d.part) its) (x ++ kept)) same)
      where
        by_test : (b : Bool) → (to == tile_of h a) ≡ b → input_after_answer a (program_input h m a) d.outcome.said ≡ resident_input (cond (to == tile_of h a) (resident_of a d.part) its) away
        by_test true e =
            let k : to ≡ tile_of h a = grind (arith, nat_tests, e) in
            ap (λ v. input_after_answer a (resident_input (resident_of a (tile_at v m)) away) d.outcome.said) (sym k) ∙ now e
            ∙ ap (λ b. resident_input (cond b (resident_of a d.part) its) away) (sym e)
        by_test false e = input_quiet a its away d.outcome.said (other e) ∙ ap (λ b. resident_input (cond b (resident_of a d.part) its) away) (sym e)

    abbrev x : Tile
    x = tile_at to m

    pub alone : (c : Context) → (tile_at to m).current ≡ Some c → a ≡ c.act → away ≡ []
    alone c here k = none_away h m sound a known to ht c here k

    pub elsewhere : (to == tile_of h a) ≡ false → (c : Context) → (tile_at to m).current ≡ Some c → (a == c.act) ≡ false
    elsewhere e c here = by_test (a == c.act) refl
      where
        by_test : (b : Bool) → (a == c.act) ≡ b → b ≡ false
        by_test false d = refl
        by_test true d =
            let k : a ≡ c.act = grind (arith, nat_tests, d) in
            let t : tile_of h a ≡ to = ap (tile_of h) k ∙ (current_home h m to sound c here).1 in
            absurd (let z : (to == tile_of h a) ≡ true = grind (arith, nat_tests, t) in cc)

    serve_quiet : (p : Packet) → heard_said a (serve h m.memory p).outcome.said ≡ []
    serve_quiet (Packet.Read id g place buffer) = by_test (may_serve h m.memory id place (length buffer))
      where
        by_test : (b : Bool) → heard_said a (if b then serve_result h m.memory id (Answer.Bytes (bytes_at place (length buffer) m.memory)) else dropped_result m.memory).outcome.said ≡ []
        by_test true = refl
        by_test false = refl
    serve_quiet (Packet.Write id g place payload) = by_test (may_serve h m.memory id place (length payload))
      where
        by_test : (b : Bool) → heard_said a (if b then serve_result h (written_at place payload m.memory) id Answer.Written else dropped_result m.memory).outcome.said ≡ []
        by_test true = refl
        by_test false = refl
    serve_quiet (Packet.Message b ep g y) = refl
    serve_quiet (Packet.Credit id b g) = refl
    serve_quiet (Packet.Answer id answer) = refl
    serve_quiet (Packet.Install id b ep f) = refl
    serve_quiet (Packet.Close id b ep g) = refl

    pub memory_quiet : (q : Parcel) → heard_said a (memory_take h m.memory q).outcome.said ≡ []
    memory_quiet (Data p) = serve_quiet p
    memory_quiet (Save b) = refl
    memory_quiet (Saved b c w e) = refl
    memory_quiet (Restore b c xs) = refl
    memory_quiet (Yield b) = refl
    memory_quiet (Closed g) = refl
