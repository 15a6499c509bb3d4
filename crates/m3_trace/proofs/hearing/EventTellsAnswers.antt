-- Each step of a sound machine makes of what a program is to see what its entry says: a Restore, and any event.
use Rattle.std.proofs.Common.{◌≡◌, ℕ, ◌+◌, ◌*◌, ◌<◌, ◌≤◌, Bool, true, false, cond, List, [], ◌∷◌, ◌++◌, Option, Some, None, refl, sym, subst, ◌∙◌, ap, arith, append_assoc}
use Rattle.std.specs.Prelude.{◌==◌, if◌then◌else◌}
use Rattle.std.proofs.lemmas.Bool.Decides.{nat_tests}
use Rattle.std.proofs.lemmas.List.{get_or-set_same}
use Rattle.m3_base.specs.declared.event.Event.{Event}
use Rattle.m3_base.specs.declared.event.IdleWhy.{IdleWhy}
use Rattle.m3_base.specs.declared.event.Made.{Made}
use Rattle.m3_base.specs.declared.event.Said.{Said}
use Rattle.m3_base.specs.Calls.JournalCalls.{input_after_answer, input_after_event}
use Rattle.m3_base.specs.Ideal.Context.{Context}
use Rattle.m3_base.specs.Lists.EachElement.{Each}
use Rattle.m3_model.specs.Abstraction.{flat_map, ideal_of}
use Rattle.m3_model.specs.Config.KnownActivities.{has_bounded_counters, is_home}
use Rattle.m3_model.specs.Config.Site.{Site, tile_of}
use Rattle.m3_model.specs.Events.{IsWithin}
use Rattle.m3_model.specs.Invariant.Housing.{resident_at}
use Rattle.m3_model.specs.Invariant.Parcels.{ParcelOk}
use Rattle.m3_model.specs.Invariant.Structure.{MachineStructure}
use Rattle.m3_model.specs.Kernel.State.{Kernel}
use Rattle.m3_model.specs.Kernel.Step.{entry_of, kernel_take}
use Rattle.m3_model.specs.LocalStep.{LocalResult, dropped_result, idle_result, local_result}
use Rattle.m3_model.specs.Machine.{Kernel_part, Machine, MachineResult, Memory_part, Part, Tile_part, done_by, front, link_at, machine_step, of_kernel, of_memory, of_tile, part_step, rest, tile_at, with_link, with_parcels, with_part}
use Rattle.m3_model.specs.Memory.Step.{memory_take}
use Rattle.m3_model.specs.NumberBounds.{RestoresBounded}
use Rattle.m3_model.specs.Parcel.{Closed, Data, Heard, Parcel, Restore, Save, Saved, Yield}
use Rattle.m3_model.specs.Tile.State.{Resident, Tile}
use Rattle.m3_model.specs.Tile.Step.{resident_of, take_data, take_save, with_current, with_resident}
use Rattle.m3_refine.proofs.arrival.CurrentContext.{stay_key}
use Rattle.m3_refine.proofs.events.HomeTile.{home_range}
use Rattle.m3_refine.proofs.events.take.TileTakesRestore as restores
use Rattle.m3_refine.proofs.theorem.AnyStepMoves.{unasked_step}
use Rattle.m3_trace.specs.Hearing.{entry_heard, heard_away, heard_in, input_by, program_input, resident_input, heard_on_link}
use Rattle.m3_trace.proofs.hearing.OutcomesTell.{heard_said, input_quiet, seen_more}
use Rattle.m3_trace.proofs.hearing.KernelKeepsAnswers.{KeepsQuiet}
use Rattle.m3_trace.proofs.hearing.KernelTellsAnswers.{take_quiet}
use Rattle.m3_trace.proofs.hearing.LinksBringAnswers.{after_tile, kernel_own, taken_none}
use Rattle.m3_trace.proofs.hearing.TileTellsAnswers.{data_silent, data_tells, dropped_tells, resident_then, save_silent, save_tells}
use Rattle.m3_trace.proofs.hearing.TakeTellsAnswers.{alone, elsewhere, kernel_takes, memory_quiet, memory_takes, tile_takes, turn_goes}
use Rattle.m3_trace.proofs.hearing.StepTellsAnswers.{Goes, close_goes, do_goes, from_result, order_goes, tend_goes}

module _ (h : Site) (m : Machine) (sound : MachineStructure h m) (a : ℕ) (known : is_home h a ≡ true) where
  abbrev its : Option Resident
  its = resident_at h m.tiles a

  abbrev away : List Heard
  away = heard_away h m a

  abbrev kept : List Heard
  kept = entry_heard (entry_of a m.kernel)

  high : tile_of h a < 16
  high = (home_range h m a sound known).1

  -- ---- a tile takes Restore: its resident hears what the Restore has

  module _ (to : ℕ) (low : 2 ≤ to) (ht : to < 16) (c : Context) (xs : List Heard) (qs : List Parcel) (g : link_at 0 to m ≡ Restore c.act c xs ∷ qs) (numbers : has_bounded_counters c ≡ true) where
    abbrev stay : (z : Resident) × (resident_of c.act (tile_at to m) ≡ Some z)
    stay = restores.stay h m to low ht sound c xs qs g numbers

    abbrev came : Tile
    came = with_current (Some c) (tile_at to m)

    abbrev begun : Resident
    begun = restores.begun h m to low ht sound c xs qs g numbers

    abbrev restored : Machine
    restored = restores.restored h m to low ht sound c xs qs g numbers

    key : (restores.stay h m to low ht sound c xs qs g numbers).0.act ≡ c.act
    key = stay_key c.act (tile_at to m).stays stay.0 stay.1

    there : resident_of stay.0.act (tile_at to m) ≡ Some stay.0
    there = ap (λ n. resident_of n (tile_at to m)) key ∙ stay.1

    abbrev left : Machine
    left = with_link 0 to qs m

    input_then : program_input h restored a ≡ resident_input (cond (to == tile_of h a) (resident_of a (with_resident begun came)) its) (heard_on_link h left a ++ kept)
    input_then = after_tile h m sound a known left refl refl to (omega (arith, low)) ht (local_result (Said.Current c.act) (with_resident begun came) [])

    quiet : input_after_answer a (program_input h m a) (Said.Current c.act) ≡ resident_input its away
    quiet = input_quiet a its away (Said.Current c.act) refl

    other_act : (a == c.act) ≡ false → resident_input its away ≡ program_input h restored a
    other_act d = by_test (to == tile_of h a) refl ∙ sym (input_then ∙ ap (λ l. resident_input (cond (to == tile_of h a) (resident_of a (with_resident begun came)) its) (l ++ kept)) same)
      where
        away_front : (if c.act == a then xs else []) ≡ []
        away_front = ap (λ b. if b then xs else []) (let z : (c.act == a) ≡ false = grind (arith, nat_tests, d) in z)

        same : heard_on_link h left a ≡ heard_on_link h m a
        same = taken_none h m sound a known 0 to (omega arith) ht (Restore c.act c xs ∷ qs) g (λ e f. ap (λ l. l ++ flat_map (heard_in a) qs) (sym away_front))

        still : resident_of a (with_resident begun came) ≡ resident_of a (tile_at to m)
        still = resident_then came stay.0 begun there refl (λ n o. n ≡ a → o ≡ resident_of n (tile_at to m)) a (λ k e. refl)
            (λ k e. absurd (let z : (a == c.act) ≡ true = grind (arith, nat_tests, k, key) in cc)) refl

        by_test : (b : Bool) → (to == tile_of h a) ≡ b → resident_input its away ≡ resident_input (cond (to == tile_of h a) (resident_of a (with_resident begun came)) its) away
        by_test true e =
            let k : to ≡ tile_of h a = grind (arith, nat_tests, e) in
            ap (λ v. resident_input (resident_of a (tile_at v m)) away) (sym k) ∙ ap (λ o. resident_input o away) (sym still)
            ∙ ap (λ b. resident_input (cond b (resident_of a (with_resident begun came)) its) away) (sym e)
        by_test false e = ap (λ b. resident_input (cond b (resident_of a (with_resident begun came)) its) away) (sym e)

    own_act : a ≡ c.act → resident_input its away ≡ program_input h restored a
    own_act k =
        ap (λ o. resident_input o away) mine ∙ ap (λ l. resident_input (Some stay.0) (l ++ kept)) before
        ∙ ap (resident_input (Some stay.0)) (append_assoc xs (flat_map (heard_in a) qs) kept)
        ∙ ap (input_by stay.0.pending) (seen_more stay.0.seen xs (flat_map (heard_in a) qs ++ kept))
        ∙ ap (λ l. resident_input (Some begun) (l ++ kept)) (sym after)
        ∙ ap (λ o. resident_input o (heard_on_link h left a ++ kept)) (sym now)
        ∙ ap (λ b. resident_input (cond b (resident_of a (with_resident begun came)) its) (heard_on_link h left a ++ kept)) (sym here)
        ∙ sym input_then
      where
        lives : to ≡ tile_of h a
        lives = (restores.ok h m to low ht sound c xs qs g numbers).2 ∙ ap (tile_of h) (sym k)

        here : (to == tile_of h a) ≡ true
        here = let z = lives in grind (arith, nat_tests, z)

        mine : its ≡ Some stay.0
        mine = ap (λ v. resident_of a (tile_at v m)) (sym lives) ∙ ap (λ n. resident_of n (tile_at to m)) k ∙ stay.1

        before : heard_on_link h m a ≡ xs ++ flat_map (heard_in a) qs
        before =
            ap (λ v. flat_map (heard_in a) (link_at 0 v m)) (sym lives) ∙ ap (flat_map (heard_in a)) g
            ∙ ap (λ b. (if b then xs else []) ++ flat_map (heard_in a) qs) (let z : (c.act == a) ≡ true = grind (arith, nat_tests, k) in z)

        after : heard_on_link h left a ≡ flat_map (heard_in a) qs
        after =
            ap (λ v. flat_map (heard_in a) (link_at 0 v left)) (sym lives)
            ∙ ap (flat_map (heard_in a)) (get_or-set_same m.links (16 * 0 + to) qs [] (let n = sound.links in omega (arith, ht, n)))

        now : resident_of a (with_resident begun came) ≡ Some begun
        now = resident_then came stay.0 begun there refl (λ n o. n ≡ a → o ≡ Some begun) a
            (λ d e. absurd (let z : (a == (restores.stay h m to low ht sound c xs qs g numbers).0.act) ≡ true = grind (arith, nat_tests, k, key) in cc)) (λ i e. refl) refl

    restored_goes : input_after_answer a (program_input h m a) (Said.Current c.act) ≡ program_input h restored a
    restored_goes = quiet ∙ by_act (a == c.act) refl
      where
        by_act : (b : Bool) → (a == c.act) ≡ b → resident_input its away ≡ program_input h restored a
        by_act true d = own_act (grind (arith, nat_tests, d))
        by_act false d = other_act d

    restore_goes : (made : Option Made) (d : MachineResult) → machine_step h m (Event.Take to 0) made ≡ Some d → Goes h m sound a known (Event.Take to 0) d
    restore_goes made d is =
        from_result h m sound a known (Event.Take to 0) (record { outcome = record { made = None; said = Said.Current c.act; restore = None }; machine = restored }) restored_goes d
        (sym (restores.step h m to low ht sound c xs qs g numbers) ∙ unasked_step h m (Event.Take to 0) made tt ∙ is)

  -- ---- a take from any link

  module _ (to from : ℕ) (ht : to < 16) (hf : from < 16) (returns : RestoresBounded m) (made : Option Made) where
    abbrev left_by : List Parcel → Machine
    left_by l = with_link from to (rest l) m

    abbrev Took : List Parcel → Part → Type 0
    Took l x = (d : MachineResult) → done_by to (with_link from to (rest l) m) (part_step h x (Event.Take to from) made (front l)) ≡ Some d → Goes h m sound a known (Event.Take to from) d

    abbrev took : LocalResult Part → List Parcel → MachineResult
    took x l = record { outcome = x.outcome; machine = with_parcels to x.out (with_part to x.part (with_link from to (rest l) m)) }

    result : (l : List Parcel) (x : LocalResult Part) → Goes h m sound a known (Event.Take to from) (took x l) → (d : MachineResult) → Some (took x l) ≡ Some d → Goes h m sound a known (Event.Take to from) d
    result l x g d is = from_result h m sound a known (Event.Take to from) (took x l) g d is

    kernel_did : to ≡ 0 → (l : List Parcel) → link_at from to m ≡ l → (d : LocalResult Kernel) → KeepsQuiet h sound.setup.homes a m.kernel d → Goes h m sound a known (Event.Take to from) (took (of_kernel d) l)
    kernel_did z l g d k =
        subst (λ t. input_after_answer a (program_input h m a) d.outcome.said ≡ program_input h (with_parcels t d.out (with_part t (Kernel_part d.part) (with_link from to (rest l) m))) a) (sym z)
        (kernel_takes h m sound a known to from ht hf made z l g d k)

    kernel_took : to ≡ 0 → (l : List Parcel) → link_at from to m ≡ l → Took l (Kernel_part m.kernel)
    kernel_took z [] g d is = result [] (of_kernel (idle_result IdleWhy.EmptyLink m.kernel)) (kernel_did z [] g (idle_result IdleWhy.EmptyLink m.kernel) (refl, refl)) d is
    kernel_took z (q ∷ qs) g d is = result (q ∷ qs) (of_kernel (kernel_take h m.kernel q)) (kernel_did z (q ∷ qs) g (kernel_take h m.kernel q) (take_quiet h sound.setup.homes a m.kernel q (kernel_own h m sound))) d is

    memory_did : to ≡ 1 → (l : List Parcel) → link_at from to m ≡ l → (d : LocalResult (List ℕ)) → heard_said a d.outcome.said ≡ [] → Goes h m sound a known (Event.Take to from) (took (of_memory d) l)
    memory_did z l g d k =
        subst (λ t. input_after_answer a (program_input h m a) d.outcome.said ≡ program_input h (with_parcels t d.out (with_part t (Memory_part d.part) (with_link from to (rest l) m))) a) (sym z)
        (memory_takes h m sound a known to from ht hf made z l g d k)

    memory_took : to ≡ 1 → (l : List Parcel) → link_at from to m ≡ l → Took l (Memory_part m.memory)
    memory_took z [] g d is = result [] (of_memory (idle_result IdleWhy.EmptyLink m.memory)) (memory_did z [] g (idle_result IdleWhy.EmptyLink m.memory) refl) d is
    memory_took z (q ∷ qs) g d is = result (q ∷ qs) (of_memory (memory_take h m.memory q)) (memory_did z (q ∷ qs) g (memory_take h m.memory q) (memory_quiet h m sound a known to from ht hf made q)) d is

    -- a tile, by what it takes
    module _ (low : 2 ≤ to) where
      abbrev x : Tile
      x = tile_at to m

      one : 1 ≤ to
      one = omega (arith, low)

      tile_did : (l : List Parcel) → link_at from to m ≡ l → flat_map (heard_in a) (rest l) ≡ flat_map (heard_in a) l → (d : LocalResult Tile)
          → ((to == tile_of h a) ≡ true → input_after_answer a (resident_input (resident_of a (tile_at to m)) away) d.outcome.said ≡ resident_input (resident_of a d.part) away)
          → ((to == tile_of h a) ≡ false → heard_said a d.outcome.said ≡ []) → Goes h m sound a known (Event.Take to from) (took (of_tile d) l)
      tile_did l g none d now other = tile_takes h m sound a known to from ht hf made one l (taken_none h m sound a known from to hf ht l g (λ e k. none)) d now other

      dropped : (q : Parcel) (qs : List Parcel) → link_at from to m ≡ q ∷ qs → heard_in a q ≡ [] → Goes h m sound a known (Event.Take to from) (took (of_tile (dropped_result x)) (q ∷ qs))
      dropped q qs g none = tile_did (q ∷ qs) g (ap (λ l. l ++ flat_map (heard_in a) qs) (sym none)) (dropped_result x) (λ e. dropped_tells h x a away) (λ e. refl)

      own_parcel : (q : Parcel) (qs : List Parcel) → link_at from to m ≡ q ∷ qs → ParcelOk h m.kernel m.tiles from to q
      own_parcel q qs g = (subst (Each (ParcelOk h m.kernel m.tiles from to)) g (sound.parcels from to hf ht)).0

      restore_took : (b : ℕ) (c : Context) (xs : List Heard) (qs : List Parcel) → link_at from to m ≡ Restore b c xs ∷ qs → (d : MachineResult) → machine_step h m (Event.Take to from) made ≡ Some d → Goes h m sound a known (Event.Take to from) d
      restore_took b c xs qs g d is =
          let o = own_parcel (Restore b c xs) qs g in
          let front_is : link_at 0 to m ≡ Restore c.act c xs ∷ qs = ap (λ f. link_at f to m) (sym o.0) ∙ g ∙ ap (λ n. Restore n c xs ∷ qs) o.3 in
          restore_goes to low ht c xs qs front_is (returns to from b c xs qs g) made d (ap (λ f. machine_step h m (Event.Take to f) made) (sym o.0) ∙ is)

      tile_took : (l : List Parcel) → link_at from to m ≡ l → (d : MachineResult) → machine_step h m (Event.Take to from) made ≡ Some d
          → done_by to (with_link from to (rest l) m) (part_step h (Tile_part x) (Event.Take to from) made (front l)) ≡ Some d → Goes h m sound a known (Event.Take to from) d
      tile_took [] g d whole is =
          result [] (of_tile (idle_result IdleWhy.EmptyLink x)) (tile_did [] g refl (idle_result IdleWhy.EmptyLink x) (λ e. input_quiet a (resident_of a x) away (Said.Idle IdleWhy.EmptyLink) refl) (λ e. refl)) d is
      tile_took (Data p ∷ qs) g d whole is =
          result (Data p ∷ qs) (of_tile (take_data h x p)) (
          tile_did (Data p ∷ qs) g refl (take_data h x p) (λ e. data_tells h x a away (alone h m sound a known to from ht hf made) p) (λ e. data_silent h x a away (elsewhere h m sound a known to from ht hf made e) p)
          ) d is
      tile_took (Save b ∷ qs) g d whole is =
          result (Save b ∷ qs) (of_tile (take_save x b x.current)) (tile_did (Save b ∷ qs) g refl (take_save x b x.current) (λ e. save_tells h x a away b x.current) (λ e. save_silent h x a away b x.current)) d is
      tile_took (Restore b c xs ∷ qs) g d whole is = restore_took b c xs qs g d whole
      tile_took (Saved b c w e ∷ qs) g d whole is = result (Saved b c w e ∷ qs) (of_tile (dropped_result x)) (dropped (Saved b c w e) qs g refl) d is
      tile_took (Yield b ∷ qs) g d whole is = result (Yield b ∷ qs) (of_tile (dropped_result x)) (dropped (Yield b) qs g refl) d is
      tile_took (Closed k ∷ qs) g d whole is = result (Closed k ∷ qs) (of_tile (dropped_result x)) (dropped (Closed k) qs g refl) d is

    take_goes : (d : MachineResult) → machine_step h m (Event.Take to from) made ≡ Some d → Goes h m sound a known (Event.Take to from) d
    take_goes d is = by_tests (to == 0) (to == 1) refl refl is
      where
        by_tests : (b c : Bool) → (to == 0) ≡ b → (to == 1) ≡ c
            → done_by to (with_link from to (rest (link_at from to m)) m) (part_step h (if b then Kernel_part m.kernel else (if c then Memory_part m.memory else Tile_part (tile_at to m))) (Event.Take to from) made (front (link_at from to m))) ≡ Some d
            → Goes h m sound a known (Event.Take to from) d
        by_tests true c e f k = kernel_took (grind (arith, nat_tests, e)) (link_at from to m) refl d k
        by_tests false true e f k = memory_took (grind (arith, nat_tests, f)) (link_at from to m) refl d k
        by_tests false false e f k =
            let zero : (to ≡ 0) → ⊥ = (λ j. absurd (let q : (to == 0) ≡ true = grind (arith, nat_tests, j) in cc)) in
            let unit : (to ≡ 1) → ⊥ = (λ j. absurd (let q : (to == 1) ≡ true = grind (arith, nat_tests, j) in cc)) in
            tile_took (omega (arith, zero, unit)) (link_at from to m) refl d is k

  -- ---- any event

  -- what the program is to see after a step is what the entry says
  pub step_goes : RestoresBounded m → (e : Event) → IsWithin e → (made : Option Made) (d : MachineResult) → machine_step h m e made ≡ Some d
      → input_after_event a (ideal_of m) (program_input h m a) e d.outcome ≡ program_input h d.machine a
  step_goes returns (Event.Do b c) within made d is = do_goes h m sound a known b c made d is
  step_goes returns (Event.Turn b) within made d is = turn_goes h m sound a known b made d is
  step_goes returns (Event.Take to from) within made d is = take_goes to from within.0 within.1 returns made d is
  step_goes returns (Event.Tend b) within made d is = tend_goes h m sound a known b made d is
  step_goes returns Event.Close within made d is = close_goes h m sound a known made d is
  step_goes returns (Event.Order o) within made d is = order_goes h m sound a known o made d is
  step_goes returns (Event.File l) within made d is = absurd (cc)
