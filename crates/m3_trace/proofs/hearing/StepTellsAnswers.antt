-- Each step of a sound machine makes of what a program is to see what its entry says.
use Rattle.std.proofs.Common.{◌≡◌, ℕ, ◌<◌, ◌≤◌, Bool, true, false, cond, List, [], ◌++◌, length, Option, Some, None, refl, sym, subst, ◌∙◌, ap, arith, append_assoc}
use Rattle.std.specs.Prelude.{◌==◌, if◌then◌else◌}
use Rattle.std.proofs.lemmas.Bool.Decides.{nat_tests}
use Rattle.std.proofs.lemmas.Option.{same_Some}
use Rattle.m3_base.specs.declared.command.Command.{Command}
use Rattle.m3_base.specs.declared.event.Event.{Event}
use Rattle.m3_base.specs.declared.event.IdleWhy.{IdleWhy}
use Rattle.m3_base.specs.declared.event.Made.{Made}
use Rattle.m3_base.specs.declared.order.Order.{Order}
use Rattle.m3_base.specs.Calls.JournalCalls.{input_after_answer, input_after_event}
use Rattle.m3_base.specs.Ideal.Context.{Context}
use Rattle.m3_base.specs.Ideal.Issue.{Issued, issue}
use Rattle.m3_base.specs.Ideal.State.{context_of}
use Rattle.m3_model.specs.Abstraction.{flat_map, ideal_of}
use Rattle.m3_model.specs.Config.KnownActivities.{is_home}
use Rattle.m3_model.specs.Config.Site.{Site, home_of, tile_of}
use Rattle.m3_model.specs.Invariant.Housing.{resident_at}
use Rattle.m3_model.specs.Invariant.Structure.{MachineStructure}
use Rattle.m3_model.specs.Kernel.State.{Kernel}
use Rattle.m3_model.specs.Kernel.Step.{kernel_close, kernel_order, kernel_tend}
use Rattle.m3_model.specs.LocalStep.{LocalResult, idle_result}
use Rattle.m3_model.specs.Machine.{Kernel_part, Machine, MachineResult, Memory_part, Part, Tile_part, done_by, link_at, machine_step, part_at, part_step, tile_at, with_parcels, with_part}
use Rattle.m3_model.specs.Parcel.{Heard}
use Rattle.m3_model.specs.Tile.Ask.{turn_ask}
use Rattle.m3_model.specs.Tile.State.{Resident, Tile}
use Rattle.m3_model.specs.Tile.Step.{do_at, do_issued, resident_of, tile_do, tile_turn}
use Rattle.m3_refine.proofs.arrival.CurrentContext.{current_found}
use Rattle.m3_refine.proofs.events.HomeTile.{home_in_tiles, home_range}
use Rattle.m3_refine.proofs.lists.EachElement.{InSome}
use Rattle.m3_refine.proofs.theorem.StepIsLocalMove.{tile_below}
use Rattle.m3_trace.specs.Hearing.{heard_away, heard_in, program_input, resident_input, heard_on_link}
use Rattle.m3_trace.proofs.hearing.OutcomesTell.{heard_said, input_heard}
use Rattle.m3_trace.proofs.hearing.KernelKeepsAnswers.{KeepsHeard, TellsHeard, heard_at}
use Rattle.m3_trace.proofs.hearing.KernelTellsAnswers.{kernel_close_keeps, order_keeps, tend_tells}
use Rattle.m3_trace.proofs.hearing.LinksBringAnswers.{after_kernel, after_tile, kernel_own, none_away}
use Rattle.m3_trace.proofs.hearing.TurnTellsReplies.{TurnTells, turn_tells}

module _ (h : Site) (m : Machine) (sound : MachineStructure h m) (a : ℕ) (known : is_home h a ≡ true) where
  abbrev u : ℕ
  u = tile_of h a

  abbrev its : Option Resident
  its = resident_at h m.tiles a

  abbrev away : List Heard
  away = heard_away h m a

  low : 2 ≤ tile_of h a
  low = (home_range h m a sound known).0

  high : tile_of h a < 16
  high = (home_range h m a sound known).1

  -- the step makes of what the program is to see what the entry says
  abbrev pub Goes : Event → MachineResult → Type 0
  Goes e d = input_after_event a (ideal_of m) (program_input h m a) e d.outcome ≡ program_input h d.machine a

  pub from_result : (e : Event) (x : MachineResult) → Goes e x → (d : MachineResult) → Some x ≡ Some d → Goes e d
  from_result e x g d is = subst (Goes e) (same_Some x d is) g

  -- ---- the kernel's steps

  abbrev At : Kernel → List Heard
  At k = heard_at h sound.setup.homes a k

  abbrev after : LocalResult Kernel → Machine → Machine
  after d m0 = with_parcels 0 d.out (with_part 0 (Kernel_part d.part) m0)

  module _ (d : LocalResult Kernel) (m0 : Machine) (tiles : m0.tiles ≡ m.tiles) (same : heard_on_link h m0 a ≡ heard_on_link h m a) (len : length m0.links ≡ 256) where
    kernel_keeps : KeepsHeard h sound.setup.homes a m.kernel d → program_input h (after d m0) a ≡ program_input h m a
    kernel_keeps k = after_kernel h m sound a known m0 tiles d same len ∙ ap (λ l. resident_input its (heard_on_link h m a ++ l)) k

    pub kernel_tells : TellsHeard h sound.setup.homes a m.kernel d → input_after_answer a (program_input h m a) d.outcome.said ≡ program_input h (after d m0) a
    kernel_tells k =
        input_heard a its away d.outcome.said
        ∙ ap (resident_input its) (append_assoc (heard_on_link h m a) (At m.kernel) (heard_said a d.outcome.said))
        ∙ ap (λ l. resident_input its (heard_on_link h m a ++ l)) (sym k)
        ∙ sym (after_kernel h m sound a known m0 tiles d same len)

  pub tend_goes : (b : ℕ) (made : Option Made) (d : MachineResult) → machine_step h m (Event.Tend b) made ≡ Some d → Goes (Event.Tend b) d
  tend_goes b made =
      from_result (Event.Tend b) (record { outcome = (kernel_tend h m.kernel b).outcome; machine = after (kernel_tend h m.kernel b) m })
      (kernel_tells (kernel_tend h m.kernel b) m refl refl sound.links (tend_tells h sound.setup.homes a m.kernel b (kernel_own h m sound) (λ x f. (sound.seated.seats x.act x f).1)))

  pub close_goes : (made : Option Made) (d : MachineResult) → machine_step h m Event.Close made ≡ Some d → Goes Event.Close d
  close_goes made =
      from_result Event.Close (record { outcome = (kernel_close h m.kernel).outcome; machine = after (kernel_close h m.kernel) m })
      (sym (kernel_keeps (kernel_close h m.kernel) m refl refl sound.links (kernel_close_keeps h sound.setup.homes a m.kernel (kernel_own h m sound))))

  pub order_goes : (o : Order) (made : Option Made) (d : MachineResult) → machine_step h m (Event.Order o) made ≡ Some d → Goes (Event.Order o) d
  order_goes o made =
      from_result (Event.Order o) (record { outcome = (kernel_order h m.kernel o).outcome; machine = after (kernel_order h m.kernel o) m })
      (sym (kernel_keeps (kernel_order h m.kernel o) m refl refl sound.links (order_keeps h sound.setup.homes a m.kernel o (kernel_own h m sound))))

  -- ---- a tile's commands and turns

  -- the machine after a tile's step that took nothing
  module _ (t : ℕ) (t_low : 1 ≤ t) (ht : t < 16) (d : LocalResult Tile) where
    pub tile_then : program_input h (with_parcels t d.out (with_part t (Tile_part d.part) m)) a ≡ resident_input (cond (t == tile_of h a) (resident_of a d.part) its) away
    tile_then = after_tile h m sound a known m refl refl t t_low ht d

    pub stays_same : ((t == tile_of h a) ≡ true → resident_of a d.part ≡ its) → program_input h (with_parcels t d.out (with_part t (Tile_part d.part) m)) a ≡ program_input h m a
    stays_same k = tile_then ∙ by_test (t == tile_of h a) refl
      where
        by_test : (b : Bool) → (t == tile_of h a) ≡ b → resident_input (cond b (resident_of a d.part) its) away ≡ resident_input its away
        by_test true e = ap (λ o. resident_input o away) (k e)
        by_test false e = refl

  -- which part is at a tile
  abbrev pub OfPart : Event → Option Made → ℕ → Part → Type 0
  OfPart e made t x = (d : MachineResult) → done_by t m (part_step h x e made None) ≡ Some d → Goes e d

  pub at_part : (e : Event) (made : Option Made) (t : ℕ) → t < 16 → OfPart e made t (Kernel_part m.kernel) → OfPart e made t (Memory_part m.memory) → (1 ≤ t → OfPart e made t (Tile_part (tile_at t m))) → OfPart e made t (part_at t m)
  at_part e made t ht k x f = by_tests (t == 0) (t == 1) refl
    where
      by_tests : (b c : Bool) → (t == 0) ≡ b → OfPart e made t (if b then Kernel_part m.kernel else (if c then Memory_part m.memory else Tile_part (tile_at t m)))
      by_tests true c i = k
      by_tests false true i = x
      by_tests false false i = f (let z : (t ≡ 0) → ⊥ = (λ j. absurd (let q : (t == 0) ≡ true = grind (arith, nat_tests, j) in cc)) in omega (arith, z))

  pub below : (b : ℕ) → tile_of h b < 16
  below b = tile_below h sound.setup b (home_of b h) refl

  same_home : (b : ℕ) (t : ℕ) → (t == tile_of h a) ≡ true → t ≡ tile_of h a
  same_home b t e = grind (arith, nat_tests, e)

  -- a command changes no stay
  issued_stays : (t : Tile) (b : ℕ) (o : Option Issued) → resident_of b (do_issued h t o).part ≡ resident_of b t
  issued_stays t b None = refl
  issued_stays t b (Some i) = refl

  do_stays : (t : Tile) (b c : ℕ) (x : Command) (o : Option Context) → resident_of b (do_at h t c x o).part ≡ resident_of b t
  do_stays t b c x None = refl
  do_stays t b c x (Some y) = by_test (y.act == c)
    where
      by_test : (z : Bool) → resident_of b (if z then do_issued h t (issue y x) else idle_result IdleWhy.NotCurrent t).part ≡ resident_of b t
      by_test true = issued_stays t b (issue y x)
      by_test false = refl

  pub do_goes : (b : ℕ) (c : Command) (made : Option Made) (d : MachineResult) → machine_step h m (Event.Do b c) made ≡ Some d → Goes (Event.Do b c) d
  do_goes b c made =
      at_part (Event.Do b c) made (tile_of h b) (below b) (λ d e. absurd (cc)) (λ d e. absurd (cc))
      (λ l. from_result (Event.Do b c) (record { outcome = (tile_do h (tile_at (tile_of h b) m) b c).outcome; machine = with_parcels (tile_of h b) (tile_do h (tile_at (tile_of h b) m) b c).out (with_part (tile_of h b) (Tile_part (tile_do h (tile_at (tile_of h b) m) b c).part) m) })
      (sym (stays_same (tile_of h b) l (below b) (tile_do h (tile_at (tile_of h b) m) b c)
      (λ e. do_stays (tile_at (tile_of h b) m) a b c (tile_at (tile_of h b) m).current ∙ ap (λ t. resident_of a (tile_at t m)) (same_home b (tile_of h b) e)))))

  -- who is current at the activity's tile
  its_current : (x : Context) → (tile_at (tile_of h a) m).current ≡ Some x → a ≡ x.act → (context_of a (ideal_of m).contexts ≡ Some x) × (heard_away h m a ≡ [])
  its_current x here k = (
    ap (λ n. context_of n (ideal_of m).contexts) k ∙ current_found m (tile_of h a) (home_in_tiles h m a sound known) x here sound,
    none_away h m sound a known (tile_of h a) high x here k,
  )

  -- what its own turn says
  pub own_turn : (made : Option Made) → InSome (TurnTells (ideal_of m) (tile_at (tile_of h a) m) a (heard_away h m a) (turn_ask h (tile_at (tile_of h a) m) a)) (tile_turn h (tile_at (tile_of h a) m) a made)
  own_turn made = turn_tells h (ideal_of m) (tile_at (tile_of h a) m) a (heard_away h m a) its_current made
