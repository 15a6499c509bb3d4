-- What holds of the kernel alone, or of the memory alone, each step of the machine keeps where each step of that part does.
use Rattle.std.proofs.Common.{◌≡◌, ℕ, Bool, true, false, List, [], ◌∷◌, Option, Some, None, refl, sym, subst, ◌∙◌, ap}
use Rattle.std.specs.Prelude.{if◌then◌else◌, ◌==◌}
use Rattle.m3_base.specs.declared.order.Order.{Order}
use Rattle.m3_base.specs.declared.event.Event.{Event}
use Rattle.m3_base.specs.declared.event.Made.{Made}
use Rattle.m3_model.specs.Config.Site.{Site}
use Rattle.m3_model.specs.Parcel.{Parcel}
use Rattle.m3_model.specs.Kernel.State.{Kernel}
use Rattle.m3_model.specs.Kernel.Step.{kernel_take, kernel_tend, kernel_order, kernel_close}
use Rattle.m3_model.specs.Memory.Step.{memory_take}
use Rattle.m3_model.specs.Tile.State.{Tile}
use Rattle.m3_model.specs.Tile.Step.{tile_turn}
use Rattle.m3_model.specs.LocalStep.{LocalResult}
use Rattle.m3_model.specs.Machine.{Machine, Part, Kernel_part, Memory_part, Tile_part, MachineResult, tile_at, part_at, with_part, with_parcels, of_turn, part_step, tile_for_event, parcel_taken, without_front, done_by, machine_step}
use Rattle.m3_refine.proofs.lists.EachElement.{InSome}
use Rattle.m3_refine.proofs.bounds.SameParts.{parts_with_parcels, parts_without_front}

-- ---- a step

abbrev pub HoldsOfPart : (Kernel → Type 0) → (List ℕ → Type 0) → Part → Type 0
HoldsOfPart K M (Kernel_part k) = K k
HoldsOfPart K M (Memory_part x) = M x
HoldsOfPart K M (Tile_part t) = Unit {0}

-- of the kernel `Before` a step and `After` it
pub record KeptByParts (h : Site) (Before After : Kernel → Type 0) (Memory : List ℕ → Type 0) : Type 0 where
  pub idle : (k : Kernel) → Before k → After k
  pub take : (k : Kernel) (q : Parcel) → Before k → After (kernel_take h k q).part
  pub tend : (k : Kernel) (a : ℕ) → Before k → After (kernel_tend h k a).part
  pub close : (k : Kernel) → Before k → After (kernel_close h k).part
  pub order : (k : Kernel) (o : Order) → Before k → After (kernel_order h k o).part
  pub memory : (x : List ℕ) (q : Parcel) → Memory x → Memory (memory_take h x q).part

module _ (h : Site) (Before After : Kernel → Type 0) (Memory : List ℕ → Type 0) (keeps : KeptByParts h Before After Memory) where
  abbrev HoldsBefore : Part → Type 0
  HoldsBefore = HoldsOfPart Before Memory

  abbrev HoldsAfter : Option (LocalResult Part) → Type 0
  HoldsAfter o = InSome (λ d. HoldsOfPart After Memory d.part) o

  turn_keeps : (o : Option (LocalResult Tile)) → HoldsAfter (of_turn o)
  turn_keeps None = tt
  turn_keeps (Some d) = tt

  part_keeps : (x : Part) (e : Event) (made : Option Made) (q : Option Parcel) → HoldsBefore x → HoldsAfter (part_step h x e made q)
  part_keeps (Kernel_part k) (Event.Take to from) made None l = keeps.idle k l
  part_keeps (Memory_part x) (Event.Take to from) made None l = l
  part_keeps (Tile_part x) (Event.Take to from) made None l = tt
  part_keeps (Kernel_part k) (Event.Take to from) made (Some q) l = keeps.take k q l
  part_keeps (Memory_part x) (Event.Take to from) made (Some q) l = keeps.memory x q l
  part_keeps (Tile_part x) (Event.Take to from) made (Some q) l = tt
  part_keeps (Kernel_part k) (Event.Do a c) made q l = tt
  part_keeps (Memory_part x) (Event.Do a c) made q l = tt
  part_keeps (Tile_part x) (Event.Do a c) made q l = tt
  part_keeps (Kernel_part k) (Event.Turn a) made q l = tt
  part_keeps (Memory_part x) (Event.Turn a) made q l = tt
  part_keeps (Tile_part x) (Event.Turn a) made q l = turn_keeps (tile_turn h x a made)
  part_keeps (Kernel_part k) (Event.Tend a) made q l = keeps.tend k a l
  part_keeps (Memory_part x) (Event.Tend a) made q l = tt
  part_keeps (Tile_part x) (Event.Tend a) made q l = tt
  part_keeps (Kernel_part k) Event.Close made q l = keeps.close k l
  part_keeps (Memory_part x) Event.Close made q l = tt
  part_keeps (Tile_part x) Event.Close made q l = tt
  part_keeps (Kernel_part k) (Event.Order o) made q l = keeps.order k o l
  part_keeps (Memory_part x) (Event.Order o) made q l = tt
  part_keeps (Tile_part x) (Event.Order o) made q l = tt
  part_keeps (Kernel_part k) (Event.File f) made q l = tt
  part_keeps (Memory_part x) (Event.File f) made q l = tt
  part_keeps (Tile_part x) (Event.File f) made q l = tt

  module _ (m : Machine) (e : Event) (made : Option Made) (kernel : Before m.kernel) (memory : Memory m.memory) where
    starts : (t : ℕ) → HoldsBefore (part_at t m)
    starts t = by_tests (t == 0) (t == 1)
      where
        by_tests : (a b : Bool) → HoldsBefore (if a then Kernel_part m.kernel else (if b then Memory_part m.memory else Tile_part (tile_at t m)))
        by_tests true b = kernel
        by_tests false true = memory
        by_tests false false = tt

    with_kept : (t : ℕ) (x : Part) → HoldsOfPart After Memory x → After (with_part t x (without_front e m)).kernel × Memory (with_part t x (without_front e m)).memory
    with_kept t (Kernel_part k) l = (l, subst Memory (sym (parts_without_front e m).memory) memory)
    with_kept t (Memory_part x) l = (subst After (sym (parts_without_front e m).kernel) (keeps.idle m.kernel kernel), l)
    with_kept t (Tile_part x) l = (subst After (sym (parts_without_front e m).kernel) (keeps.idle m.kernel kernel), subst Memory (sym (parts_without_front e m).memory) memory)

    done_keeps : (t : ℕ) (o : Option (LocalResult Part)) → HoldsAfter o → (d : MachineResult) → done_by t (without_front e m) o ≡ Some d → After d.machine.kernel × Memory d.machine.memory
    done_keeps t None r d is = absurd (cc)
    done_keeps t (Some x) r d is =
        let after = with_part t x.part (without_front e m) in
        let same : with_parcels t x.out after ≡ d.machine = by_some (record { outcome = x.outcome; machine = with_parcels t x.out after }) is in
        let kept = with_kept t x.part r in (
          subst After (sym (parts_with_parcels t x.out after).kernel ∙ ap (λ z. z.kernel) same) kept.0,
          subst Memory (sym (parts_with_parcels t x.out after).memory ∙ ap (λ z. z.memory) same) kept.1,
        )
      where
        by_some : (y : MachineResult) → Some y ≡ Some d → y.machine ≡ d.machine
        by_some y w = cc

    pub step_keeps : (d : MachineResult) → machine_step h m e made ≡ Some d → After d.machine.kernel × Memory d.machine.memory
    step_keeps d is =
        let t = tile_for_event h e in
        done_keeps t (part_step h (part_at t m) e made (parcel_taken e m)) (part_keeps (part_at t m) e made (parcel_taken e m) (starts t)) d is
