-- A take from an empty link changes nothing.
use Rattle.std.proofs.Common.{◌≡◌, ℕ, ◌+◌, ◌*◌, ◌<◌, Bool, true, false, cond, [], Some, None, refl, sym, subst, ◌∙◌, ap, set, map, Option}
use Rattle.std.specs.Prelude.{◌==◌}
use Rattle.std.proofs.lemmas.List.{get_or-map, set-get_or}
use Rattle.m3_base.specs.declared.event.Event.{Event}
use Rattle.m3_base.specs.declared.event.Made.{Made}
use Rattle.m3_base.specs.declared.event.Said.{Said}
use Rattle.m3_base.specs.declared.event.IdleWhy.{IdleWhy}
use Rattle.m3_base.specs.Placement.State as places_state
use Rattle.m3_base.specs.Placement.Take as places_take
use Rattle.m3_model.specs.Config.Site.{Site}
use Rattle.m3_model.specs.LocalStep.{idle_result}
use Rattle.m3_model.specs.Machine.{Machine, Part, Kernel_part, Memory_part, Tile_part, empty_tile, tile_at, link_at, with_link, with_part, part_at, part_step, machine_step, done_by, front, rest, MachineResult}
use Rattle.m3_model.specs.Abstraction.{ideal_of, link_token, placement_of}
use Rattle.m3_model.specs.Invariant.Structure.{MachineStructure}
use Rattle.m3_model.specs.Refinement.{Refines}
use Rattle.m3_refine.proofs.lists.Update.{is_link}

module _ (h : Site) (m : Machine) (t from : ℕ) (made : Option Made) (ht : t < 16) (hf : from < 16) (sound : MachineStructure h m) (g : link_at from t m ≡ []) where
  idle_step : (part : Part) → part_step h part (Event.Take t from) made None ≡ Some (idle_result IdleWhy.EmptyLink part)
  idle_step (Kernel_part k) = refl
  idle_step (Memory_part x) = refl
  idle_step (Tile_part x) = refl

  same_link : with_link from t [] m ≡ m
  same_link = (λ k. record m { links = (ap (set m.links (16 * from + t)) (sym g) ∙ set-get_or m.links (16 * from + t) []) k })

  same_part : (b d : Bool) → with_part t (cond b (Kernel_part m.kernel) (cond d (Memory_part m.memory) (Tile_part (tile_at t m)))) m ≡ m
  same_part true d = refl
  same_part false true = refl
  same_part false false = (λ k. record m { tiles = set-get_or m.tiles t (empty_tile t) k })

  abbrev unchanged : Machine → Option MachineResult
  unchanged n = Some (record { outcome = record { made = None; said = Said.Idle IdleWhy.EmptyLink; restore = None }; machine = n })

  step : machine_step h m (Event.Take t from) made ≡ unchanged m
  step =
      ap (λ l. done_by t (with_link from t (rest l) m) (part_step h (part_at t m) (Event.Take t from) made (front l))) g
      ∙ ap (done_by t (with_link from t [] m)) (idle_step (part_at t m))
      ∙ ap (λ n. unchanged (with_part t (part_at t m) n)) same_link
      ∙ ap unchanged (same_part (t == 0) (t == 1))

  pub empty_refines : Refines h m (Event.Take t from) made (machine_step h m (Event.Take t from) made)
  empty_refines =
      let link : places_state.link from t (placement_of h m) ≡ [] =
      get_or-map (λ xs. map link_token xs) m.links (16 * from + t) [] [] (is_link m.links from t [] hf ht sound.links) ∙ ap (λ l. map link_token l) g in
      subst (Refines h m (Event.Take t from) made) (sym step) (ap (λ l. places_take.take (ideal_of m) (placement_of h m) t from l) link, sound)
