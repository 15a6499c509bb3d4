-- The part at the home of an activity is a tile, and the places know who is current there.
use Rattle.std.proofs.Common.{◌≡◌, ℕ, ◌<◌, ◌≤◌, true, false, cond, length, Option, None, sym, subst, ◌∙◌, ap, arith}
use Rattle.std.specs.Prelude.{◌==◌}
use Rattle.std.proofs.lemmas.Bool.Decides.{nat_tests}
use Rattle.std.proofs.lemmas.List.{get_or-map}
use Rattle.m3_base.specs.Ideal.Context.{Context}
use Rattle.m3_base.specs.Ideal.State.{is_number}
use Rattle.m3_base.specs.Placement.State as places_state
use Rattle.m3_base.specs.Placement.State.{is_current}
use Rattle.m3_model.specs.Config.KnownActivities.{is_home}
use Rattle.m3_model.specs.Config.Site.{Site, tile_of}
use Rattle.m3_model.specs.Tile.Step.{act_in}
use Rattle.m3_model.specs.Machine.{Machine, Kernel_part, Memory_part, Tile_part, empty_tile, part_at, tile_at}
use Rattle.m3_model.specs.Abstraction.{current_act, placement_of}
use Rattle.m3_model.specs.Invariant.Structure.{MachineStructure}
use Rattle.m3_refine.proofs.arrival.AnswerAndClosed.{home_tile, home_is}

module _ (h : Site) (m : Machine) (a : ℕ) (sound : MachineStructure h m) (known : is_home h a ≡ true) where
  pub home_range : (2 ≤ tile_of h a) × (tile_of h a < 16)
  home_range = home_tile h a sound.setup known

  pub home_in_tiles : tile_of h a < length m.tiles
  home_in_tiles = subst (λ n. tile_of h a < n) (sym sound.tiles) home_range.1

  pub home_part : part_at (tile_of h a) m ≡ Tile_part (tile_at (tile_of h a) m)
  home_part =
      let l = home_range.0 in
      let no_kernel : (tile_of h a == 0) ≡ false = grind (arith, nat_tests, l) in
      let no_memory : (tile_of h a == 1) ≡ false = grind (arith, nat_tests, l) in
      ap (λ b. cond b (Kernel_part m.kernel) (cond (tile_of h a == 1) (Memory_part m.memory) (Tile_part (tile_at (tile_of h a) m)))) no_kernel
      ∙ ap (λ b. cond b (Memory_part m.memory) (Tile_part (tile_at (tile_of h a) m))) no_memory

  pub home_current : (o : Option Context) → (tile_at (tile_of h a) m).current ≡ o → is_current a (placement_of h m) ≡ is_number a (act_in o)
  home_current o e =
      ap (λ n. is_number a (places_state.current_of n (placement_of h m))) (home_is h m a)
      ∙ ap (is_number a) (get_or-map current_act m.tiles (tile_of h a) (empty_tile (tile_of h a)) None home_in_tiles ∙ ap act_in e)
