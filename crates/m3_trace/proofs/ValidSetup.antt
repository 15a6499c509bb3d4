-- A valid setup has its activities at tiles from 2 on, so its site is sound.
use Rattle.std.proofs.Common.{◌≡◌, ℕ, ◌<◌, ◌≤◌, Bool, true, false, List, [], ◌∷◌, arith}
use Rattle.std.specs.Prelude.{not, ◌||◌, ◌&&◌, nat_le, nat_lt}
use Rattle.std.proofs.lemmas.Bool.Decides.{nat_tests}
use Rattle.m3_base.specs.declared.setup_line.SetupLine.{SetupLine}
use Rattle.m3_base.specs.Setup.Rules.{Facts, SetupValue, IsValid, AllKept, no_lines, facts_with_line, is_machine, programmed_acts}
use Rattle.m3_base.proofs.SetupObligations.{valid_obeys}
use Rattle.m3_model.specs.Invariant.Structure.{MachineStructure}
use Rattle.m3_model.specs.SetupOpening.{opened_by_setup, opened_site}
use Rattle.m3_refine.proofs.opening.OpensSound.{TilesOk}
use Rattle.m3_base.specs.Placement.Opening.{placement_at_opening}
use Rattle.m3_model.specs.Abstraction.{ideal_of, placement_of}
use Rattle.m3_refine.proofs.opening.OpensRefines.{opens_at, opens_places, opens_sound, opens_seated, along}
use Rattle.m3_base.specs.Ideal.Opening.{opening}
use Rattle.m3_refine.proofs.opening.HomesAndContexts.{Along}
use Rattle.m3_refine.proofs.opening.PlaceOneByOne.{SeatedSoFar}

above : (a b : Bool) (t n : ℕ) → n ≤ 16 → (a || not (nat_le 2 t && nat_lt t n)) ≡ false → (2 ≤ t) × (t < 16)
above true b t n few e = absurd (cc)
above false b t n few e = (grind (arith, nat_tests, e), grind (arith, nat_tests, e, few))

kept_tiles : (ls : List SetupLine) (f : Facts) → f.tiles ≤ 16 → AllKept ls f → TilesOk ls
kept_tiles [] f few k = tt
kept_tiles (SetupLine.Act a t ∷ ls) f few k = (above _ true t f.tiles few k.0, kept_tiles ls (facts_with_line (SetupLine.Act a t) f) few k.1.1)
kept_tiles (SetupLine.Quantum q ∷ ls) f few k = kept_tiles ls (facts_with_line (SetupLine.Quantum q) f) few k.1.1
kept_tiles (SetupLine.Grant line ∷ ls) f few k = kept_tiles ls (facts_with_line (SetupLine.Grant line) f) few k.1.1
kept_tiles (SetupLine.Files g ∷ ls) f few k = kept_tiles ls (facts_with_line (SetupLine.Files g) f) few k.1.1
kept_tiles (SetupLine.Item a c ∷ ls) f few k = kept_tiles ls (facts_with_line (SetupLine.Item a c) f) few k.1.1
kept_tiles (SetupLine.AwaitItem a e ∷ ls) f few k = kept_tiles ls (facts_with_line (SetupLine.AwaitItem a e) f) few k.1.1
kept_tiles (SetupLine.Writer a m d e c r b ∷ ls) f few k = kept_tiles ls (facts_with_line (SetupLine.Writer a m d e c r b) f) few k.1.1
kept_tiles (SetupLine.Reader a m d c r fu ∷ ls) f few k = kept_tiles ls (facts_with_line (SetupLine.Reader a m d c r fu) f) few k.1.1
kept_tiles (SetupLine.Boxed a x fu ∷ ls) f few k = kept_tiles ls (facts_with_line (SetupLine.Boxed a x fu) f) few k.1.1

few_tiles : (s : SetupValue) → IsValid s → s.tiles ≤ 16
few_tiles s v = let e : is_machine s.tiles s.memory ≡ true = v.machine in grind (arith, nat_tests, e)

pub valid_sound : (s : SetupValue) → IsValid s → MachineStructure (opened_site s) (opened_by_setup s)
valid_sound s v = opens_sound s.memory (programmed_acts s.lines) s.lines (valid_obeys s v) (kept_tiles s.lines (no_lines s.tiles s.memory) (few_tiles s v) v.lines)

pub valid_along : (s : SetupValue) → IsValid s → Along (opened_site s) (opening s.memory s.lines) (opened_site s).homes
valid_along s v = along s.memory (programmed_acts s.lines) s.lines (valid_obeys s v) (kept_tiles s.lines (no_lines s.tiles s.memory) (few_tiles s v) v.lines)

pub valid_seated : (s : SetupValue) → IsValid s → SeatedSoFar (opened_site s) (opening s.memory s.lines) (opened_site s).homes (opened_by_setup s)
valid_seated s v = opens_seated s.memory (programmed_acts s.lines) s.lines (valid_obeys s v) (kept_tiles s.lines (no_lines s.tiles s.memory) (few_tiles s v) v.lines)

-- it stands for the opening, with the places of the opening
pub opens_as : (s : SetupValue) → IsValid s → (ideal_of (opened_by_setup s) ≡ opening s.memory s.lines) × (placement_of (opened_site s) (opened_by_setup s) ≡ placement_at_opening s.lines)
opens_as s v =
    let tiles = kept_tiles s.lines (no_lines s.tiles s.memory) (few_tiles s v) v.lines in
    (opens_at s.memory (programmed_acts s.lines) s.lines (valid_obeys s v) tiles, opens_places s.memory (programmed_acts s.lines) s.lines (valid_obeys s v) tiles)
