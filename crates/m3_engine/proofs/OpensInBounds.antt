-- The machine that a setup opens has low numbers, and the memory that its setup says.
use Rattle.std.proofs.Common.{◌≡◌, ℕ, zero, suc, List, [], ◌∷◌, get_or, map, replicate, Option, Some, None, refl, ◌∙◌, arith}
use Rattle.m3_base.specs.Lists.EachElement.{Each}
use Rattle.m3_merge.proofs.MergedIsRun.{each_append}
use Rattle.m3_base.specs.Ideal.Context.{Context}
use Rattle.m3_base.specs.Ideal.State.{State, context_of}
use Rattle.m3_base.specs.Ideal.Opening.{opening}
use Rattle.m3_base.specs.Setup.Rules.{SetupValue, IsValid}
use Rattle.m3_model.specs.Config.Site.{Home}
use Rattle.m3_model.specs.Tile.State.{Tile}
use Rattle.m3_model.specs.ContextTable.{HasContexts}
use Rattle.m3_model.specs.Machine.{Machine, empty_tile, tile_at, context_or_new, first_there, residency_at_opening, entry_at_opening, with_entries}
use Rattle.m3_model.specs.NumberBounds.{HasBoundedCounters, CountersBoundedIn, TileBounded, ResidencyBounded, EntryBounded, LinkBounded, CountersBounded}
use Rattle.m3_model.specs.SetupOpening.{opened_by_setup, opened_site}
use Rattle.m3_refine.proofs.lists.EachElement.{each_read, each_write}
use Rattle.m3_refine.proofs.opening.OpensRefines.{first_machine}
use Rattle.m3_trace.proofs.ValidSetup.{valid_seated}
use Rattle.m3_base.proofs.MemorySize.{memory-with_lines}

-- ---- the memory

pub opened_memory : (s : SetupValue) → IsValid s → (opened_by_setup s).memory ≡ replicate s.memory 0
opened_memory s valid =
    (valid_seated s valid).memory
    ∙ memory-with_lines (record { memory = replicate s.memory 0; contexts = []; flights = []; kernel_next = 1; grants = [] }) s.lines

-- ---- numbers

module _ (s : State) (low : (a : ℕ) (c : Context) → context_of a s.contexts ≡ Some c → HasBoundedCounters 0 c) where
  its_low : (a : ℕ) (o : Option Context) → context_of a s.contexts ≡ o → HasBoundedCounters 0 (context_or_new a o)
  its_low a None e = record { number = omega arith; tokens = λ ep. omega arith }
  its_low a (Some c) e = low a c e

  there_low : (o : Option Context) (c : Context) → CountersBoundedIn 0 o → HasBoundedCounters 0 c → CountersBoundedIn 0 (first_there o c)
  there_low None c l k = k
  there_low (Some x) c l k = l

  seating_low : (o : Option Context) (c : Context) → HasBoundedCounters 0 c → ResidencyBounded 0 (residency_at_opening o c)
  seating_low None c k = tt
  seating_low (Some x) c k = k

  seats_low : (m : Machine) (xs : List Home) → CountersBounded 0 m → CountersBounded 0 (with_entries s m xs)
  seats_low m [] l = l
  seats_low m (x ∷ xs) l =
      let c : Context = context_or_new x.act (context_of x.act s.contexts) in
      let t : Tile = tile_at x.tile m in
      let k : HasBoundedCounters 0 c = its_low x.act (context_of x.act s.contexts) refl in
      let here : TileBounded 0 t = each_read (TileBounded 0) m.tiles x.tile (empty_tile x.tile) l.tiles tt in
      seats_low (entry_at_opening x c t m) xs (record {
        tiles = each_write (TileBounded 0) m.tiles x.tile _ l.tiles (there_low t.current c here k);
        seats = each_append (EntryBounded 0) m.kernel.seats _ l.seats (seating_low t.current c k, tt);
        links = l.links;
      })

no_parcels_low : (n : ℕ) → Each (LinkBounded 0) (replicate n [])
no_parcels_low zero = tt
no_parcels_low (suc n) = (tt, no_parcels_low n)

nobody_low : (ns : List ℕ) → Each (TileBounded 0) (map empty_tile ns)
nobody_low [] = tt
nobody_low (n ∷ ns) = (tt, nobody_low ns)

first_low : (s : State) → CountersBounded 0 (first_machine s)
first_low s = record { tiles = nobody_low (0 ∷ 1 ∷ 2 ∷ 3 ∷ 4 ∷ 5 ∷ 6 ∷ 7 ∷ 8 ∷ 9 ∷ 10 ∷ 11 ∷ 12 ∷ 13 ∷ 14 ∷ 15 ∷ []); seats = tt; links = no_parcels_low 256 }

-- a table of low contexts is that of the opening
pub opened_low : (s : SetupValue) (table : List (Option Context)) → HasContexts table (opening s.memory s.lines).contexts → ((a : ℕ) (c : Context) → get_or table a None ≡ Some c → HasBoundedCounters 0 c) → CountersBounded 0 (opened_by_setup s)
opened_low s table has low =
    seats_low (opening s.memory s.lines) (λ a c e. low a c (has.same a ∙ e)) (first_machine (opening s.memory s.lines)) (opened_site s).homes (first_low (opening s.memory s.lines))
