-- The tiles, the kernel and the links that the code opens with are those of the machine that its setup opens.
use Rattle.std.proofs.Common.{◌≡◌, ℕ, zero, suc, ◌<◌, false, List, [], ◌∷◌, ◌++◌, length, get_or, set, replicate, Option, Some, None, refl, sym, ap, ◌∙◌}
use Rattle.std.specs.Prelude.{◌&&◌, is_some}
use Rattle.std.proofs.lemmas.List.{get_or_default, length-set}
use Rattle.m3_base.specs.Lists.Keyed as keyed
use Rattle.m3_base.specs.Lists.EachElement.{Each}
use Rattle.m3_base.specs.Ideal.Context.{Context}
use Rattle.m3_base.specs.Ideal.State.{State, same_act, context_of}
use Rattle.m3_base.specs.Ideal.Opening.{opening}
use Rattle.m3_base.specs.Setup.Rules.{SetupValue, IsValid}
use Rattle.m3_core.specs.declared.parcel.Parcel.{Parcel as CodeParcel}
use Rattle.m3_model.specs.Config.Site.{Home}
use Rattle.m3_model.specs.Tile.State.{Tile}
use Rattle.m3_model.specs.Invariant.Distinct.{DistinctHomes}
use Rattle.m3_model.specs.Kernel.State.{ActivityEntry, Kernel}
use Rattle.m3_model.specs.Kernel.Step.{entry_act, entry_of}
use Rattle.m3_model.specs.Machine.{Machine, empty_tile, empty_tiles, tile_at, context_or_new, new_stay, first_there, residency_at_opening, joined_ready, entry_at_opening, with_entries}
use Rattle.m3_kernel.specs.KernelStateView.{KernelAt}
use Rattle.m3_kernel.specs.KernelOpening.{left_for, opened_kernel}
use Rattle.m3_kernel.specs.ParcelView.{parcels_of}
use Rattle.m3_kernel.proofs.OpeningHomes.{Stands, Waits, context_at_opening, each_found_home, each_waits, stands_still, valid_apart}
use Rattle.m3_kernel.proofs.OpenAll.{as_machine, Fresh, entry_kept, entry_last, fresh_more, each_true}
use Rattle.m3_model.specs.SetupOpening.{opened_by_setup, opened_site}
use Rattle.m3_trace.proofs.ValidSetup.{valid_seated}
use Rattle.m3_engine.specs.TileView.{seated_with, first_some}
use Rattle.m3_engine.specs.OpenedParts.{HasTileContexts}
use Rattle.m3_engine.proofs.OpensInBounds.{opened_memory}

-- ---- empty tiles

abbrev pub tiles_to : ℕ → List Tile
tiles_to zero = []
tiles_to (suc n) = tiles_to n ++ empty_tile n ∷ []

-- ---- a seat of the opening stays

entries_keep : (st : State) (m : Machine) (xs : List Home) (a : ℕ) (y : ActivityEntry) → keyed.find entry_act same_act a m.kernel.seats ≡ Some y → keyed.find entry_act same_act a (with_entries st m xs).kernel.seats ≡ Some y
entries_keep st m [] a y e = e
entries_keep st m (x ∷ xs) a y e =
    entries_keep st (entry_at_opening x (context_or_new x.act (context_of x.act st.contexts)) (tile_at x.tile m) m) xs a y (entry_kept a m.kernel.seats _ y e)

-- ---- how far the code has come

-- what the kernel left of the context of this home
abbrev LeftOf : SetupValue → Home → Option Context
LeftOf s x = left_for (entry_of x.act (opened_kernel s)) (Some (context_at_opening s x))

-- the homes but these are in their tiles; `kernel` is the one that the opening has then
pub record Progress (s : SetupValue) (ts : List Tile) (table : List (Option Context)) (xs : List Home) : Type 0 where
  pub many : length ts ≡ 16
  pub room : length table ≡ 64
  pub waits : Each (Stands (LeftOf s) table) xs
  pub apart : DistinctHomes xs
  pub kernel : Kernel
  pub fresh : Each (Fresh kernel) xs
  pub opens : with_entries (opening s.memory s.lines) (as_machine (opening s.memory s.lines) kernel ts) xs ≡ opened_by_setup s

module _ (s : SetupValue) (ts : List Tile) (table : List (Option Context)) (x : Home) (xs : List Home) (so : Progress s ts table (x ∷ xs)) where
  abbrev st : State
  st = opening s.memory s.lines

  abbrev its : Context
  its = context_at_opening s x

  abbrev there : Tile
  there = get_or ts x.tile (empty_tile x.tile)

  -- its seat at opening
  abbrev z : ActivityEntry
  z = record { act = x.act; seating = residency_at_opening there.current its; hold = [] }

  abbrev next : Kernel
  next = record so.kernel { seats = so.kernel.seats ++ z ∷ []; ready = joined_ready (is_some there.current && x.has_program) x.tile x.act so.kernel.ready }

  entry_is : entry_of x.act (opened_kernel s) ≡ Some z
  entry_is =
      ap (λ (m : Machine). entry_of x.act m.kernel) (sym so.opens)
      ∙ entries_keep st (entry_at_opening x its there (as_machine st so.kernel ts)) xs x.act z (entry_last so.kernel.seats z so.fresh.0)

  first_is : (o : Option Context) → there.current ≡ o → (c : Option Context) → c ≡ get_or table x.act None → first_some o c ≡ first_there o its
  first_is (Some y) e c f = refl
  first_is None e c f =
      f
      ∙ so.waits.0
      ∙ ap (λ o. left_for o (Some its)) (entry_is ∙ ap (λ o. Some (record { act = x.act; seating = residency_at_opening o its; hold = [] })) e)

  pub progress_more : (c : Option Context) → c ≡ get_or table x.act None → (new : Tile) → new ≡ seated_with x.act c there → Progress s (set ts x.tile new) (set table x.act None) xs
  progress_more c f new enew =
      let tile_is : new ≡ record there { current = first_there there.current its; stays = there.stays ++ new_stay x.act ∷ [] } =
      enew ∙ ap (λ o. record there { current = o; stays = there.stays ++ new_stay x.act ∷ [] }) (first_is there.current refl c f) in
      record {
        many = length-set ts x.tile new ∙ so.many;
        room = length-set table x.act None ∙ so.room;
        waits = stands_still (LeftOf s) table x.act xs so.apart.0 so.waits.1;
        apart = so.apart.1;
        kernel = next;
        fresh = fresh_more so.kernel z xs so.apart.0 so.fresh.1;
        opens = ap (λ (t : Tile). with_entries st (as_machine st next (set ts x.tile t)) xs) tile_is ∙ so.opens;
      }

pub progress_end : (s : SetupValue) (ts : List Tile) (table : List (Option Context)) → Progress s ts table [] → ts ≡ (opened_by_setup s).tiles
progress_end s ts table so = ap (λ (m : Machine). m.tiles) so.opens

-- ---- the next home, as the code reads it

pub tile_there : (ts : List Tile) (t n : ℕ) (was : Tile) → was ≡ get_or ts t was → t ≡ n → t < length ts → was ≡ get_or ts n (empty_tile n)
tile_there ts t n was is same within = is ∙ get_or_default ts t was (empty_tile n) within ∙ ap (λ j. get_or ts j (empty_tile n)) same

pub context_there : (table : List (Option Context)) (a n : ℕ) (c was : Option Context) → c ≡ was → was ≡ get_or table a was → a ≡ n → a < length table → c ≡ get_or table n None
context_there table a n c was e is same within = e ∙ is ∙ get_or_default table a was None within ∙ ap (λ j. get_or table j None) same

-- ---- at first

pub progress_begin : (s : SetupValue) (k : KernelAt) (ts : List Tile) (table : List (Option Context)) → HasTileContexts s k table → ts ≡ empty_tiles → length ts ≡ 16 → Progress s ts table (opened_site s).homes
progress_begin s k ts table o empty many =
    let st = opening s.memory s.lines in
    let first : Kernel = record { seats = []; next = st.kernel_next; grants = st.grants; ready = replicate 16 []; yielded = replicate 16 false } in
    let apart : DistinctHomes (opened_site s).homes = valid_apart s o.opening.valid in
    record {
      many = many;
      room = o.kernel.left.count;
      waits = each_left (opened_site s).homes (each_waits s o.opening.valid o.contexts o.opening.contexts.same (opened_site s).homes (each_found_home (opened_site s).homes apart));
      apart = apart;
      kernel = first;
      fresh = each_true (Fresh first) (λ x. refl) (opened_site s).homes;
      opens = ap (λ (us : List Tile). with_entries st (as_machine st first us) (opened_site s).homes) empty;
    }
  where
    each_left : (xs : List Home) → Each (Waits s o.contexts) xs → Each (Stands (LeftOf s) table) xs
    each_left [] w = tt
    each_left (x ∷ xs) w =
        (o.kernel.left.same x.act ∙ ap (λ (q : Kernel). left_for (entry_of x.act q) (get_or o.contexts x.act None)) o.kernel.kernel ∙ ap (left_for (entry_of x.act (opened_kernel s))) w.0, each_left xs w.1)

-- ---- the whole machine

no_parcel : (n : ℕ) → parcels_of (replicate n []) ≡ replicate n []
no_parcel zero = refl
no_parcel (suc n) = ap (λ l. [] ∷ l) (no_parcel n)

-- with the kernel, the tiles and the links that the code opens with, the machine is the one that the setup opens
pub machine_opened : (s : SetupValue) → IsValid s → (kernel : Kernel) → kernel ≡ (opened_by_setup s).kernel → (tiles : List Tile) → tiles ≡ (opened_by_setup s).tiles → (memory : List ℕ) → memory ≡ replicate s.memory 0
    → (links : List (List CodeParcel)) → links ≡ replicate 256 [] → record { kernel = kernel; memory = memory; tiles = tiles; links = parcels_of links } ≡ opened_by_setup s
machine_opened s valid kernel k tiles t memory zeroes links none =
    let l : parcels_of links ≡ (opened_by_setup s).links = ap parcels_of none ∙ no_parcel 256 ∙ sym ((valid_seated s valid).links) in
    let z : memory ≡ (opened_by_setup s).memory = zeroes ∙ sym (opened_memory s valid) in
    λ i. record { kernel = k i; memory = z i; tiles = t i; links = l i }
