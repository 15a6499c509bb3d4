-- An engine as contracts see it, and what one event of it is.
use Rattle.std.specs.Prelude.{◌≡◌, ℕ, ◌+◌, ◌*◌, ◌≤◌, true, List, [], ◌∷◌, ◌++◌, map, slice_index_or, slice_set, Some}
use Rattle.m3_base.specs.declared.event.Event.{Event}
use Rattle.m3_base.specs.declared.event.Outcome.{Outcome}
use Rattle.m3_base.specs.Setup.Rules.{SetupValue}
use Rattle.m3_model.specs.Config.KnownActivities.{is_home}
use Rattle.m3_model.specs.Config.Site.{Site, home_act}
use Rattle.m3_model.specs.Kernel.Step.{entry_act}
use Rattle.m3_model.specs.Parcel.{Parcel}
use Rattle.m3_model.specs.KernelNumber.{HasLowKernel}
use Rattle.m3_model.specs.NumberBounds.{CountersBounded}
use Rattle.m3_model.specs.StayMoves.{StaysAreShort}
use Rattle.m3_model.specs.Machine.{Machine, machine_step}
use Rattle.m3_model.specs.Invariant.Housing.{IsPresent, IsSetup, resident_at}
use Rattle.m3_kernel.specs.ParcelView.{parcels_of}
use Rattle.m3_model.specs.SetupOpening.{opened_by_setup, opened_site}
use Rattle.m3_engine.specs.declared.engine.Engine.TheInside.{Inside}
use Rattle.m3_engine.specs.PartsView.{HasParts, parts_of, linked}

pub record EngineAt : Type 0 where
  pub site : Site
  pub machine : Machine

abbrev pub engine_at : Inside → EngineAt
engine_at e = record { site = e.parts.kernel.site; machine = linked (parcels_of e.wires.lists) (parts_of e.parts) }

pub record IsEngine (e : Inside) : Type 0 where
  pub setup : IsSetup e.parts.kernel.site
  pub parts : HasParts e.parts

abbrev pub opened_engine : SetupValue → EngineAt
opened_engine s = record { site = opened_site s; machine = opened_by_setup s }

-- next numbers, next tokens and moves of stays are those that so many entries leave, the kernel has a seat for each
-- activity, and its home tile has its stay
pub record CanMake (e : EngineAt) : Type 0 where
  pub entries : ℕ
  pub few : entries ≤ 2097152
  pub low : CountersBounded entries e.machine
  pub number : HasLowKernel entries e.machine
  pub stays : StaysAreShort entries e.machine
  pub seats : map entry_act e.machine.kernel.seats ≡ map home_act e.site.homes
  pub residents : (a : ℕ) → is_home e.site a ≡ true → IsPresent (resident_at e.site e.machine.tiles a)

-- the machine moved as the local step of the event's part says, with this outcome and the move that it tells
pub record Makes (old : EngineAt) (e : Event) (o : Outcome) (new : EngineAt) : Type 0 where
  pub moved : machine_step old.site old.machine e o.made ≡ Some (record { outcome = o; machine = new.machine })
  pub site : new.site ≡ old.site

-- the links of a machine after these parcels of one tile
abbrev pub out_links : ℕ → List (ℕ × Parcel) → List (List Parcel) → List (List Parcel)
out_links from [] links = links
out_links from (x ∷ xs) links =
    let at = 16 * from + x.0 in out_links from xs (slice_set links at (slice_index_or links at [] ++ x.1 ∷ []))
