-- At the opening each program is to see that its first move is asked, and nothing was heard.
use Rattle.std.proofs.Common.{◌≡◌, ℕ, zero, suc, ◌+◌, ◌*◌, true, List, [], ◌∷◌, ◌++◌, get_or, Option, Some, None, refl, sym, subst, ◌∙◌, ap, replicate}
use Rattle.m3_base.specs.declared.program.Seen as program
use Rattle.m3_base.specs.Calls.JournalCalls.{Known}
use Rattle.m3_base.specs.Ideal.Context.{Context}
use Rattle.m3_base.specs.Ideal.Opening.{opening}
use Rattle.m3_base.specs.Ideal.State.{State, context_of, same_act}
use Rattle.m3_base.specs.Lists.EachElement.{Each}
use Rattle.m3_base.specs.Lists.Keyed as keyed
use Rattle.m3_base.specs.Setup.Rules.{IsValid, SetupValue}
use Rattle.m3_base.proofs.ListLookups.{get_replicated}
use Rattle.m3_base.proofs.Options.{some_if_some}
use Rattle.m3_merge.proofs.MergedIsRun.{each_append}
use Rattle.m3_model.specs.Abstraction.{flat_map}
use Rattle.m3_model.specs.Config.KnownActivities.{is_home}
use Rattle.m3_model.specs.Config.Site.{Home, Site, home_act, home_of, tile_in, tile_of}
use Rattle.m3_model.specs.Invariant.Housing.{resident_at}
use Rattle.m3_model.specs.Kernel.State.{ActivityEntry}
use Rattle.m3_model.specs.Kernel.Step.{entry_act, entry_of}
use Rattle.m3_model.specs.Machine.{Machine, context_or_new, entry_at_opening, link_at, new_stay, residency_at_opening, tile_at, with_entries}
use Rattle.m3_model.specs.Parcel.{Parcel}
use Rattle.m3_model.specs.SetupOpening.{opened_by_setup, opened_site}
use Rattle.m3_model.specs.Tile.Step.{resident_of}
use Rattle.m3_refine.proofs.events.take.RouteRefines.{home_key}
use Rattle.m3_refine.proofs.lists.EachElement.{InSome, each_found}
use Rattle.m3_refine.proofs.opening.OpensRefines.{first_machine}
use Rattle.m3_refine.proofs.opening.PlaceOneByOne.{SeatedSoFar}
use Rattle.m3_trace.specs.Hearing.{HearsAs, entry_heard, heard_away, heard_in, program_input, residency_heard, resident_input}
use Rattle.m3_trace.proofs.ValidSetup.{valid_seated}

-- the kernel's entries have nothing to tell
abbrev NoneHeard : Machine → Type 0
NoneHeard m = Each (λ (x : ActivityEntry). residency_heard x.seating ≡ []) m.kernel.seats

none_at_opening : (o : Option Context) (c : Context) → residency_heard (residency_at_opening o c) ≡ []
none_at_opening None c = refl
none_at_opening (Some x) c = refl

entries_none : (s : State) (xs : List Home) (m : Machine) → NoneHeard m → NoneHeard (with_entries s m xs)
entries_none s [] m k = k
entries_none s (x ∷ xs) m k =
    let t = tile_at x.tile m in
    let one = entry_at_opening x (context_or_new x.act (context_of x.act s.contexts)) t m in
    entries_none s xs one (each_append (λ (y : ActivityEntry). residency_heard y.seating ≡ []) m.kernel.seats _ k (none_at_opening t.current (context_or_new x.act (context_of x.act s.contexts)), tt))

-- each resident of the setup's activities is new
home_found : (P : Home → Type 0) (a : ℕ) (xs : List Home) (y : Home) → Each P xs → keyed.find home_act same_act a xs ≡ Some y → P y
home_found P a xs y e f = subst (InSome P) f (each_found P home_act same_act a xs e)

module _ (s : SetupValue) (valid : IsValid s) (a : ℕ) (known : is_home (opened_site s) a ≡ true) where
  abbrev h : Site
  h = opened_site s

  abbrev m : Machine
  m = opened_by_setup s

  seated : SeatedSoFar (opened_site s) (opening s.memory s.lines) (opened_site s).homes (opened_by_setup s)
  seated = valid_seated s valid

  home : (y : Home) × (home_of a (opened_site s) ≡ Some y)
  home = some_if_some (home_of a h) known

  pub new : resident_at (opened_site s) (opened_by_setup s).tiles a ≡ Some (new_stay a)
  new =
      let y = home.0 in
      let key : y.act ≡ a = home_key a h.homes y home.1 in
      ap (λ t. resident_of a (tile_at t m)) (ap tile_in home.1)
      ∙ subst (λ n. resident_of n (tile_at y.tile m) ≡ Some (new_stay n)) key (home_found (λ z. resident_of z.act (tile_at z.tile m) ≡ Some (new_stay z.act)) a h.homes y seated.stays home.1)

  no_parcel : flat_map (heard_in a) (link_at 0 (tile_of h a) m) ≡ []
  no_parcel = ap (λ l. flat_map (heard_in a) (get_or l (16 * 0 + tile_of h a) [])) seated.links ∙ ap (flat_map (heard_in a)) (get_replicated 256 (16 * 0 + tile_of h a) [])

  none_in : (o : Option ActivityEntry) → InSome (λ (x : ActivityEntry). residency_heard x.seating ≡ []) o → entry_heard o ≡ []
  none_in None k = refl
  none_in (Some x) k = k

  none : heard_away (opened_site s) (opened_by_setup s) a ≡ []
  none =
      ap (λ l. l ++ entry_heard (entry_of a m.kernel)) no_parcel
      ∙ none_in (entry_of a m.kernel) (each_found (λ (x : ActivityEntry). residency_heard x.seating ≡ []) entry_act same_act a m.kernel.seats
      (entries_none (opening s.memory s.lines) h.homes (first_machine (opening s.memory s.lines)) tt))

  first_seen : Known program.Seen.First ≡ program_input (opened_site s) (opened_by_setup s) a
  first_seen = sym (ap (resident_input (resident_at h m.tiles a)) none ∙ ap (λ o. resident_input o []) new)

pub opening_hears : (s : SetupValue) → IsValid s → HearsAs (opened_site s) (opening s.memory s.lines) [] (opened_by_setup s)
opening_hears s valid a known = first_seen s valid a known
