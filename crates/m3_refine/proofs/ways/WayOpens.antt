-- At the opening nothing is on any way, and the kernel's next number is 1.
use Rattle.std.proofs.Common.{◌≡◌, ℕ, zero, suc, ◌+◌, ◌*◌, ◌≤◌, List, [], ◌∷◌, ◌++◌, length, replicate, get_or, Option, Some, None, refl, sym, subst, ◌∙◌, ap, arith}
use Rattle.m3_base.specs.declared.setup_line.SetupLine.{SetupLine}
use Rattle.m3_base.specs.declared.order.GrantLine.{GrantLine}
use Rattle.m3_base.specs.declared.packet.Fresh.{Fresh}
use Rattle.m3_base.specs.Ideal.State.{State, context_of, parent_in, parent_of}
use Rattle.m3_base.specs.Ideal.GrantRules.{form}
use Rattle.m3_base.specs.Ideal.Opening.{state_with_grant, with_line, with_lines, opening}
use Rattle.m3_base.specs.Lists.EachElement.{Each}
use Rattle.m3_merge.proofs.MergedIsRun.{each_append, each_map}
use Rattle.m3_base.proofs.KernelNumber.{kernel_next-with_lines}
use Rattle.m3_model.specs.Config.Site.{Home, Site, tile_of}
use Rattle.m3_model.specs.Parcel.{Parcel}
use Rattle.m3_model.specs.Kernel.State.{ActivityEntry}
use Rattle.m3_model.specs.Config.FromSetup.{site_of}
use Rattle.m3_model.specs.Machine.{Machine, tile_at, link_at, context_or_new, entry_at_opening, with_entries, with_all_entries, opened_machine, residency_at_opening}
use Rattle.m3_model.specs.Abstraction.{flat_map}
use Rattle.m3_model.specs.KernelNumber.{HasLowKernel}
use Rattle.m3_model.specs.Ways.{InstallsFirst, ClosesOneOf, OwnFrom, packets_for, HasWay, IsOnWay}

links_stay : (s : State) (m : Machine) (xs : List Home) → (with_entries s m xs).links ≡ m.links
links_stay s m [] = refl
links_stay s m (x ∷ xs) = links_stay s (entry_at_opening x (context_or_new x.act (context_of x.act s.contexts)) (tile_at x.tile m) m) xs

next_stays : (s : State) (m : Machine) (xs : List Home) → (with_entries s m xs).kernel.next ≡ m.kernel.next
next_stays s m [] = refl
next_stays s m (x ∷ xs) = next_stays s (entry_at_opening x (context_or_new x.act (context_of x.act s.contexts)) (tile_at x.tile m) m) xs

none_held : (s : State) (m : Machine) (xs : List Home) → Each (λ z. z.hold ≡ []) m.kernel.seats → Each (λ z. z.hold ≡ []) (with_entries s m xs).kernel.seats
none_held s m [] e = e
none_held s m (x ∷ xs) e =
    let c = context_or_new x.act (context_of x.act s.contexts) in
    none_held s (entry_at_opening x c (tile_at x.tile m) m) xs (
    each_append (λ (z : ActivityEntry). z.hold ≡ []) m.kernel.seats (record { act = x.act; seating = residency_at_opening (tile_at x.tile m).current c; hold = [] } ∷ []) e (refl, tt)
    )

abbrev no_parcels : List Parcel
no_parcels = []

get_none : (n i : ℕ) → get_or (replicate n no_parcels) i no_parcels ≡ no_parcels
get_none zero i = refl
get_none (suc n) zero = refl
get_none (suc n) (suc i) = get_none n i

-- nothing is on its way yet
pub opens_way : (h : Site) (s : State) → IsOnWay h (with_all_entries h s)
opens_way h s = record {
  own = λ from to hf ht. subst (Each (OwnFrom h (length (with_all_entries h s).kernel.grants) from to)) (sym (empty (16 * from + to))) tt;
  seats =
      each_map (λ z. z.hold ≡ []) (HasWay h (length (with_all_entries h s).kernel.grants) (λ t. link_at 0 t (with_all_entries h s))) no_way (with_all_entries h s).kernel.seats
      (none_held s _ h.homes tt);
}
  where
    empty : (i : ℕ) → get_or (with_all_entries h s).links i [] ≡ []
    empty i = ap (λ l. get_or l i []) (links_stay s _ h.homes) ∙ get_none 256 i

    no_way : (z : ActivityEntry) → z.hold ≡ [] → HasWay h (length (with_all_entries h s).kernel.grants) (λ t. link_at 0 t (with_all_entries h s)) z
    no_way z e = (
      subst (λ l. InstallsFirst (flat_map (packets_for z.act) l ++ z.hold)) (sym (empty (16 * 0 + tile_of h z.act))) (subst InstallsFirst (sym e) tt),
      subst (Each (ClosesOneOf (length (with_all_entries h s).kernel.grants))) (sym e) tt,
    )

-- ---- the kernel's next number

-- it is 1, where the journal has no entry
pub opens_low_kernel : (memory : ℕ) (programs : List ℕ) (lines : List SetupLine) → HasLowKernel 0 (opened_machine memory programs lines)
opens_low_kernel memory programs lines =
    let e = next_stays (opening memory lines) _ (site_of memory programs lines).homes ∙ kernel_next-with_lines _ lines in
    subst (λ n. n ≤ 0 + 1) (sym e) (omega arith)
