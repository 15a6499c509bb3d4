-- Where the context of an activity stands, no other place has one of it.
use Rattle.std.proofs.Common.{◌≡◌, ℕ, zero, suc, ◌+◌, ◌*◌, ◌<◌, false, List, [], ◌∷◌, ◌++◌, get_or, length, Some, None, subst, ◌∙◌, ap, arith, append_assoc}
use Rattle.std.specs.Prelude.{◌==◌}
use Rattle.std.proofs.lemmas.Bool.Decides.{nat_tests}
use Rattle.m3_base.specs.Ideal.Context.{Context}
use Rattle.m3_base.specs.Ideal.State.{context_of, same_act}
use Rattle.m3_base.specs.Lists.EachElement.{Each}
use Rattle.m3_base.specs.Lists.Keyed as keyed
use Rattle.m3_merge.proofs.StampBounds.{each_front, each_back}
use Rattle.m3_model.specs.Parcel.{Parcel}
use Rattle.m3_model.specs.Kernel.State.{ActivityEntry}
use Rattle.m3_model.specs.Kernel.Step.{entry_act, entry_of}
use Rattle.m3_model.specs.Machine.{Machine, empty_tile, tile_at, link_at}
use Rattle.m3_model.specs.Abstraction.{flat_map, flat_links, option_list, tile_contexts, entry_contexts, contexts_in, all_contexts}
use Rattle.m3_base.specs.Ideal.State.{DistinctActs}
use Rattle.m3_refine.proofs.lists.Insertion.{around_set}
use Rattle.m3_refine.proofs.lists.Replacement.{around_replaced}
use Rattle.m3_refine.proofs.abstraction.MoveContext.{other_act}

-- of another activity
abbrev pub IsOther : ℕ → Context → Type 0
IsOther a c = (c.act == a) ≡ false

absent_each : (a : ℕ) (ys : List Context) → context_of a ys ≡ None → Each (IsOther a) ys
absent_each a [] e = tt
absent_each a (y ∷ ys) e = (grind (arith, nat_tests, e), absent_each a ys (grind (arith, e)))

pub before_apart : (xs : List Context) (c : Context) (ys : List Context) → DistinctActs (xs ++ c ∷ ys) → Each (IsOther c.act) xs
before_apart [] c ys a = tt
before_apart (x ∷ xs) c ys a = (other_act x.act xs c ys a.0, before_apart xs c ys a.1)

pub after_apart : (xs : List Context) (c : Context) (ys : List Context) → DistinctActs (xs ++ c ∷ ys) → Each (IsOther c.act) ys
after_apart [] c ys a = absent_each c.act ys a.0
after_apart (x ∷ xs) c ys a = after_apart xs c ys a.1

-- ---- what holds of each context holds of those on one link, and of those of one seat

module _ (P : Context → Type 0) where
  pub on_link : (ls : List (List Parcel)) (i : ℕ) → Each P (flat_links contexts_in ls) → Each P (flat_map contexts_in (get_or ls i []))
  on_link [] i e = tt
  on_link (l ∷ ls) zero e = each_front P (flat_map contexts_in l) (flat_links contexts_in ls) e
  on_link (l ∷ ls) (suc i) e = on_link ls i (each_back P (flat_map contexts_in l) (flat_links contexts_in ls) e)

  pub at_entry : (x : ActivityEntry) (xs : List ActivityEntry) → Each P (flat_map entry_contexts xs) → keyed.find entry_act same_act x.act xs ≡ Some x → Each P (entry_contexts x)
  at_entry x xs e there =
      let r = around_replaced entry_act same_act entry_contexts x x xs there in
      each_front P (entry_contexts x) r.back (each_back P r.front (entry_contexts x ++ r.back) (subst (Each P) r.here e))

  -- each parcel of a link, by its contexts
  pub by_contexts : (Q R : Parcel → Type 0) → ((q : Parcel) → Each P (contexts_in q) → Q q → R q) → (qs : List Parcel) → Each P (flat_map contexts_in qs) → Each Q qs → Each R qs
  by_contexts Q R f [] e k = tt
  by_contexts Q R f (q ∷ qs) e k =
      (f q (each_front P (contexts_in q) (flat_map contexts_in qs) e) k.0, by_contexts Q R f qs (each_back P (contexts_in q) (flat_map contexts_in qs) e) k.1)

-- ---- who is current at a tile

module _ (m : Machine) (t : ℕ) (ht : t < length m.tiles) (c : Context) (here : (tile_at t m).current ≡ Some c) (acts : DistinctActs (all_contexts m)) where
  elsewhere : Each (IsOther c.act) (flat_map entry_contexts m.kernel.seats ++ flat_links contexts_in m.links)
  elsewhere =
      let r = around_set tile_contexts (empty_tile t) m.tiles t ht in
      let others = flat_map entry_contexts m.kernel.seats ++ flat_links contexts_in m.links in
      let whole : all_contexts m ≡ r.front ++ (c ∷ (r.back ++ others)) =
      ap (λ l. l ++ others) (r.here ∙ ap (λ o. r.front ++ (option_list o ++ r.back)) here) ∙ append_assoc r.front (c ∷ r.back) others in
      each_back (IsOther c.act) r.back others (after_apart r.front c (r.back ++ others) (subst DistinctActs whole acts))

  -- neither a link nor the kernel has a context of its activity
  pub none_on_link : (a b : ℕ) → Each (IsOther c.act) (flat_map contexts_in (link_at a b m))
  none_on_link a b =
      on_link (IsOther c.act) m.links (16 * a + b) (each_back (IsOther c.act) (flat_map entry_contexts m.kernel.seats) (flat_links contexts_in m.links) elsewhere)

  pub none_at_entry : (x : ActivityEntry) → entry_of x.act m.kernel ≡ Some x → Each (IsOther c.act) (entry_contexts x)
  none_at_entry x there =
      at_entry (IsOther c.act) x m.kernel.seats (each_front (IsOther c.act) (flat_map entry_contexts m.kernel.seats) (flat_links contexts_in m.links) elsewhere) there
