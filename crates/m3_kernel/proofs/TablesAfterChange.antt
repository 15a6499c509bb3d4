-- The tables after a seat has changed.
use Rattle.std.proofs.Common.{◌≡◌, ℕ, ◌<◌, Bool, true, false, cond, List, length, get_or, Option, Some, None, refl, sym, ap, ◌∙◌, subst, arith, ⊎_elim}
use Rattle.std.specs.Prelude.{slice_get, slice_set, ◌==◌, ◌&&◌, ◌||◌}
use Rattle.std.proofs.lemmas.Bool.Decides.{nat_tests}
use Rattle.std.proofs.lemmas.Bool.{cases_eq}
use Rattle.std.proofs.lemmas.List.{get_or-set_same, get_or-set_other, length-set}
use Rattle.m3_base.specs.Ideal.State.{same_act}
use Rattle.m3_model.specs.Config.Site.{Site, tile_of}
use Rattle.m3_model.specs.Kernel.State.{SavedActivity, EntryResidency, Is_placed, Is_leaving, Is_resting, Is_coming, ActivityEntry}
use Rattle.m3_model.specs.Kernel.Step.{is_placed_entry, is_leaving_entry, is_coming_entry, is_leaving_at}
use Rattle.m3_kernel.specs.LookupTables.{test, IsOnly, is_of, is_there_at, empty_berth, berth_at, AreTables}
use Rattle.m3_kernel.specs.declared.berth.Berth.{Berth}
use Rattle.m3_kernel.proofs.UniqueElement.{get_set, only_kept, only_gained, only_lost}
use Rattle.m3_base.proofs.Options.{some_if_number}

-- it is at its tile, and no other
pub same_tile : (h : Site) (t : ℕ) (x y : ActivityEntry) → y.act ≡ x.act → (tile_of h y.act == t) ≡ (tile_of h x.act == t)
same_tile h t x y e = ap (λ a. tile_of h a == t) e

pub elsewhere : (h : Site) (t u : ℕ) (x : ActivityEntry) → tile_of h x.act ≡ t → (u ≡ t → ⊥) → (tile_of h x.act == u) ≡ false
elsewhere h t u x e ne = grind (arith, nat_tests)

pub not_here : (b c d : Bool) → b ≡ false → (b && c) ≡ (b && d)
not_here b c d e = rw e refl

module _ (berths : List Berth) (t : ℕ) (within : t < length berths) (b : Berth) where
  pub berth_same : berth_at (slice_set berths t b) t ≡ b
  berth_same = get_or-set_same berths t b empty_berth within

  pub berth_other : (u : ℕ) → (u ≡ t → ⊥) → berth_at (slice_set berths t b) u ≡ berth_at berths u
  berth_other u ne = get_or-set_other berths t u b empty_berth ne

  pub leaving_same : b.leaving ≡ (berth_at berths t).leaving → (u : ℕ) → (berth_at (slice_set berths t b) u).leaving ≡ (berth_at berths u).leaving
  leaving_same e u =
      ⊎_elim
      (λ (same : u ≡ t). ap (λ v. (berth_at (slice_set berths t b) v).leaving) same ∙ ap (λ c. c.leaving) berth_same ∙ e ∙ ap (λ v. (berth_at berths v).leaving) (sym same))
      (λ (ne : u ≡ t → ⊥). ap (λ c. c.leaving) (berth_other u ne))
      (cases_eq u t)

  pub there_same : b.there ≡ (berth_at berths t).there → (u : ℕ) → (berth_at (slice_set berths t b) u).there ≡ (berth_at berths u).there
  there_same e u =
      ⊎_elim
      (λ (same : u ≡ t). ap (λ v. (berth_at (slice_set berths t b) v).there) same ∙ ap (λ c. c.there) berth_same ∙ e ∙ ap (λ v. (berth_at berths v).there) (sym same))
      (λ (ne : u ≡ t → ⊥). ap (λ c. c.there) (berth_other u ne))
      (cases_eq u t)

module _ (h : Site) (xs : List ActivityEntry) (index : List (Option ℕ)) (berths : List Berth) (kept : AreTables h xs index berths) where
  -- the seats stay, and of the berths who leaves and who is there
  pub tables_berths : (bs : List Berth) → length bs ≡ 16 → ((t : ℕ) → (berth_at bs t).leaving ≡ (berth_at berths t).leaving) → ((t : ℕ) → (berth_at bs t).there ≡ (berth_at berths t).there) → AreTables h xs index bs
  tables_berths bs count leaves there = record {
    acts = kept.acts;
    tiles = count;
    places = kept.places;
    leaving = λ t. subst (λ (o : Option ℕ). IsOnly (is_leaving_at h t) xs o) (sym (leaves t)) (kept.leaving t);
    there = λ t. subst (λ (o : Option ℕ). IsOnly (is_there_at h t) xs o) (sym (there t)) (kept.there t);
  }

  module _ (at : ℕ) (x y : ActivityEntry) (here : slice_get xs at ≡ Some x) (act : y.act ≡ x.act) where
    abbrev pub reseated : List ActivityEntry
    reseated = slice_set xs at y

    pub places_kept : (a : ℕ) → IsOnly (is_of a) reseated (get_or index a None)
    places_kept a = only_kept (is_of a) xs (get_or index a None) at x y here (kept.places a) (ap (same_act a) act)

    -- both tests are as they were
    pub tables_same : ((t : ℕ) → is_leaving_at h t y ≡ is_leaving_at h t x) → ((t : ℕ) → is_there_at h t y ≡ is_there_at h t x) → AreTables h reseated index berths
    tables_same leaves there = record {
      acts = kept.acts;
      tiles = kept.tiles;
      places = places_kept;
      leaving = λ t. only_kept (is_leaving_at h t) xs (berth_at berths t).leaving at x y here (kept.leaving t) (leaves t);
      there = λ t. only_kept (is_there_at h t) xs (berth_at berths t).there at x y here (kept.there t) (there t);
    }

    -- by where they sit
    pub tables_sits : is_leaving_entry y.seating ≡ is_leaving_entry x.seating → (is_placed_entry y.seating || is_coming_entry y.seating) ≡ (is_placed_entry x.seating || is_coming_entry x.seating) → AreTables h reseated index berths
    tables_sits leaves there = tables_same
        (λ t. ap (λ b. b && is_leaving_entry y.seating) (same_tile h t x y act) ∙ ap (λ b. (tile_of h x.act == t) && b) leaves)
        (λ t. ap (λ b. b && (is_placed_entry y.seating || is_coming_entry y.seating)) (same_tile h t x y act) ∙ ap (λ b. (tile_of h x.act == t) && b) there)

    -- who left rests
    module _ (t : ℕ) (home : tile_of h x.act ≡ t) (low : t < 16) (was : is_leaving_entry x.seating ≡ true) (now : is_leaving_entry y.seating ≡ false) (there : (is_placed_entry y.seating || is_coming_entry y.seating) ≡ (is_placed_entry x.seating || is_coming_entry x.seating)) (b : Berth) (nobody : b.leaving ≡ None) (stays : b.there ≡ (berth_at berths t).there) where
      within : t < length berths
      within = let e = kept.tiles in omega arith

      left_here : is_leaving_at h t x ≡ true
      left_here = let e : (tile_of h x.act == t) ≡ true = grind (arith, nat_tests, home) in rw (e, was) refl

      was_here : (berth_at berths t).leaving ≡ Some at
      was_here = some_if_number at (berth_at berths t).leaving (sym (kept.leaving t at) ∙ ap (test (is_leaving_at h t)) here ∙ left_here)

      not_left : (u : ℕ) → is_leaving_at h u y ≡ false
      not_left u = by_tile (tile_of h y.act == u)
        where
          by_tile : (c : Bool) → (c && is_leaving_entry y.seating) ≡ false
          by_tile true = now
          by_tile false = refl

      leaving_then : (u : ℕ) → IsOnly (is_leaving_at h u) reseated (berth_at (slice_set berths t b) u).leaving
      leaving_then u =
          ⊎_elim
          (λ (same : u ≡ t).
          subst (λ (v : ℕ). IsOnly (is_leaving_at h v) reseated (berth_at (slice_set berths t b) v).leaving) (sym same) (
          subst (λ (o : Option ℕ). IsOnly (is_leaving_at h t) reseated o) (sym (ap (λ c. c.leaving) (berth_same berths t within b) ∙ nobody)) (
          only_lost (is_leaving_at h t) xs at x y here (subst (λ (o : Option ℕ). IsOnly (is_leaving_at h t) xs o) was_here (kept.leaving t)) (not_left t)
          )
          ))
          (λ (ne : u ≡ t → ⊥).
          subst (λ (c : Berth). IsOnly (is_leaving_at h u) reseated c.leaving) (sym (berth_other berths t within b u ne)) (
          only_kept (is_leaving_at h u) xs (berth_at berths u).leaving at x y here (kept.leaving u)
          (not_left u ∙ sym (ap (λ c. c && is_leaving_entry x.seating) (elsewhere h t u x home ne)))
          ))
          (cases_eq u t)

      pub tables_rest : AreTables h reseated index (slice_set berths t b)
      tables_rest = record {
        acts = kept.acts;
        tiles = length-set berths t b ∙ kept.tiles;
        places = places_kept;
        leaving = leaving_then;
        there = λ u. subst (λ (o : Option ℕ). IsOnly (is_there_at h u) reseated o) (sym (there_same berths t within b stays u)) (
            only_kept (is_there_at h u) xs (berth_at berths u).there at x y here (kept.there u)
            (ap (λ c. c && (is_placed_entry y.seating || is_coming_entry y.seating)) (same_tile h u x y act) ∙ ap (λ c. (tile_of h x.act == u) && c) there)
            );
      }

-- a switch: who is there leaves, who rested comes
module _ (h : Site) (xs : List ActivityEntry) (index : List (Option ℕ)) (berths : List Berth) (kept : AreTables h xs index berths) (t : ℕ) (low : t < 16) (leaves comes : ℕ) (b x c z : ActivityEntry) (leaver : slice_get xs leaves ≡ Some b) (comer : slice_get xs comes ≡ Some x) (placed : b.seating ≡ Is_placed) (y : SavedActivity) (resting : x.seating ≡ Is_resting y) (here : tile_of h b.act ≡ t) (home : tile_of h x.act ≡ t) (nobody : (berth_at berths t).leaving ≡ None) (there : (berth_at berths t).there ≡ Some leaves) (act_c : c.act ≡ b.act) (sits_c : c.seating ≡ Is_leaving) (act_z : z.act ≡ x.act) (sits_z : z.seating ≡ Is_coming y) where
  swap_within : t < length berths
  swap_within = let e = kept.tiles in omega arith

  by_home : (v : ℕ) (w : ActivityEntry) (d : Bool) → d ≡ false → ((tile_of h w.act == v) && d) ≡ false
  by_home v w d e = by_tile (tile_of h w.act == v)
    where
      by_tile : (a : Bool) → (a && d) ≡ false
      by_tile true = e
      by_tile false = refl

  off : (v : ℕ) (w : ActivityEntry) (d : Bool) → tile_of h w.act ≡ t → (v ≡ t → ⊥) → ((tile_of h w.act == v) && d) ≡ false
  off v w d e ne = ap (λ a. a && d) (elsewhere h t v w e ne)

  on : (w : ActivityEntry) (d : Bool) → tile_of h w.act ≡ t → d ≡ true → ((tile_of h w.act == t) && d) ≡ true
  on w d e f = let g : (tile_of h w.act == t) ≡ true = grind (arith, nat_tests, e) in rw (g, f) refl

  here_c : tile_of h c.act ≡ t
  here_c = ap (tile_of h) act_c ∙ here

  home_z : tile_of h z.act ≡ t
  home_z = ap (tile_of h) act_z ∙ home

  leaving_b : (v : ℕ) → is_leaving_at h v b ≡ false
  leaving_b v = by_home v b (is_leaving_entry b.seating) (ap is_leaving_entry placed)

  leaving_x : (v : ℕ) → is_leaving_at h v x ≡ false
  leaving_x v = by_home v x (is_leaving_entry x.seating) (ap is_leaving_entry resting)

  leaving_z : (v : ℕ) → is_leaving_at h v z ≡ false
  leaving_z v = by_home v z (is_leaving_entry z.seating) (ap is_leaving_entry sits_z)

  abbrev is_in : EntryResidency → Bool
  is_in w = is_placed_entry w || is_coming_entry w

  there_x : (v : ℕ) → is_there_at h v x ≡ false
  there_x v = by_home v x (is_in x.seating) (ap is_in resting)

  there_c : (v : ℕ) → is_there_at h v c ≡ false
  there_c v = by_home v c (is_in c.seating) (ap is_in sits_c)

  apart : (comes == leaves) ≡ false
  apart = by_test (comes == leaves) refl
    where
      by_test : (d : Bool) → (comes == leaves) ≡ d → (comes == leaves) ≡ false
      by_test false d = d
      by_test true d =
          let n : comes ≡ leaves = grind (arith, nat_tests, d) in
          let e : Some x ≡ Some b = sym comer ∙ ap (slice_get xs) n ∙ leaver in
          let f : x ≡ b = cc in
          let g : Is_resting y ≡ Is_placed = sym resting ∙ ap (λ w. w.seating) f ∙ placed in
          absurd (cc)

  abbrev left : List ActivityEntry
  left = slice_set xs leaves c

  comer_then : slice_get left comes ≡ Some x
  comer_then = get_set xs leaves comes b c leaver ∙ ap (λ d. cond d (Some c) (slice_get xs comes)) apart ∙ comer

  abbrev pub swapped : List ActivityEntry
  swapped = slice_set left comes z

  leaving_now : IsOnly (is_leaving_at h t) swapped (Some leaves)
  leaving_now =
      only_kept (is_leaving_at h t) left (Some leaves) comes x z comer_then
      (only_gained (is_leaving_at h t) xs leaves b c leaver (subst (λ (o : Option ℕ). IsOnly (is_leaving_at h t) xs o) nobody (kept.leaving t)) (on c (is_leaving_entry c.seating) here_c (ap is_leaving_entry sits_c)))
      (leaving_z t ∙ sym (leaving_x t))

  there_now : IsOnly (is_there_at h t) swapped (Some comes)
  there_now =
      only_gained (is_there_at h t) left comes x z comer_then
      (only_lost (is_there_at h t) xs leaves b c leaver (subst (λ (o : Option ℕ). IsOnly (is_there_at h t) xs o) there (kept.there t)) (there_c t))
      (on z (is_in z.seating) home_z (ap is_in sits_z))

  leaving_other : (u : ℕ) → (u ≡ t → ⊥) → IsOnly (is_leaving_at h u) swapped (berth_at berths u).leaving
  leaving_other u ne =
      only_kept (is_leaving_at h u) left (berth_at berths u).leaving comes x z comer_then
      (only_kept (is_leaving_at h u) xs (berth_at berths u).leaving leaves b c leaver (kept.leaving u) (off u c (is_leaving_entry c.seating) here_c ne ∙ sym (leaving_b u)))
      (leaving_z u ∙ sym (leaving_x u))

  there_other : (u : ℕ) → (u ≡ t → ⊥) → IsOnly (is_there_at h u) swapped (berth_at berths u).there
  there_other u ne =
      only_kept (is_there_at h u) left (berth_at berths u).there comes x z comer_then
      (only_kept (is_there_at h u) xs (berth_at berths u).there leaves b c leaver (kept.there u) (there_c u ∙ sym (off u b (is_in b.seating) here ne)))
      (off u z (is_in z.seating) home_z ne ∙ sym (there_x u))

  pub tables_swap : (d : Berth) → d.leaving ≡ Some leaves → d.there ≡ Some comes → AreTables h swapped index (slice_set berths t d)
  tables_swap d l g = record {
    acts = kept.acts;
    tiles = length-set berths t d ∙ kept.tiles;
    places = λ a. only_kept (is_of a) left (get_or index a None) comes x z comer_then (only_kept (is_of a) xs (get_or index a None) leaves b c leaver (kept.places a) (ap (same_act a) act_c)) (ap (same_act a) act_z);
    leaving = λ u.
        ⊎_elim
        (λ (same : u ≡ t).
        subst (λ (v : ℕ). IsOnly (is_leaving_at h v) swapped (berth_at (slice_set berths t d) v).leaving) (sym same) (
        subst (λ (o : Option ℕ). IsOnly (is_leaving_at h t) swapped o) (sym (ap (λ q. q.leaving) (berth_same berths t swap_within d) ∙ l)) leaving_now
        ))
        (λ (ne : u ≡ t → ⊥). subst (λ (q : Berth). IsOnly (is_leaving_at h u) swapped q.leaving) (sym (berth_other berths t swap_within d u ne)) (leaving_other u ne))
        (cases_eq u t);
    there = λ u.
        ⊎_elim
        (λ (same : u ≡ t).
        subst (λ (v : ℕ). IsOnly (is_there_at h v) swapped (berth_at (slice_set berths t d) v).there) (sym same) (
        subst (λ (o : Option ℕ). IsOnly (is_there_at h t) swapped o) (sym (ap (λ q. q.there) (berth_same berths t swap_within d) ∙ g)) there_now
        ))
        (λ (ne : u ≡ t → ⊥). subst (λ (q : Berth). IsOnly (is_there_at h u) swapped q.there) (sym (berth_other berths t swap_within d u ne)) (there_other u ne))
        (cases_eq u t);
  }
