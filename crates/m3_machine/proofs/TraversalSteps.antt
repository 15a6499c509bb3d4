-- A walk visits one part after the other.
use Rattle.std.proofs.Common.{◌≡◌, ℕ, ◌+◌, ◌<◌, ◌≤◌, List, [], ◌∷◌, ◌++◌, get_or, drop, map, length, sym, ap, subst, ◌∙◌}
use Rattle.std.proofs.lemmas.List.{drop_more}
use Rattle.std.proofs.Math.ListN.{drop_of_length-le}
use Rattle.std.specs.declared.collections.VecDeque.{VecDeque}
use Rattle.std.specs.declared.alloc.Global.{Global}
use Rattle.m3_core.specs.declared.parcel.Parcel.{Parcel as CodeParcel}
use Rattle.m3_engine.specs.TileView.{TileAt, tiles_of}
use Rattle.m3_kernel.specs.declared.seat.Seat.{Seat as CodeSeat}
use Rattle.m3_kernel.specs.ActivityView.{seat_value, seats_of}
use Rattle.m3_kernel.specs.ParcelView.{parcel_of, parcels_of}
use Rattle.m3_link.specs.LinksView.{lists_in}
use Rattle.m3_model.specs.Kernel.State.{ActivityEntry}
use Rattle.m3_model.specs.Parcel.{Parcel}
use Rattle.m3_model.specs.Tile.State.{Tile}
use Rattle.m3_model.specs.Abstraction.{flat_map, flat_links}

-- C and P are what is visited, S is what visits
module _ {C P S : Type 0} (Visits : List C → List P → S → S → Type 0) where
  -- when the rest is visited from now on, the whole is visited from the first on
  abbrev pub LeftOf : (cs : List C) (ps : List P) (rest : List C) (left : List P) (first now : S) → Type 0
  LeftOf cs ps rest left first now = (last : S) → Visits rest left now last → Visits cs ps first last

  pub one_more : ((cs ds : List C) (ps qs : List P) (a b c : S) → Visits cs ps a b → Visits ds qs b c → Visits (cs ++ ds) (ps ++ qs) a c)
      → (cs rest xs ys : List C) (ps left us vs : List P) (first now next : S) → rest ≡ xs ++ ys → left ≡ us ++ vs → LeftOf cs ps rest left first now → Visits xs us now next → LeftOf cs ps ys vs first next
  one_more both cs rest xs ys ps left us vs first now next e d l step last k =
      l last (subst (λ (x : List C). Visits x left now last) (sym e) (subst (λ (u : List P). Visits (xs ++ ys) u now last) (sym d) (both xs ys us vs now next last step k)))

  pub all_done : ((v : S) → Visits [] [] v v) → (cs rest : List C) (ps left : List P) (first now : S) → rest ≡ [] → left ≡ [] → LeftOf cs ps rest left first now → Visits cs ps first now
  all_done none cs rest ps left first now e d l = l now (subst (λ (x : List C). Visits x left now now) (sym e) (subst (λ (u : List P). Visits [] u now now) (sym d) (none now)))

-- ---- what parts have, one part more

module _ {X Y : Type 0} (f : X → List Y) where
  pub each_more : (xs : List X) (i : ℕ) (x : X) → i < length xs → x ≡ get_or xs i x → flat_map f (drop i xs) ≡ f x ++ flat_map f (drop (i + 1) xs)
  each_more xs i x within is = ap (flat_map f) (drop_more xs i x within ∙ ap (λ y. y ∷ drop (i + 1) xs) (sym is))

  pub each_past : (xs : List X) (i : ℕ) → length xs ≤ i → flat_map f (drop i xs) ≡ []
  each_past xs i past = ap (flat_map f) (drop_of_length-le xs past)

module _ {Y : Type 0} (f : Tile → List Y) where
  pub tiles_more : (tiles : List TileAt) (i : ℕ) (x : TileAt) → i < length tiles → x ≡ get_or tiles i x → flat_map f (tiles_of (drop i tiles)) ≡ f x.tile ++ flat_map f (tiles_of (drop (i + 1) tiles))
  tiles_more tiles i x within is = ap (λ ts. flat_map f (tiles_of ts)) (drop_more tiles i x within ∙ ap (λ y. y ∷ drop (i + 1) tiles) (sym is))

  pub tiles_past : (tiles : List TileAt) (i : ℕ) → length tiles ≤ i → flat_map f (tiles_of (drop i tiles)) ≡ []
  tiles_past tiles i past = ap (λ ts. flat_map f (tiles_of ts)) (drop_of_length-le tiles past)

module _ {Y : Type 0} (f : ActivityEntry → List Y) where
  pub seats_more : (seats : List CodeSeat) (i : ℕ) (x : CodeSeat) → i < length seats → x ≡ get_or seats i x → flat_map f (seats_of (drop i seats)) ≡ f (seat_value x) ++ flat_map f (seats_of (drop (i + 1) seats))
  seats_more seats i x within is = ap (λ (ss : List CodeSeat). flat_map f (seats_of ss)) (drop_more seats i x within ∙ ap (λ (y : CodeSeat). y ∷ drop (i + 1) seats) (sym is))

  pub seats_past : (seats : List CodeSeat) (i : ℕ) → length seats ≤ i → flat_map f (seats_of (drop i seats)) ≡ []
  seats_past seats i past = ap (λ (ss : List CodeSeat). flat_map f (seats_of ss)) (drop_of_length-le seats past)

module _ {Y : Type 0} (f : Parcel → List Y) where
  pub links_more : (links : List (VecDeque CodeParcel Global)) (i : ℕ) (x : VecDeque CodeParcel Global) → i < length links → x ≡ get_or links i x
      → flat_links f (parcels_of (lists_in (drop i links))) ≡ flat_map f (map parcel_of x.items) ++ flat_links f (parcels_of (lists_in (drop (i + 1) links)))
  links_more links i x within is = ap (λ (ls : List (VecDeque CodeParcel Global)). flat_links f (parcels_of (lists_in ls))) (drop_more links i x within ∙ ap (λ (y : VecDeque CodeParcel Global). y ∷ drop (i + 1) links) (sym is))

  pub links_past : (links : List (VecDeque CodeParcel Global)) (i : ℕ) → length links ≤ i → flat_links f (parcels_of (lists_in (drop i links))) ≡ []
  links_past links i past = ap (λ (ls : List (VecDeque CodeParcel Global)). flat_links f (parcels_of (lists_in ls))) (drop_of_length-le links past)
