-- What the kernel's lists and the Yields say of the places: kept by every step, and no part of what
-- is said of contexts and packets.
use Rattle.std.specs.Prelude.{◌≡◌, ℕ, ◌≤◌, ◌||◌, ◌==◌, Bool, true, false, List, [], ◌∷◌, Some, slice_index_or}
use Rattle.std.specs.List.{list_any}
use Rattle.m3_base.specs.Placement.State.{Placement, PlacedActivity, LinkToken, Data, Save, Saved, Restore, Yield, Closed, actor, is_placed, is_leaving, is_resting, ready_at}
use Rattle.m3_quiet.specs.Potential.{is_there}
use Rattle.m3_quiet.specs.Facts.{Fine}

-- a Yield of this activity is among them
abbrev pub has_yield : ℕ → List LinkToken → Bool
has_yield a [] = false
has_yield a (Yield b ∷ ts) = (b == a) || has_yield a ts
has_yield a (Data id ∷ ts) = has_yield a ts
has_yield a (Save b ∷ ts) = has_yield a ts
has_yield a (Saved b w e ∷ ts) = has_yield a ts
has_yield a (Restore b ∷ ts) = has_yield a ts
has_yield a (Closed g ∷ ts) = has_yield a ts

-- the link at this place among all
abbrev pub link_at : ℕ → Placement → List LinkToken
link_at k p = slice_index_or p.links k []

abbrev pub is_listed : ℕ → List ℕ → Bool
is_listed a as' = list_any (λ b. b == a) as'

-- it is current, and sent its Yield in this stay
abbrev pub IsHere : Placement → PlacedActivity → Type 0
IsHere p x = (is_there p.current x ≡ true) × (x.yield_sent ≡ true)

pub record Scheduled (p : Placement) : Type 0 where
  pub fine : Fine p
  pub quantum : 1 ≤ p.quantum
  -- who is in a ready list rests, and has its home there
  pub ready :
      (t a : ℕ) (x : PlacedActivity)
      → is_listed a (ready_at t p) ≡ true
      → actor a p ≡ Some x
      → (x.home ≡ t) × (is_resting x.place ≡ true)
  -- a Yield on a link is of an activity that is Placed or Leaving; if it is Placed, it is current
  pub yields :
      (k a : ℕ) (x : PlacedActivity)
      → has_yield a (link_at k p) ≡ true
      → actor a p ≡ Some x
      → (is_placed x.place || is_leaving x.place) ≡ true
  pub sent :
      (k a : ℕ) (x : PlacedActivity)
      → has_yield a (link_at k p) ≡ true
      → actor a p ≡ Some x
      → is_placed x.place ≡ true
      → IsHere p x
  -- and so where it was taken
  pub taken :
      (a : ℕ) (x : PlacedActivity)
      → slice_index_or p.yielded x.home false ≡ true
      → actor a p ≡ Some x
      → is_placed x.place ≡ true
      → IsHere p x
