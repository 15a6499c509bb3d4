-- Each event keeps the walk of a link, and what the walk says of its front.
use Rattle.std.proofs.Common.{◌≡◌, ◌≢◌, ℕ, Bool, true, false, cond, List, [], ◌∷◌, ◌++◌, Some, None, refl, sym, ap, ◌∙◌, arith}
use Rattle.std.specs.Prelude.{Option, ◌==◌}
use Rattle.std.proofs.lemmas.Bool.Decides.{nat_tests}
use Rattle.m3_base.specs.declared.packet.Packet.{Packet}
use Rattle.m3_base.specs.Ideal.Context.{Context}
use Rattle.m3_base.specs.Placement.Routing.{target}
use Rattle.m3_base.specs.Placement.Take.{is_here}
use Rattle.m3_model.specs.Parcel.{Parcel, Data, Save, Restore, Heard}
use Rattle.m3_model.specs.Invariant.LinkWalk.{Walk, Off, At, passes, walk, CurrentAlongLink}

pub walk-push : (w : Walk) (qs : List Parcel) (q : Parcel) → walk w (qs ++ q ∷ []) ≡ passes (walk w qs) q
walk-push w [] q = refl
walk-push w (x ∷ qs) q = walk-push (passes w x) qs q

pub walk-off : (qs : List Parcel) → walk Off qs ≡ Off
walk-off [] = refl
walk-off (q ∷ qs) = walk-off qs

-- the kernel sends data to the Placed activity
pub walks-data : (c : Option ℕ) (qs : List Parcel) (a : ℕ) (p : Packet) → CurrentAlongLink c qs (Some a) → target p ≡ Some a → CurrentAlongLink c (qs ++ Data p ∷ []) (Some a)
walks-data c qs a p w t = walk-push (At c) qs (Data p) ∙ ap (λ x. passes x (Data p)) w ∙ grind (arith, nat_tests, t)

-- it sends Save for it, and then none is Placed
pub walks-save : (c : Option ℕ) (qs : List Parcel) (a : ℕ) → CurrentAlongLink c qs (Some a) → CurrentAlongLink c (qs ++ Save a ∷ []) None
walks-save c qs a w = walk-push (At c) qs (Save a) ∙ ap (λ x. passes x (Save a)) w ∙ grind (arith, nat_tests)

pub walks-restore : (c : Option ℕ) (qs : List Parcel) (x : Context) (xs : List Heard) → CurrentAlongLink c qs None → CurrentAlongLink c (qs ++ Restore x.act x xs ∷ []) (Some x.act)
walks-restore c qs x xs w = walk-push (At c) qs (Restore x.act x xs) ∙ ap (λ y. passes y (Restore x.act x xs)) w

clash : (p : Option ℕ) → Off ≡ At p → ⊥
clash p e = cc

pub stays_on : (w : Walk) (qs : List Parcel) (p : Option ℕ) → walk w qs ≡ At p → w ≢ Off
stays_on w qs p e q = clash p (sym (walk-off qs) ∙ ap (λ x. walk x qs) (sym q) ∙ e)

-- the tile takes the front: data is for its current activity and never bounced, Save is of it, Restore finds none
pub front_data : (c : Option ℕ) (d : Packet) (qs : List Parcel) (p : Option ℕ) → CurrentAlongLink c (Data d ∷ qs) p → (is_here (target d) c ≡ true) × CurrentAlongLink c qs p
front_data c d qs p w = by_test (is_here (target d) c) w
  where
    by_test : (b : Bool) → walk (cond b (At c) Off) qs ≡ At p → (b ≡ true) × CurrentAlongLink c qs p
    by_test true w = (refl, w)
    by_test false w = absurd (stays_on Off qs p w refl)

pub front_save : (c : Option ℕ) (a : ℕ) (qs : List Parcel) (p : Option ℕ) → CurrentAlongLink c (Save a ∷ qs) p → (c ≡ Some a) × CurrentAlongLink None qs p
front_save None a qs p w = absurd (stays_on Off qs p w refl)
front_save (Some b) a qs p w = by_test (b == a) refl w
  where
    by_test : (d : Bool) → (b == a) ≡ d → walk (cond d (At None) Off) qs ≡ At p → (Some b ≡ Some a) × CurrentAlongLink None qs p
    by_test true e w = let q : b ≡ a = grind (arith, nat_tests, e) in (ap (λ x. Some x) q, w)
    by_test false e w = absurd (stays_on Off qs p w refl)

pub front_restore : (c : Option ℕ) (x : Context) (xs : List Heard) (qs : List Parcel) (p : Option ℕ) → CurrentAlongLink c (Restore x.act x xs ∷ qs) p → (c ≡ None) × CurrentAlongLink (Some x.act) qs p
front_restore None x xs qs p w = (refl, w)
front_restore (Some b) x xs qs p w = absurd (stays_on Off qs p w refl)
