-- The switch of the least tile that wants one, as the code looks for it.
use Rattle.std.proofs.Common.{◌≡◌, ℕ, zero, suc, ◌+◌, ◌-◌, ◌<◌, ◌≤◌, Bool, true, false, List, [], ◌∷◌, length, Option, Some, None, refl, sym, ap, ◌∙◌, arith}
use Rattle.std.specs.Prelude.{◌==◌, ◌&&◌, not, slice_get, slice_index_or, option_map, is_some, if◌then◌else◌}
use Rattle.std.specs.List.{list_any}
use Rattle.std.proofs.lemmas.Bool.Decides.{nat_tests}
use Rattle.m3_base.specs.declared.event.Event.{Event}
use Rattle.m3_base.specs.declared.order.Order.{Order}
use Rattle.m3_base.specs.Placement.Driver.{tiles, first_for, first_some, switch_to}
use Rattle.m3_model.specs.Config.Site.{Site}
use Rattle.m3_model.specs.Kernel.State.{EntryResidency, Is_placed, Is_leaving, Is_resting, Is_coming, Kernel}
use Rattle.m3_model.specs.Kernel.Step.{is_moving_at, is_coming_entry, ready_at}
use Rattle.m3_model.specs.Kernel.Driver.{wanted_at}
use Rattle.m3_kernel.specs.ActivityView.{place_of}
use Rattle.m3_kernel.specs.declared.seat.Place.{Place}

-- ---- at one tile

abbrev wanted_by : Bool → Bool → ℕ → List ℕ → Option Event
wanted_by moving yielded t ready = if not moving && yielded then switch_to t ready else None

none_ready : (m y : Bool) (t : ℕ) (xs : List ℕ) → (y && not (length xs == 0)) ≡ false → wanted_by m y t xs ≡ None
none_ready true y t xs e = refl
none_ready false false t xs e = refl
none_ready false true t [] e = refl
none_ready false true t (x ∷ xs) e = let n : (length (x ∷ xs) == 0) ≡ false = grind (arith, nat_tests) in absurd (let f : true ≡ false = sym (ap not n) ∙ e in cc)

first_ready : (y : Bool) (t : ℕ) (xs : List ℕ) (o : Option ℕ) → (y && not (length xs == 0)) ≡ true → o ≡ slice_get xs 0 → wanted_by false y t xs ≡ option_map (λ a. Event.Order (Order.Switch t a)) o
first_ready false t xs o e f = absurd (cc)
first_ready true t [] o e f = sym (ap (option_map (λ a. Event.Order (Order.Switch t a))) f)
first_ready true t (x ∷ xs) o e f = sym (ap (option_map (λ a. Event.Order (Order.Switch t a))) f)

module _ (h : Site) (k : Kernel) (t : ℕ) where
  abbrev yields : Bool
  yields = slice_index_or k.yielded t false

  pub not_wanted : (yields && not (length (ready_at t k) == 0)) ≡ false → wanted_at h k t ≡ None
  not_wanted e = none_ready (list_any (is_moving_at h t) k.seats) yields t (ready_at t k) e

  pub moving_none : list_any (is_moving_at h t) k.seats ≡ true → wanted_at h k t ≡ None
  moving_none e = ap (λ b. wanted_by b yields t (ready_at t k)) e

  pub switch_wanted : (o : Option ℕ) → (yields && not (length (ready_at t k) == 0)) ≡ true → list_any (is_moving_at h t) k.seats ≡ false → o ≡ slice_get (ready_at t k) 0
      → wanted_at h k t ≡ option_map (λ a. Event.Order (Order.Switch t a)) o
  switch_wanted o w still front = ap (λ b. wanted_by b yields t (ready_at t k)) still ∙ first_ready yields t (ready_at t k) o w front

-- ---- the least tile

abbrev pub tiles_from : ℕ → ℕ → List ℕ
tiles_from t zero = []
tiles_from t (suc n) = t ∷ tiles_from (t + 1) n

pub all_tiles : tiles ≡ tiles_from 0 16
all_tiles = refl

module _ (f : ℕ → Option Event) where
  pub first_of : (t n : ℕ) → t + n ≡ 16 → t < 16 → first_for (tiles_from t n) f ≡ first_some (f t ∷ first_for (tiles_from (t + 1) (16 - (t + 1))) f ∷ [])
  first_of t zero e lt = absurd (omega arith)
  first_of t (suc n) e lt = ap (λ m. first_some (f t ∷ first_for (tiles_from (t + 1) m) f ∷ [])) (let g : n ≡ 16 - (t + 1) = omega arith in g)

  pub found_first : (t : ℕ) → t < 16 → (x : Event) → f t ≡ Some x → first_for (tiles_from t (16 - t)) f ≡ Some x
  found_first t lt x e = first_of t (16 - t) (omega arith) lt ∙ ap (λ o. first_some (o ∷ first_for (tiles_from (t + 1) (16 - (t + 1))) f ∷ [])) e

  one : (o : Option Event) → first_some (None ∷ o ∷ []) ≡ o
  one None = refl
  one (Some x) = refl

  pub none_first : (t : ℕ) → t < 16 → f t ≡ None → first_for (tiles_from t (16 - t)) f ≡ first_for (tiles_from (t + 1) (16 - (t + 1))) f
  none_first t lt e =
      first_of t (16 - t) (omega arith) lt
      ∙ ap (λ o. first_some (o ∷ first_for (tiles_from (t + 1) (16 - (t + 1))) f ∷ [])) e
      ∙ one (first_for (tiles_from (t + 1) (16 - (t + 1))) f)

  -- as the code finds it
  pub found_at : (t : ℕ) (o : Option Order) → t < 16 → option_map Event.Order o ≡ f t → is_some o ≡ true → first_for (tiles_from t (16 - t)) f ≡ option_map Event.Order o
  found_at t None lt e some = absurd (cc)
  found_at t (Some o) lt e some = found_first t lt (Event.Order o) (sym e)

  pub none_at : (t : ℕ) (o : Option Order) → t < 16 → option_map Event.Order o ≡ f t → is_some o ≡ false → first_for (tiles_from t (16 - t)) f ≡ first_for (tiles_from (t + 1) (16 - (t + 1))) f
  none_at t None lt e none = none_first t lt (sym e)
  none_at t (Some o) lt e none = absurd (cc)

  pub none_left : (t : ℕ) → 16 ≤ t → first_for (tiles_from t (16 - t)) f ≡ None
  none_left t le = ap (λ n. first_for (tiles_from t n) f) (let e : 16 - t ≡ 0 = omega arith in e)

pub coming_if : (w : EntryResidency) → place_of w ≡ Place.Coming → is_coming_entry w ≡ true
coming_if Is_placed e = absurd (cc)
coming_if Is_leaving e = absurd (cc)
coming_if (Is_resting y) e = absurd (cc)
coming_if (Is_coming y) e = refl

pub coming_not : (w : EntryResidency) → (place_of w ≡ Place.Coming → ⊥) → is_coming_entry w ≡ false
coming_not Is_placed e = refl
coming_not Is_leaving e = refl
coming_not (Is_resting y) e = refl
coming_not (Is_coming y) e = absurd (e refl)
