-- The stay of an activity, by its place in a list.
use Rattle.std.proofs.Common.{◌≡◌, ℕ, suc, Bool, true, false, cond, List, [], ◌∷◌, get_or, set, Option, Some, None, refl, sym, ap, ◌∙◌, arith}
use Rattle.std.specs.Prelude.{◌==◌, option_map}
use Rattle.std.proofs.lemmas.Bool.Decides.{nat_tests}
use Rattle.std.proofs.lemmas.Option.{get_or_from_slice_get}
use Rattle.m3_base.proofs.Activities.{same_act-turned}
use Rattle.m3_model.specs.Tile.State.{Resident}
use Rattle.m3_engine.specs.StayTable.{first_place}
use Rattle.m3_engine.specs.StayView.{replaced_if, stay_in, with_stay, IsStayAt, StayPlaceIs}

module _ (a : ℕ) where
  -- ahead of the rest there is one of another activity
  behind : (y : Resident) (ys : List Resident) (at : ℕ) → (y.act == a) ≡ false → IsStayAt ys a at → IsStayAt (y ∷ ys) a (suc at)
  behind y ys at other is =
      let t : (a == y.act) ≡ false = same_act-turned a y.act ∙ other in
      record {
        within = (let w = is.within in omega (arith, w));
        stay = is.stay;
        here = is.here;
        act = is.act;
        found = ap (λ b. cond b (Some y) (stay_in a ys)) t ∙ is.found;
        set = λ z e.
            ap (λ b. cond b (z ∷ ys) (y ∷ with_stay z ys)) (ap (λ k. k == y.act) e ∙ t) ∙ ap (λ r. y ∷ r) (is.set z e);
      }

  later : (y : Resident) (ys : List Resident) → (y.act == a) ≡ false → (o : Option ℕ) → StayPlaceIs ys a o → StayPlaceIs (y ∷ ys) a (option_map (λ i. suc i) o)
  later y ys other None is = ap (λ b. cond b (Some y) (stay_in a ys)) (same_act-turned a y.act ∙ other) ∙ is
  later y ys other (Some at) is = behind y ys at other is

  pub first_is : (ys : List Resident) → StayPlaceIs ys a (first_place a ys)
  first_is [] = refl
  first_is (y ∷ ys) = by_test (y.act == a) refl (first_is ys)
    where
      by_test : (b : Bool) → (y.act == a) ≡ b → StayPlaceIs ys a (first_place a ys) → StayPlaceIs (y ∷ ys) a (cond b (Some 0) (option_map (λ i. suc i) (first_place a ys)))
      by_test false e ih = later y ys e (first_place a ys) ih
      by_test true e ih =
          let same : y.act ≡ a = grind (arith, nat_tests, e) in
          let t : (a == y.act) ≡ true = same_act-turned a y.act ∙ e in
          record {
            within = omega arith;
            stay = y;
            here = refl;
            act = same;
            found = ap (λ b. cond b (Some y) (stay_in a ys)) t;
            set = λ z k. ap (λ b. cond b (z ∷ ys) (y ∷ with_stay z ys)) (ap (λ n. n == y.act) k ∙ t);
          }

-- what is read at the place is the activity's stay
pub read_stay : (ys : List Resident) (a at : ℕ) (read : Resident) → IsStayAt ys a at → read ≡ get_or ys at read → stay_in a ys ≡ Some read
read_stay ys a at read is e = is.found ∙ ap (λ y. Some y) (sym (e ∙ get_or_from_slice_get ys at is.stay read is.here))

pub read_act : (ys : List Resident) (a at : ℕ) (read : Resident) → IsStayAt ys a at → read ≡ get_or ys at read → read.act ≡ a
read_act ys a at read is e = ap (λ (y : Resident). y.act) (e ∙ get_or_from_slice_get ys at is.stay read is.here) ∙ is.act

-- the list with a change of the stay at its place
pub set_replaced : (ys : List Resident) (a at : ℕ) (read now : Resident) (f : Resident → Resident) → IsStayAt ys a at → read ≡ get_or ys at read → now ≡ f read → (f read).act ≡ read.act
    → set ys at now ≡ replaced_if f (stay_in a ys) ys
set_replaced ys a at read now f is e changed act =
    sym (is.set now (ap (λ (y : Resident). y.act) changed ∙ act ∙ read_act ys a at read is e))
    ∙ ap (λ y. with_stay y ys) changed
    ∙ ap (λ o. replaced_if f o ys) (sym (read_stay ys a at read is e))
