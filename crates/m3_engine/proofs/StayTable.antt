-- What the table of places says of a tile's stays.
use Rattle.std.proofs.Common.{◌≡◌, ℕ, zero, suc, ◌<◌, Bool, true, false, cond, List, [], ◌∷◌, ◌++◌, length, get_or, set, Option, Some, None, refl, sym, ap, ◌∙◌, subst, arith, replicate}
use Rattle.std.specs.Prelude.{◌==◌, option_map}
use Rattle.std.proofs.lemmas.Bool.Decides.{nat_tests}
use Rattle.std.proofs.lemmas.List.{get_or-replicate, get_or-set_other, get_or-set_same, length-replicate, length-set}
use Rattle.m3_model.specs.Machine.{new_stay}
use Rattle.m3_model.specs.Tile.State.{Resident}
use Rattle.m3_engine.specs.StayTable.{ArePlaces, first_place, place_if_none, with_place}
use Rattle.m3_engine.specs.StayView.{StayPlaceIs}
use Rattle.m3_engine.proofs.StayPlace.{first_is}

pub place_by : (ys : List Resident) (places : List (Option ℕ)) (a : ℕ) (r : Option ℕ) → ArePlaces ys places → a < 64 → r ≡ get_or places a None → StayPlaceIs ys a r
place_by ys places a r are low e = subst (StayPlaceIs ys a) (sym (e ∙ are.same a low)) (first_is a ys)

-- ---- at first

pub none_placed : (places : List (Option ℕ)) → places ≡ replicate 64 None → ArePlaces [] places
none_placed places e = record {
  count = ap length e ∙ length-replicate {A = Option ℕ} 64 None;
  same = λ a low. ap (λ ps. get_or ps a None) e ∙ get_or-replicate 64 a None None low;
}

-- ---- one stay changes

first_kept : (a : ℕ) (ys : List Resident) (at : ℕ) (read now : Resident) → read ≡ get_or ys at read → now.act ≡ read.act → first_place a (set ys at now) ≡ first_place a ys
first_kept a [] at read now e act = refl
first_kept a (y ∷ ys) zero read now e act = ap (λ n. cond (n == a) (Some 0) (option_map (λ i. suc i) (first_place a ys))) (act ∙ ap (λ (z : Resident). z.act) e)
first_kept a (y ∷ ys) (suc at) read now e act = ap (λ o. cond (y.act == a) (Some 0) (option_map (λ i. suc i) o)) (first_kept a ys at read now e act)

pub places_kept : (ys : List Resident) (places : List (Option ℕ)) (at : ℕ) (read now : Resident) → ArePlaces ys places → read ≡ get_or ys at read → now.act ≡ read.act → ArePlaces (set ys at now) places
places_kept ys places at read now are e act = record { count = are.count; same = λ a low. are.same a low ∙ sym (first_kept a ys at read now e act) }

-- ---- one stay more

abbrev or_last : Option ℕ → Bool → ℕ → Option ℕ
or_last None last n = cond last (Some n) None
or_last (Some i) last n = Some i

later : (o : Option ℕ) (last : Bool) (n : ℕ) → option_map (λ i. suc i) (or_last o last n) ≡ or_last (option_map (λ i. suc i) o) last (suc n)
later None true n = refl
later None false n = refl
later (Some i) last n = refl

first_more : (a : ℕ) (ys : List Resident) (y : Resident) → first_place a (ys ++ y ∷ []) ≡ or_last (first_place a ys) (y.act == a) (length ys)
first_more a [] y = refl
first_more a (x ∷ ys) y = by_test (x.act == a) (first_more a ys y)
  where
    by_test : (b : Bool) → first_place a (ys ++ y ∷ []) ≡ or_last (first_place a ys) (y.act == a) (length ys)
        → cond b (Some 0) (option_map (λ i. suc i) (first_place a (ys ++ y ∷ []))) ≡ or_last (cond b (Some 0) (option_map (λ i. suc i) (first_place a ys))) (y.act == a) (suc (length ys))
    by_test true ih = refl
    by_test false ih = ap (option_map (λ i. suc i)) ih ∙ later (first_place a ys) (y.act == a) (length ys)

last_no : (o : Option ℕ) (n : ℕ) → or_last o false n ≡ o
last_no None n = refl
last_no (Some i) n = refl

module _ (places : List (Option ℕ)) (b n : ℕ) (within : b < length places) where
  -- another activity's place stays
  other_place : (o : Option ℕ) (a : ℕ) → (b == a) ≡ false → get_or (place_if_none o b n places) a None ≡ get_or places a None
  other_place None a e = get_or-set_other places b a (Some n) None (λ k. let w : b ≡ a = sym k in let t : (b == a) ≡ true = grind (arith, nat_tests, w) in absurd (let f : true ≡ false = sym t ∙ e in cc))
  other_place (Some i) a e = refl

  own_place : (o : Option ℕ) → get_or places b None ≡ o → get_or (place_if_none o b n places) b None ≡ or_last o true n
  own_place None e = get_or-set_same places b (Some n) None within
  own_place (Some i) e = e

  length_placed : (o : Option ℕ) → length (place_if_none o b n places) ≡ length places
  length_placed None = length-set places b (Some n)
  length_placed (Some i) = refl

pub places_more : (ys : List Resident) (places : List (Option ℕ)) (b : ℕ) → ArePlaces ys places → b < 64 → ArePlaces (ys ++ new_stay b ∷ []) (with_place b (length ys) places)
places_more ys places b are low = record {
  count = length_placed places b (length ys) within (get_or places b None) ∙ are.count;
  same = λ a under. by_test a under (b == a) refl;
}
  where
    within : b < length places
    within = let n = are.count in omega (arith, n, low)

    by_test : (a : ℕ) → a < 64 → (t : Bool) → (b == a) ≡ t → get_or (with_place b (length ys) places) a None ≡ first_place a (ys ++ new_stay b ∷ [])
    by_test a under true e =
        let same : b ≡ a = grind (arith, nat_tests, e) in
        ap (λ k. get_or (with_place b (length ys) places) k None) (sym same)
        ∙ own_place places b (length ys) within (get_or places b None) refl
        ∙ (λ i. or_last (are.same b low i) true (length ys))
        ∙ (λ i. or_last (first_place (same i) ys) true (length ys))
        ∙ ap (λ t. or_last (first_place a ys) t (length ys)) (sym e)
        ∙ sym (first_more a ys (new_stay b))
    by_test a under false e =
        other_place places b (length ys) within (get_or places b None) a e
        ∙ are.same a under
        ∙ sym (last_no (first_place a ys) (length ys))
        ∙ ap (λ t. or_last (first_place a ys) t (length ys)) (sym e)
        ∙ sym (first_more a ys (new_stay b))
