-- The data on links, counted one more at a time up to the largest number.
use Rattle.std.proofs.Common.{◌≡◌, ℕ, ◌+◌, ◌<◌, ◌≤◌, List, [], ◌∷◌, length, get_or, drop, min, refl, sym, ap, ◌∙◌, arith}
use Rattle.std.proofs.Math.ListN.{drop_of_length-le}
use Rattle.std.proofs.lemmas.List.{drop_more}
use Rattle.std.specs.declared.collections.VecDeque.{VecDeque}
use Rattle.std.specs.declared.alloc.Global.{Global}
use Rattle.m3_base.specs.declared.packet.Packet.{Packet}
use Rattle.m3_core.specs.declared.parcel.Parcel.{Parcel as CodeParcel}
use Rattle.m3_link.specs.LinkOps.{data_in, data_on}
use Rattle.m3_link.specs.LinksView.{lists_in}

pub no_data : (p : CodeParcel) (ps : List CodeParcel) → ((x : Packet) → p ≡ CodeParcel.Data x → ⊥) → data_in (p ∷ ps) ≡ data_in ps
no_data (CodeParcel.Data x) ps other = absurd (other x refl)
no_data (CodeParcel.Save a) ps other = refl
no_data (CodeParcel.Saved a c waiting ended) ps other = refl
no_data (CodeParcel.Restore a c heard) ps other = refl
no_data (CodeParcel.Yield a) ps other = refl
no_data (CodeParcel.Closed g) ps other = refl

pub all_counted : (ps : List CodeParcel) (count all : ℕ) → length ps ≡ 0 → count ≤ 4294967295 → all ≡ min 4294967295 (count + data_in ps) → count ≡ all
all_counted [] count all none le e = omega arith
all_counted (p ∷ ps) count all none le e = omega arith

module _ (links : List (VecDeque CodeParcel Global)) (i : ℕ) where
  pub link_counted : (x : VecDeque CodeParcel Global) (count new : ℕ) → i < length links → x ≡ get_or links i x → new ≡ min 4294967295 (count + data_in x.items) → min 4294967295 (count + data_on (lists_in (drop i links))) ≡ min 4294967295 (new + data_on (lists_in (drop (i + 1) links)))
  link_counted x count new within read e =
      let more : data_on (lists_in (drop i links)) ≡ data_in x.items + data_on (lists_in (drop (i + 1) links)) =
      ap (λ ls. data_on (lists_in ls)) (drop_more links i x within) ∙ ap (λ (q : VecDeque CodeParcel Global). data_in q.items + data_on (lists_in (drop (i + 1) links))) (sym read) in
      omega arith

  left_none : (ls : List (VecDeque CodeParcel Global)) (j : ℕ) → length ls ≤ j → drop j ls ≡ []
  left_none ls j le = drop_of_length-le ls le

  pub links_counted : (count all : ℕ) → length links ≤ i → count ≤ 4294967295 → all ≡ min 4294967295 (count + data_on (lists_in (drop i links))) → count ≡ all
  links_counted count all past le e =
      let none : data_on (lists_in (drop i links)) ≡ 0 = ap (λ ls. data_on (lists_in ls)) (left_none links i past) in
      omega arith
