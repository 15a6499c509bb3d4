-- One link of many that changes: what it holds, and its spare places.
use Rattle.std.proofs.Common.{◌≡◌, ℕ, ◌+◌, ◌-◌, ◌<◌, ◌≤◌, List, [], length, map, set, get_or, Option, None, Some, Result, Ok, Err, OnOk, sym, ap, ◌∙◌, ⊎_elim, arith}
use Rattle.std.specs.Prelude.{MatchOption, IsSome}
use Rattle.std.proofs.lemmas.List.{map-set, get_or-map, set-get_or, get_or-set_same, get_or-set_other, length-map}
use Rattle.std.proofs.lemmas.Bool.{cases_eq}
use Rattle.std.specs.VecDeque.{deque_len, deque_capacity}
use Rattle.std.specs.declared.collections.VecDeque.{VecDeque}
use Rattle.std.specs.declared.alloc.Global.{Global}
use Rattle.m3_core.specs.declared.parcel.Parcel.{Parcel}
use Rattle.m3_link.specs.LinkOps.{list_at, spare_at, with_one_less, with_freed}
use Rattle.m3_link.specs.LinksView.{Wires, lists_in, spare_in, wires_of}

module _ (links : List (VecDeque Parcel Global)) (k : ℕ) (r : VecDeque Parcel Global) (within : k < length links) (read : r ≡ get_or links k r)
    (w : Wires) (view : wires_of links ≡ w) (j : ℕ) (here : k ≡ j) where
  pub list_here : r.items ≡ list_at w.lists j
  list_here = sym (get_or-map (λ l. l.items) links k r [] within ∙ ap (λ l. l.items) (sym read)) ∙ (λ i. list_at (view i).lists (here i))

  spare_here : spare_in r ≡ spare_at w.spare j
  spare_here = sym (get_or-map spare_in links k r 0 within ∙ ap spare_in (sym read)) ∙ (λ i. spare_at (view i).spare (here i))

  pub list_set : (s : VecDeque Parcel Global) (f : List Parcel → List Parcel) → s.items ≡ f r.items → lists_in (set links k s) ≡ set w.lists j (f (list_at w.lists j))
  list_set s f e = map-set (λ l. l.items) links k s ∙ (λ i. set (view i).lists (here i) (e i)) ∙ ap (λ ps. set w.lists j (f ps)) list_here

  pub spare_set : (s : VecDeque Parcel Global) (f : ℕ → ℕ) → spare_in s ≡ f (spare_in r) → map spare_in (set links k s) ≡ set w.spare j (f (spare_at w.spare j))
  spare_set s f e = map-set spare_in links k s ∙ (λ i. set (view i).spare (here i) (e i)) ∙ ap (λ n. set w.spare j (f n)) spare_here

  pub list_kept : (s : VecDeque Parcel Global) → s.items ≡ r.items → lists_in (set links k s) ≡ w.lists
  list_kept s e = list_set s (λ ps. ps) e ∙ set-get_or w.lists j []

  pub spare_filled : (s : VecDeque Parcel Global) → deque_len s ≡ deque_len r + 1 → deque_capacity s ≡ deque_capacity r → map spare_in (set links k s) ≡ with_one_less w.spare j
  spare_filled s len cap = spare_set s (λ n. n - 1) (omega arith)

  pub spare_freed : (s : VecDeque Parcel Global) (o : Option Parcel) → MatchOption o ((deque_len r ≡ 0) × (deque_len s ≡ 0)) (λ _. deque_len s + 1 ≡ deque_len r) → deque_capacity s ≡ deque_capacity r → map spare_in (set links k s) ≡ with_freed w.spare j o
  spare_freed s None len cap = spare_set s (λ n. n) (omega (arith, len.0, len.1, cap)) ∙ set-get_or w.spare j 0
  spare_freed s (Some p) len cap = spare_set s (λ n. n + 1) (let small = r.small in omega (arith, len, cap))

  pub there : (s : VecDeque Parcel Global) → spare_at (map spare_in (set links k s)) j ≡ spare_in s
  there s =
      ap (λ ns. spare_at ns j) (map-set spare_in links k s ∙ ap (λ i. set (map spare_in links) i (spare_in s)) here)
      ∙ get_or-set_same (map spare_in links) j (spare_in s) 0 (omega (arith, length-map links spare_in, within, here))

  pub spare_room : (s : VecDeque Parcel Global) {A : Type 0} {B : Type 0} (o : Result A B) → OnOk o (deque_len s + 2 ≤ deque_capacity s) → OnOk o (2 ≤ spare_at (map spare_in (set links k s)) j)
  spare_room s (Ok x) room = let e = there s in omega (arith, room)
  spare_room s (Err x) room = tt

  pub spare_kept : (s : VecDeque Parcel Global) → deque_len s ≡ deque_len r → deque_capacity r ≤ deque_capacity s → (n : ℕ) → spare_at w.spare n ≤ spare_at (map spare_in (set links k s)) n
  spare_kept s len cap n =
      ⊎_elim
      (λ (e : n ≡ j).
      let new : spare_at (map spare_in (set links k s)) n ≡ spare_in s = ap (spare_at (map spare_in (set links k s))) e ∙ there s in
      let old : spare_at w.spare n ≡ spare_in r = ap (spare_at w.spare) e ∙ sym spare_here in
      omega arith)
      (λ (ne : n ≡ j → ⊥).
      let other : spare_at (map spare_in (set links k s)) n ≡ spare_at w.spare n =
      ap (λ ns. spare_at ns n) (map-set spare_in links k s ∙ (λ i. set (view i).spare (here i) (spare_in s))) ∙ get_or-set_other w.spare j n (spare_in s) 0 ne in
      omega arith)
      (cases_eq n j)

  pub spare_left : (s : VecDeque Parcel Global) (o : Option Parcel) → MatchOption o ((deque_len r ≡ 0) × (deque_len s ≡ 0)) (λ _. deque_len s + 1 ≡ deque_len r) → deque_capacity s ≡ deque_capacity r → IsSome o → 0 < spare_at (map spare_in (set links k s)) j
  spare_left s None len cap some = absurd (cc)
  spare_left s (Some p) len cap some = let e = there s in let small = r.small in omega (arith, len, cap, e)
