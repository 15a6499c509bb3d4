-- Stamps: no stamp is greater than the number of entries.
use Rattle.std.proofs.Common.{◌≡◌, ℕ, zero, suc, ◌+◌, ◌<◌, ◌≤◌, Bool, true, false, cond, ◌==◌, List, [], ◌∷◌, ◌++◌, length, Option, refl, sym, ap, subst, ◌∙◌, ◌⊎◌, inl, inr, arith}
use Rattle.std.specs.Prelude.{nat_le, filter, Some, None, IfSome}
use Rattle.std.proofs.lemmas.Bool.Decides.{nat_tests}
use Rattle.m3_merge.specs.Interleaving.{Item, from, to, takes, puts, all_taken, all_sent, of_tile, InOrder, IsTimely, Run, MachineRun, stamp_after, Clocked, AreParts, Before, IsOrdered, IsMerged}
use Rattle.m3_base.specs.Lists.EachElement.{Each}
use Rattle.m3_merge.proofs.MergedIsRun.{each_append, each_map, each_to, eqb_same, merged_run}

-- P holds of some
abbrev Has : {X : Type 0} → (X → Type 0) → List X → Type 0
Has P [] = ⊥
Has P (x ∷ xs) = P x ⊎ Has P xs

module _ {X : Type 0} where
  pub each_front : (P : X → Type 0) (xs ys : List X) → Each P (xs ++ ys) → Each P xs
  each_front P [] ys h = tt
  each_front P (x ∷ xs) ys h = (h.0, each_front P xs ys h.1)

  pub each_back : (P : X → Type 0) (xs ys : List X) → Each P (xs ++ ys) → Each P ys
  each_back P [] ys h = h
  each_back P (x ∷ xs) ys h = each_back P xs ys h.1

  pub each_filter : (P : X → Type 0) (f : X → Bool) (xs : List X) → Each P xs → Each P (filter f xs)
  each_filter P f [] h = tt
  each_filter P f (x ∷ xs) h =
      elim (f x) as (λ b. Each P (cond b (x ∷ filter f xs) (filter f xs))) [ true ↦ (h.0, each_filter P f xs h.1) | false ↦ each_filter P f xs h.1 ]

  each_both : (P R : X → Type 0) (xs : List X) → Each P xs → Each R xs → Each (λ x. P x × R x) xs
  each_both P R [] h k = tt
  each_both P R (x ∷ xs) h k = ((h.0, k.0), each_both P R xs h.1 k.1)

  -- each element is one of the list
  pub each_has : (P : X → X → Type 0) → ((x : X) → P x x) → (xs : List X) → Each (λ x. Has (P x) xs) xs
  each_has P r [] = tt
  each_has P r (x ∷ xs) = (inl (r x), each_map (λ y. Has (P y) xs) (λ y. Has (P y) (x ∷ xs)) (λ y h. inr h) xs (each_has P r xs))

  pub each_at : (P R : X → Type 0) (xs : List X) → Each P xs → Has R xs → (x : X) × P x × R x
  each_at P R [] h k = absurd k
  each_at P R (x ∷ xs) h k = elim k [ inl r ↦ (x, h.0, r) | inr k ↦ each_at P R xs h.1 k ]

module _ {E Q : Type 0} where
  tail_of_tile : (P : Item E Q → Type 0) (t : ℕ) (x : Item E Q) (xs : List (Item E Q)) (b : Bool) → Each P (cond b (x ∷ of_tile t xs) (of_tile t xs)) → Each P (of_tile t xs)
  tail_of_tile P t x xs true h = h.1
  tail_of_tile P t x xs false h = h

  -- what holds of each tile's entries holds of each entry
  each_of_tiles : (P : Item E Q → Type 0) (xs : List (Item E Q)) → ((t : ℕ) → Each P (of_tile t xs)) → Each P xs
  each_of_tiles P [] h = tt
  each_of_tiles P (x ∷ xs) h =
      let here : Each P (x ∷ of_tile x.tile xs) = subst (λ b. Each P (cond b (x ∷ of_tile x.tile xs) (of_tile x.tile xs))) (eqb_same x.tile) (h x.tile) in
      (here.0, each_of_tiles P xs (λ t. tail_of_tile P t x xs (x.tile == t) (h t)))

  -- what was taken from a link is taken by the entries of its end, and what was put on it is put by those of its beginning
  taken_go : (s d : ℕ) (x : Item E Q) (xs : List (Item E Q)) (b : Bool) → (x.tile == d) ≡ b → all_taken s d (of_tile d xs) ≡ all_taken s d xs
      → all_taken s d (cond b (x ∷ of_tile d xs) (of_tile d xs)) ≡ takes s d x ++ all_taken s d xs
  taken_go s d x xs true e ih = ap (λ r. takes s d x ++ r) ih
  taken_go s d x xs false e ih = rw e ih

  taken_of_tile : (s d : ℕ) (xs : List (Item E Q)) → all_taken s d (of_tile d xs) ≡ all_taken s d xs
  taken_of_tile s d [] = refl
  taken_of_tile s d (x ∷ xs) = taken_go s d x xs (x.tile == d) refl (taken_of_tile s d xs)

  sent_go : (s d : ℕ) (x : Item E Q) (xs : List (Item E Q)) (b : Bool) → (x.tile == s) ≡ b → all_sent s d (of_tile s xs) ≡ all_sent s d xs
      → all_sent s d (cond b (x ∷ of_tile s xs) (of_tile s xs)) ≡ puts s d x ++ all_sent s d xs
  sent_go s d x xs true e ih = ap (λ r. puts s d x ++ r) ih
  sent_go s d x xs false e ih = rw e ih

  sent_of_tile : (s d : ℕ) (xs : List (Item E Q)) → all_sent s d (of_tile s xs) ≡ all_sent s d xs
  sent_of_tile s d [] = refl
  sent_of_tile s d (x ∷ xs) = sent_go s d x xs (x.tile == s) refl (sent_of_tile s d xs)

  in_order : (xs : List (Item E Q)) → IsOrdered xs → InOrder xs
  in_order [] h = tt
  in_order (x ∷ xs) h = (each_map (Before x) (λ y. x.stamp ≤ y.stamp) (λ y b. b.0) xs h.0, in_order xs h.1)

  -- how many stamps are at most n
  low : ℕ → List (Item E Q) → ℕ
  low n [] = 0
  low n (x ∷ xs) = cond (nat_le x.stamp n) 1 0 + low n xs

  low_length : (n : ℕ) (xs : List (Item E Q)) → low n xs ≤ length xs
  unfolding low
  low_length n [] = omega arith
  low_length n (x ∷ xs) = let ih = low_length n xs in grind (arith, nat_tests)

  low_mono : (n : ℕ) (xs : List (Item E Q)) → low n xs ≤ low (suc n) xs
  unfolding low
  low_mono n [] = omega arith
  low_mono n (x ∷ xs) = let ih = low_mono n xs in grind (arith, nat_tests)

  low_more : (n : ℕ) (xs : List (Item E Q)) → Has (λ y. y.stamp ≡ suc n) xs → low n xs + 1 ≤ low (suc n) xs
  unfolding low
  low_more n [] h = absurd h
  low_more n (x ∷ xs) (inl e) = let m = low_mono n xs in grind (arith, nat_tests)
  low_more n (x ∷ xs) (inr h) = let ih = low_more n xs h in grind (arith, nat_tests)

  -- an entry with a stamp above 1 comes after one with the stamp before
  Gapless : List (Item E Q) → Item E Q → Type 0
  Gapless xs x = (n : ℕ) → x.stamp ≡ suc n → (n ≡ 0) ⊎ Has (λ y. y.stamp ≡ n) xs

  low_all : (xs : List (Item E Q)) → Each (Gapless xs) xs → (n : ℕ) → (n ≡ 0) ⊎ Has (λ y. y.stamp ≡ n) xs → n ≤ low n xs
  unfolding Gapless
  low_all xs gapless zero h = omega arith
  low_all xs gapless (suc n) (inl e) = absurd (omega arith)
  low_all xs gapless (suc n) (inr h) =
      let at = each_at (Gapless xs) (λ y. y.stamp ≡ suc n) xs gapless h in
      let below = low_all xs gapless n (at.1 n at.2) in
      let more = low_more n xs h in
      omega arith

module _ {E Q : Type 0} (stamp_of : Q → ℕ) where
  -- an entry of the list has this stamp
  Stands : List (Item E Q) → ℕ → Type 0
  Stands xs n = Has (λ y. y.stamp ≡ n) xs

  IsOut : Item E Q → Type 0
  IsOut x = Each (λ p. stamp_of p.1 ≡ x.stamp) x.out

  put_stands : (s d : ℕ) (all : List (Item E Q)) (x : Item E Q) → IsOut x → Stands all x.stamp → Each (λ q. Stands all (stamp_of q)) (puts s d x)
  unfolding IsOut Stands
  put_stands s d all x out here =
      elim (x.tile == s) as (λ b. Each (λ q. Stands all (stamp_of q)) (cond b (to d x.out) [])) [
        | true ↦ each_to (λ q. Stands all (stamp_of q)) d x.out
            (each_map (λ p. stamp_of p.1 ≡ x.stamp) (λ p. Stands all (stamp_of p.1)) (λ p e. subst (Stands all) (sym e) here) x.out out)
        | false ↦ tt
      ]

  sent_stands : (s d : ℕ) (all xs : List (Item E Q)) → Each IsOut xs → Each (λ x. Stands all x.stamp) xs → Each (λ q. Stands all (stamp_of q)) (all_sent s d xs)
  sent_stands s d all [] out here = tt
  sent_stands s d all (x ∷ xs) out here =
      each_append (λ q. Stands all (stamp_of q)) (puts s d x) (all_sent s d xs) (put_stands s d all x out.0 here.0) (sent_stands s d all xs out.1 here.1)

  -- what holds of all that is taken holds of what each entry takes
  took_each : (P : Q → Type 0) (xs : List (Item E Q)) → ((s d : ℕ) → Each P (all_taken s d xs)) → Each (λ x. IfSome x.took (λ p. P p.1)) xs
  took_each P [] h = tt
  took_each P (x ∷ xs) h = (go x.took refl, took_each P xs (λ s d. each_back P (takes s d x) (all_taken s d xs) (h s d)))
    where
      go : (took : Option (ℕ × Q)) → x.took ≡ took → IfSome took (λ p. P p.1)
      go None e = tt
      go (Some p) e =
          let here : Each P (takes p.0 x.tile x) = each_front P (takes p.0 x.tile x) (all_taken p.0 x.tile xs) (h p.0 x.tile) in
          let there : Each P (cond (p.0 == p.0) (p.1 ∷ []) []) = subst (λ b. Each P (cond b (from p.0 (Some p)) [])) (eqb_same x.tile) (subst (λ o. Each P (cond (x.tile == x.tile) (from p.0 o) [])) e here) in
          (subst (λ b. Each P (cond b (p.1 ∷ []) [])) (eqb_same p.0) there).0

  took_stands : (all : List (Item E Q)) (left : ℕ → ℕ → List Q) → Each IsOut all → ((s d : ℕ) → all_taken s d all ++ left s d ≡ all_sent s d all)
      → Each (λ x. IfSome x.took (λ p. Stands all (stamp_of p.1))) all
  unfolding Stands
  took_stands all left out links =
      took_each (λ q. Stands all (stamp_of q)) all
      (λ s d. each_front (λ q. Stands all (stamp_of q)) (all_taken s d all) (left s d)
      (subst (Each (λ q. Stands all (stamp_of q))) (sym (links s d)) (sent_stands s d all all out (each_has (λ x y. y.stamp ≡ x.stamp) (λ x. refl) all))))

module _ {S E Q : Type 0} (Step : ℕ → S → Item E Q → S → Type 0) (stamp_of : Q → ℕ) (cap : ℕ) where
  -- what each step says of its entry
  Says : Item E Q → Type 0
  Says x = IsOut stamp_of x × IfSome x.took (λ p. stamp_of p.1 ≤ cap → stamp_of p.1 < x.stamp)

  says : (t : ℕ) (b : ℕ × S) (x : Item E Q) (a : ℕ × S) → Clocked Step stamp_of cap t b x a → Says x
  unfolding Says IsOut
  says t b x a c = (c.out, go x.took c.stamp)
    where
      go : (took : Option (ℕ × Q)) → x.stamp ≡ stamp_after Step stamp_of cap b.0 took → IfSome took (λ p. stamp_of p.1 ≤ cap → stamp_of p.1 < x.stamp)
      go None e = tt
      go (Some p) e = λ h. grind (arith, nat_tests)

  run_says : (t : ℕ) (b : ℕ × S) (xs : List (Item E Q)) (a : ℕ × S) → Run (Clocked Step stamp_of cap) t b xs a → Each Says xs
  run_says t b [] a run = tt
  run_says t b (x ∷ xs) a run = (says t b x run.0 run.1, run_says t run.0 xs a run.2)

  -- the stamp of an entry, less one, is that of its part's last entry or that of what it takes
  gap : (all : List (Item E Q)) (clock : ℕ) (x : Item E Q) (took : Option (ℕ × Q)) → x.stamp ≡ stamp_after Step stamp_of cap clock took
      → (clock ≡ 0) ⊎ Stands stamp_of all clock → IfSome took (λ p. Stands stamp_of all (stamp_of p.1)) → Gapless all x
  unfolding Gapless Stands
  gap all clock x None e c h n is = let same : clock ≡ n = omega arith in subst (λ k. (k ≡ 0) ⊎ Has (λ y. y.stamp ≡ k) all) same c
  gap all clock x (Some p) e c h n is = go (nat_le (stamp_of p.1) cap) refl
    where
      P : ℕ → Type 0
      P k = (k ≡ 0) ⊎ Has (λ y. y.stamp ≡ k) all

      go : (b : Bool) → nat_le (stamp_of p.1) cap ≡ b → (n ≡ 0) ⊎ Has (λ y. y.stamp ≡ n) all
      go false eb = let same : clock ≡ n = grind (arith, nat_tests) in subst (λ k. (k ≡ 0) ⊎ Has (λ y. y.stamp ≡ k) all) same c
      go true eb =
          let which : (clock ≡ n) ⊎ (stamp_of p.1 ≡ n) = grind (arith, nat_tests) in
          elim which [
            | inl same ↦ subst (λ k. (k ≡ 0) ⊎ Has (λ y. y.stamp ≡ k) all) same c
            | inr same ↦ subst (λ k. (k ≡ 0) ⊎ Has (λ y. y.stamp ≡ k) all) same (inr h)
          ]

  run_gapless : (all : List (Item E Q)) (t : ℕ) (b : ℕ × S) (xs : List (Item E Q)) (a : ℕ × S) → Run (Clocked Step stamp_of cap) t b xs a
      → (b.0 ≡ 0) ⊎ Stands stamp_of all b.0
      → Each (λ x. Stands stamp_of all x.stamp) xs → Each (λ x. IfSome x.took (λ p. Stands stamp_of all (stamp_of p.1))) xs
      → Each (Gapless all) xs
  run_gapless all t b [] a run c here took = tt
  run_gapless all t b (x ∷ xs) a run c here took = (
    gap all b.0 x x.took run.1.stamp c took.0,
    run_gapless all t run.0 xs a run.2 (inr (subst (Stands stamp_of all) (sym run.1.clock) here.0)) here.1 took.1,
  )

  timely : (n : ℕ) → n ≤ cap → (x : Item E Q) → Says x × IfSome x.took (λ p. stamp_of p.1 ≤ n) → IsTimely stamp_of x
  unfolding Says IsOut
  timely n h x s = (s.0.0, go x.took s.0.1 s.1)
    where
      go : (took : Option (ℕ × Q)) → IfSome took (λ p. stamp_of p.1 ≤ cap → stamp_of p.1 < x.stamp) → IfSome took (λ p. stamp_of p.1 ≤ n) → IfSome took (λ p. stamp_of p.1 < x.stamp)
      go None a b = tt
      go (Some p) a b = a (omega arith)

  took_below : (all : List (Item E Q)) → Each (Gapless all) all → (x : Item E Q) → IfSome x.took (λ p. Stands stamp_of all (stamp_of p.1)) → IfSome x.took (λ p. stamp_of p.1 ≤ length all)
  unfolding Stands
  took_below all gapless x h = go x.took h
    where
      go : (took : Option (ℕ × Q)) → IfSome took (λ p. Stands stamp_of all (stamp_of p.1)) → IfSome took (λ p. stamp_of p.1 ≤ length all)
      go None h = tt
      go (Some p) h = let a = low_all all gapless (stamp_of p.1) (inr h) in let b = low_length (stamp_of p.1) all in omega arith

  -- The entries of the parts, merged, are a run of the machine that the parts began with, to what they and the links then have
  pub parts_run : (opening : ℕ → S) (items : ℕ → List (Item E Q)) (last : ℕ → ℕ × S) (left : ℕ → ℕ → List Q) (xs : List (Item E Q))
      → AreParts Step stamp_of cap opening items last left → IsMerged items xs → length xs ≤ cap
      → MachineRun (Clocked Step stamp_of cap) (record { parts = λ t. (0, opening t); links = λ s d. [] }) xs (record { parts = last; links = left })
  unfolding Says IsOut Stands
  parts_run opening items last left xs parts merged short =
      let runs = λ (t : ℕ). subst (λ ys. Run (Clocked Step stamp_of cap) t (0, opening t) ys (last t)) (sym (merged.tiles t)) (parts.runs t) in
      let links = λ (s d : ℕ). subst (λ k. k ++ left s d ≡ all_sent s d xs) (ap (all_taken s d) (sym (merged.tiles d)) ∙ taken_of_tile s d xs)
      (parts.links s d ∙ (ap (all_sent s d) (sym (merged.tiles s)) ∙ sent_of_tile s d xs)) in
      let said = each_of_tiles Says xs (λ t. run_says t (0, opening t) (of_tile t xs) (last t) (runs t)) in
      let here = each_has (λ (x y : Item E Q). y.stamp ≡ x.stamp) (λ x. refl) xs in
      let took = took_stands stamp_of xs left (each_map Says (IsOut stamp_of) (λ x s. s.0) xs said) links in
      let gapless = each_of_tiles (Gapless xs) xs
      (λ t. run_gapless xs t (0, opening t) (of_tile t xs) (last t) (runs t) (inl refl)
      (each_filter (λ x. Stands stamp_of xs x.stamp) (λ x. x.tile == t) xs here)
      (each_filter (λ x. IfSome x.took (λ p. Stands stamp_of xs (stamp_of p.1))) (λ x. x.tile == t) xs took)) in
      let below = each_map (λ x. IfSome x.took (λ p. Stands stamp_of xs (stamp_of p.1))) (λ x. IfSome x.took (λ p. stamp_of p.1 ≤ length xs)) (took_below xs gapless) xs took in
      let ready = each_map (λ x. Says x × IfSome x.took (λ p. stamp_of p.1 ≤ length xs)) (IsTimely stamp_of) (timely (length xs) short) xs (each_both Says (λ x. IfSome x.took (λ p. stamp_of p.1 ≤ length xs)) xs said below) in
      merged_run (Clocked Step stamp_of cap) stamp_of xs (record { parts = λ t. (0, opening t); links = λ s d. [] }) last left runs links (in_order xs merged.order) ready
