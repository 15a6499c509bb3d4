-- From the parts' notes to their entries.
use Rattle.std.proofs.Common.{◌≡◌, ℕ, ◌≤◌, Bool, true, false, cond, ◌==◌, List, [], ◌∷◌, length, refl, sym, ap, subst, ◌∙◌, arith}
use Rattle.std.specs.Prelude.{map}
use Rattle.m3_merge.specs.Interleaving.{Item, Machine, either, of_tile, Run, Moves, MachineRun, Clocked, without_clocks, notes_of, NotedBefore, AreOrdered, AreMerged, Before, IsOrdered, IsMerged, AreParts}
use Rattle.m3_base.specs.Lists.EachElement.{Each}
use Rattle.std.proofs.lemmas.Bool.Decides.{nat_tests}
use Rattle.m3_merge.proofs.MergedIsRun.{eqb_same}
use Rattle.m3_merge.proofs.StampBounds.{parts_run}
use Rattle.std.proofs.lemmas.List.{length-map}

module _ {S E Q : Type 0} (Step : ℕ → S → Item E Q → S → Type 0) (stamp_of : Q → ℕ) (cap : ℕ) where
  drop_clock : (b : Bool) (t : ℕ) (x : Item E Q) (p q : ℕ × S) → either b (Clocked Step stamp_of cap t p x q) (q ≡ p) → either b (Step t p.1 x q.1) (q.1 ≡ p.1)
  drop_clock true t x p q c = c.step
  drop_clock false t x p q e = ap (λ r. r.1) e

  -- the run without clocks
  pub unclocked_run : (xs : List (Item E Q)) (m n : Machine (ℕ × S) Q) → MachineRun (Clocked Step stamp_of cap) m xs n → MachineRun Step (without_clocks m) xs (without_clocks n)
  unclocked_run [] m n e = ap without_clocks e
  unclocked_run (x ∷ xs) m n r =
      (without_clocks r.0, record { parts = λ t. drop_clock (x.tile == t) t x (m.parts t) (r.0.parts t) (r.1.parts t); links = r.1.links }, unclocked_run xs r.0 n r.2)

module _ {E Q R : Type 0} (stamp_in : R → ℕ) (note : Item E Q → R) (same_stamp : (x : Item E Q) → stamp_in (note x) ≡ x.stamp) where
  abbrev pub tagged : Item E Q → ℕ × R
  tagged x = (x.tile, note x)

  before_back : (x : Item E Q) (xs : List (Item E Q)) → Each (NotedBefore stamp_in (tagged x)) (map tagged xs) → Each (Before x) xs
  before_back x [] h = tt
  before_back x (y ∷ xs) h = ((let a = h.0.0 in let b = same_stamp x in let c = same_stamp y in omega arith, λ e. h.0.1 (same_stamp x ∙ (e ∙ sym (same_stamp y)))), before_back x xs h.1)

  pub order_back : (xs : List (Item E Q)) → AreOrdered stamp_in (map tagged xs) → IsOrdered xs
  order_back [] h = tt
  order_back (x ∷ xs) h = (before_back x xs h.0, order_back xs h.1)

  -- rows without the first entry of one
  abbrev behind : (ℕ → List (Item E Q)) → ℕ → List (Item E Q) → ℕ → List (Item E Q)
  behind rows t rest k = cond (t == k) rest (rows k)

  abbrev pub Weaves : (ℕ → List (Item E Q)) → List (ℕ × R) → Type 0
  Weaves rows journal = (xs : List (Item E Q)) × (map tagged xs ≡ journal) × ((t : ℕ) → of_tile t xs ≡ rows t)

  nothing : (ys : List (Item E Q)) → map note ys ≡ [] → [] ≡ ys
  nothing [] e = refl
  nothing (y ∷ ys) e = absurd (cc e)

  split_row : (ys : List (Item E Q)) (r : R) (rest : List R) → map note ys ≡ r ∷ rest → (x : Item E Q) × (tail : List (Item E Q)) × (ys ≡ x ∷ tail) × (note x ≡ r) × (map note tail ≡ rest)
  split_row [] r rest e = absurd (cc e)
  split_row (y ∷ ys) r rest e = (y, ys, refl, cc e, cc e)

  tiles_behind : (rows : ℕ → List (Item E Q)) (t : ℕ) (rest : List (Item E Q)) (k : ℕ) (b : Bool) → (t == k) ≡ b → Each (λ x. x.tile ≡ t) rest → Each (λ x. x.tile ≡ k) (rows k) → Each (λ x. x.tile ≡ k) (cond b rest (rows k))
  tiles_behind rows t rest k true e h i = let same : t ≡ k = grind (arith, nat_tests) in subst (λ n. Each (λ x. x.tile ≡ n) rest) same h
  tiles_behind rows t rest k false e h i = i

  notes_behind : (rows : ℕ → List (Item E Q)) (t : ℕ) (rest : List (Item E Q)) (r : R) (journal : List (ℕ × R)) (k : ℕ) (b : Bool) → (t == k) ≡ b → map note rest ≡ notes_of stamp_in t journal
      → map note (rows k) ≡ cond b (r ∷ notes_of stamp_in k journal) (notes_of stamp_in k journal) → map note (cond b rest (rows k)) ≡ notes_of stamp_in k journal
  notes_behind rows t rest r journal k true e h i = let same : t ≡ k = grind (arith, nat_tests) in subst (λ n. map note rest ≡ notes_of stamp_in n journal) same h
  notes_behind rows t rest r journal k false e h i = i

  rows_behind : (rows : ℕ → List (Item E Q)) (t : ℕ) (x : Item E Q) (rest xs : List (Item E Q)) (k : ℕ) (b : Bool) → (t == k) ≡ b → rows t ≡ x ∷ rest → of_tile k xs ≡ cond b rest (rows k)
      → cond b (x ∷ of_tile k xs) (of_tile k xs) ≡ rows k
  rows_behind rows t x rest xs k true e h i = let same : t ≡ k = grind (arith, nat_tests) in ap (λ l. x ∷ l) i ∙ (sym h ∙ ap rows same)
  rows_behind rows t x rest xs k false e h i = i

  -- the entries of a journal, by the entries of each tile
  pub weave : (journal : List (ℕ × R)) (rows : ℕ → List (Item E Q)) → ((t : ℕ) → Each (λ x. x.tile ≡ t) (rows t)) → ((t : ℕ) → map note (rows t) ≡ notes_of stamp_in t journal) → Weaves rows journal
  weave [] rows tiles notes = ([], refl, λ t. nothing (rows t) (notes t))
  weave (p ∷ journal) rows tiles notes =
      let first : map note (rows p.0) ≡ p.1 ∷ notes_of stamp_in p.0 journal = subst (λ b. map note (rows p.0) ≡ cond b (p.1 ∷ notes_of stamp_in p.0 journal) (notes_of stamp_in p.0 journal)) (eqb_same p.0) (notes p.0) in
      let row = split_row (rows p.0) p.1 (notes_of stamp_in p.0 journal) first in
      let tile = subst (Each (λ x. x.tile ≡ p.0)) row.2 (tiles p.0) in
      let rest = weave journal (behind rows p.0 row.1)
      (λ k. tiles_behind rows p.0 row.1 k (p.0 == k) refl tile.1 (tiles k))
      (λ k. notes_behind rows p.0 row.1 p.1 journal k (p.0 == k) refl row.4 (notes k)) in (
        row.0 ∷ rest.0,
        (λ i. (tile.0 i, row.3 i) ∷ rest.1 i),
        λ k. subst (λ n. cond (n == k) (row.0 ∷ of_tile k rest.0) (of_tile k rest.0) ≡ rows k) (sym tile.0) (rows_behind rows p.0 row.0 row.1 rest.0 k (p.0 == k) refl row.2 (rest.2 k)),
      )

  -- a journal that is merged from the parts' notes is that of their merged entries
  pub merged_deeds : (journal : List (ℕ × R)) (rows : ℕ → List (Item E Q)) → ((t : ℕ) → Each (λ x. x.tile ≡ t) (rows t)) → AreMerged stamp_in (λ t. map note (rows t)) journal
      → (xs : List (Item E Q)) × (map tagged xs ≡ journal) × IsMerged rows xs
  merged_deeds journal rows tiles merged =
      let w = weave journal rows tiles (λ t. sym (merged.tiles t)) in
      (w.0, w.1, record { tiles = w.2; order = order_back w.0 (subst (AreOrdered stamp_in) (sym w.1) merged.order) })

module _ {S E Q R : Type 0} (Step : ℕ → S → Item E Q → S → Type 0) (stamp_of : Q → ℕ) (cap : ℕ) (stamp_in : R → ℕ) (note : Item E Q → R) (same_stamp : (x : Item E Q) → stamp_in (note x) ≡ x.stamp) where
  run_tiles : (t : ℕ) (a : ℕ × S) (xs : List (Item E Q)) (b : ℕ × S) → Run (Clocked Step stamp_of cap) t a xs b → Each (λ x. x.tile ≡ t) xs
  run_tiles t a [] b r = tt
  run_tiles t a (x ∷ xs) b r = (r.1.tile, run_tiles t r.0 xs b r.2)

  -- The journal that is merged from the parts' notes is that of a run of the machine that the parts began with, to what they and the links then have
  pub journal_run : (opening : ℕ → S) (items : ℕ → List (Item E Q)) (last : ℕ → ℕ × S) (left : ℕ → ℕ → List Q) (notes : ℕ → List R) (journal : List (ℕ × R))
      → AreParts Step stamp_of cap opening items last left → ((t : ℕ) → notes t ≡ map note (items t)) → AreMerged stamp_in notes journal → length journal ≤ cap
      → (xs : List (Item E Q)) × (map (λ x. (x.tile, note x)) xs ≡ journal)
      × MachineRun Step (record { parts = opening; links = λ s d. [] }) xs (record { parts = λ t. (last t).1; links = left })
  journal_run opening items last left notes journal parts noted merged short =
      let deeds = merged_deeds stamp_in note same_stamp journal items (λ t. run_tiles t (0, opening t) (items t) (last t) (parts.runs t)) (record { tiles = λ t. merged.tiles t ∙ noted t; order = merged.order }) in
      let few : length deeds.0 ≤ cap = (let a = ap length deeds.1 in omega (arith, length-map {B = ℕ × R} deeds.0 (λ (x : Item E Q). (x.tile, note x)))) in
      let run = parts_run Step stamp_of cap opening items last left deeds.0 parts deeds.2 few in
      (deeds.0, deeds.1, unclocked_run Step stamp_of cap deeds.0 (record { parts = λ t. (0, opening t); links = λ s d. [] }) (record { parts = last; links = left }) run)

-- What each step keeps holds at the end, and what each step says is said of each entry
module _ {S E Q : Type 0} (Step : ℕ → S → Item E Q → S → Type 0) (Sound : Machine S Q → Type 0) (Says : Machine S Q → Item E Q → Machine S Q → Type 0)
    (step : (m : Machine S Q) (x : Item E Q) (n : Machine S Q) → Sound m → Moves Step m x n → Says m x n × Sound n) where
  abbrev pub AllSaid : Machine S Q → List (Item E Q) → Machine S Q → Type 0
  AllSaid m [] n = m ≡ n
  AllSaid m (x ∷ xs) n = (k : Machine S Q) × Moves Step m x k × Says m x k × AllSaid k xs n

  pub run_keeps : (xs : List (Item E Q)) (m n : Machine S Q) → Sound m → MachineRun Step m xs n → AllSaid m xs n × Sound n
  run_keeps [] m n sound e = (e, subst Sound e sound)
  run_keeps (x ∷ xs) m n sound r =
      let one = step m x r.0 sound r.1 in
      let rest = run_keeps xs r.0 n one.1 r.2 in
      ((r.0, r.1, one.0, rest.0), rest.1)
