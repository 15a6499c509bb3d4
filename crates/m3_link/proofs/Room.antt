-- The spare places of the links from one tile.
use Rattle.std.proofs.Common.{◌≡◌, ℕ, ◌+◌, ◌-◌, ◌<◌, ◌≤◌, Bool, true, false, List, length, length-set, set, get_or, replicate, Option, None, Some, refl, sym, ap, ◌∙◌, subst, arith, ⊎_elim}
use Rattle.std.specs.Prelude.{nat_le}
use Rattle.std.proofs.lemmas.List.{get_or-set_same, get_or-set_other, set_past, get_or_past, get_or-replicate}
use Rattle.std.proofs.lemmas.Bool.{cases_eq, cases_lt, false≢true}
use Rattle.std.proofs.lemmas.Bool.Decides.{nat_tests}
use Rattle.m3_core.specs.declared.parcel.Parcel.{Parcel}
use Rattle.m3_link.specs.LinkOps.{place, spare_at, with_one_less, with_freed, HasRoom, IsRoomier}
use Rattle.m3_link.specs.LinksView.{AreRoomy, marks_noted}

-- a parcel that joins a link takes one place at most
pub filled_by_one : (spare : List ℕ) (k j : ℕ) → spare_at spare j ≤ spare_at (with_one_less spare k) j + 1
filled_by_one spare k j =
    ⊎_elim
    (λ (e : j ≡ k).
    ⊎_elim
    (λ (within : k < length spare).
    let now : spare_at (with_one_less spare k) j ≡ spare_at spare k - 1 = ap (spare_at (with_one_less spare k)) e ∙ get_or-set_same spare k (spare_at spare k - 1) 0 within in
    let was : spare_at spare j ≡ spare_at spare k = ap (spare_at spare) e in
    omega arith)
    (λ (past : length spare ≤ k). let same : spare_at (with_one_less spare k) j ≡ spare_at spare j = ap (λ ns. spare_at ns j) (set_past spare k (spare_at spare k - 1) past) in omega arith)
    (cases_lt k (length spare)))
    (λ (ne : j ≡ k → ⊥). let same : spare_at (with_one_less spare k) j ≡ spare_at spare j = get_or-set_other spare k j (spare_at spare k - 1) 0 ne in omega arith)
    (cases_eq j k)

pub filled_room : (spare : List ℕ) (k n t : ℕ) → HasRoom spare (n + 1) t → HasRoom (with_one_less spare k) n t
filled_room spare k n t room to within = let a = room to within in let b = filled_by_one spare k (place t to) in omega (arith, a, b)

-- a take makes no place less spare
pub freed_more : (spare : List ℕ) (k : ℕ) (o : Option Parcel) → IsRoomier spare (with_freed spare k o)
freed_more spare k None j = omega arith
freed_more spare k (Some p) j =
    ⊎_elim
    (λ (e : j ≡ k).
    ⊎_elim
    (λ (within : k < length spare).
    let now : spare_at (set spare k (spare_at spare k + 1)) j ≡ spare_at spare k + 1 = ap (spare_at (set spare k (spare_at spare k + 1))) e ∙ get_or-set_same spare k (spare_at spare k + 1) 0 within in
    let was : spare_at spare j ≡ spare_at spare k = ap (spare_at spare) e in
    omega arith)
    (λ (past : length spare ≤ k). let same : spare_at (set spare k (spare_at spare k + 1)) j ≡ spare_at spare j = ap (λ ns. spare_at ns j) (set_past spare k (spare_at spare k + 1) past) in omega arith)
    (cases_lt k (length spare)))
    (λ (ne : j ≡ k → ⊥). let same : spare_at (set spare k (spare_at spare k + 1)) j ≡ spare_at spare j = get_or-set_other spare k j (spare_at spare k + 1) 0 ne in omega arith)
    (cases_eq j k)

pub roomier_room : (old new : List ℕ) (n t : ℕ) → IsRoomier old new → HasRoom old n t → HasRoom new n t
roomier_room old new n t more room to within = let a = more (place t to) in let b = room to within in omega (arith, a, b)

-- ---- the marks

pub marks_more : (marks : List Bool) (old new : List ℕ) → IsRoomier old new → AreRoomy marks old → AreRoomy marks new
marks_more marks old new more roomy t on = roomier_room old new 2 t more (roomy t on)

-- one tile more is marked
pub marked : (marks : List Bool) (spare : List ℕ) (from : ℕ) → HasRoom spare 2 from → AreRoomy marks spare → AreRoomy (set marks from true) spare
marked marks spare from room roomy t on =
    ⊎_elim
    (λ (e : t ≡ from). subst (HasRoom spare 2) (sym e) room)
    (λ (ne : t ≡ from → ⊥). roomy t (sym (get_or-set_other marks from t true false ne) ∙ on))
    (cases_eq t from)

-- a link from another tile is another link
apart : (from to t u : ℕ) → to < 16 → u < 16 → (t ≡ from → ⊥) → place t u ≡ place from to → ⊥
apart from to t u low high ne e = ne (omega arith)

-- the parcel that joined a link left two places there
pub still_roomy : (marks : List Bool) (spare : List ℕ) (from to : ℕ) → to < 16 → nat_le 2 (spare_at (with_one_less spare (place from to)) (place from to)) ≡ true → AreRoomy marks spare → AreRoomy marks (with_one_less spare (place from to))
still_roomy marks spare from to low two roomy t on u high =
    ⊎_elim
    (λ (e : place t u ≡ place from to). let z = ap (spare_at (with_one_less spare (place from to))) e in grind (arith, nat_tests, two, z))
    (λ (ne : place t u ≡ place from to → ⊥).
    let same = get_or-set_other spare (place from to) (place t u) (spare_at spare (place from to) - 1) 0 ne in
    let z = roomy t on u high in
    omega (arith, same, z))
    (cases_eq (place t u) (place from to))

-- a tile from which a parcel joined a link isn't marked any more
pub unmarked : (marks : List Bool) (spare : List ℕ) (from to : ℕ) → to < 16 → AreRoomy marks spare → AreRoomy (set marks from false) (with_one_less spare (place from to))
unmarked marks spare from to low roomy t on u high =
    ⊎_elim
    (λ (e : t ≡ from). absurd (off e))
    (λ (ne : t ≡ from → ⊥).
    let same = get_or-set_other spare (place from to) (place t u) (spare_at spare (place from to) - 1) 0 (apart from to t u low high ne) in
    let z = roomy t (sym (get_or-set_other marks from t false false ne) ∙ on) u high in
    omega (arith, same, z))
    (cases_eq t from)
  where
    off : t ≡ from → ⊥
    off e =
        ⊎_elim
        (λ (within : from < length marks). false≢true (sym (get_or-set_same marks from false false within) ∙ ap (λ k. get_or (set marks from false) k false) (sym e) ∙ on))
        (λ (past : length marks ≤ from).
        false≢true (sym (ap (λ xs. get_or xs t false) (set_past marks from false past) ∙ get_or_past marks t false (omega (arith, past, e))) ∙ on))
        (cases_lt from (length marks))

pub noted : (b : Bool) (marks : List Bool) (spare : List ℕ) (from to : ℕ) → to < 16 → b ≡ nat_le 2 (spare_at (with_one_less spare (place from to)) (place from to)) → AreRoomy marks spare → AreRoomy (marks_noted b from marks) (with_one_less spare (place from to))
noted true marks spare from to low e roomy = still_roomy marks spare from to low (sym e) roomy
noted false marks spare from to low e roomy = unmarked marks spare from to low roomy

pub length_noted : (b : Bool) (from : ℕ) (marks : List Bool) → length (marks_noted b from marks) ≡ length marks
length_noted true from marks = refl
length_noted false from marks = length-set marks from false

-- no tile is marked
pub none_marked : (spare : List ℕ) → AreRoomy (replicate 16 false) spare
none_marked spare t on =
    absurd (false≢true (
    ⊎_elim
    (λ (within : t < 16). sym (get_or-replicate 16 t false false within))
    (λ (past : 16 ≤ t). sym (get_or_past (replicate 16 false) t false past))
    (cases_lt t 16)
    ∙ on))
