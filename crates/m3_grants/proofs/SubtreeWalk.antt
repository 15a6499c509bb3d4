-- A walk closes the subtree, and nothing else.
use Rattle.std.proofs.Common.{◌≡◌, ◌≢◌, ℕ, zero, suc, ◌+◌, ◌-◌, ◌<◌, ◌≤◌, Bool, true, false, ◌||◌, List, [], ◌∷◌, ◌++◌, length, Some, None, refl, sym, ◌∙◌, ap, subst, arith, get_or, option_to_list, All, sum}
use Rattle.std.specs.Prelude.{Option, if◌then◌else◌, ◌==◌, slice_get}
use Rattle.std.proofs.lemmas.List.{length-append, length-map}
use Rattle.std.proofs.lemmas.List.Sums.{sum_by-append}
use Rattle.std.proofs.lemmas.List.Elements.{All-pop, All-append}
use Rattle.std.proofs.lemmas.Bool.Decides.{nat_tests}
use Rattle.m3_base.specs.Ideal.State.{Grant, parent_of, grant_in}
use Rattle.m3_base.specs.Ideal.GrantRules.{is_marked, or_false}
use Rattle.m3_base.specs.declared.grants.node.Node.{Node}
use Rattle.m3_base.specs.Setup.GrantTable.{is_live_in, on_node, grants_of, grant_of, with_node}
use Rattle.m3_grants.specs.NodeView.{closing_node, is_live_stage, is_live_node, close_if, close_where, AllRightful}
use Rattle.m3_grants.specs.DueIndexView.{parents_of}
use Rattle.m3_grants.specs.Siblings.{is_under, IsLast, IsPrevious}
use Rattle.m3_grants.specs.SubtreeWalk.{live_count, left, marks, IsPending, is_later, Walks}
use Rattle.m3_base.proofs.GrantTableLookup.{found, get_with_node}
use Rattle.m3_grants.proofs.RevokeSubtree.{same_places, get_close, live_stage}
use Rattle.m3_grants.proofs.PendingVisits.{parents_closed, under_some, above_live, mark_at, live_closed, live_most, later_more, later_last, later_found, later_next, under_within, pending_next, pending_child}
use Rattle.m3_base.proofs.GrantsByNumber.{grant_in-suc}

-- ---- one is closed

dead_closing : (o : Option Node) → is_live_node (on_node closing_node o) ≡ false
dead_closing None = refl
dead_closing (Some x) = refl

live_after : (now : List Node) (at i : ℕ) → is_live_node (slice_get (with_node now at closing_node) i) ≡ true → (i ≢ at) × (is_live_node (slice_get now i) ≡ true)
live_after now at i l = by_place (i == at) refl (subst (λ o. is_live_node o ≡ true) (get_with_node now closing_node at i) l)
  where
    by_place : (b : Bool) → (i == at) ≡ b → is_live_node (if b then on_node closing_node (slice_get now at) else slice_get now i) ≡ true → (i ≢ at) × (is_live_node (slice_get now i) ≡ true)
    by_place true w k = absurd (let z = dead_closing (slice_get now at) in grind (arith, z, k))
    by_place false w k = (grind (arith, nat_tests, w), k)

dead_after : (now : List Node) (at i : ℕ) → is_live_node (slice_get (with_node now at closing_node) i) ≡ false → i ≢ at → is_live_node (slice_get now i) ≡ false
dead_after now at i l other = let o : (i == at) ≡ false = grind (arith, nat_tests, other) in sym (ap is_live_node (get_with_node now closing_node at i ∙ rw o refl)) ∙ l

dead_there : (now : List Node) (at i : ℕ) → i ≡ at → is_live_node (slice_get (with_node now at closing_node) i) ≡ false
dead_there now at i s = let o : (i == at) ≡ true = grind (arith, nat_tests, s) in ap is_live_node (get_with_node now closing_node at i ∙ rw o refl) ∙ dead_closing (slice_get now at)

abbrev Only : ℕ → List Node → ℕ → Option Node → Type 0
Only root before i o = o ≡ (if is_live_node o then slice_get before i else on_node (close_if (or_false (slice_get (marks root before) i))) (slice_get before i))

-- a live one of the subtree is closed
only_closed : (root : ℕ) (before now : List Node) (at : ℕ) → ((i : ℕ) → Only root before i (slice_get now i)) → is_live_node (slice_get now at) ≡ true → or_false (slice_get (marks root before) at) ≡ true → (i : ℕ) → Only root before i (slice_get (with_node now at closing_node) i)
only_closed root before now at k l m i = subst (Only root before i) (sym (get_with_node now closing_node at i)) (by_place (i == at) refl)
  where
    was : slice_get now at ≡ slice_get before at
    was = k at ∙ rw l refl

    by_node : (o : Option Node) → is_live_node o ≡ true → on_node closing_node o ≡ on_node (close_if true) o
    by_node None l = refl
    by_node (Some x) l = rw l refl

    by_place : (b : Bool) → (i == at) ≡ b → Only root before i (if b then on_node closing_node (slice_get now at) else slice_get now i)
    by_place true w =
        let s : i ≡ at = grind (arith, nat_tests, w) in
        let live : is_live_node (slice_get before at) ≡ true = subst (λ o. is_live_node o ≡ true) was l in
        rw (dead_closing (slice_get now at), s, m, was) (by_node (slice_get before at) live)
    by_place false w = k i

-- ---- the walk

-- whose place it is that is closed: those right under it are visited with the last of them
later_closed : (before now : List Node) (pending : List ℕ) (g : ℕ) (child : Option ℕ) → AllRightful (grants_of before) → 0 < g → IsLast (parents_of before) g (length (parents_of before)) child → ((p i : ℕ) → i ≢ g - 1 → is_live_node (slice_get now i) ≡ true → is_under (parents_of before) p i ≡ true → is_live_node (slice_get now (p - 1)) ≡ false → is_later (parents_of before) pending p i ≡ true) → (p i : ℕ) → is_live_node (slice_get (with_node now (g - 1) closing_node) i) ≡ true → is_under (parents_of before) p i ≡ true → is_live_node (slice_get (with_node now (g - 1) closing_node) (p - 1)) ≡ false → is_later (parents_of before) (pending ++ option_to_list child) p i ≡ true
later_closed before now pending g child r some last k p i l u d = by_parent (p - 1 == (g - 1)) refl
  where
    live : (i ≢ g - 1) × (is_live_node (slice_get now i) ≡ true)
    live = live_after now (g - 1) i l

    by_parent : (b : Bool) → (p - 1 == (g - 1)) ≡ b → is_later (parents_of before) (pending ++ option_to_list child) p i ≡ true
    by_parent true w =
        let above : 0 < p = (under_some before r p i u).0 in
        let s : g ≡ p = let z : p - 1 ≡ g - 1 = grind (arith, nat_tests, w) in omega (arith, z, above, some) in
        let of : IsLast (parents_of before) p (length (parents_of before)) child = subst (λ h. IsLast (parents_of before) h (length (parents_of before)) child) s last in
        later_last (parents_of before) pending (option_to_list child) p i (later_found (parents_of before) p (length (parents_of before)) i child of (under_within (parents_of before) p i u) u)
    by_parent false w =
        let other : p - 1 ≢ g - 1 = grind (arith, nat_tests, w) in
        later_more (parents_of before) pending (option_to_list child) p i (k p i live.0 live.1 u (dead_after now (g - 1) (p - 1) d other))

pub at_most_one : (o : Option ℕ) → length (option_to_list o) ≤ 1
at_most_one None = omega arith
at_most_one (Some x) = omega arith

-- the root is closed
pub walks_begun : (root : ℕ) (before next : List Node) (child : Option ℕ) → AllRightful (grants_of before) → is_live_in (grant_in (grants_of before) root) ≡ true → length before ≤ 4096 → next ≡ with_node before (root - 1) closing_node → IsLast (parents_of next) root (length (parents_of next)) child → Walks root before next (option_to_list child)
walks_begun zero before next child r l few e last = absurd (cc)
walks_begun (suc g) before next child r l few e last =
    let n : suc g - 1 ≡ g = omega arith in
    let live : is_live_node (slice_get before (suc g - 1)) ≡ true = rw n (by_above (slice_get before g) (subst (λ o. is_live_in o ≡ true) (grant_in-suc (grants_of before) g ∙ found before g) l)) in
    let same : parents_of next ≡ parents_of before = ap parents_of e ∙ parents_closed before (suc g - 1) in
    let of : IsLast (parents_of before) (suc g) (length (parents_of before)) child = subst (λ ps. IsLast ps (suc g) (length ps) child) same last in
    let marked : or_false (slice_get (marks (suc g) before) (suc g - 1)) ≡ true = by_node (slice_get before (suc g - 1)) refl live in
    let whole : Walks (suc g) before (with_node before (suc g - 1) closing_node) (option_to_list child) = record {
      rightful = r;
      parents = parents_closed before (suc g - 1);
      closed = dead_there before (suc g - 1) (suc g - 1) refl;
      only = only_closed (suc g) before before (suc g - 1) untouched live marked;
      inside = pending_child (suc g) before (suc g) (length (parents_of before)) child marked of;
      later = later_closed before before [] (suc g) child r (omega arith) of (λ p i o a u d. absurd (let z = above_live before r p i a u in grind (arith, z, d)));
      room = let c = live_closed before (suc g - 1) live in let m = live_most before in let o = at_most_one child in omega (arith, c, m, o, few);
    } in
    rw e whole
  where
    by_above : (o : Option Node) → is_live_in (grant_of o) ≡ true → is_live_node o ≡ true
    by_above None e = e
    by_above (Some x) e = sym (live_stage x) ∙ e

    by_node : (o : Option Node) → slice_get before (suc g - 1) ≡ o → is_live_node (slice_get before (suc g - 1)) ≡ true → or_false (slice_get (marks (suc g) before) (suc g - 1)) ≡ true
    by_node None e l = absurd (let z : is_live_node None ≡ true = subst (λ o. is_live_node o ≡ true) e l in cc)
    by_node (Some x) e l = let s : (suc g - 1 + 1 == suc g) ≡ true = grind (arith, nat_tests) in mark_at (suc g) before r (suc g - 1) x e ∙ rw s refl

    untouched : (i : ℕ) → Only (suc g) before i (slice_get before i)
    untouched i = by_grant (slice_get before i)
      where
        by_grant : (o : Option Node) → o ≡ (if is_live_node o then o else on_node (close_if (or_false (slice_get (marks (suc g) before) i))) o)
        by_grant None = refl
        by_grant (Some x) = by_live (is_live_stage x.stage) refl
          where
            by_live : (b : Bool) → is_live_stage x.stage ≡ b → Some x ≡ (if b then Some x else Some (close_if (or_false (slice_get (marks (suc g) before) i)) x))
            by_live true w = refl
            by_live false w = by_mark (or_false (slice_get (marks (suc g) before) i))
              where
                by_mark : (m : Bool) → Some x ≡ Some (close_if m x)
                by_mark true = rw w refl
                by_mark false = refl

-- one that isn't live is passed
pub walks_passed : (root : ℕ) (before now : List Node) (pending : List ℕ) (g : ℕ) (previous : Option ℕ) → Walks root before now (pending ++ g ∷ []) → is_live_node (slice_get now (g - 1)) ≡ false → IsPrevious (parents_of now) g previous → Walks root before now (pending ++ option_to_list previous)
walks_passed root before now pending g previous k d v =
    let P : ℕ → Type 0 = IsPending root before in
    let all : All P pending × P g = All-pop P (pending ++ g ∷ []) pending (Some g) refl k.inside in
    let of : IsPrevious (parents_of before) g previous = subst (λ ps. IsPrevious ps g previous) k.parents v in
    record {
      rightful = k.rightful;
      parents = k.parents;
      closed = k.closed;
      only = k.only;
      inside = All-append P pending (option_to_list previous) all.0 (pending_next root before g previous all.1 of);
      later = λ p i l u e. later_next (parents_of before) pending g p i previous of (other i l) u (k.later p i l u e);
      room = let a = length-append pending (g ∷ []) in let b = length-append pending (option_to_list previous) in let c = at_most_one previous in let r = k.room in omega (arith, a, b, c, r);
    }
  where
    other : (i : ℕ) → is_live_node (slice_get now i) ≡ true → i ≢ g - 1
    other i l s = absurd (let z : is_live_node (slice_get now (g - 1)) ≡ true = subst (λ j. is_live_node (slice_get now j) ≡ true) s l in grind (arith, z, d))

-- one that is live is closed
pub walks_closed : (root : ℕ) (before now next : List Node) (pending : List ℕ) (g : ℕ) (previous child : Option ℕ) → Walks root before now (pending ++ g ∷ []) → is_live_node (slice_get now (g - 1)) ≡ true → IsPrevious (parents_of now) g previous → next ≡ with_node now (g - 1) closing_node → IsLast (parents_of next) g (length (parents_of next)) child → Walks root before next ((pending ++ option_to_list previous) ++ option_to_list child)
walks_closed root before now next pending g previous child k l v e last =
    let P : ℕ → Type 0 = IsPending root before in
    let all : All P pending × P g = All-pop P (pending ++ g ∷ []) pending (Some g) refl k.inside in
    let of : IsPrevious (parents_of before) g previous = subst (λ ps. IsPrevious ps g previous) k.parents v in
    let same : parents_of (with_node now (g - 1) closing_node) ≡ parents_of before = parents_closed now (g - 1) ∙ k.parents in
    let under : IsLast (parents_of before) g (length (parents_of before)) child = subst (λ ps. IsLast ps g (length ps) child) (ap parents_of e ∙ same) last in
    let was : slice_get now (g - 1) ≡ slice_get before (g - 1) = k.only (g - 1) ∙ rw l refl in
    let marked : or_false (slice_get (marks root before) (g - 1)) ≡ true = by_node (slice_get before (g - 1)) refl (subst (λ o. is_live_node o ≡ true) was l) all.1 in
    let whole : Walks root before (with_node now (g - 1) closing_node) ((pending ++ option_to_list previous) ++ option_to_list child) = record {
      rightful = k.rightful;
      parents = same;
      closed = by_root (root - 1 == (g - 1)) refl;
      only = only_closed root before now (g - 1) k.only l marked;
      inside = All-append P (pending ++ option_to_list previous) (option_to_list child) (All-append P pending (option_to_list previous) all.0 (pending_next root before g previous all.1 of)) (pending_child root before g (length (parents_of before)) child marked under);
      later = later_closed before now (pending ++ option_to_list previous) g child k.rightful all.1.0 under (λ p i o a u d. later_next (parents_of before) pending g p i previous of o u (k.later p i a u d));
      room =
          let a = length-append pending (g ∷ []) in
          let b = length-append pending (option_to_list previous) in
          let c = length-append (pending ++ option_to_list previous) (option_to_list child) in
          let m = at_most_one previous in
          let n = at_most_one child in
          let s = live_closed now (g - 1) l in
          let r = k.room in
          omega (arith, a, b, c, m, n, s, r);
    } in
    rw e whole
  where
    or_true : (b : Bool) → (b || true) ≡ true
    or_true true = refl
    or_true false = refl

    by_node : (o : Option Node) → slice_get before (g - 1) ≡ o → is_live_node (slice_get before (g - 1)) ≡ true → IsPending root before g → or_false (slice_get (marks root before) (g - 1)) ≡ true
    by_node None w h p = absurd (let z : is_live_node None ≡ true = subst (λ o. is_live_node o ≡ true) w h in cc)
    by_node (Some x) w h p = mark_at root before k.rightful (g - 1) x w ∙ rw p.1 (or_true (g - 1 + 1 == root))

    by_root : (b : Bool) → (root - 1 == (g - 1)) ≡ b → is_live_node (slice_get (with_node now (g - 1) closing_node) (root - 1)) ≡ false
    by_root true w = dead_there now (g - 1) (root - 1) (grind (arith, nat_tests, w))
    by_root false w = ap is_live_node (get_with_node now closing_node (g - 1) (root - 1) ∙ rw w refl) ∙ k.closed

-- ---- it comes nearer its end

next_less : (root : ℕ) (before : List Node) (g : ℕ) (found : Option ℕ) → IsPending root before g → IsPrevious (parents_of before) g found → sum (option_to_list found) + 1 ≤ g
next_less root before g None w v = let some : 0 < g = w.0 in omega (arith, some)
next_less root before g (Some m) w v = by_parent (get_or (parents_of before) (g - 1) None) refl
  where
    by_parent : (o : Option ℕ) → get_or (parents_of before) (g - 1) None ≡ o → sum (m ∷ []) + 1 ≤ g
    by_parent None e = absurd (let z : is_marked None (marks root before) ≡ true = subst (λ o. is_marked o (marks root before) ≡ true) e w.1 in cc)
    by_parent (Some p) e =
        let same : (p == p) ≡ true = grind (arith, nat_tests) in
        let last : IsLast (parents_of before) p (g - 1) (Some m) = v p (rw e same) in
        let most : m ≤ g - 1 = last.0.1 in
        let some : 0 < g = w.0 in
        let total : sum (m ∷ []) ≡ m = omega arith in
        omega (arith, most, some, total)

child_most : (ps : List (Option ℕ)) (g n : ℕ) (found : Option ℕ) → IsLast ps g n found → sum (option_to_list found) ≤ n
child_most ps g n None l = omega arith
child_most ps g n (Some m) l = let most : m ≤ n = l.0.1 in let total : sum (m ∷ []) ≡ m = omega arith in omega (arith, most, total)

pub nearer_passed : (root : ℕ) (before now : List Node) (pending : List ℕ) (g : ℕ) (previous : Option ℕ) → Walks root before now (pending ++ g ∷ []) → IsPrevious (parents_of now) g previous → left now (pending ++ option_to_list previous) < left now (pending ++ g ∷ [])
nearer_passed root before now pending g previous k v =
    let P : ℕ → Type 0 = IsPending root before in
    let all : All P pending × P g = All-pop P (pending ++ g ∷ []) pending (Some g) refl k.inside in
    let less = next_less root before g previous all.1 (subst (λ ps. IsPrevious ps g previous) k.parents v) in
    let a : sum (pending ++ g ∷ []) ≡ sum pending + sum (g ∷ []) = sum_by-append (λ x. x) pending (g ∷ []) in
    let b : sum (pending ++ option_to_list previous) ≡ sum pending + sum (option_to_list previous) = sum_by-append (λ x. x) pending (option_to_list previous) in
    let c : sum (g ∷ []) ≡ g = omega arith in
    omega (arith, less, a, b, c)

pub nearer_closed : (root : ℕ) (before now next : List Node) (pending : List ℕ) (g : ℕ) (previous child : Option ℕ) → Walks root before now (pending ++ g ∷ []) → is_live_node (slice_get now (g - 1)) ≡ true → IsPrevious (parents_of now) g previous → next ≡ with_node now (g - 1) closing_node → IsLast (parents_of next) g (length (parents_of next)) child → length next ≤ 4096 → left next ((pending ++ option_to_list previous) ++ option_to_list child) < left now (pending ++ g ∷ [])
nearer_closed root before now next pending g previous child k l v e last few =
    let P : ℕ → Type 0 = IsPending root before in
    let all : All P pending × P g = All-pop P (pending ++ g ∷ []) pending (Some g) refl k.inside in
    let less = next_less root before g previous all.1 (subst (λ ps. IsPrevious ps g previous) k.parents v) in
    let most = child_most (parents_of next) g (length (parents_of next)) child last in
    let n = length-map next (λ x. parent_of x.line) in
    let a : sum (pending ++ g ∷ []) ≡ sum pending + sum (g ∷ []) = sum_by-append (λ x. x) pending (g ∷ []) in
    let b : sum (pending ++ option_to_list previous) ≡ sum pending + sum (option_to_list previous) = sum_by-append (λ x. x) pending (option_to_list previous) in
    let d : sum ((pending ++ option_to_list previous) ++ option_to_list child) ≡ sum (pending ++ option_to_list previous) + sum (option_to_list child) = sum_by-append (λ x. x) (pending ++ option_to_list previous) (option_to_list child) in
    let c : sum (g ∷ []) ≡ g = omega arith in
    let s : live_count next + 1 ≡ live_count now = ap (λ ns. live_count ns + 1) e ∙ live_closed now (g - 1) l in
    omega (arith, less, most, n, few, a, b, c, d, s)

-- ---- its end

-- all of the subtree are closed
all_dead : (root : ℕ) (before now : List Node) → Walks root before now [] → 0 < root → (n i : ℕ) → i < n → or_false (slice_get (marks root before) i) ≡ true → is_live_node (slice_get now i) ≡ false
all_dead root before now k some zero i h m = absurd (omega (arith, h))
all_dead root before now k some (suc n) i h m = by_live (λ j h m. all_dead root before now k some n j h m) (is_live_node (slice_get now i)) refl
  where
    by_live : ((j : ℕ) → j < n → or_false (slice_get (marks root before) j) ≡ true → is_live_node (slice_get now j) ≡ false) → (b : Bool) → is_live_node (slice_get now i) ≡ b → is_live_node (slice_get now i) ≡ false
    by_live earlier false l = l
    by_live earlier true l = by_node (slice_get before i) refl
      where
        was : slice_get now i ≡ slice_get before i
        was = k.only i ∙ rw l refl

        by_node : (o : Option Node) → slice_get before i ≡ o → is_live_node (slice_get now i) ≡ false
        by_node None e = absurd (let z : is_live_node None ≡ true = subst (λ o. is_live_node o ≡ true) (was ∙ e) l in cc)
        by_node (Some x) e = by_root (i + 1 == root) refl
          where
            by_root : (b : Bool) → (i + 1 == root) ≡ b → is_live_node (slice_get now i) ≡ false
            by_root true w = let s : root - 1 ≡ i = let z : i + 1 ≡ root = grind (arith, nat_tests, w) in omega (arith, z) in subst (λ j. is_live_node (slice_get now j) ≡ false) s k.closed
            by_root false w = by_parent (get_or (parents_of before) i None) refl
              where
                marked : is_marked (get_or (parents_of before) i None) (marks root before) ≡ true
                marked = let z : ((i + 1 == root) || is_marked (get_or (parents_of before) i None) (marks root before)) ≡ true = sym (mark_at root before k.rightful i x e) ∙ m in subst (λ b. (b || is_marked (get_or (parents_of before) i None) (marks root before)) ≡ true) w z

                by_parent : (o : Option ℕ) → get_or (parents_of before) i None ≡ o → is_live_node (slice_get now i) ≡ false
                by_parent None v = absurd (let z : is_marked None (marks root before) ≡ true = subst (λ o. is_marked o (marks root before) ≡ true) v marked in cc)
                by_parent (Some p) v =
                    let same : (p == p) ≡ true = grind (arith, nat_tests) in
                    let under : is_under (parents_of before) p i ≡ true = rw v same in
                    let above = under_some before k.rightful p i under in
                    let a : 0 < p = above.0 in
                    let c : p ≤ i = above.1 in
                    let up : or_false (slice_get (marks root before) (p - 1)) ≡ true = subst (λ o. is_marked o (marks root before) ≡ true) v marked in
                    let dead : is_live_node (slice_get now (p - 1)) ≡ false = earlier (p - 1) (omega (arith, a, c, h)) up in
                    absurd (let z : is_later (parents_of before) [] p i ≡ true = k.later p i l under dead in cc)

pub walks_all : (root : ℕ) (before now : List Node) → Walks root before now [] → 0 < root → now ≡ close_where (marks root before) before
walks_all root before now k some = same_places now (close_where (marks root before) before) (λ i. by_live i (is_live_node (slice_get now i)) refl ∙ sym (get_close (marks root before) before i))
  where
    by_live : (i : ℕ) (b : Bool) → is_live_node (slice_get now i) ≡ b → slice_get now i ≡ on_node (close_if (or_false (slice_get (marks root before) i))) (slice_get before i)
    by_live i false l = k.only i ∙ rw l refl
    by_live i true l = by_mark (or_false (slice_get (marks root before) i)) refl
      where
        still : (o : Option Node) → o ≡ on_node (close_if false) o
        still None = refl
        still (Some x) = refl

        by_mark : (m : Bool) → or_false (slice_get (marks root before) i) ≡ m → slice_get now i ≡ on_node (close_if m) (slice_get before i)
        by_mark true m = absurd (let z = all_dead root before now k some (i + 1) i (omega arith) m in grind (arith, z, l))
        by_mark false m = k.only i ∙ (rw l refl ∙ still (slice_get before i))

pub no_pending : (pending : List ℕ) → length pending ≡ 0 → pending ≡ []
no_pending [] e = refl
no_pending (x ∷ xs) e = absurd (omega (arith, e))

pub live_number : (gs : List Grant) (g : ℕ) → is_live_in (grant_in gs g) ≡ true → 0 < g
live_number gs zero l = absurd (cc)
live_number gs (suc g) l = omega arith
