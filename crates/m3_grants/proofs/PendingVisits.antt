-- Who is live, who is pending, and who is visited later.
use Rattle.std.proofs.Common.{cond, ◌≡◌, ◌≢◌, ℕ, ◌+◌, ◌-◌, ◌<◌, ◌≤◌, Bool, true, false, ◌&&◌, ◌||◌, List, [], ◌∷◌, ◌++◌, length, Some, None, refl, sym, ◌∙◌, ap, subst, arith, get_or, option_to_list, All}
use Rattle.std.specs.Prelude.{Option, ◌==◌, nat_lt, slice_get, slice_set}
use Rattle.std.proofs.lemmas.Option.{slice_get_within, get_or_from_slice_get}
use Rattle.std.proofs.lemmas.List.{get_or_past}
use Rattle.std.proofs.lemmas.List.Sums.{sum_by-set, count_by-le-length}
use Rattle.std.proofs.lemmas.List.Folds.{list_any-append}
use Rattle.std.proofs.lemmas.List.Elements.{All-nil, All-push}
use Rattle.std.proofs.lemmas.Bool.Decides.{nat_tests}
use Rattle.m3_base.specs.Ideal.State.{parent_of, grant_in, is_live}
use Rattle.m3_base.specs.Ideal.GrantRules.{is_marked, or_false}
use Rattle.m3_base.specs.declared.grants.node.Node.{Node}
use Rattle.m3_base.specs.Setup.GrantTable.{is_live_in, as_grant, grants_of, grant_of, with_node, is_before, is_rightful, is_live_above}
use Rattle.m3_grants.specs.NodeView.{closing_node, is_live_stage, is_live_node, AllRightful}
use Rattle.m3_grants.specs.DueIndexView.{parents_of}
use Rattle.m3_grants.specs.Siblings.{is_under, IsLast, IsPrevious}
use Rattle.m3_grants.specs.SubtreeWalk.{live_count, marks, IsPending, is_later}
use Rattle.m3_base.proofs.GrantTableLookup.{found}
use Rattle.m3_grants.proofs.NodeLookup.{read, mapped_at, mapped_same}
use Rattle.m3_grants.proofs.SubtreeMarks.{mark_is}
use Rattle.m3_grants.proofs.RevokeSubtree.{live_stage}
use Rattle.m3_base.proofs.Options.{some_if_number}

-- ---- parents

abbrev parent_in : Option Node → Option ℕ
parent_in = read (λ x. parent_of x.line)

pub parents_closed : (nodes : List Node) (i : ℕ) → parents_of (with_node nodes i closing_node) ≡ parents_of nodes
parents_closed nodes i = by_node (slice_get nodes i) refl
  where
    by_node : (o : Option Node) → slice_get nodes i ≡ o → parents_of (with_node nodes i closing_node) ≡ parents_of nodes
    by_node None e = rw e refl
    by_node (Some x) e = rw e (mapped_same (λ y. parent_of y.line) nodes i x (closing_node x) e refl)

-- a parent stands before
pub before_at : (nodes : List Node) → AllRightful (grants_of nodes) → (i : ℕ) → is_before (get_or (parents_of nodes) i None) i ≡ true
before_at nodes r i = rw (mapped_at (λ x. parent_of x.line) nodes i) (by_node (slice_get nodes i) (subst (λ o. is_rightful (grants_of nodes) i o ≡ true) (found nodes i) (r i)))
  where
    by_node : (o : Option Node) → is_rightful (grants_of nodes) i (grant_of o) ≡ true → is_before (parent_in o) i ≡ true
    by_node None e = refl
    by_node (Some x) e = grind (arith, e)

pub under_some : (nodes : List Node) → AllRightful (grants_of nodes) → (p i : ℕ) → is_under (parents_of nodes) p i ≡ true → (0 < p) × (p ≤ i)
under_some nodes r p i u =
    let b : is_before (Some p) i ≡ true = subst (λ o. is_before o i ≡ true) (some_if_number p (get_or (parents_of nodes) i None) u) (before_at nodes r i) in
    grind (arith, nat_tests, b)

-- a parent of one that is live is live
pub above_live : (nodes : List Node) → AllRightful (grants_of nodes) → (p i : ℕ) → is_live_node (slice_get nodes i) ≡ true → is_under (parents_of nodes) p i ≡ true → is_live_node (slice_get nodes (p - 1)) ≡ true
above_live nodes r p i l u = by_node (slice_get nodes i) refl
  where
    up : is_live_above (grants_of nodes) (Some p) ≡ true → is_live_node (slice_get nodes (p - 1)) ≡ true
    up e = by_above (slice_get nodes (p - 1)) (subst (λ o. is_live_in o ≡ true) there e)
      where
        there : grant_in (grants_of nodes) p ≡ grant_of (slice_get nodes (p - 1))
        there = let some = under_some nodes r p i u in grind (arith, nat_tests, found nodes (p - 1), some.0)

        by_above : (o : Option Node) → is_live_in (grant_of o) ≡ true → is_live_node o ≡ true
        by_above None e = e
        by_above (Some x) e = sym (live_stage x) ∙ e

    by_node : (o : Option Node) → slice_get nodes i ≡ o → is_live_node (slice_get nodes (p - 1)) ≡ true
    by_node None e = absurd (let z : is_live_node None ≡ true = subst (λ o. is_live_node o ≡ true) e l in cc)
    by_node (Some x) e =
        let this : is_rightful (grants_of nodes) i (Some (as_grant x)) ≡ true = subst (λ o. is_rightful (grants_of nodes) i o ≡ true) (found nodes i ∙ ap grant_of e) (r i) in
        let live : is_live_stage x.stage ≡ true = subst (λ o. is_live_node o ≡ true) e l in
        let parent : parent_of x.line ≡ Some p = sym (ap parent_in e) ∙ (sym (mapped_at (λ x. parent_of x.line) nodes i) ∙ some_if_number p (get_or (parents_of nodes) i None) u) in
        let standing : is_live (as_grant x).standing ≡ true = live_stage x ∙ live in
        let above : is_live_above (grants_of nodes) (parent_of x.line) ≡ true = grind (arith, this, standing) in
        up (subst (λ q. is_live_above (grants_of nodes) q ≡ true) parent above)

-- the mark of a place, by its parent
pub mark_at : (root : ℕ) (nodes : List Node) → AllRightful (grants_of nodes) → (i : ℕ) (x : Node) → slice_get nodes i ≡ Some x → or_false (slice_get (marks root nodes) i) ≡ ((i + 1 == root) || is_marked (get_or (parents_of nodes) i None) (marks root nodes))
mark_at root nodes r i x e =
    let at : slice_get (grants_of nodes) i ≡ Some (as_grant x) = found nodes i ∙ ap grant_of e in
    let p : get_or (parents_of nodes) i None ≡ parent_of x.line = mapped_at (λ x. parent_of x.line) nodes i ∙ ap parent_in e in
    let b : is_before (parent_of x.line) i ≡ true = subst (λ o. is_before o i ≡ true) p (before_at nodes r i) in
    mark_is root (grants_of nodes) i (as_grant x) at b ∙ ap (λ o. (i + 1 == root) || is_marked o (marks root nodes)) (sym p)

-- ---- how many are live

pub live_closed : (nodes : List Node) (i : ℕ) → is_live_node (slice_get nodes i) ≡ true → live_count (with_node nodes i closing_node) + 1 ≡ live_count nodes
live_closed nodes i l = by_node (slice_get nodes i) refl
  where
    by_node : (o : Option Node) → slice_get nodes i ≡ o → live_count (with_node nodes i closing_node) + 1 ≡ live_count nodes
    by_node None e = absurd (let z : is_live_node None ≡ true = subst (λ o. is_live_node o ≡ true) e l in cc)
    by_node (Some x) e =
        let h : i < length nodes = slice_get_within nodes i x e in
        let live : is_live_stage x.stage ≡ true = subst (λ o. is_live_node o ≡ true) e l in
        let f : Node → ℕ = λ y. cond (is_live_stage y.stage) 1 0 in
        let sums : live_count (slice_set nodes i (closing_node x)) + f (get_or nodes i x) ≡ live_count nodes + f (closing_node x) = sum_by-set f nodes i (closing_node x) x h in
        let was : f (get_or nodes i x) ≡ 1 = ap f (get_or_from_slice_get nodes i x x e) ∙ rw live refl in
        let gone : f (closing_node x) ≡ 0 = refl in
        rw e (omega (arith, sums, was, gone))

pub live_most : (nodes : List Node) → live_count nodes ≤ length nodes
live_most nodes = count_by-le-length (λ x. is_live_stage x.stage) nodes

pub live_some : (nodes : List Node) (i : ℕ) → is_live_node (slice_get nodes i) ≡ true → 0 < live_count nodes
live_some nodes i l = let e = live_closed nodes i l in omega (arith, e)

-- ---- who is visited later

-- one more is pending
pub later_more : (ps : List (Option ℕ)) (pending more : List ℕ) (p i : ℕ) → is_later ps pending p i ≡ true → is_later ps (pending ++ more) p i ≡ true
later_more ps pending more p i e = list_any-append (λ h. is_under ps p (h - 1) && nat_lt i h) pending more ∙ rw e refl

pub later_last : (ps : List (Option ℕ)) (pending more : List ℕ) (p i : ℕ) → is_later ps more p i ≡ true → is_later ps (pending ++ more) p i ≡ true
later_last ps pending more p i e = list_any-append (λ h. is_under ps p (h - 1) && nat_lt i h) pending more ∙ rw e (or_true (is_later ps pending p i))
  where
    or_true : (b : Bool) → (b || true) ≡ true
    or_true true = refl
    or_true false = refl

-- all under p before the place n are visited with the last of them
pub later_found : (ps : List (Option ℕ)) (p n i : ℕ) (found : Option ℕ) → IsLast ps p n found → i < n → is_under ps p i ≡ true → is_later ps (option_to_list found) p i ≡ true
later_found ps p n i None l h u = absurd (let z : is_under ps p i ≡ false = l i h in grind (arith, z, u))
later_found ps p n i (Some m) l h u = by_place (nat_lt i m) refl
  where
    by_place : (b : Bool) → nat_lt i m ≡ b → is_later ps (m ∷ []) p i ≡ true
    by_place true w = rw (l.1.0, w) refl
    by_place false w = absurd (let past : m ≤ i = grind (arith, nat_tests, w) in let z : is_under ps p i ≡ false = l.1.1 i past h in grind (arith, z, u))

-- the one at the end was visited: those before it wait for the one before it
pub later_next : (ps : List (Option ℕ)) (pending : List ℕ) (g p i : ℕ) (found : Option ℕ) → IsPrevious ps g found → i ≢ g - 1 → is_under ps p i ≡ true → is_later ps (pending ++ g ∷ []) p i ≡ true → is_later ps (pending ++ option_to_list found) p i ≡ true
later_next ps pending g p i found v other under e = by_first (is_later ps pending p i) refl
  where
    both : (is_later ps pending p i || is_later ps (g ∷ []) p i) ≡ true
    both = sym (list_any-append (λ h. is_under ps p (h - 1) && nat_lt i h) pending (g ∷ [])) ∙ e

    by_last : (b c : Bool) → is_under ps p (g - 1) ≡ b → nat_lt i g ≡ c → is_later ps (g ∷ []) p i ≡ true → is_later ps (pending ++ option_to_list found) p i ≡ true
    by_last true true u l k = let h : i < g - 1 = let z : i < g = grind (arith, nat_tests, l) in omega (arith, z, other) in later_last ps pending (option_to_list found) p i (later_found ps p (g - 1) i found (v p u) h under)
    by_last true false u l k = absurd (grind (arith, u, l, k))
    by_last false c u l k = absurd (grind (arith, u, k))

    by_first : (b : Bool) → is_later ps pending p i ≡ b → is_later ps (pending ++ option_to_list found) p i ≡ true
    by_first true w = later_more ps pending (option_to_list found) p i w
    by_first false w = let last : is_later ps (g ∷ []) p i ≡ true = subst (λ b. (b || is_later ps (g ∷ []) p i) ≡ true) w both in by_last (is_under ps p (g - 1)) (nat_lt i g) refl refl last

pub under_within : (ps : List (Option ℕ)) (p i : ℕ) → is_under ps p i ≡ true → i < length ps
under_within ps p i u = by_place (nat_lt i (length ps)) refl
  where
    by_place : (b : Bool) → nat_lt i (length ps) ≡ b → i < length ps
    by_place true w = grind (arith, nat_tests, w)
    by_place false w = absurd (let z : get_or ps i None ≡ None = get_or_past ps i None (grind (arith, nat_tests, w)) in grind (arith, z, u))

-- ---- who is pending

pub pending_next : (root : ℕ) (before : List Node) (g : ℕ) (found : Option ℕ) → IsPending root before g → IsPrevious (parents_of before) g found → All (IsPending root before) (option_to_list found)
pending_next root before g None w v = All-nil (IsPending root before)
pending_next root before g (Some m) w v = by_parent (get_or (parents_of before) (g - 1) None) refl
  where
    by_parent : (o : Option ℕ) → get_or (parents_of before) (g - 1) None ≡ o → All (IsPending root before) (m ∷ [])
    by_parent None e = absurd (let z : is_marked None (marks root before) ≡ true = subst (λ o. is_marked o (marks root before) ≡ true) e w.1 in cc)
    by_parent (Some p) e =
        let same : (p == p) ≡ true = grind (arith, nat_tests) in
        let under : is_under (parents_of before) p (g - 1) ≡ true = rw e same in
        let last : IsLast (parents_of before) p (g - 1) (Some m) = v p under in
        let parent : get_or (parents_of before) (m - 1) None ≡ get_or (parents_of before) (g - 1) None = some_if_number p (get_or (parents_of before) (m - 1) None) last.1.0 ∙ sym e in
        All-push (IsPending root before) [] m (All-nil (IsPending root before)) (last.0.0, rw parent w.1)

pub pending_child : (root : ℕ) (before : List Node) (g n : ℕ) (found : Option ℕ) → or_false (slice_get (marks root before) (g - 1)) ≡ true → IsLast (parents_of before) g n found → All (IsPending root before) (option_to_list found)
pending_child root before g n None w l = All-nil (IsPending root before)
pending_child root before g n (Some m) w l =
    let parent : get_or (parents_of before) (m - 1) None ≡ Some g = some_if_number g (get_or (parents_of before) (m - 1) None) l.1.0 in
    All-push (IsPending root before) [] m (All-nil (IsPending root before)) (l.0.0, rw parent w)
