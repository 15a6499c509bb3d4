-- A revoke, grant after grant, closes what is marked.
use Rattle.std.proofs.Common.{◌≡◌, ℕ, zero, suc, ◌+◌, ◌-◌, ◌<◌, Bool, true, false, ◌&&◌, ◌||◌, List, [], ◌∷◌, length, Some, None, refl, sym, ◌∙◌, ap, subst, arith}
use Rattle.std.specs.Prelude.{Option, if◌then◌else◌, ◌==◌, slice_get}
use Rattle.m3_base.specs.Ideal.State.{Standing, Grant, grant_in, undone, parent_of, is_live}
use Rattle.m3_base.specs.Ideal.GrantRules.{is_marked, or_false, to_closing, closing_where, after_revoke, change_grant}
use Rattle.m3_base.specs.declared.grants.node.Node.{Node}
use Rattle.m3_base.specs.declared.grants.node.Stage.{Stage}
use Rattle.m3_base.specs.Setup.GrantTable.{is_live_in, on_node, as_grant, grants_of, grant_of, standing_of, IsTree, Counts, with_node, is_before, is_live_above, is_rightful}
use Rattle.m3_grants.specs.NodeView.{root_node, is_live_stage, close_if, close_where}
use Rattle.m3_base.proofs.GrantTableLookup.{found, length_with_node}
use Rattle.m3_grants.proofs.NodeLookup.{grants_changed}
use Rattle.m3_grants.proofs.StandingChanges.{Alike, alike_same, Keeps, keeps_same, rightful_kept, tree_alike}
use Rattle.m3_grants.proofs.MarkCloseSent.{get_changed, counts_changed}
use Rattle.m3_grants.proofs.SubtreeMarks.{marks_of, mark, mark_is}
use Rattle.m3_base.proofs.GrantsByNumber.{grant_in-suc}

-- ---- place by place

pub get_close : (bs : List Bool) (nodes : List Node) (k : ℕ) → slice_get (close_where bs nodes) k ≡ on_node (close_if (or_false (slice_get bs k))) (slice_get nodes k)
get_close [] nodes k = by_node (slice_get nodes k)
  where
    by_node : (o : Option Node) → o ≡ on_node (close_if false) o
    by_node None = refl
    by_node (Some x) = refl
get_close (b ∷ bs) [] k = refl
get_close (b ∷ bs) (x ∷ xs) zero = refl
get_close (b ∷ bs) (x ∷ xs) (suc k) = get_close bs xs k

pub length_close : (bs : List Bool) (nodes : List Node) → length (close_where bs nodes) ≡ length nodes
length_close [] nodes = refl
length_close (b ∷ bs) [] = refl
length_close (b ∷ bs) (x ∷ xs) = grind (arith, length_close bs xs)

pub same_places : {X : Type 0} (xs ys : List X) → ((k : ℕ) → slice_get xs k ≡ slice_get ys k) → xs ≡ ys
same_places [] [] h = refl
same_places [] (y ∷ ys) h = absurd (let z = h 0 in cc)
same_places (x ∷ xs) [] h = absurd (let z = h 0 in cc)
same_places (x ∷ xs) (y ∷ ys) h =
    let head : x ≡ y = let z = h 0 in grind (arith, z) in
    let later : xs ≡ ys = same_places xs ys (λ k. h (suc k)) in
    rw (head, later) refl

-- ---- what is live

pub live_stage : (x : Node) → is_live (standing_of x.stage) ≡ is_live_stage x.stage
live_stage x = by_stage x.stage
  where
    by_stage : (s : Stage) → is_live (standing_of s) ≡ is_live_stage s
    by_stage Stage.Live = refl
    by_stage Stage.Closing = refl
    by_stage Stage.Done = refl

-- ---- the grants

close_grant : (b : Bool) (x : Node) → as_grant (close_if b x) ≡ to_closing b (as_grant x)
close_grant b x = by_stage b x.stage refl
  where
    by_stage : (b : Bool) (s : Stage) → x.stage ≡ s → as_grant (close_if b x) ≡ to_closing b (as_grant x)
    by_stage true Stage.Live w = grind (arith, w)
    by_stage true Stage.Closing w = grind (arith, w)
    by_stage true Stage.Done w = grind (arith, w)
    by_stage false s w = refl

grants_close : (bs : List Bool) (nodes : List Node) → grants_of (close_where bs nodes) ≡ closing_where bs (grants_of nodes)
grants_close [] nodes = refl
grants_close (b ∷ bs) [] = refl
grants_close (b ∷ bs) (x ∷ xs) = rw (close_grant b x, grants_close bs xs) refl

abbrev pub on_grant : (Grant → Grant) → Option Grant → Option Grant
on_grant f None = None
on_grant f (Some x) = Some (f x)

grant_closed : (g : ℕ) (nodes : List Node) (k : ℕ) → slice_get (grants_of (close_where (marks_of g (grants_of nodes)) nodes)) k ≡ on_grant (to_closing (mark g (grants_of nodes) k)) (slice_get (grants_of nodes) k)
grant_closed g nodes k = found (close_where (marks_of g (grants_of nodes)) nodes) k ∙ (ap grant_of (get_close (marks_of g (grants_of nodes)) nodes k) ∙ (by_node (slice_get nodes k) ∙ ap (on_grant (to_closing (mark g (grants_of nodes) k))) (sym (found nodes k))))
  where
    by_node : (o : Option Node) → grant_of (on_node (close_if (mark g (grants_of nodes) k)) o) ≡ on_grant (to_closing (mark g (grants_of nodes) k)) (grant_of o)
    by_node None = refl
    by_node (Some x) = ap Some (close_grant (mark g (grants_of nodes) k) x)

alike_closed : (b : Bool) (o : Option Grant) → Alike o (on_grant (to_closing b) o)
alike_closed b None = tt
alike_closed b (Some x) = by_standing b x.standing refl
  where
    by_standing : (b : Bool) (s : Standing) → x.standing ≡ s → Alike (Some x) (Some (to_closing b x))
    by_standing false s w = (refl, (refl, refl))
    by_standing true Standing.Live w = rw w (refl, (refl, grind (arith, w)))
    by_standing true Standing.Closing w = rw w (refl, (refl, grind (arith, w)))
    by_standing true Standing.Closed w = rw w (refl, (refl, grind (arith, w)))
    by_standing true Standing.Done w = rw w (refl, (refl, grind (arith, w)))

counts_closed : (b : Bool) (n : ℕ) (o : Option Node) → Counts n o → Counts n (on_node (close_if b) o)
counts_closed b n None h = h
counts_closed b n (Some x) h = by_live (b && is_live_stage x.stage)
  where
    by_live : (c : Bool) → (if c then record x { stage = Stage.Closing } else x).children ≡ n
    by_live true = h
    by_live false = h

live_after : (g : ℕ) (nodes : List Node) (p : Option ℕ) → is_live_above (grants_of nodes) p ≡ true → is_marked p (marks_of g (grants_of nodes)) ≡ false → is_live_above (grants_of (close_where (marks_of g (grants_of nodes)) nodes)) p ≡ true
live_after g nodes None l m = refl
live_after g nodes (Some zero) l m = absurd (cc)
live_after g nodes (Some (suc p)) l m =
    let e : suc p - 1 ≡ p = omega arith in
    let unmarked : mark g (grants_of nodes) p ≡ false = subst (λ k. mark g (grants_of nodes) k ≡ false) e m in
    let was : is_live_in (slice_get (grants_of nodes) p) ≡ true = subst (λ o. is_live_in o ≡ true) (grant_in-suc (grants_of nodes) p) l in
    rw (grant_in-suc (grants_of (close_where (marks_of g (grants_of nodes)) nodes)) p, grant_closed g nodes p, unmarked) (by_grant (slice_get (grants_of nodes) p) was)
  where
    by_grant : (o : Option Grant) → is_live_in o ≡ true → is_live_in (on_grant (to_closing false) o) ≡ true
    by_grant None v = absurd (cc)
    by_grant (Some x) v = v

rightful_closed : (g : ℕ) (nodes : List Node) (i : ℕ) (o : Option Grant) → slice_get (grants_of nodes) i ≡ o → is_rightful (grants_of nodes) i o ≡ true → is_rightful (grants_of (close_where (marks_of g (grants_of nodes)) nodes)) i (on_grant (to_closing (mark g (grants_of nodes) i)) o) ≡ true
rightful_closed g nodes i None e r = refl
rightful_closed g nodes i (Some x) e r = by_live (is_live x.standing) (mark g (grants_of nodes) i) refl refl
  where
    before : is_before (parent_of x.line) i ≡ true
    before = grind (arith, r)

    by_live : (b c : Bool) → is_live x.standing ≡ b → mark g (grants_of nodes) i ≡ c → is_rightful (grants_of (close_where (marks_of g (grants_of nodes)) nodes)) i (Some (to_closing (mark g (grants_of nodes) i) x)) ≡ true
    by_live false c w m = let still : to_closing (mark g (grants_of nodes) i) x ≡ x = grind (arith, w) in rw still (grind (arith, before, w))
    by_live true true w m = rw m (grind (arith, before, w))
    by_live true false w m =
        let unmarked : is_marked (parent_of x.line) (marks_of g (grants_of nodes)) ≡ false = by_or (i + 1 == g) (is_marked (parent_of x.line) (marks_of g (grants_of nodes))) (sym (mark_is g (grants_of nodes) i x e before) ∙ m) in
        let above : is_live_above (grants_of nodes) (parent_of x.line) ≡ true = grind (arith, r, w) in
        let sent : x.close_sent ≡ false = grind (arith, r, w) in
        let after : is_live_above (grants_of (close_where (marks_of g (grants_of nodes)) nodes)) (parent_of x.line) ≡ true = live_after g nodes (parent_of x.line) above unmarked in
        rw (m, before, w, after, sent) refl
      where
        by_or : (b c : Bool) → (b || c) ≡ false → c ≡ false
        by_or true c v = absurd (cc)
        by_or false c v = v

tree_closed : (nodes : List Node) (table : List (Option ℕ)) (g : ℕ) → IsTree nodes table → IsTree (close_where (marks_of g (grants_of nodes)) nodes) table
tree_closed nodes table g t =
    let news = close_where (marks_of g (grants_of nodes)) nodes in
    tree_alike nodes news table t (length_close (marks_of g (grants_of nodes)) nodes)
    (λ i. subst (Alike (slice_get (grants_of nodes) i)) (sym (grant_closed g nodes i)) (alike_closed (mark g (grants_of nodes) i) (slice_get (grants_of nodes) i)))
    (λ i n h. subst (Counts n) (sym (get_close (marks_of g (grants_of nodes)) nodes i)) (counts_closed (mark g (grants_of nodes) i) n (slice_get nodes i) h))
    (λ i. subst (λ o. is_rightful (grants_of news) i o ≡ true) (sym (grant_closed g nodes i)) (rightful_closed g nodes i (slice_get (grants_of nodes) i) refl (t.rightful i)))

-- ---- the root

alike_root : (o : Option Node) → Alike (grant_of o) (grant_of (on_node root_node o))
alike_root None = tt
alike_root (Some x) = (refl, (refl, refl))

keeps_root : (o : Option Node) → Keeps (grant_of o) (grant_of (on_node root_node o))
keeps_root None = tt
keeps_root (Some x) = (refl, (refl, refl))

counts_root : (n : ℕ) (o : Option Node) → Counts n o → Counts n (on_node root_node o)
counts_root n None h = h
counts_root n (Some x) h = h

pub tree_revoked : (nodes : List Node) (table : List (Option ℕ)) (g : ℕ) → IsTree nodes table → IsTree (with_node (close_where (marks_of g (grants_of nodes)) nodes) (g - 1) root_node) table
tree_revoked nodes table g t =
    let mid = close_where (marks_of g (grants_of nodes)) nodes in
    let news = with_node mid (g - 1) root_node in
    let k : IsTree mid table = tree_closed nodes table g t in
    tree_alike mid news table k (length_with_node mid root_node (g - 1))
    (get_changed Alike mid root_node (g - 1) alike_same (alike_root (slice_get mid (g - 1))))
    (counts_changed mid root_node (g - 1) counts_root)
    (rightful_kept (grants_of mid) (grants_of news) (get_changed Keeps mid root_node (g - 1) keeps_same (keeps_root (slice_get mid (g - 1)))) k.rightful)

pub grants_revoked : (nodes : List Node) (g : ℕ) → 0 < g → grants_of (with_node (close_where (marks_of g (grants_of nodes)) nodes) (g - 1) root_node) ≡ after_revoke (grants_of nodes) g
grants_revoked nodes g h =
    grants_changed (close_where (marks_of g (grants_of nodes)) nodes) root_node (λ x. record x { is_root = true }) g h (λ x. refl)
    ∙ ap (λ gs. change_grant gs g (λ x. record x { is_root = true })) (grants_close (marks_of g (grants_of nodes)) nodes)

pub some_undone : (gs : List Grant) (g : ℕ) (x : Grant) → undone (grant_in gs g) ≡ Some x → 0 < g
some_undone gs zero x e = absurd (cc)
some_undone gs (suc g) x e = omega arith
