-- Grants that change in their standing alone leave most of the tree's facts as they are.
use Rattle.std.proofs.Common.{cond, ◌≡◌, ℕ, zero, suc, ◌+◌, Bool, true, false, ◌&&◌, List, [], ◌∷◌, length, Some, None, refl, sym, ◌∙◌, ap, arith}
use Rattle.std.specs.Prelude.{Option, slice_get, count_by}
use Rattle.m3_base.specs.Ideal.State.{Grant, grant_in, is_done, is_live, parent_of}
use Rattle.m3_base.specs.Ideal.GrantRules.{is_open_child}
use Rattle.m3_base.specs.declared.grants.node.Node.{Node}
use Rattle.m3_base.specs.Setup.GrantTable.{holds_in, is_live_in, grants_of, IsTree, IsRange, Counts, is_rightful, is_live_above}
use Rattle.m3_grants.proofs.NodeLookup.{count_cons}
use Rattle.m3_base.proofs.GrantsByNumber.{grant_in-suc}

-- the same line and record, and neither or both are done
abbrev pub Alike : Option Grant → Option Grant → Type 0
Alike None None = Unit {0}
Alike None (Some y) = ⊥
Alike (Some x) None = ⊥
Alike (Some x) (Some y) = (x.line ≡ y.line) × ((x.fresh ≡ y.fresh) × (is_done x.standing ≡ is_done y.standing))

pub alike_same : (o : Option Grant) → Alike o o
alike_same None = tt
alike_same (Some x) = (refl, (refl, refl))

pub holds_alike : (a ep : ℕ) (o p : Option Grant) → Alike o p → holds_in a ep p ≡ holds_in a ep o
holds_alike a ep None None h = refl
holds_alike a ep None (Some y) h = absurd h
holds_alike a ep (Some x) None h = absurd h
holds_alike a ep (Some x) (Some y) h = grind (arith, h.0, h.1.1)

pub range_alike : (o p : Option Grant) → Alike o p → IsRange o → IsRange p
range_alike None None h r = tt
range_alike None (Some y) h r = absurd h
range_alike (Some x) None h r = absurd h
range_alike (Some x) (Some y) h r = rw (sym h.1.0) r

child_alike : (g : ℕ) (x y : Grant) → Alike (Some x) (Some y) → is_open_child g y ≡ is_open_child g x
child_alike g x y h = grind (arith, h.0, h.1.1)

pub count_alike : (g : ℕ) (gs hs : List Grant) → ((i : ℕ) → Alike (slice_get gs i) (slice_get hs i)) → count_by (is_open_child g) hs ≡ count_by (is_open_child g) gs
count_alike g [] [] h = refl
count_alike g [] (y ∷ ys) h = absurd (h 0)
count_alike g (x ∷ xs) [] h = absurd (h 0)
count_alike g (x ∷ xs) (y ∷ ys) h =
    count_cons (is_open_child g) y ys
    ∙ (ap (λ b. cond b 1 0 + count_by (is_open_child g) ys) (child_alike g x y (h 0))
    ∙ (ap (λ n. cond (is_open_child g x) 1 0 + n) (count_alike g xs ys (λ i. h (suc i))) ∙ sym (count_cons (is_open_child g) x xs)))

-- ---- rights

-- the same line; neither or both are live, and where they are live the same Close was sent
abbrev pub Keeps : Option Grant → Option Grant → Type 0
Keeps None None = Unit {0}
Keeps None (Some y) = ⊥
Keeps (Some x) None = ⊥
Keeps (Some x) (Some y) = (x.line ≡ y.line) × ((is_live x.standing ≡ is_live y.standing) × ((is_live x.standing && x.close_sent) ≡ (is_live y.standing && y.close_sent)))

pub keeps_same : (o : Option Grant) → Keeps o o
keeps_same None = tt
keeps_same (Some x) = (refl, (refl, refl))

live_kept : (o p : Option Grant) → Keeps o p → is_live_in p ≡ is_live_in o
live_kept None None h = refl
live_kept None (Some y) h = absurd h
live_kept (Some x) None h = absurd h
live_kept (Some x) (Some y) h = sym h.1.0

live_at : (gs hs : List Grant) → ((i : ℕ) → Keeps (slice_get gs i) (slice_get hs i)) → (p : ℕ) → is_live_in (grant_in hs p) ≡ is_live_in (grant_in gs p)
live_at gs hs h zero = refl
live_at gs hs h (suc p) = rw (grant_in-suc gs p, grant_in-suc hs p) (live_kept (slice_get gs p) (slice_get hs p) (h p))

live_above : (gs hs : List Grant) → ((i : ℕ) → Keeps (slice_get gs i) (slice_get hs i)) → (p : Option ℕ) → is_live_above hs p ≡ is_live_above gs p
live_above gs hs h None = refl
live_above gs hs h (Some p) = live_at gs hs h p

rightful_one : (gs hs : List Grant) (i : ℕ) (o p : Option Grant) → ((q : Option ℕ) → is_live_above hs q ≡ is_live_above gs q) → Keeps o p → is_rightful gs i o ≡ true → is_rightful hs i p ≡ true
rightful_one gs hs i None None a h r = refl
rightful_one gs hs i None (Some y) a h r = absurd h
rightful_one gs hs i (Some x) None a h r = absurd h
rightful_one gs hs i (Some x) (Some y) a h r = by_live (is_live x.standing) refl
  where
    by_live : (b : Bool) → is_live x.standing ≡ b → is_rightful hs i (Some y) ≡ true
    by_live true w = grind (arith, w, h.0, h.1.0, h.1.1, a (parent_of y.line), r)
    by_live false w = grind (arith, w, h.0, h.1.0, r)

pub rightful_kept : (gs hs : List Grant) → ((i : ℕ) → Keeps (slice_get gs i) (slice_get hs i)) → ((i : ℕ) → is_rightful gs i (slice_get gs i) ≡ true) → (i : ℕ) → is_rightful hs i (slice_get hs i) ≡ true
rightful_kept gs hs h r i = rightful_one gs hs i (slice_get gs i) (slice_get hs i) (live_above gs hs h) (h i) (r i)

-- ---- the tree

pub tree_alike : (nodes news : List Node) (table : List (Option ℕ)) → IsTree nodes table → length news ≡ length nodes → ((i : ℕ) → Alike (slice_get (grants_of nodes) i) (slice_get (grants_of news) i)) → ((i n : ℕ) → Counts n (slice_get nodes i) → Counts n (slice_get news i)) → ((i : ℕ) → is_rightful (grants_of news) i (slice_get (grants_of news) i) ≡ true) → IsTree news table
tree_alike nodes news table t l a k r =
    record {
      few = rw l t.few;
      room = t.room;
      numbers = t.numbers;
      held = λ a' ep i p q. holds_alike a' ep (slice_get (grants_of nodes) i) (slice_get (grants_of news) i) (a i) ∙ t.held a' ep i p q;
      ranges = λ i. range_alike (slice_get (grants_of nodes) i) (slice_get (grants_of news) i) (a i) (t.ranges i);
      children = λ i. let s = count_alike (i + 1) (grants_of nodes) (grants_of news) a in rw s (k i (count_by (is_open_child (i + 1)) (grants_of nodes)) (t.children i));
      rightful = r;
    }
