-- What the steps of grants do to the list of grants.
use Rattle.std.proofs.Common.{◌≡◌, ℕ, zero, suc, ◌+◌, ◌-◌, ◌≤◌, Bool, true, false, List, [], ◌∷◌, ◌++◌, length, set, Some, None, refl, sym, subst, ◌∙◌, arith}
use Rattle.std.specs.Prelude.{Option, if◌then◌else◌, ◌==◌, slice_get}
use Rattle.std.specs.Option.{option_map}
use Rattle.std.proofs.lemmas.Bool.Decides.{nat_tests}
use Rattle.m3_base.specs.declared.order.GrantLine.{GrantLine}
use Rattle.m3_base.specs.Ideal.State.{Grant, parent_of, grant_in, parent_in, is_done, is_live, is_open}
use Rattle.m3_base.specs.Ideal.GrantRules.{form, to_closing, closing_where, or_false, change_grant, set_some}
use Rattle.m3_laws.specs.GrantInvariant.{KeepsOpen, IsAfter, GrantLawful, GrantsLawful}
use Rattle.m3_base.proofs.ListLookups.{get_pushed}

-- ---- look-ups by number

got-set : {X : Type 0} (xs : List X) (i j : ℕ) (f : X → X) (x : X) → slice_get xs i ≡ Some x → slice_get (set xs i (f x)) j ≡ (if j == i then Some (f x) else slice_get xs j)
got-set [] i j f x h = absurd (cc)
got-set (y ∷ xs) zero zero f x h = refl
got-set (y ∷ xs) zero (suc j) f x h = grind (arith, nat_tests)
got-set (y ∷ xs) (suc i) zero f x h = grind (arith, nat_tests)
got-set (y ∷ xs) (suc i) (suc j) f x h = let z = got-set xs i j f x h in grind (arith, nat_tests, z)

got-closing : (bs : List Bool) (gs : List Grant) (j : ℕ) → slice_get (closing_where bs gs) j ≡ option_map (to_closing (or_false (slice_get bs j))) (slice_get gs j)
got-closing [] [] j = refl
got-closing [] (x ∷ gs) zero = refl
got-closing [] (x ∷ gs) (suc j) = got-closing [] gs j
got-closing (b ∷ bs) [] j = refl
got-closing (b ∷ bs) (x ∷ gs) zero = refl
got-closing (b ∷ bs) (x ∷ gs) (suc j) = got-closing bs gs j

-- one grant changed
abbrev pub at_one : ℕ → (Grant → Grant) → ℕ → Grant → Grant
at_one g f h x = if h == g then f x else x

pub grant_changed : (gs : List Grant) (g : ℕ) (f : Grant → Grant) (h : ℕ) → grant_in (change_grant gs g f) h ≡ option_map (at_one g f h) (grant_in gs h)
grant_changed gs g f h = by_grant (grant_in gs g) refl
  where
    same : (o : Option Grant) → (h == g) ≡ false → o ≡ option_map (at_one g f h) o
    same None e = refl
    same (Some x) e = grind (arith, e)

    by_grant : (o : Option Grant) → grant_in gs g ≡ o → grant_in (set_some gs g f o) h ≡ option_map (at_one g f h) (grant_in gs h)
    by_grant None e = by_same (h == g) refl
      where
        by_same : (b : Bool) → (h == g) ≡ b → grant_in gs h ≡ option_map (at_one g f h) (grant_in gs h)
        by_same false w = same (grant_in gs h) w
        by_same true w = grind (arith, nat_tests, w, e)
    by_grant (Some x) e = grind (arith, nat_tests, e, got-set gs (g - 1) (h - 1) f x, same (grant_in gs h))

pub grant_added : (gs : List Grant) (x : Grant) (h : ℕ) → grant_in (gs ++ x ∷ []) h ≡ (if h == (length gs + 1) then Some x else grant_in gs h)
grant_added gs x h = grind (arith, nat_tests, get_pushed gs x (h - 1))

pub grant_closing : (bs : List Bool) (gs : List Grant) (h : ℕ) → grant_in (closing_where bs gs) h ≡ option_map (to_closing (or_false (slice_get bs (h - 1)))) (grant_in gs h)
grant_closing bs gs h = grind (arith, nat_tests, got-closing bs gs (h - 1))

-- ---- grants that change, each in its own way

pub record Changes (gs hs : List Grant) (f : ℕ → Grant → Grant) : Type 0 where
  pub at : (h : ℕ) → grant_in hs h ≡ option_map (f h) (grant_in gs h)
  pub line : (h : ℕ) (x : Grant) → (f h x).line ≡ x.line
  pub fresh : (h : ℕ) (x : Grant) → (f h x).fresh ≡ x.fresh

-- two parents of one line and form
abbrev pub AlikeGrants : Option Grant → Option Grant → Type 0
AlikeGrants None None = Unit {0}
AlikeGrants (Some x) (Some y) = (y.line ≡ x.line) × (y.fresh ≡ x.fresh)
AlikeGrants a b = ⊥

form_alike : (g : ℕ) (line : GrantLine) (a b : Option Grant) → AlikeGrants a b → form g line b ≡ form g line a
form_alike g (GrantLine.Recv act ep slots size) a b h = refl
form_alike g (GrantLine.Range act ep at len perm) a b h = refl
form_alike g (GrantLine.Send act ep of label credits) None None h = refl
form_alike g (GrantLine.Send act ep of label credits) (Some x) (Some y) h = rw (h.0, h.1) refl
form_alike g (GrantLine.Send act ep of label credits) None (Some y) h = absurd h
form_alike g (GrantLine.Send act ep of label credits) (Some x) None h = absurd h
form_alike g (GrantLine.Part act ep of at len perm) None None h = refl
form_alike g (GrantLine.Part act ep of at len perm) (Some x) (Some y) h = rw (h.1) refl
form_alike g (GrantLine.Part act ep of at len perm) None (Some y) h = absurd h
form_alike g (GrantLine.Part act ep of at len perm) (Some x) None h = absurd h

-- what each step has to show of a grant that it changes
pub record StillLawful (hs : List Grant) (y : Grant) : Type 0 where
  pub above : is_done y.standing ≡ false → KeepsOpen hs (parent_of y.line)
  pub sent : y.close_sent ≡ true → is_live y.standing ≡ false
  pub shut : is_open y.standing ≡ false → y.close_sent ≡ true

module _ (gs hs : List Grant) (f : ℕ → Grant → Grant) (ch : Changes gs hs f) where
  pub alike_in : (h : ℕ) → AlikeGrants (grant_in gs h) (grant_in hs h)
  alike_in h = subst (AlikeGrants (grant_in gs h)) (sym (ch.at h)) (by_grant (grant_in gs h))
    where
      by_grant : (o : Option Grant) → AlikeGrants o (option_map (f h) o)
      by_grant None = tt
      by_grant (Some x) = (ch.line h x, ch.fresh h x)

  pub alike_parent : (o : Option ℕ) → AlikeGrants (parent_in gs o) (parent_in hs o)
  alike_parent None = tt
  alike_parent (Some p) = alike_in p

  pub changed_from : (h : ℕ) (y : Grant) (o : Option Grant) → grant_in gs h ≡ o → option_map (f h) o ≡ Some y → (x : Grant) × ((grant_in gs h ≡ Some x) × (f h x ≡ y))
  changed_from h y None e q = absurd (cc)
  changed_from h y (Some x) e q = (x, (e, cc))

  pub tree_kept : GrantsLawful gs → ((h : ℕ) (x : Grant) → grant_in gs h ≡ Some x → GrantLawful gs h x → StillLawful hs (f h x)) → GrantsLawful hs
  tree_kept law step h y e =
      let found = changed_from h y (grant_in gs h) refl (sym (ch.at h) ∙ e) in
      subst (GrantLawful hs h) (found.1.1) (kept (found.0) (found.1.0))
    where
      kept : (x : Grant) → grant_in gs h ≡ Some x → GrantLawful hs h (f h x)
      kept x q =
          let old = law h x q in
          let new = step h x q old in
          record {
            fresh = rw (ch.line h x, ch.fresh h x) (form_alike h x.line (parent_in gs (parent_of x.line)) (parent_in hs (parent_of x.line)) (alike_parent (parent_of x.line)) ∙ old.fresh);
            before = subst (λ l. IsAfter (parent_of l) h) (sym (ch.line h x)) old.before;
            above = new.above;
            sent = new.sent;
            shut = new.shut;
          }
