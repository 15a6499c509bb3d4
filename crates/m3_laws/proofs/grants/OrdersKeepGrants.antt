-- Each order keeps the list of grants lawful: parents before and above their children.
use Rattle.std.proofs.Common.{◌≡◌, ℕ, zero, suc, ◌+◌, ◌-◌, ◌<◌, ◌≤◌, Bool, true, false, List, [], ◌∷◌, ◌++◌, length, Some, None, refl, sym, subst, ◌∙◌, ap, arith}
use Rattle.std.specs.Prelude.{Option, if◌then◌else◌, ◌==◌, ◌&&◌, slice_get}
use Rattle.std.specs.Option.{option_map}
use Rattle.std.specs.List.{list_any}
use Rattle.std.proofs.lemmas.Bool.Decides.{nat_tests}
use Rattle.m3_base.specs.declared.packet.Fresh.{Fresh}
use Rattle.m3_base.specs.declared.order.GrantLine.{GrantLine}
use Rattle.m3_base.specs.Ideal.State.{Standing, Live, Closing, Closed, Done, Grant, parent_of, grant_in, parent_in, is_done, is_live, undone, is_open}
use Rattle.m3_base.specs.Ideal.GrantRules.{form, new_grant, to_closing, closing_where, or_false, marks_under, change_grant, with_root_closing, after_revoke, may_close, is_closing_grant, is_open_child, is_above_closing}
use Rattle.m3_laws.specs.GrantInvariant.{is_ready, KeepsOpen, IsAfter, GrantLawful, GrantsLawful}
use Rattle.m3_laws.proofs.grants.GrantList.{Changes, StillLawful, tree_kept, at_one, grant_changed, grant_added, grant_closing}
use Rattle.m3_base.proofs.GrantsByNumber.{grant_past}

-- ---- changes that leave each ready grant ready

pub record Mild (x y : Grant) : Type 0 where
  pub ready : is_ready (Some x) ≡ true → is_ready (Some y) ≡ true
  pub line : y.line ≡ x.line
  pub done : is_done y.standing ≡ false → is_done x.standing ≡ false
  pub sent : (x.close_sent ≡ true → is_live x.standing ≡ false) → y.close_sent ≡ true → is_live y.standing ≡ false
  pub shut : (is_open x.standing ≡ false → x.close_sent ≡ true) → is_open y.standing ≡ false → y.close_sent ≡ true

module _ (gs hs : List Grant) (f : ℕ → Grant → Grant) (ch : Changes gs hs f) (mild : (h : ℕ) (x : Grant) → Mild x (f h x)) where
  mild_open : (o : Option ℕ) → KeepsOpen gs o → KeepsOpen hs o
  mild_open None k = tt
  mild_open (Some p) k = subst (λ z. is_ready z ≡ true) (sym (ch.at p)) (by_grant (grant_in gs p) k)
    where
      by_grant : (o : Option Grant) → is_ready o ≡ true → is_ready (option_map (f p) o) ≡ true
      by_grant None e = absurd (cc)
      by_grant (Some x) e = (mild p x).ready e

  pub mild_kept : GrantsLawful gs → GrantsLawful hs
  mild_kept law = tree_kept gs hs f ch law (λ h x e old.
      let m = mild h x in
      record {
        above = λ z. subst (λ l. KeepsOpen hs (parent_of l)) (sym m.line) (mild_open (parent_of x.line) (old.above (m.done z)));
        sent = m.sent old.sent;
        shut = m.shut old.shut;
      })

-- ---- revoke

pub mild_closing : (b : Bool) (x : Grant) → Mild x (to_closing b x)
mild_closing b x = by_mark (b && is_live x.standing) refl
  where
    by_mark : (d : Bool) → (b && is_live x.standing) ≡ d → Mild x (if d then record x { standing = Closing } else x)
    by_mark false e = record { ready = λ h. h; line = refl; done = λ h. h; sent = λ s. s; shut = λ s. s }
    by_mark true e = record {
      ready = λ h. grind (arith, e, h);
      line = refl;
      done = λ h. by_standing x.standing (grind (arith, e));
      sent = λ s z. refl;
      shut = λ s z. absurd (cc);
    }
      where
        by_standing : (t : Standing) → is_live t ≡ true → is_done t ≡ false
        by_standing Live e = refl
        by_standing Closing e = refl
        by_standing Closed e = refl
        by_standing Done e = absurd (cc)

closing_line : (b : Bool) (x : Grant) → ((to_closing b x).line ≡ x.line) × ((to_closing b x).fresh ≡ x.fresh)
closing_line b x = by_mark (b && is_live x.standing)
  where
    by_mark : (d : Bool) → ((if d then record x { standing = Closing } else x).line ≡ x.line) × ((if d then record x { standing = Closing } else x).fresh ≡ x.fresh)
    by_mark true = (refl, refl)
    by_mark false = (refl, refl)

pub closing_changes : (bs : List Bool) (gs : List Grant) → Changes gs (closing_where bs gs) (λ h x. to_closing (or_false (slice_get bs (h - 1))) x)
closing_changes bs gs = record {
  at = grant_closing bs gs;
  line = λ h x. (closing_line (or_false (slice_get bs (h - 1))) x).0;
  fresh = λ h x. (closing_line (or_false (slice_get bs (h - 1))) x).1;
}

-- a change of one grant that leaves its line and form
pub one_changes : (gs : List Grant) (g : ℕ) (f : Grant → Grant) → ((x : Grant) → ((f x).line ≡ x.line) × ((f x).fresh ≡ x.fresh)) → Changes gs (change_grant gs g f) (at_one g f)
one_changes gs g f same = record {
  at = grant_changed gs g f;
  line = λ h x. by_same x (h == g);
  fresh = λ h x. by_form x (h == g);
}
  where
    by_same : (x : Grant) (b : Bool) → (if b then f x else x).line ≡ x.line
    by_same x true = (same x).0
    by_same x false = refl

    by_form : (x : Grant) (b : Bool) → (if b then f x else x).fresh ≡ x.fresh
    by_form x true = (same x).1
    by_form x false = refl

mild_root : (g h : ℕ) (x : Grant) → Mild x (at_one g (λ y. record y { is_root = true }) h x)
mild_root g h x = by_same (h == g)
  where
    by_same : (b : Bool) → Mild x (if b then record x { is_root = true } else x)
    by_same true = record { ready = λ h. h; line = refl; done = λ h. h; sent = λ s. s; shut = λ s. s }
    by_same false = record { ready = λ h. h; line = refl; done = λ h. h; sent = λ s. s; shut = λ s. s }

pub revoke_tree : (gs : List Grant) (g : ℕ) → GrantsLawful gs → GrantsLawful (after_revoke gs g)
revoke_tree gs g law =
    let bs = marks_under g 1 [] gs in
    let hs = closing_where bs gs in
    mild_kept hs (with_root_closing hs g) (at_one g (λ y. record y { is_root = true })) (one_changes hs g (λ y. record y { is_root = true }) (λ x. (refl, refl))) (mild_root g) (
    mild_kept gs hs (λ h x. to_closing (or_false (slice_get bs (h - 1))) x) (closing_changes bs gs) (λ h x. mild_closing (or_false (slice_get bs (h - 1))) x) law
    )

-- ---- close, closed and done: no grant that isn't done is under the one that changes

-- no child of g is left
abbrev pub Childless : List Grant → ℕ → Type 0
Childless gs g = (h : ℕ) (x : Grant) → grant_in gs h ≡ Some x → is_done x.standing ≡ false → parent_of x.line ≡ Some g → ⊥

module _ (gs : List Grant) (g : ℕ) (f : Grant → Grant) (same : (x : Grant) → ((f x).line ≡ x.line) × ((f x).fresh ≡ x.fresh)) (none : Childless gs g) where
  abbrev pub after_one : List Grant
  after_one = change_grant gs g f

  other_open : (o : Option ℕ) → KeepsOpen gs o → (o ≡ Some g → ⊥) → KeepsOpen after_one o
  other_open None k ne = tt
  other_open (Some p) k ne = subst (λ z. is_ready z ≡ true) (sym (grant_changed gs g f p)) (by_grant (grant_in gs p) k)
    where
      by_same : (x : Grant) (b : Bool) → (p == g) ≡ b → is_ready (Some x) ≡ true → is_ready (Some (if b then f x else x)) ≡ true
      by_same x true e k = absurd (ne (ap Some (grind (arith, nat_tests, e))))
      by_same x false e k = k

      by_grant : (o : Option Grant) → is_ready o ≡ true → is_ready (option_map (at_one g f p) o) ≡ true
      by_grant None e = absurd (cc)
      by_grant (Some x) e = by_same x (p == g) refl e

  pub one_kept : ((x : Grant) → grant_in gs g ≡ Some x → GrantLawful gs g x → (is_done (f x).standing ≡ false → is_done x.standing ≡ false) × (((f x).close_sent ≡ true → is_live (f x).standing ≡ false) × (is_open (f x).standing ≡ false → (f x).close_sent ≡ true))) → GrantsLawful gs → GrantsLawful after_one
  one_kept step law = tree_kept gs after_one (at_one g f) (one_changes gs g f same) law (λ h x e old. by_same h x e old (h == g) refl)
    where
      under : (h : ℕ) (x : Grant) → grant_in gs h ≡ Some x → GrantLawful gs h x → is_done x.standing ≡ false → KeepsOpen after_one (parent_of x.line)
      under h x e old z = other_open (parent_of x.line) (old.above z) (none h x e z)

      by_same : (h : ℕ) (x : Grant) → grant_in gs h ≡ Some x → GrantLawful gs h x → (b : Bool) → (h == g) ≡ b → StillLawful after_one (if b then f x else x)
      by_same h x e old false w = record { above = under h x e old; sent = old.sent; shut = old.shut }
      by_same h x e old true w =
          let q : h ≡ g = grind (arith, nat_tests, w) in
          let facts = step x (subst (λ z. grant_in gs z ≡ Some x) q e) (subst (λ z. GrantLawful gs z x) q old) in
          record {
            above = λ z. subst (λ l. KeepsOpen after_one (parent_of l)) (sym ((same x).0)) (under h x e old (facts.0 z));
            sent = facts.1.0;
            shut = facts.1.1;
          }

-- a grant that isn't ready has no child left
pub childless : (gs : List Grant) (g : ℕ) → GrantsLawful gs → is_ready (grant_in gs g) ≡ false → Childless gs g
childless gs g law shut h x e z p = absurd (clash ((law h x e).above z))
  where
    clash : KeepsOpen gs (parent_of x.line) → ⊥
    clash k = let r : KeepsOpen gs (Some g) = subst (KeepsOpen gs) p k in absurd (cc)

-- where a Close may be sent, no child is left
any_child : (g : ℕ) (gs : List Grant) (j : ℕ) (x : Grant) → slice_get gs j ≡ Some x → is_open_child g x ≡ true → list_any (is_open_child g) gs ≡ true
any_child g [] j x e c = absurd (cc)
any_child g (y ∷ gs) zero x e c = grind (arith, e, c)
any_child g (y ∷ gs) (suc j) x e c = let z = any_child g gs j x e c in grind (arith, z)

pub childless_now : (gs : List Grant) (g : ℕ) → list_any (is_open_child g) gs ≡ false → Childless gs g
childless_now gs g none h x e z p =
    let s : slice_get gs (h - 1) ≡ Some x = grind (arith, nat_tests, e) in
    let c : is_open_child g x ≡ true = grind (arith, nat_tests, z, p) in
    let t = any_child g gs (h - 1) x s c in
    absurd (cc)

closing_standing : (t : Standing) → is_closing_grant t ≡ true → is_live t ≡ false
closing_standing Closing e = refl
closing_standing Live e = absurd (cc)
closing_standing Closed e = refl
closing_standing Done e = refl

pub close_tree : (gs : List Grant) (g : ℕ) (x : Grant) → grant_in gs g ≡ Some x → may_close gs g (Some x) ≡ true → GrantsLawful gs → GrantsLawful (change_grant gs g (λ y. record y { close_sent = true }))
close_tree gs g x at may law =
    one_kept gs g (λ y. record y { close_sent = true }) (λ y. (refl, refl)) (childless_now gs g (grind (arith, may))) (λ y e old.
    let q : x ≡ y = cc in
    (λ z. z, (λ z. closing_standing y.standing (subst (λ w. is_closing_grant w.standing ≡ true) q (grind (arith, may))), λ z. refl))) law

-- the Close of a grant whose record is free was sent
pub closed_tree : (gs : List Grant) (g : ℕ) (x : Grant) → grant_in gs g ≡ Some x → is_open x.standing ≡ true → x.close_sent ≡ true → GrantsLawful gs → GrantsLawful (change_grant gs g (λ y. record y { standing = Closed }))
closed_tree gs g x at open' sent law =
    one_kept gs g (λ y. record y { standing = Closed }) (λ y. (refl, refl)) (childless gs g law (grind (arith, at, open', sent))) (λ y e old.
    let q : x ≡ y = cc in
    (λ z. by_standing y.standing (subst (λ w. is_open w.standing ≡ true) q open'), (λ z. refl, λ z. subst (λ w. w.close_sent ≡ true) q sent))) law
  where
    by_standing : (t : Standing) → is_open t ≡ true → is_done t ≡ false
    by_standing Live e = refl
    by_standing Closing e = refl
    by_standing Closed e = refl
    by_standing Done e = absurd (cc)

pub done_tree : (gs : List Grant) (g : ℕ) (x : Grant) → grant_in gs g ≡ Some x → x.standing ≡ Closed → GrantsLawful gs → GrantsLawful (change_grant gs g (λ y. record y { standing = Done }))
done_tree gs g x at closed law =
    one_kept gs g (λ y. record y { standing = Done }) (λ y. (refl, refl)) (childless gs g law (grind (arith, at, closed))) (λ y e old.
    let q : x ≡ y = cc in
    (λ z. absurd (cc), (λ z. refl, λ z. old.shut (rw (sym (ap (λ w. w.standing) q) ∙ closed) refl)))) law

-- ---- make

needs_parent : (g : ℕ) (line : GrantLine) (f : Fresh) (p : ℕ) → form g line None ≡ Some f → parent_of line ≡ Some p → ⊥
needs_parent g (GrantLine.Recv act ep slots size) f p e q = absurd (cc)
needs_parent g (GrantLine.Send act ep of label credits) f p e q = absurd (cc)
needs_parent g (GrantLine.Range act ep at len perm) f p e q = absurd (cc)
needs_parent g (GrantLine.Part act ep of at len perm) f p e q = absurd (cc)

module _ (gs : List Grant) (line : GrantLine) (f : Fresh) (law : GrantsLawful gs) (is_form : form (length gs + 1) line (undone (parent_in gs (parent_of line))) ≡ Some f) (live : is_above_closing (undone (parent_in gs (parent_of line))) ≡ false) where
  abbrev pub ms : List Grant
  ms = gs ++ new_grant line f ∷ []

  old_in : (p : ℕ) → p < length gs + 1 → grant_in ms p ≡ grant_in gs p
  old_in p l = grant_added gs (new_grant line f) p ∙ grind (arith, nat_tests, l)

  old_parent : (o : Option ℕ) (h : ℕ) → h ≤ length gs → IsAfter o h → parent_in ms o ≡ parent_in gs o
  old_parent None h l a = refl
  old_parent (Some p) h l a = old_in p (omega (arith, l, a))

  old_open : (o : Option ℕ) (h : ℕ) → h ≤ length gs → IsAfter o h → KeepsOpen gs o → KeepsOpen ms o
  old_open None h l a k = tt
  old_open (Some p) h l a k = subst (λ z. is_ready z ≡ true) (sym (old_in p (omega (arith, l, a)))) k

  old_lawful : (h : ℕ) (x : Grant) → grant_in gs h ≡ Some x → GrantLawful ms h x
  old_lawful h x e =
      let old = law h x e in
      let l = grant_past gs h x e in
      record {
        fresh = subst (λ z. form h x.line z ≡ Some x.fresh) (sym (old_parent (parent_of x.line) h l old.before)) old.fresh;
        before = old.before;
        above = λ z. old_open (parent_of x.line) h l old.before (old.above z);
        sent = old.sent;
        shut = old.shut;
      }

  live_ready : (y : Grant) → (y.close_sent ≡ true → is_live y.standing ≡ false) → is_live y.standing ≡ true → is_ready (Some y) ≡ true
  live_ready y old e = by_sent y.close_sent refl (by_standing y.standing e)
    where
      by_standing : (t : Standing) → is_live t ≡ true → is_open t ≡ true
      by_standing Live e = refl
      by_standing Closing e = absurd (cc)
      by_standing Closed e = absurd (cc)
      by_standing Done e = absurd (cc)

      by_sent : (b : Bool) → y.close_sent ≡ b → is_open y.standing ≡ true → is_ready (Some y) ≡ true
      by_sent false w o = rw (w, o) refl
      by_sent true w o = let z = old w in absurd (cc)

  new_lawful : (o : Option ℕ) → parent_of line ≡ o → GrantLawful ms (length gs + 1) (new_grant line f)
  new_lawful None e = record {
    fresh = subst (λ z. form (length gs + 1) line (parent_in ms z) ≡ Some f) (sym e) (subst (λ z. form (length gs + 1) line (undone (parent_in gs z)) ≡ Some f) e is_form);
    before = subst (λ z. IsAfter z (length gs + 1)) (sym e) tt;
    above = λ z. subst (KeepsOpen ms) (sym e) tt;
    sent = λ z. absurd (cc);
    shut = λ z. absurd (cc);
  }
  new_lawful (Some p) e = by_parent (grant_in gs p) refl
    where
      form_here : form (length gs + 1) line (undone (grant_in gs p)) ≡ Some f
      form_here = subst (λ z. form (length gs + 1) line (undone (parent_in gs z)) ≡ Some f) e is_form

      live_here : is_above_closing (undone (grant_in gs p)) ≡ false
      live_here = subst (λ z. is_above_closing (undone (parent_in gs z)) ≡ false) e live

      by_done : (y : Grant) → grant_in gs p ≡ Some y → (b : Bool) → is_done y.standing ≡ b → GrantLawful ms (length gs + 1) (new_grant line f)
      by_done y q true w = absurd (needs_parent (length gs + 1) line f p (let u : undone (grant_in gs p) ≡ None = grind (arith, q, w) in subst (λ z. form (length gs + 1) line z ≡ Some f) u form_here) e)
      by_done y q false w =
          let u : undone (grant_in gs p) ≡ Some y = grind (arith, q, w) in
          let l : p ≤ length gs = grant_past gs p y q in
          let here : grant_in ms p ≡ Some y = old_in p (omega (arith, l)) ∙ q in
          let form_y : form (length gs + 1) line (Some y) ≡ Some f = subst (λ z. form (length gs + 1) line z ≡ Some f) u form_here in
          let live_y : is_live y.standing ≡ true = (let z = subst (λ z. is_above_closing z ≡ false) u live_here in grind (arith, z)) in
          let ready : is_ready (Some y) ≡ true = live_ready y (law p y q).sent live_y in
          record {
            fresh = subst (λ z. form (length gs + 1) line (parent_in ms z) ≡ Some f) (sym e) (subst (λ z. form (length gs + 1) line z ≡ Some f) (sym here) form_y);
            before = subst (λ z. IsAfter z (length gs + 1)) (sym e) (omega (arith, l));
            above = λ z. subst (KeepsOpen ms) (sym e) (subst (λ z. is_ready z ≡ true) (sym here) ready);
            sent = λ z. absurd (cc);
            shut = λ z. absurd (cc);
          }

      by_parent : (o : Option Grant) → grant_in gs p ≡ o → GrantLawful ms (length gs + 1) (new_grant line f)
      by_parent None q = absurd (needs_parent (length gs + 1) line f p (subst (λ z. form (length gs + 1) line (undone z) ≡ Some f) q form_here) e)
      by_parent (Some y) q = by_done y q (is_done y.standing) refl

  pub make_tree : GrantsLawful ms
  make_tree h x e = by_number (h == (length gs + 1)) refl (sym (grant_added gs (new_grant line f) h) ∙ e)
    where
      by_number : (b : Bool) → (h == (length gs + 1)) ≡ b → (if b then Some (new_grant line f) else grant_in gs h) ≡ Some x → GrantLawful ms h x
      by_number true w q =
          let n : h ≡ length gs + 1 = grind (arith, nat_tests, w) in
          let y : new_grant line f ≡ x = cc in
          subst (λ z. GrantLawful ms z x) (sym n) (subst (GrantLawful ms (length gs + 1)) y (new_lawful (parent_of line) refl))
      by_number false w q = old_lawful h x q
