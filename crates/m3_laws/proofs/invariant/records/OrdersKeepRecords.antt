-- Each order leaves records, Installs and Closes with their grants.
use Rattle.std.proofs.Common.{◌≡◌, ℕ, zero, suc, ◌+◌, ◌-◌, ◌<◌, Bool, true, false, List, [], ◌∷◌, ◌++◌, length, Some, None, refl, sym, subst, ◌∙◌, ap, arith, inl, inr}
use Rattle.std.specs.Prelude.{Option, if◌then◌else◌, ◌==◌, ◌&&◌, ◌⊎◌, slice_get}
use Rattle.std.specs.Option.{option_map}
use Rattle.std.specs.List.{list_any}
use Rattle.std.proofs.lemmas.Bool.Decides.{nat_tests}
use Rattle.m3_base.specs.declared.ids.FlightId.{FlightId}
use Rattle.m3_base.specs.declared.packet.Packet.{Packet}
use Rattle.m3_base.specs.declared.packet.Fresh.{Fresh}
use Rattle.m3_base.specs.declared.order.GrantLine.{GrantLine}
use Rattle.m3_base.specs.Lists.Counting.{one}
use Rattle.m3_base.specs.Ideal.Flights.{flight, same_name, name_before, name_of}
use Rattle.m3_base.specs.Ideal.Context.{Endpoint, Free, Sends, Receives, Reaches, Context, endpoint, endpoint_at}
use Rattle.m3_base.specs.Ideal.State.{Standing, Live, Closing, Closed, Done, Grant, State, holder, holder_ep, parent_of, grant_in, parent_in, is_done, is_live, context_of, undone, is_open}
use Rattle.m3_base.specs.Ideal.GrantRules.{form, change_grant, kernel_id, new_grant, with_grant_made, close_sent, after_revoke, holds_at, may_close, send_form, part_form, is_above_closing, is_closing_grant, with_root_closing, closing_where, marks_under, to_closing, or_false, to_root, to_sent, new_install, to_done}
use Rattle.m3_base.specs.Ideal.Step.{number_of, is_install_of}
use Rattle.m3_base.proofs.KeyedList.{how_many-inserted}
use Rattle.m3_base.specs.Ideal.FlightNames.{Apart}
use Rattle.m3_base.proofs.FlightNames.{distinct-new}
use Rattle.m3_laws.proofs.invariant.step.LookUps.{found_new}
use Rattle.m3_laws.specs.GrantInvariant.{is_open_grant, is_close_sent, form_of, IsHeldAt, FormLawful, InstallLawful, SlotsLawful, RecordsMatchGrants}
use Rattle.m3_laws.specs.Laws.{is_close_of}
use Rattle.m3_laws.proofs.grants.GrantList.{Changes, at_one, grant_changed, grant_added}
use Rattle.m3_base.specs.declared.packet.Perm.{Perm}
use Rattle.m3_laws.proofs.grants.OrdersKeepGrants.{mild_kept, mild_closing, closing_changes, one_changes, revoke_tree, close_tree, done_tree, make_tree}
use Rattle.m3_laws.proofs.invariant.records.RecordsOfGrants.{record_open, open_undone}
use Rattle.m3_laws.proofs.invariant.records.ClosingRecords.{form_changed, install_changed, slots_changed, open_changed, placed_after_regrant}
use Rattle.m3_base.specs.Ideal.Landing.{is_record_of}
use Rattle.m3_base.proofs.GrantsByNumber.{grant_past}

-- ---- revoke and done

closing_stands : (b : Bool) (x : Grant) → (is_open (to_closing b x).standing ≡ is_open x.standing) × ((to_closing b x).close_sent ≡ x.close_sent) × (is_done (to_closing b x).standing ≡ false → is_done x.standing ≡ false)
closing_stands b x = by_mark (b && is_live x.standing) refl
  where
    by_standing : (t : Standing) → is_live t ≡ true → (true ≡ is_open t) × (is_done t ≡ false)
    by_standing Live e = (refl, refl)
    by_standing Closing e = absurd (cc)
    by_standing Closed e = absurd (cc)
    by_standing Done e = absurd (cc)

    by_mark : (d : Bool) → (b && is_live x.standing) ≡ d → (is_open (if d then record x { standing = Closing } else x).standing ≡ is_open x.standing) × ((if d then record x { standing = Closing } else x).close_sent ≡ x.close_sent) × (is_done (if d then record x { standing = Closing } else x).standing ≡ false → is_done x.standing ≡ false)
    by_mark false e = (refl, refl, λ z. z)
    by_mark true e = let t = by_standing x.standing (grind (arith, e)) in (t.0, refl, λ z. t.1)

root_stands : (g h : ℕ) (x : Grant) → (is_open (at_one g to_root h x).standing ≡ is_open x.standing) × ((at_one g to_root h x).close_sent ≡ x.close_sent) × (is_done (at_one g to_root h x).standing ≡ false → is_done x.standing ≡ false)
root_stands g h x = by_same (h == g)
  where
    by_same : (b : Bool) → (is_open (if b then to_root x else x).standing ≡ is_open x.standing) × ((if b then to_root x else x).close_sent ≡ x.close_sent) × (is_done (if b then to_root x else x).standing ≡ false → is_done x.standing ≡ false)
    by_same true = (refl, refl, λ z. z)
    by_same false = (refl, refl, λ z. z)

pub revoke_placed : (s : State) (g : ℕ) → RecordsMatchGrants s → RecordsMatchGrants (record s { grants = after_revoke s.grants g })
revoke_placed s g placed =
    let bs = marks_under g 1 [] s.grants in
    let hs = closing_where bs s.grants in
    let mark : ℕ → Grant → Grant = λ h x. to_closing (or_false (slice_get bs (h - 1))) x in
    let first : RecordsMatchGrants (record s { grants = hs }) = placed_after_regrant s hs mark (closing_changes bs s.grants)
    (λ h x e. (closing_stands (or_false (slice_get bs (h - 1))) x).0)
    (λ h x. (closing_stands (or_false (slice_get bs (h - 1))) x).1)
    (λ h x z e. (closing_stands (or_false (slice_get bs (h - 1))) x).2 z)
    (mild_kept s.grants hs mark (closing_changes bs s.grants) (λ h x. mild_closing (or_false (slice_get bs (h - 1))) x) placed.grants)
    placed in
    placed_after_regrant (record s { grants = hs }) (with_root_closing hs g) (at_one g to_root) (one_changes hs g to_root (λ x. (refl, refl)))
    (λ h x e. (root_stands g h x).0)
    (λ h x. (root_stands g h x).1)
    (λ h x z e. (root_stands g h x).2 z)
    (revoke_tree s.grants g placed.grants)
    first

pub done_placed : (s : State) (g : ℕ) (x : Grant) → grant_in s.grants g ≡ Some x → x.standing ≡ Closed → RecordsMatchGrants s → RecordsMatchGrants (record s { grants = change_grant s.grants g to_done })
done_placed s g x at closed placed =
    placed_after_regrant s (change_grant s.grants g to_done) (at_one g to_done) (one_changes s.grants g to_done (λ y. (refl, refl)))
    (λ h y e. by_open h y e (h == g) refl)
    (λ h y. by_sent y (h == g))
    (λ h y z e. by_done y (h == g) z)
    (done_tree s.grants g x at closed placed.grants)
    placed
  where
    by_open : (h : ℕ) (y : Grant) → grant_in s.grants h ≡ Some y → (b : Bool) → (h == g) ≡ b → is_open (if b then to_done y else y).standing ≡ is_open y.standing
    by_open h y e false w = refl
    by_open h y e true w =
        let q : h ≡ g = grind (arith, nat_tests, w) in
        let r : grant_in s.grants g ≡ Some y = subst (λ k. grant_in s.grants k ≡ Some y) q e in
        let t : x ≡ y = cc in
        sym (ap (λ z. is_open z.standing) (sym t) ∙ ap is_open closed)

    by_sent : (y : Grant) (b : Bool) → (if b then to_done y else y).close_sent ≡ y.close_sent
    by_sent y true = refl
    by_sent y false = refl

    by_done : (y : Grant) (b : Bool) → is_done (if b then to_done y else y).standing ≡ false → is_done y.standing ≡ false
    by_done y true z = absurd (cc)
    by_done y false z = z

-- ---- a Close is sent

sents_more : (gs : List Grant) (g h : ℕ) (x : Grant) (o : Option Grant) → grant_in gs g ≡ Some x → is_open x.standing ≡ true → x.close_sent ≡ false → grant_in gs h ≡ o → one (is_close_sent (option_map (at_one g to_sent h) o)) ≡ one (is_close_sent o) + one (g == h)
sents_more gs g h x None at p q e = grind (arith, nat_tests, at, e)
sents_more gs g h x (Some y) at p q e = by_same (h == g) refl
  where
    by_same : (b : Bool) → (h == g) ≡ b → one (is_close_sent (Some (if b then to_sent y else y))) ≡ one (is_close_sent (Some y)) + one (g == h)
    by_same false w = grind (arith, nat_tests, w)
    by_same true w =
        let n : h ≡ g = grind (arith, nat_tests, w) in
        let r : grant_in gs g ≡ Some y = subst (λ k. grant_in gs k ≡ Some y) n e in
        let t : x ≡ y = cc in
        let u : is_open y.standing ≡ true = subst (λ z. is_open z.standing ≡ true) t p in
        let v : y.close_sent ≡ false = subst (λ z. z.close_sent ≡ false) t q in
        grind (arith, nat_tests, u, v, n)

closing_open : (t : Standing) → is_closing_grant t ≡ true → is_open t ≡ true
closing_open Closing e = refl
closing_open Live e = absurd (cc)
closing_open Closed e = absurd (cc)
closing_open Done e = absurd (cc)

pub sent_placed : (s : State) (g : ℕ) (x : Grant) → grant_in s.grants g ≡ Some x → may_close s.grants g (Some x) ≡ true → Apart (kernel_id s) s.flights → RecordsMatchGrants s → RecordsMatchGrants (close_sent s g x)
sent_placed s g x at may apart placed = record {
  distinct = distinct-new p s.flights apart placed.distinct;
  cells = placed.cells;
  records = λ a c e ep. form_changed s.grants ks (at_one g to_sent) ch a ep (form_of (endpoint c ep)) (placed.records a c e ep);
  installs = λ i q e. by_new i q (found_new i q p s.flights apart e);
  presence = λ h. omega (
    arith,
    placed.presence h,
    how_many-inserted name_of same_name name_before (is_install_of h) p s.flights,
    ap one (open_changed s.grants ks (at_one g to_sent) ch (λ k y e. by_open y (k == g)) h),
  );
  closings = λ h. omega (
    arith,
    placed.closings h,
    how_many-inserted name_of same_name name_before (is_close_of h) p s.flights,
    ap (λ z. one (is_close_sent z)) (grant_changed s.grants g to_sent h),
    sents_more s.grants g h x (grant_in s.grants h) at (closing_open x.standing (grind (arith, may))) (grind (arith, may)) refl,
  );
  grants = close_tree s.grants g x at may placed.grants;
  slots = slots_changed s.grants ks (at_one g to_sent) ch (λ h y z e. by_done y (h == g) z) placed.slots;
}
  where
    p : Packet
    p = Packet.Close (kernel_id s) (holder x.line) (holder_ep x.line) g

    ks : List Grant
    ks = change_grant s.grants g to_sent

    ch : Changes s.grants (change_grant s.grants g to_sent) (at_one g to_sent)
    ch = one_changes s.grants g to_sent (λ y. (refl, refl))

    by_open : (y : Grant) (b : Bool) → is_open (if b then to_sent y else y).standing ≡ is_open y.standing
    by_open y true = refl
    by_open y false = refl

    by_done : (y : Grant) (b : Bool) → is_done (if b then to_sent y else y).standing ≡ false → is_done y.standing ≡ false
    by_done y true z = z
    by_done y false z = z

    by_new : (i : FlightId) (q : Packet) → (q ≡ Packet.Close (kernel_id s) (holder x.line) (holder_ep x.line) g) ⊎ (flight i s.flights ≡ Some q) → InstallLawful (change_grant s.grants g to_sent) s.contexts q
    by_new i q (inl e) = subst (InstallLawful (change_grant s.grants g to_sent) s.contexts) (sym e) tt
    by_new i q (inr e) = install_changed s.grants (change_grant s.grants g to_sent) (at_one g to_sent) ch s.contexts q (placed.installs i q e)

-- ---- a grant is made

send_number : (g of label credits : ℕ) (line : GrantLine) (k f : Fresh) → send_form g of label credits line k ≡ Some f → number_of f ≡ g
send_number g of label credits line (Fresh.Receive h slots size) f e = grind (arith, e)
send_number g of label credits line (Fresh.Send h to to_ep to_grant l size limit) f e = absurd (cc)
send_number g of label credits line (Fresh.Memory h start length perm) f e = absurd (cc)

part_number : (g at len : ℕ) (perm : Perm) (k f : Fresh) → part_form g at len perm k ≡ Some f → number_of f ≡ g
part_number g at len perm (Fresh.Memory h start length its) f e = grind (arith, e)
part_number g at len perm (Fresh.Send h to to_ep to_grant l size limit) f e = absurd (cc)
part_number g at len perm (Fresh.Receive h slots size) f e = absurd (cc)

pub form_number : (g : ℕ) (line : GrantLine) (above : Option Grant) (f : Fresh) → form g line above ≡ Some f → number_of f ≡ g
form_number g (GrantLine.Recv act ep slots size) above f e = grind (arith, e)
form_number g (GrantLine.Range act ep at len perm) above f e = grind (arith, e)
form_number g (GrantLine.Send act ep of label credits) None f e = absurd (cc)
form_number g (GrantLine.Send act ep of label credits) (Some x) f e = send_number g of label credits x.line x.fresh f e
form_number g (GrantLine.Part act ep of at len perm) None f e = absurd (cc)
form_number g (GrantLine.Part act ep of at len perm) (Some x) f e = part_number g at len perm x.fresh f e

any_got : {X : Type 0} (p : X → Bool) (xs : List X) (j : ℕ) (x : X) → slice_get xs j ≡ Some x → p x ≡ true → list_any p xs ≡ true
any_got p [] j x e c = absurd (cc)
any_got p (y ∷ xs) zero x e c = let q : y ≡ x = cc in let r : p y ≡ true = ap p q ∙ c in grind (arith, r)
any_got p (y ∷ xs) (suc j) x e c = let z = any_got p xs j x e c in grind (arith, z)

module _ (s : State) (line : GrantLine) (f : Fresh) (placed : RecordsMatchGrants s) (is_form : form (length s.grants + 1) line (undone (parent_in s.grants (parent_of line))) ≡ Some f) (live : is_above_closing (undone (parent_in s.grants (parent_of line))) ≡ false) (slot : list_any (holds_at (holder line) (holder_ep line)) s.grants ≡ false) (inside : holder_ep line < 16) (apart : Apart (kernel_id s) s.flights) where
  abbrev more : List Grant
  more = s.grants ++ new_grant line f ∷ []

  number : number_of f ≡ length s.grants + 1
  number = form_number (length s.grants + 1) line (undone (parent_in s.grants (parent_of line))) f is_form

  pub none_past : grant_in s.grants (length s.grants + 1) ≡ None
  none_past = by_grant (grant_in s.grants (length s.grants + 1)) refl
    where
      by_grant : (o : Option Grant) → grant_in s.grants (length s.grants + 1) ≡ o → o ≡ None
      by_grant None e = refl
      by_grant (Some x) e = absurd (omega (arith, grant_past s.grants (length s.grants + 1) x e))

  kept_in : (g : ℕ) (x : Grant) → grant_in s.grants g ≡ Some x → grant_in more g ≡ Some x
  kept_in g x e = let l = grant_past s.grants g x e in grant_added s.grants (new_grant line f) g ∙ grind (arith, nat_tests, l, e)

  held_kept : (g a e : ℕ) (k : Fresh) → IsHeldAt (grant_in s.grants g) a e k → IsHeldAt (grant_in more g) a e k
  held_kept g a e k h = by_grant (grant_in s.grants g) refl h
    where
      by_grant : (o : Option Grant) → grant_in s.grants g ≡ o → IsHeldAt o a e k → IsHeldAt (grant_in more g) a e k
      by_grant None q h = absurd h
      by_grant (Some x) q h = subst (λ z. IsHeldAt z a e k) (sym (kept_in g x q)) h

  form_kept : (a e : ℕ) (o : Option Fresh) → FormLawful s.grants a e o → FormLawful more a e o
  form_kept a e None h = tt
  form_kept a e (Some k) h = held_kept (number_of k) a e k h

  install_kept : (p : Packet) → InstallLawful s.grants s.contexts p → InstallLawful more s.contexts p
  install_kept (Packet.Install id to ep k) h = (h.0, held_kept (number_of k) to ep k h.1, h.2)
  install_kept (Packet.Message to ep g m) h = tt
  install_kept (Packet.Credit id to g) h = tt
  install_kept (Packet.Read id g place buffer) h = tt
  install_kept (Packet.Write id g place payload) h = tt
  install_kept (Packet.Answer id answer) h = tt
  install_kept (Packet.Close id to ep g) h = tt

  added : (h : ℕ) → grant_in more h ≡ (if h == (length s.grants + 1) then Some (new_grant line f) else grant_in s.grants h)
  added h = grant_added s.grants (new_grant line f) h

  -- no grant that isn't done is held there
  nobody : (g : ℕ) (x : Grant) → grant_in s.grants g ≡ Some x → is_done x.standing ≡ false → holder x.line ≡ holder line → holder_ep x.line ≡ holder_ep line → ⊥
  nobody g x e z p q =
      let got : slice_get s.grants (g - 1) ≡ Some x = grind (arith, nat_tests, e) in
      let t : holds_at (holder line) (holder_ep line) x ≡ true = grind (arith, nat_tests, z, p, q) in
      let u = any_got (holds_at (holder line) (holder_ep line)) s.grants (g - 1) x got t in
      absurd (cc)

  free_there : form_of (endpoint_at (context_of (holder line) s.contexts) (holder_ep line)) ≡ None
  free_there = by_context (context_of (holder line) s.contexts) refl
    where
      by_grant : (c : Context) (k : Fresh) → context_of (holder line) s.contexts ≡ Some c → form_of (endpoint c (holder_ep line)) ≡ Some k → (o : Option Grant) → grant_in s.grants (number_of k) ≡ o → IsHeldAt o (holder line) (holder_ep line) k → is_open_grant o ≡ true → ⊥
      by_grant c k e w None q h t = absurd h
      by_grant c k e w (Some x) q h t = nobody (number_of k) x q (open_undone x.standing t) h.act h.ep

      by_form : (c : Context) → context_of (holder line) s.contexts ≡ Some c → (o : Option Fresh) → form_of (endpoint c (holder_ep line)) ≡ o → o ≡ None
      by_form c e None w = refl
      by_form c e (Some k) w =
          let held = subst (FormLawful s.grants (holder line) (holder_ep line)) w (placed.records (holder line) c e (holder_ep line)) in
          let is = is_at_form (endpoint c (holder_ep line)) k w in
          absurd (by_grant c k e w (grant_in s.grants (number_of k)) refl held (record_open s placed (number_of k) (holder line) (holder_ep line) c e is))
        where
          is_at_form : (e : Endpoint) (k : Fresh) → form_of e ≡ Some k → is_record_of (number_of k) e ≡ true
          is_at_form Free k w = absurd (cc)
          is_at_form (Sends r) k w = grind (arith, nat_tests, w)
          is_at_form (Receives r) k w = grind (arith, nat_tests, w)
          is_at_form (Reaches r) k w = grind (arith, nat_tests, w)

      by_context : (o : Option Context) → context_of (holder line) s.contexts ≡ o → form_of (endpoint_at o (holder_ep line)) ≡ None
      by_context None e = refl
      by_context (Some c) e = by_form c e (form_of (endpoint c (holder_ep line))) refl

  new_lawful_install : InstallLawful more s.contexts (new_install s line f)
  new_lawful_install =
      let here : grant_in more (number_of f) ≡ Some (new_grant line f) = ap (grant_in more) number ∙ (added (length s.grants + 1) ∙ grind (arith, nat_tests)) in
      (inside, subst (λ z. IsHeldAt z (holder line) (holder_ep line) f) (sym here) (record { fresh = refl; act = refl; ep = refl }), free_there)

  opens_more : (h : ℕ) → one (is_open_grant (grant_in more h)) ≡ one (is_open_grant (grant_in s.grants h)) + one (number_of f == h)
  opens_more h = grind (arith, nat_tests, added h, number, none_past)

  sents_same : (h : ℕ) → one (is_close_sent (grant_in more h)) ≡ one (is_close_sent (grant_in s.grants h))
  sents_same h = grind (arith, nat_tests, added h, none_past)

  new_slots : SlotsLawful more
  new_slots g h x y e w m n p q = by_numbers (g == (length s.grants + 1)) (h == (length s.grants + 1)) refl refl (sym (added g) ∙ e) (sym (added h) ∙ w)
    where
      by_numbers : (a b : Bool) → (g == (length s.grants + 1)) ≡ a → (h == (length s.grants + 1)) ≡ b → (if a then Some (new_grant line f) else grant_in s.grants g) ≡ Some x → (if b then Some (new_grant line f) else grant_in s.grants h) ≡ Some y → g ≡ h
      by_numbers true true u v e w = grind (arith, nat_tests, u, v)
      by_numbers false false u v e w = placed.slots g h x y e w m n p q
      by_numbers true false u v e w = let r : new_grant line f ≡ x = cc in let l : line ≡ x.line = ap (λ z. z.line) r in absurd (nobody h y w n (sym p ∙ ap holder (sym l)) (sym q ∙ ap holder_ep (sym l)))
      by_numbers false true u v e w = let r : new_grant line f ≡ y = cc in let l : line ≡ y.line = ap (λ z. z.line) r in absurd (nobody g x e m (p ∙ ap holder (sym l)) (q ∙ ap holder_ep (sym l)))

  pub made_placed : RecordsMatchGrants (with_grant_made s line f)
  made_placed = record {
    distinct = distinct-new (new_install s line f) s.flights apart placed.distinct;
    cells = placed.cells;
    records = λ a c e ep. form_kept a ep (form_of (endpoint c ep)) (placed.records a c e ep);
    installs = λ i q e. by_new i q (found_new i q (new_install s line f) s.flights apart e);
    presence = λ h. omega (arith, placed.presence h, how_many-inserted name_of same_name name_before (is_install_of h) (new_install s line f) s.flights, opens_more h);
    closings = λ h. omega (arith, placed.closings h, how_many-inserted name_of same_name name_before (is_close_of h) (new_install s line f) s.flights, sents_same h);
    grants = make_tree s.grants line f placed.grants is_form live;
    slots = new_slots;
  }
    where
      by_new : (i : FlightId) (q : Packet) → (q ≡ (new_install s line f)) ⊎ (flight i s.flights ≡ Some q) → InstallLawful more s.contexts q
      by_new i q (inl e) = subst (InstallLawful more s.contexts) (sym e) new_lawful_install
      by_new i q (inr e) = install_kept q (placed.installs i q e)
