-- A Close that lands, and an endpoint that becomes free, leave records, Installs and Closes with their grants.
use Rattle.std.proofs.Common.{◌≡◌, ℕ, ◌+◌, ◌<◌, Bool, true, false, List, length, get_or, set, Some, None, refl, sym, subst, ◌∙◌, ap, arith, inl, inr}
use Rattle.std.specs.Prelude.{Option, if◌then◌else◌, ◌==◌, ◌⊎◌}
use Rattle.std.specs.Option.{option_map}
use Rattle.std.proofs.lemmas.Bool.Decides.{nat_tests}
use Rattle.m3_base.specs.declared.ids.FlightId.{FlightId}
use Rattle.m3_base.specs.declared.packet.Packet.{Packet}
use Rattle.m3_base.specs.declared.packet.Fresh.{Fresh}
use Rattle.m3_base.specs.Lists.Counting.{one, how_many}
use Rattle.m3_base.specs.Ideal.Flights.{flight, end_flight, same_name, name_of}
use Rattle.m3_base.specs.Ideal.Context.{Endpoint, Free, Sends, Receives, Reaches, Context, endpoint, with_endpoint}
use Rattle.m3_base.specs.Ideal.Landing.{has_closing, has_live, closed_at, is_record_of}
use Rattle.m3_base.specs.Ideal.State.{Closed, Grant, State, holder, holder_ep, grant_in, is_done, context_of, put_context, act_of, same_act, act_before, is_open}
use Rattle.m3_base.specs.Ideal.GrantRules.{change_grant}
use Rattle.m3_base.specs.Ideal.Step.{number_of, is_install_of}
use Rattle.m3_base.proofs.KeyedList.{total-replaced, how_many-without}
use Rattle.m3_base.proofs.FlightNames.{distinct-end}
use Rattle.m3_laws.proofs.invariant.step.LookUps.{found_ended}
use Rattle.m3_laws.specs.GrantInvariant.{GrantsLawful, is_open_grant, is_close_sent, form_of, IsHeldAt, FormLawful, InstallLawful, SlotsLawful, RecordsMatchGrants}
use Rattle.m3_laws.specs.Laws.{is_close_of}
use Rattle.m3_laws.proofs.grants.GrantList.{Changes, at_one, grant_changed, changed_from}
use Rattle.m3_laws.proofs.credits.Counting.{how_many-set, some_at, at_set}
use Rattle.m3_laws.proofs.grants.OrdersKeepGrants.{one_changes, closed_tree}
use Rattle.m3_laws.proofs.invariant.records.RecordsOfGrants.{closing_sent, records_put, cells_put, open_undone, installs_put}
use Rattle.std.proofs.lemmas.List.{length-set}

-- ---- a Close lands

closed_form : (e : Endpoint) → form_of (closed_at e) ≡ form_of e
closed_form Free = refl
closed_form (Sends r) = refl
closed_form (Receives r) = refl
closed_form (Reaches r) = refl

closed_is_at : (h : ℕ) (e : Endpoint) → is_record_of h (closed_at e) ≡ is_record_of h e
closed_is_at h Free = refl
closed_is_at h (Sends r) = refl
closed_is_at h (Receives r) = refl
closed_is_at h (Reaches r) = refl

live_counts : (g h : ℕ) (e : Endpoint) → has_live g e ≡ true → one (has_closing h (closed_at e)) ≡ one (has_closing h e) + one (g == h)
live_counts g h Free l = absurd (cc)
live_counts g h (Sends r) l = grind (arith, nat_tests, l)
live_counts g h (Receives r) l = grind (arith, nat_tests, l)
live_counts g h (Reaches r) l = grind (arith, nat_tests, l)

module _ (s : State) (placed : RecordsMatchGrants s) (id x : FlightId) (to ep g : ℕ) (c : Context) (find : flight id s.flights ≡ Some (Packet.Close x to ep g)) (here : context_of c.act s.contexts ≡ Some c) (live : has_live g (endpoint c ep) ≡ true) where
  abbrev closed : Context
  closed = with_endpoint c ep (closed_at (endpoint c ep))

  pub close_inside : ep < length c.endpoints
  close_inside = (some_at (has_live g) c.endpoints ep refl live).1

  closing_forms : (i : ℕ) → form_of (endpoint closed i) ≡ form_of (endpoint c i)
  closing_forms i = by_set (at_set c.endpoints ep i (closed_at (endpoint c ep)))
    where
      by_set : (get_or (set c.endpoints ep (closed_at (endpoint c ep))) i Free ≡ get_or c.endpoints i Free) ⊎ ((i ≡ ep) × (get_or (set c.endpoints ep (closed_at (endpoint c ep))) i Free ≡ closed_at (endpoint c ep))) → form_of (endpoint closed i) ≡ form_of (endpoint c i)
      by_set (inl w) = ap form_of w
      by_set (inr w) = ap form_of w.1 ∙ closed_form (endpoint c ep) ∙ ap (λ z. form_of (endpoint c z)) (sym w.0)

  pub close_placed : RecordsMatchGrants (record s { contexts = put_context closed s.contexts; flights = end_flight id s.flights })
  close_placed = record {
    distinct = distinct-end id s.flights placed.distinct;
    cells = cells_put s.contexts c closed here placed.cells (length-set c.endpoints ep (closed_at (endpoint c ep)));
    records = records_put s.grants s.contexts c closed here placed.records (λ i. subst (FormLawful s.grants c.act i) (sym (closing_forms i)) (placed.records c.act c here i));
    installs = λ i p e. installs_put s.grants s.contexts c closed here (λ b k q z. closing_forms k ∙ z) p (placed.installs i p (found_ended id i p s.flights placed.distinct e));
    presence = λ h. omega (
      arith,
      placed.presence h,
      how_many-set (is_record_of h) c.endpoints ep (closed_at (endpoint c ep)) Free close_inside,
      ap one (closed_is_at h (endpoint c ep)),
      how_many-without name_of same_name same_name (is_install_of h) id (Packet.Close x to ep g) s.flights find,
      total-replaced act_of same_act act_before (λ y. how_many (is_record_of h) y.endpoints) closed c s.contexts here,
    );
    closings = λ h. omega (
      arith,
      placed.closings h,
      how_many-set (has_closing h) c.endpoints ep (closed_at (endpoint c ep)) Free close_inside,
      live_counts g h (endpoint c ep) live,
      how_many-without name_of same_name same_name (is_close_of h) id (Packet.Close x to ep g) s.flights find,
      total-replaced act_of same_act act_before (λ y. how_many (has_closing h) y.endpoints) closed c s.contexts here,
    );
    grants = placed.grants;
    slots = placed.slots;
  }

-- ---- grants that change, and what names them

module _ (gs ks : List Grant) (f : ℕ → Grant → Grant) (ch : Changes gs ks f) where
  pub held_changed : (g a e : ℕ) (k : Fresh) → IsHeldAt (grant_in gs g) a e k → IsHeldAt (grant_in ks g) a e k
  held_changed g a e k h = subst (λ z. IsHeldAt z a e k) (sym (ch.at g)) (by_grant (grant_in gs g) h)
    where
      by_grant : (o : Option Grant) → IsHeldAt o a e k → IsHeldAt (option_map (f g) o) a e k
      by_grant None h = absurd h
      by_grant (Some x) h = record { fresh = ch.fresh g x ∙ h.fresh; act = ap holder (ch.line g x) ∙ h.act; ep = ap holder_ep (ch.line g x) ∙ h.ep }

  pub form_changed : (a e : ℕ) (o : Option Fresh) → FormLawful gs a e o → FormLawful ks a e o
  form_changed a e None h = tt
  form_changed a e (Some k) h = held_changed (number_of k) a e k h

  pub install_changed : (cs : List Context) (p : Packet) → InstallLawful gs cs p → InstallLawful ks cs p
  install_changed cs (Packet.Install id to ep k) h = (h.0, held_changed (number_of k) to ep k h.1, h.2)
  install_changed cs (Packet.Message to ep g m) h = tt
  install_changed cs (Packet.Credit id to g) h = tt
  install_changed cs (Packet.Read id g place buffer) h = tt
  install_changed cs (Packet.Write id g place payload) h = tt
  install_changed cs (Packet.Answer id answer) h = tt
  install_changed cs (Packet.Close id to ep g) h = tt

  pub slots_changed : ((h : ℕ) (x : Grant) → is_done (f h x).standing ≡ false → grant_in gs h ≡ Some x → is_done x.standing ≡ false) → SlotsLawful gs → SlotsLawful ks
  slots_changed done slots g h x y e w m n p q =
      let a = changed_from gs ks f ch g x (grant_in gs g) refl (sym (ch.at g) ∙ e) in
      let b = changed_from gs ks f ch h y (grant_in gs h) refl (sym (ch.at h) ∙ w) in
      let la : x.line ≡ (a.0).line = subst (λ z. z.line ≡ (a.0).line) a.1.1 (ch.line g a.0) in
      let lb : y.line ≡ (b.0).line = subst (λ z. z.line ≡ (b.0).line) b.1.1 (ch.line h b.0) in
      slots g h a.0 b.0 a.1.0 b.1.0
      (done g a.0 (ap (λ z. is_done z.standing) a.1.1 ∙ m) a.1.0)
      (done h b.0 (ap (λ z. is_done z.standing) b.1.1 ∙ n) b.1.0)
      (ap holder (sym la) ∙ p ∙ ap holder lb)
      (ap holder_ep (sym la) ∙ q ∙ ap holder_ep lb)

  pub open_changed : ((h : ℕ) (x : Grant) → grant_in gs h ≡ Some x → is_open (f h x).standing ≡ is_open x.standing) → (g : ℕ) → is_open_grant (grant_in ks g) ≡ is_open_grant (grant_in gs g)
  open_changed same g = ap is_open_grant (ch.at g) ∙ by_grant (grant_in gs g) refl
    where
      by_grant : (o : Option Grant) → grant_in gs g ≡ o → is_open_grant (option_map (f g) o) ≡ is_open_grant o
      by_grant None e = refl
      by_grant (Some x) e = same g x e

  pub sent_changed : ((h : ℕ) (x : Grant) → grant_in gs h ≡ Some x → is_open (f h x).standing ≡ is_open x.standing) → ((h : ℕ) (x : Grant) → (f h x).close_sent ≡ x.close_sent) → (g : ℕ) → is_close_sent (grant_in ks g) ≡ is_close_sent (grant_in gs g)
  sent_changed same sent g = ap is_close_sent (ch.at g) ∙ by_grant (grant_in gs g) refl
    where
      by_grant : (o : Option Grant) → grant_in gs g ≡ o → is_close_sent (option_map (f g) o) ≡ is_close_sent o
      by_grant None e = refl
      by_grant (Some x) e = rw (same g x e, sent g x) refl

-- revoke and done: grants alone change, and each open one stays open
pub placed_after_regrant : (s : State) (ks : List Grant) (f : ℕ → Grant → Grant) → Changes s.grants ks f → ((h : ℕ) (x : Grant) → grant_in s.grants h ≡ Some x → is_open (f h x).standing ≡ is_open x.standing) → ((h : ℕ) (x : Grant) → (f h x).close_sent ≡ x.close_sent) → ((h : ℕ) (x : Grant) → is_done (f h x).standing ≡ false → grant_in s.grants h ≡ Some x → is_done x.standing ≡ false) → GrantsLawful ks → RecordsMatchGrants s → RecordsMatchGrants (record s { grants = ks })
placed_after_regrant s ks f ch open' sent done law placed = record {
  distinct = placed.distinct;
  cells = placed.cells;
  records = λ a c e ep. form_changed s.grants ks f ch a ep (form_of (endpoint c ep)) (placed.records a c e ep);
  installs = λ i p e. install_changed s.grants ks f ch s.contexts p (placed.installs i p e);
  presence = λ g. placed.presence g ∙ ap one (sym (open_changed s.grants ks f ch open' g));
  closings = λ g. placed.closings g ∙ ap one (sym (sent_changed s.grants ks f ch open' sent g));
  grants = law;
  slots = slots_changed s.grants ks f ch done placed.slots;
}

-- ---- an endpoint becomes free

closing_is : (g h : ℕ) (e : Endpoint) → has_closing g e ≡ true → (is_record_of h e ≡ (g == h)) × (has_closing h e ≡ (g == h))
closing_is g h Free l = absurd (cc)
closing_is g h (Sends r) l = (grind (arith, nat_tests, l), grind (arith, nat_tests, l))
closing_is g h (Receives r) l = (grind (arith, nat_tests, l), grind (arith, nat_tests, l))
closing_is g h (Reaches r) l = (grind (arith, nat_tests, l), grind (arith, nat_tests, l))

abbrev pub to_closed : Grant → Grant
to_closed y = record y { standing = Closed }

sent_open : (o : Option Grant) → is_close_sent o ≡ true → is_open_grant o ≡ true
sent_open None h = absurd (cc)
sent_open (Some x) h = grind (arith, h)

opens_less : (gs : List Grant) (g h : ℕ) (o : Option Grant) → grant_in gs h ≡ o → is_open_grant (grant_in gs g) ≡ true → one (is_open_grant (option_map (at_one g to_closed h) o)) + one (g == h) ≡ one (is_open_grant o)
opens_less gs g h None e t = grind (arith, nat_tests, e, t)
opens_less gs g h (Some x) e t = grind (arith, nat_tests, e, t)

sents_less : (gs : List Grant) (g h : ℕ) (o : Option Grant) → grant_in gs h ≡ o → is_close_sent (grant_in gs g) ≡ true → one (is_close_sent (option_map (at_one g to_closed h) o)) + one (g == h) ≡ one (is_close_sent o)
sents_less gs g h None e t = grind (arith, nat_tests, e, t)
sents_less gs g h (Some x) e t = grind (arith, nat_tests, e, t)

module _ (s : State) (placed : RecordsMatchGrants s) (ep g : ℕ) (c : Context) (here : context_of c.act s.contexts ≡ Some c) (is : has_closing g (endpoint c ep) ≡ true) where
  abbrev freed_context : Context
  freed_context = with_endpoint c ep Free

  pub free_inside : ep < length c.endpoints
  free_inside = (some_at (has_closing g) c.endpoints ep refl is).1

  pub was_sent : is_close_sent (grant_in s.grants g) ≡ true
  was_sent = closing_sent s placed g c.act ep c here is

  pub was_open : is_open_grant (grant_in s.grants g) ≡ true
  was_open = sent_open (grant_in s.grants g) was_sent

  freed_form : (a i : ℕ) → FormLawful s.grants a i (form_of (endpoint c i)) → FormLawful s.grants a i (form_of (endpoint freed_context i))
  freed_form a i h = by_set (at_set c.endpoints ep i Free)
    where
      by_set : (get_or (set c.endpoints ep Free) i Free ≡ get_or c.endpoints i Free) ⊎ ((i ≡ ep) × (get_or (set c.endpoints ep Free) i Free ≡ Free)) → FormLawful s.grants a i (form_of (endpoint freed_context i))
      by_set (inl w) = subst (λ z. FormLawful s.grants a i (form_of z)) (sym w) h
      by_set (inr w) = subst (λ z. FormLawful s.grants a i (form_of z)) (sym w.1) tt

  freed_none : (i : ℕ) → form_of (endpoint c i) ≡ None → form_of (endpoint freed_context i) ≡ None
  freed_none i h = by_set (at_set c.endpoints ep i Free)
    where
      by_set : (get_or (set c.endpoints ep Free) i Free ≡ get_or c.endpoints i Free) ⊎ ((i ≡ ep) × (get_or (set c.endpoints ep Free) i Free ≡ Free)) → form_of (endpoint freed_context i) ≡ None
      by_set (inl w) = ap form_of w ∙ h
      by_set (inr w) = ap form_of w.1

  abbrev ks : List Grant
  ks = change_grant s.grants g to_closed

  ch : Changes s.grants ks (at_one g to_closed)
  ch = one_changes s.grants g to_closed (λ x. (refl, refl))

  at_law : GrantsLawful ks
  at_law = by_grant (grant_in s.grants g) refl was_open was_sent
    where
      by_grant : (o : Option Grant) → grant_in s.grants g ≡ o → is_open_grant o ≡ true → is_close_sent o ≡ true → GrantsLawful ks
      by_grant None e p q = absurd (cc)
      by_grant (Some x) e p q = closed_tree s.grants g x e p (grind (arith, q)) placed.grants

  done_stays : (h : ℕ) (x : Grant) → is_done (at_one g to_closed h x).standing ≡ false → grant_in s.grants h ≡ Some x → is_done x.standing ≡ false
  done_stays h x z e = by_same (h == g) refl z
    where
      by_open : (o : Option Grant) → o ≡ Some x → is_open_grant o ≡ true → is_done x.standing ≡ false
      by_open None e p = absurd (cc)
      by_open (Some y) e p = let q : y ≡ x = cc in subst (λ w. is_done w.standing ≡ false) q (open_undone y.standing p)

      by_same : (b : Bool) → (h == g) ≡ b → is_done (if b then to_closed x else x).standing ≡ false → is_done x.standing ≡ false
      by_same false w z = z
      by_same true w z =
          let q : h ≡ g = grind (arith, nat_tests, w) in
          by_open (grant_in s.grants g) (subst (λ k. grant_in s.grants k ≡ Some x) q e) was_open

  pub closed_placed : RecordsMatchGrants (record s { contexts = put_context freed_context s.contexts; grants = ks })
  closed_placed = record {
    distinct = placed.distinct;
    cells = cells_put s.contexts c freed_context here placed.cells (length-set c.endpoints ep Free);
    records = λ a y e i. form_changed s.grants ks (at_one g to_closed) ch a i (form_of (endpoint y i)) (records_put s.grants s.contexts c freed_context here placed.records (λ k. freed_form c.act k (placed.records c.act c here k)) a y e i);
    installs = λ i p e. install_changed s.grants ks (at_one g to_closed) ch (put_context freed_context s.contexts) p (installs_put s.grants s.contexts c freed_context here (λ b k q z. freed_none k z) p (placed.installs i p e));
    presence = λ h. omega (
      arith,
      placed.presence h,
      how_many-set (is_record_of h) c.endpoints ep Free Free free_inside,
      ap one (closing_is g h (endpoint c ep) is).0,
      ap (λ z. one (is_open_grant z)) (grant_changed s.grants g to_closed h),
      opens_less s.grants g h (grant_in s.grants h) refl was_open,
      total-replaced act_of same_act act_before (λ y. how_many (is_record_of h) y.endpoints) freed_context c s.contexts here,
    );
    closings = λ h. omega (
      arith,
      placed.closings h,
      how_many-set (has_closing h) c.endpoints ep Free Free free_inside,
      ap one (closing_is g h (endpoint c ep) is).1,
      ap (λ z. one (is_close_sent z)) (grant_changed s.grants g to_closed h),
      sents_less s.grants g h (grant_in s.grants h) refl was_sent,
      total-replaced act_of same_act act_before (λ y. how_many (has_closing h) y.endpoints) freed_context c s.contexts here,
    );
    grants = at_law;
    slots = slots_changed s.grants ks (at_one g to_closed) ch done_stays placed.slots;
  }
