-- Records, Installs and Closes stay with their grants.
use Rattle.std.proofs.Common.{◌≡◌, ℕ, ◌<◌, ◌≤◌, Bool, true, false, List, length, get_or, set, Some, None, refl, sym, subst, ◌∙◌, ap, arith, inl, inr}
use Rattle.std.specs.Prelude.{Option, ◌==◌, ◌⊎◌}
use Rattle.std.proofs.lemmas.Bool.Decides.{nat_tests}
use Rattle.m3_base.specs.declared.ids.FlightId.{FlightId}
use Rattle.m3_base.specs.declared.packet.Packet.{Packet}
use Rattle.m3_base.specs.declared.packet.Fresh.{Fresh}
use Rattle.m3_base.specs.Lists.Counting.{one, how_many}
use Rattle.m3_base.specs.Ideal.Flights.{flight, end_flight, same_name, name_of}
use Rattle.m3_base.specs.Ideal.Context.{Endpoint, Free, Sends, Receives, Reaches, Context, endpoint, with_endpoint, new_endpoint, endpoint_at}
use Rattle.m3_base.specs.Ideal.Landing.{has_closing, is_record_of}
use Rattle.m3_base.specs.Ideal.State.{Standing, Live, Closing, Closed, Done, Grant, State, grant_in, is_done, context_of, put_context, act_of, same_act, act_before, is_open}
use Rattle.m3_base.specs.Ideal.Step.{number_of, is_install_of}
use Rattle.m3_base.proofs.KeyedList.{total-replaced, how_many-without, find-replaced_other, find-replaced_same}
use Rattle.m3_laws.proofs.invariant.step.LookUps.{found_after, found_ended}
use Rattle.m3_base.specs.Ideal.FlightNames.{Distinct}
use Rattle.m3_base.proofs.FlightNames.{distinct-end}
use Rattle.m3_laws.specs.GrantInvariant.{is_open_grant, is_close_sent, form_of, IsHeldAt, FormLawful, InstallLawful, SlotsLawful, RecordsMatchGrants}
use Rattle.m3_laws.specs.Laws.{is_close_of}
use Rattle.m3_laws.proofs.credits.Counting.{how_many-set, some_at, some_found, one_found, SameFixedParts, same_form, same_at, same_closing, same_cells, at_set}
use Rattle.m3_base.proofs.Activities.{same_act-is, same_act-itself, act_found, same_act-joins, found_own}
use Rattle.std.proofs.lemmas.List.{length-set}

pub is_one : (b : Bool) → 1 ≤ one b → b ≡ true
is_one true h = refl
is_one false h = absurd (omega (arith, h))

pub one_less : (b : Bool) → one b ≤ 1
one_less true = omega arith
one_less false = omega arith

-- ---- what the records of a state say

module _ (s : State) (placed : RecordsMatchGrants s) where
  pub record_open : (g a ep : ℕ) (c : Context) → context_of a s.contexts ≡ Some c → is_record_of g (endpoint c ep) ≡ true → is_open_grant (grant_in s.grants g) ≡ true
  record_open g a ep c at is =
      let n = (some_at (is_record_of g) c.endpoints ep refl is).0 in
      let m = some_found act_of same_act (λ x. how_many (is_record_of g) x.endpoints) a c s.contexts at in
      is_one (is_open_grant (grant_in s.grants g)) (omega (arith, n, m, placed.presence g))

  pub closing_sent : (g a ep : ℕ) (c : Context) → context_of a s.contexts ≡ Some c → has_closing g (endpoint c ep) ≡ true → is_close_sent (grant_in s.grants g) ≡ true
  closing_sent g a ep c at is =
      let n = (some_at (has_closing g) c.endpoints ep refl is).0 in
      let m = some_found act_of same_act (λ x. how_many (has_closing g) x.endpoints) a c s.contexts at in
      is_one (is_close_sent (grant_in s.grants g)) (omega (arith, n, m, placed.closings g))

  pub install_counts : (g to ep : ℕ) (id x : FlightId) (f : Fresh) (fs : List Packet) → flight id fs ≡ Some (Packet.Install x to ep f) → (number_of f == g) ≡ true → 1 ≤ how_many (is_install_of g) fs
  install_counts g to ep id x f fs find is = one_found name_of same_name (is_install_of g) id (Packet.Install x to ep f) fs find is

  pub install_open : (to ep : ℕ) (id x : FlightId) (f : Fresh) → flight id s.flights ≡ Some (Packet.Install x to ep f) → is_open_grant (grant_in s.grants (number_of f)) ≡ true
  install_open to ep id x f find =
      let n = install_counts (number_of f) to ep id x f s.flights find (grind (arith, nat_tests)) in
      is_one (is_open_grant (grant_in s.grants (number_of f))) (omega (arith, n, placed.presence (number_of f)))

-- ---- look-ups after one context changed

pub records_put : (gs : List Grant) (cs : List Context) (c d : Context) → context_of d.act cs ≡ Some c → ((a : ℕ) (x : Context) → context_of a cs ≡ Some x → (ep : ℕ) → FormLawful gs a ep (form_of (endpoint x ep))) → ((ep : ℕ) → FormLawful gs d.act ep (form_of (endpoint d ep))) → (a : ℕ) (x : Context) → context_of a (put_context d cs) ≡ Some x → (ep : ℕ) → FormLawful gs a ep (form_of (endpoint x ep))
records_put gs cs c d at old new a x e ep = by_found (found_after a x c d cs at e)
  where
    by_found : ((a ≡ d.act) × (x ≡ d)) ⊎ ((same_act a d.act ≡ false) × (context_of a cs ≡ Some x)) → FormLawful gs a ep (form_of (endpoint x ep))
    by_found (inl q) = subst (λ z. FormLawful gs z ep (form_of (endpoint x ep))) (sym q.0) (subst (λ z. FormLawful gs d.act ep (form_of (endpoint z ep))) (sym q.1) (new ep))
    by_found (inr q) = old a x q.1 ep

pub cells_put : (cs : List Context) (c d : Context) → context_of d.act cs ≡ Some c → ((a : ℕ) (x : Context) → context_of a cs ≡ Some x → length x.endpoints ≡ 16) → length d.endpoints ≡ length c.endpoints → (a : ℕ) (x : Context) → context_of a (put_context d cs) ≡ Some x → length x.endpoints ≡ 16
cells_put cs c d at old new a x e = by_found (found_after a x c d cs at e)
  where
    by_found : ((a ≡ d.act) × (x ≡ d)) ⊎ ((same_act a d.act ≡ false) × (context_of a cs ≡ Some x)) → length x.endpoints ≡ 16
    by_found (inl q) = subst (λ z. length z.endpoints ≡ 16) (sym q.1) (new ∙ old d.act c at)
    by_found (inr q) = old a x q.1

-- an endpoint that is free stays free where the changed context keeps it so
pub free_put : (cs : List Context) (c d : Context) (to ep : ℕ) → context_of d.act cs ≡ Some c → form_of (endpoint_at (context_of to cs) ep) ≡ None → (to ≡ d.act → form_of (endpoint c ep) ≡ None → form_of (endpoint d ep) ≡ None) → form_of (endpoint_at (context_of to (put_context d cs)) ep) ≡ None
free_put cs c d to ep at free new = by_same (same_act to d.act) refl
  where
    by_same : (b : Bool) → same_act to d.act ≡ b → form_of (endpoint_at (context_of to (put_context d cs)) ep) ≡ None
    by_same false w = ap (λ z. form_of (endpoint_at z ep)) (find-replaced_other act_of same_act act_before to d cs same_act-joins w) ∙ free
    by_same true w =
        let q = same_act-is to d.act w in
        let here : context_of to cs ≡ Some c = subst (λ z. context_of z cs ≡ Some c) (sym q) at in
        let r : context_of d.act (put_context d cs) ≡ Some d = find-replaced_same act_of same_act act_before d c cs (same_act-itself d.act) at in
        let t : context_of to (put_context d cs) ≡ Some d = subst (λ z. context_of z (put_context d cs) ≡ Some d) (sym q) r in
        ap (λ z. form_of (endpoint_at z ep)) t ∙ new q (ap (λ z. form_of (endpoint_at z ep)) (sym here) ∙ free)

-- ---- commands, landings of data and answers

pub installs_put : (gs : List Grant) (cs : List Context) (c d : Context) → context_of d.act cs ≡ Some c → ((to ep : ℕ) → to ≡ d.act → form_of (endpoint c ep) ≡ None → form_of (endpoint d ep) ≡ None) → (p : Packet) → InstallLawful gs cs p → InstallLawful gs (put_context d cs) p
installs_put gs cs c d at new (Packet.Install id to ep f) h = (h.0, h.1, free_put cs c d to ep at h.2 (new to ep))
installs_put gs cs c d at new (Packet.Message to ep g m) h = tt
installs_put gs cs c d at new (Packet.Credit id to g) h = tt
installs_put gs cs c d at new (Packet.Read id g place buffer) h = tt
installs_put gs cs c d at new (Packet.Write id g place payload) h = tt
installs_put gs cs c d at new (Packet.Answer id answer) h = tt
installs_put gs cs c d at new (Packet.Close id to ep g) h = tt

pub record SameOrders (gs : List Grant) (cs : List Context) (fs hs : List Packet) : Type 0 where
  pub distinct : Distinct hs
  pub waits : (id : FlightId) (p : Packet) → flight id hs ≡ Some p → InstallLawful gs cs p
  pub installed : (g : ℕ) → how_many (is_install_of g) hs ≡ how_many (is_install_of g) fs
  pub closed : (g : ℕ) → how_many (is_close_of g) hs ≡ how_many (is_close_of g) fs

pub faces_placed : (s : State) (memory : List ℕ) (c d : Context) (hs : List Packet) → RecordsMatchGrants s → context_of d.act s.contexts ≡ Some c → SameFixedParts c d → SameOrders s.grants s.contexts s.flights hs → RecordsMatchGrants (record s { memory = memory; contexts = put_context d s.contexts; flights = hs })
faces_placed s memory c d hs placed at faces same = record {
  distinct = same.distinct;
  cells = cells_put s.contexts c d at placed.cells (same_cells c d faces);
  records = records_put s.grants s.contexts c d at placed.records (λ ep. subst (FormLawful s.grants d.act ep) (sym (same_form c d ep faces)) (placed.records d.act c at ep));
  installs = λ id p e. installs_put s.grants s.contexts c d at (λ to ep q z. same_form c d ep faces ∙ z) p (same.waits id p e);
  presence = λ g. omega (
    arith,
    placed.presence g,
    same.installed g,
    same_at g c d faces,
    total-replaced act_of same_act act_before (λ x. how_many (is_record_of g) x.endpoints) d c s.contexts at,
  );
  closings = λ g. omega (
    arith,
    placed.closings g,
    same.closed g,
    same_closing g c d faces,
    total-replaced act_of same_act act_before (λ x. how_many (has_closing g) x.endpoints) d c s.contexts at,
  );
  grants = placed.grants;
  slots = placed.slots;
}

-- ---- an Install lands

pub opened_form : (f : Fresh) → form_of (new_endpoint f) ≡ Some f
opened_form (Fresh.Send grant to to_ep to_grant label size limit) = refl
opened_form (Fresh.Receive grant slots size) = refl
opened_form (Fresh.Memory grant start length perm) = refl

pub opened_at : (g : ℕ) (f : Fresh) → is_record_of g (new_endpoint f) ≡ (number_of f == g)
opened_at g (Fresh.Send grant to to_ep to_grant label size limit) = refl
opened_at g (Fresh.Receive grant slots size) = refl
opened_at g (Fresh.Memory grant start length perm) = refl

pub opened_closing : (g : ℕ) (f : Fresh) → has_closing g (new_endpoint f) ≡ false
opened_closing g (Fresh.Send grant to to_ep to_grant label size limit) = grind arith
opened_closing g (Fresh.Receive grant slots size) = grind arith
opened_closing g (Fresh.Memory grant start length perm) = grind arith

pub formless : (e : Endpoint) → form_of e ≡ None → e ≡ Free
formless Free h = refl
formless (Sends r) h = absurd (cc)
formless (Receives r) h = absurd (cc)
formless (Reaches r) h = absurd (cc)

pub open_undone : (t : Standing) → is_open t ≡ true → is_done t ≡ false
open_undone Live e = refl
open_undone Closing e = refl
open_undone Closed e = refl
open_undone Done e = absurd (cc)

-- two open grants that are held at one place are one
pub one_slot : (gs : List Grant) → SlotsLawful gs → (g h a ep : ℕ) (f k : Fresh) → IsHeldAt (grant_in gs g) a ep f → IsHeldAt (grant_in gs h) a ep k → is_open_grant (grant_in gs g) ≡ true → is_open_grant (grant_in gs h) ≡ true → g ≡ h
one_slot gs slots g h a ep f k p q m n = by_grants (grant_in gs g) (grant_in gs h) refl refl p q m n
  where
    by_grants : (u v : Option Grant) → grant_in gs g ≡ u → grant_in gs h ≡ v → IsHeldAt u a ep f → IsHeldAt v a ep k → is_open_grant u ≡ true → is_open_grant v ≡ true → g ≡ h
    by_grants None v e w p q m n = absurd p
    by_grants (Some x) None e w p q m n = absurd q
    by_grants (Some x) (Some y) e w p q m n = slots g h x y e w (open_undone x.standing m) (open_undone y.standing n) (p.act ∙ sym q.act) (p.ep ∙ sym q.ep)

module _ (s : State) (placed : RecordsMatchGrants s) (id x : FlightId) (to ep : ℕ) (f : Fresh) (c : Context) (find : flight id s.flights ≡ Some (Packet.Install x to ep f)) (at : context_of to s.contexts ≡ Some c) where
  abbrev d : Context
  d = with_endpoint c ep (new_endpoint f)

  abbrev hs : List Packet
  hs = end_flight id s.flights

  is_to : to ≡ c.act
  is_to = act_found to c s.contexts at

  law : InstallLawful s.grants s.contexts (Packet.Install x to ep f)
  law = placed.installs id (Packet.Install x to ep f) find

  pub install_free : endpoint c ep ≡ Free
  install_free = formless (endpoint c ep) (ap (λ z. form_of (endpoint_at z ep)) (sym at) ∙ law.2)

  pub install_inside : ep < length c.endpoints
  install_inside = subst (λ n. ep < n) (sym (placed.cells to c at)) law.0

  -- no other Install of this grant flies
  lone_install : how_many (is_install_of (number_of f)) hs ≡ 0
  lone_install =
      let n = how_many-without name_of same_name same_name (is_install_of (number_of f)) id (Packet.Install x to ep f) s.flights find in
      let t : (number_of f == number_of f) ≡ true = grind (arith, nat_tests) in
      omega (arith, n, ap one t, placed.presence (number_of f), one_less (is_open_grant (grant_in s.grants (number_of f))))

  stays_free : (i : FlightId) (y : FlightId) (ep2 : ℕ) (k : Fresh) (b : ℕ) → b ≡ c.act → flight i hs ≡ Some (Packet.Install y b ep2 k) → IsHeldAt (grant_in s.grants (number_of k)) b ep2 k → form_of (endpoint c ep2) ≡ None → form_of (endpoint d ep2) ≡ None
  stays_free i y ep2 k b q e h z = by_set (at_set c.endpoints ep ep2 (new_endpoint f))
    where
      by_set : (get_or (set c.endpoints ep (new_endpoint f)) ep2 Free ≡ get_or c.endpoints ep2 Free) ⊎ ((ep2 ≡ ep) × (get_or (set c.endpoints ep (new_endpoint f)) ep2 Free ≡ new_endpoint f)) → form_of (endpoint d ep2) ≡ None
      by_set (inl w) = ap form_of w ∙ z
      by_set (inr w) =
          let mine : IsHeldAt (grant_in s.grants (number_of f)) b ep2 f = subst (λ u. IsHeldAt (grant_in s.grants (number_of f)) u ep2 f) (is_to ∙ sym q) (subst (λ u. IsHeldAt (grant_in s.grants (number_of f)) to u f) (sym w.0) law.1) in
          let old = found_ended id i (Packet.Install y b ep2 k) s.flights placed.distinct e in
          let same : number_of k ≡ number_of f = one_slot s.grants placed.slots (number_of k) (number_of f) b ep2 k f h mine (install_open s placed b ep2 i y k old) (install_open s placed to ep id x f find) in
          let n = install_counts s placed (number_of f) b ep2 i y k hs e (grind (arith, nat_tests, same)) in
          absurd (omega (arith, n, lone_install))

  others : (i : FlightId) (p : Packet) → flight i hs ≡ Some p → InstallLawful s.grants s.contexts p → InstallLawful s.grants (put_context d s.contexts) p
  others i (Packet.Install y b ep2 k) e h = (h.0, h.1, free_put s.contexts c d b ep2 (found_own to c s.contexts at) h.2 (λ q z. stays_free i y ep2 k b q e h.1 z))
  others i (Packet.Message b ep2 g m) e h = tt
  others i (Packet.Credit y b g) e h = tt
  others i (Packet.Read y g place buffer) e h = tt
  others i (Packet.Write y g place payload) e h = tt
  others i (Packet.Answer y answer) e h = tt
  others i (Packet.Close y b ep2 g) e h = tt

  new_records : (i : ℕ) → FormLawful s.grants c.act i (form_of (endpoint d i))
  new_records i = by_set (at_set c.endpoints ep i (new_endpoint f))
    where
      by_set : (get_or (set c.endpoints ep (new_endpoint f)) i Free ≡ get_or c.endpoints i Free) ⊎ ((i ≡ ep) × (get_or (set c.endpoints ep (new_endpoint f)) i Free ≡ new_endpoint f)) → FormLawful s.grants c.act i (form_of (endpoint d i))
      by_set (inl w) = subst (λ z. FormLawful s.grants c.act i (form_of z)) (sym w) (placed.records c.act c (found_own to c s.contexts at) i)
      by_set (inr w) = subst (λ z. FormLawful s.grants c.act i (form_of z)) (sym w.1) (subst (FormLawful s.grants c.act i) (sym (opened_form f)) (subst (λ z. IsHeldAt (grant_in s.grants (number_of f)) z i f) is_to (subst (λ z. IsHeldAt (grant_in s.grants (number_of f)) to z f) (sym w.0) law.1)))

  pub install_placed : RecordsMatchGrants (record s { contexts = put_context d s.contexts; flights = hs })
  install_placed = record {
    distinct = distinct-end id s.flights placed.distinct;
    cells = cells_put s.contexts c d (found_own to c s.contexts at) placed.cells (length-set c.endpoints ep (new_endpoint f));
    records = records_put s.grants s.contexts c d (found_own to c s.contexts at) placed.records new_records;
    installs = λ i p e. others i p e (placed.installs i p (found_ended id i p s.flights placed.distinct e));
    presence = λ g. omega (
      arith,
      placed.presence g,
      how_many-set (is_record_of g) c.endpoints ep (new_endpoint f) Free install_inside,
      ap (λ e. one (is_record_of g e)) install_free,
      ap one (opened_at g f),
      how_many-without name_of same_name same_name (is_install_of g) id (Packet.Install x to ep f) s.flights find,
      total-replaced act_of same_act act_before (λ y. how_many (is_record_of g) y.endpoints) d c s.contexts (found_own to c s.contexts at),
    );
    closings = λ g. omega (
      arith,
      placed.closings g,
      how_many-set (has_closing g) c.endpoints ep (new_endpoint f) Free install_inside,
      ap (λ e. one (has_closing g e)) install_free,
      ap one (opened_closing g f),
      how_many-without name_of same_name same_name (is_close_of g) id (Packet.Install x to ep f) s.flights find,
      total-replaced act_of same_act act_before (λ y. how_many (has_closing g) y.endpoints) d c s.contexts (found_own to c s.contexts at),
    );
    grants = placed.grants;
    slots = placed.slots;
  }
