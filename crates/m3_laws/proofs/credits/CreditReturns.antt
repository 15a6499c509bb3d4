-- A credit that flies for an open grant finds the grant's send record.
use Rattle.std.proofs.Common.{◌≡◌, ℕ, zero, suc, ◌≤◌, Bool, true, false, List, [], ◌∷◌, get_or, Some, None, refl, sym, subst, ◌∙◌, ap, arith, inl, inr}
use Rattle.std.specs.Prelude.{◌==◌, ◌⊎◌}
use Rattle.std.specs.List.{list_any}
use Rattle.std.proofs.lemmas.Bool.Decides.{nat_tests}
use Rattle.m3_base.specs.declared.ids.FlightId.{FlightId}
use Rattle.m3_base.specs.declared.packet.Packet.{Packet}
use Rattle.m3_base.specs.declared.packet.Fresh.{Fresh}
use Rattle.m3_base.specs.Lists.Counting.{total, one, how_many}
use Rattle.m3_base.specs.Ideal.Flights.{flight, same_name, name_of}
use Rattle.m3_base.specs.Ideal.Context.{Endpoint, Free, Sends, Receives, Reaches, Context, endpoint}
use Rattle.m3_base.specs.Ideal.Landing.{sends_by, has_send, is_record_of}
use Rattle.m3_base.specs.Ideal.State.{Grant, State, context_of, grant_in, holder, same_act, is_open, DistinctActs}
use Rattle.m3_base.specs.Ideal.Step.{number_of, is_install_of}
use Rattle.m3_base.specs.Ideal.Credits.{carries_credit, queued_credits, credits}
use Rattle.m3_base.specs.Ideal.FlightNames.{Apart, Distinct}
use Rattle.m3_base.proofs.FlightNames.{same_name-itself, same_name-is}
use Rattle.m3_laws.proofs.credits.Land.{credits_are}
use Rattle.m3_laws.specs.GrantInvariant.{is_open_grant, form_of, HeldGrant, IsHeldAt, FormLawful, InstallLawful, RecordsMatchGrants}
use Rattle.m3_laws.specs.Laws.{limit_of}
use Rattle.m3_laws.proofs.credits.Counting.{one_found}
use Rattle.m3_base.proofs.Activities.{same_act-is, same_act-itself}

-- ---- what holds of each flight that is found holds of all

abbrev pub Each : (Packet → Type 0) → List Packet → Type 0
Each P [] = Unit {0}
Each P (p ∷ fs) = P p × Each P fs

still_found : (id : FlightId) (x p : Packet) (fs : List Packet) → Apart (name_of p) fs → flight id fs ≡ Some x → flight id (p ∷ fs) ≡ Some x
still_found id x p fs a e = by_name (same_name id (name_of p)) refl
  where
    by_name : (b : Bool) → same_name id (name_of p) ≡ b → flight id (p ∷ fs) ≡ Some x
    by_name false w = grind (arith, w, e)
    by_name true w =
        let n : id ≡ name_of p = same_name-is id (name_of p) w in
        let r : flight id fs ≡ None = subst (λ z. Apart z fs) (sym n) a in
        absurd (cc)

pub each_found : (P : Packet → Type 0) (fs : List Packet) → Distinct fs → ((id : FlightId) (p : Packet) → flight id fs ≡ Some p → P p) → Each P fs
each_found P [] d h = tt
each_found P (p ∷ fs) d h = (h (name_of p) p (grind (arith, same_name-itself (name_of p))), each_found P fs d.1 (λ id x e. h id x (still_found id x p fs d.0 e)))

-- each Install of g waits with this limit
abbrev pub WaitsFor : ℕ → ℕ → Packet → Type 0
WaitsFor g n p = is_install_of g p ≡ true → queued_credits g p ≡ n

all_wait : (g n : ℕ) (fs : List Packet) → Each (WaitsFor g n) fs → 1 ≤ how_many (is_install_of g) fs → n ≤ total (queued_credits g) fs
all_wait g n [] h l = absurd (omega (arith, l))
all_wait g n (p ∷ fs) h l = by_head (is_install_of g p) refl (all_wait g n fs h.1)
  where
    by_head : (b : Bool) → is_install_of g p ≡ b → (1 ≤ how_many (is_install_of g) fs → n ≤ total (queued_credits g) fs) → n ≤ total (queued_credits g) (p ∷ fs)
    by_head true w ih = omega (arith, h.0 w)
    by_head false w ih = let z = ih (omega (arith, l, ap one w)) in omega (arith, z)

-- ---- the context that has the record

pub found_lone : (F : Context → ℕ) (to : ℕ) (cs : List Context) → DistinctActs cs → ((a : ℕ) (c : Context) → context_of a cs ≡ Some c → 1 ≤ F c → a ≡ to) → 1 ≤ total F cs → (x : Context) × ((context_of to cs ≡ Some x) × (1 ≤ F x))
found_lone F to [] d h l = absurd (omega (arith, l))
found_lone F to (y ∷ ys) d h l = by_head (F y) refl (found_lone F to ys d.1)
  where
    first : context_of y.act (y ∷ ys) ≡ Some y
    first = grind (arith, same_act-itself y.act)

    later : (a : ℕ) (c : Context) → context_of a ys ≡ Some c → context_of a (y ∷ ys) ≡ Some c
    later a c e = by_act (same_act a y.act) refl
      where
        by_act : (b : Bool) → same_act a y.act ≡ b → context_of a (y ∷ ys) ≡ Some c
        by_act false w = grind (arith, w, e)
        by_act true w = let r : context_of a ys ≡ None = subst (λ z. context_of z ys ≡ None) (sym (same_act-is a y.act w)) d.0 in absurd (cc)

    in_rest : (x : Context) × ((context_of to ys ≡ Some x) × (1 ≤ F x)) → (x : Context) × ((context_of to (y ∷ ys) ≡ Some x) × (1 ≤ F x))
    in_rest r = (r.0, (later to r.0 r.1.0, r.1.1))

    by_head : (n : ℕ) → F y ≡ n → (((a : ℕ) (c : Context) → context_of a ys ≡ Some c → 1 ≤ F c → a ≡ to) → 1 ≤ total F ys → (x : Context) × ((context_of to ys ≡ Some x) × (1 ≤ F x))) → (x : Context) × ((context_of to (y ∷ ys) ≡ Some x) × (1 ≤ F x))
    by_head zero w ih = in_rest (ih (λ a c e k. h a c (later a c e) k) (omega (arith, l, w)))
    by_head (suc n) w ih =
        let k : 1 ≤ F y = omega (arith, w) in
        (y, (subst (λ z. context_of z (y ∷ ys) ≡ Some y) (h y.act y first k) first, k))

any_sends : (g : ℕ) (es : List Endpoint) → ((i : ℕ) → is_record_of g (get_or es i Free) ≡ true → sends_by g (get_or es i Free) ≡ true) → 1 ≤ how_many (is_record_of g) es → list_any (sends_by g) es ≡ true
any_sends g [] h l = absurd (omega (arith, l))
any_sends g (e ∷ es) h l = by_head (is_record_of g e) refl (any_sends g es (λ i. h (suc i)))
  where
    by_head : (b : Bool) → is_record_of g e ≡ b → (1 ≤ how_many (is_record_of g) es → list_any (sends_by g) es ≡ true) → list_any (sends_by g) (e ∷ es) ≡ true
    by_head true w ih = let z = h 0 w in grind (arith, z)
    by_head false w ih = let z = ih (omega (arith, l, ap one w)) in grind (arith, z)

-- an endpoint with a grant number has it in its form
pub form_at : (g : ℕ) (e : Endpoint) → is_record_of g e ≡ true → (f : Fresh) × ((form_of e ≡ Some f) × ((number_of f ≡ g) × ((sends_by g e ≡ true) ⊎ (limit_of f ≡ 0))))
form_at g Free h = absurd (cc)
form_at g (Sends r) h = (_, (refl, (grind (arith, nat_tests, h), inl h)))
form_at g (Receives r) h = (_, (refl, (grind (arith, nat_tests, h), inr refl)))
form_at g (Reaches r) h = (_, (refl, (grind (arith, nat_tests, h), inr refl)))

some_form : (e : Endpoint) (gs : List Grant) (a ep : ℕ) (f : Fresh) → form_of e ≡ Some f → FormLawful gs a ep (form_of e) → IsHeldAt (grant_in gs (number_of f)) a ep f
some_form e gs a ep f q h = subst (FormLawful gs a ep) q h

module _ (s : State) (placed : RecordsMatchGrants s) (acts : DistinctActs s.contexts) (g to : ℕ) (y : Grant) (x : Context) (at : context_of to s.contexts ≡ Some x) (here : grant_in s.grants g ≡ Some y) (holds : holder y.line ≡ to) (open' : is_open y.standing ≡ true) (limit : credits g s ≡ limit_of y.fresh) (id : FlightId) (p : Packet) (find : flight id s.flights ≡ Some p) (carried : carries_credit g s.contexts p ≡ true) where
  flies : 1 ≤ how_many (carries_credit g s.contexts) s.flights
  flies = one_found name_of same_name (carries_credit g s.contexts) id p s.flights find carried

  waits : (i : FlightId) (q : Packet) → flight i s.flights ≡ Some q → WaitsFor g (limit_of y.fresh) q
  waits i q e = by_packet q (placed.installs i q e)
    where
      by_fresh : (f : Fresh) (j : FlightId) (b ep : ℕ) → (number_of f == g) ≡ true → queued_credits g (Packet.Install j b ep f) ≡ limit_of f
      by_fresh (Fresh.Send h k k_ep k_grant label size n) j b ep w = grind (arith, w)
      by_fresh (Fresh.Receive h slots size) j b ep w = refl
      by_fresh (Fresh.Memory h start len perm) j b ep w = refl

      by_packet : (q : Packet) → InstallLawful s.grants s.contexts q → WaitsFor g (limit_of y.fresh) q
      by_packet (Packet.Install j b ep f) h w =
          let n : number_of f ≡ g = grind (arith, nat_tests, w) in
          let r : IsHeldAt (Some y) b ep f = subst (λ z. IsHeldAt z b ep f) (ap (grant_in s.grants) n ∙ here) h.1 in
          by_fresh f j b ep w ∙ ap limit_of (sym r.fresh)
      by_packet (Packet.Message b ep h m) h' w = absurd (cc)
      by_packet (Packet.Credit j b h) h' w = absurd (cc)
      by_packet (Packet.Read j h place buffer) h' w = absurd (cc)
      by_packet (Packet.Write j h place payload) h' w = absurd (cc)
      by_packet (Packet.Answer j answer) h' w = absurd (cc)
      by_packet (Packet.Close j b ep h) h' w = absurd (cc)

  no_install : how_many (is_install_of g) s.flights ≡ 0
  no_install = by_count (how_many (is_install_of g) s.flights) refl
    where
      by_count : (n : ℕ) → how_many (is_install_of g) s.flights ≡ n → n ≡ 0
      by_count zero e = refl
      by_count (suc n) e =
          let w = all_wait g (limit_of y.fresh) s.flights (each_found (WaitsFor g (limit_of y.fresh)) s.flights placed.distinct waits) (omega (arith, e)) in
          absurd (omega (arith, w, flies, limit, credits_are g s))

  one_there : 1 ≤ total (λ c. how_many (is_record_of g) c.endpoints) s.contexts
  one_there =
      let t : is_open_grant (grant_in s.grants g) ≡ true = ap is_open_grant here ∙ open' in
      omega (arith, placed.presence g, no_install, ap one t)

  limited : (limit_of y.fresh ≡ 0) → ⊥
  limited e = omega (arith, e, flies, limit, credits_are g s)

  held_form : (a ep : ℕ) (c : Context) → context_of a s.contexts ≡ Some c → (f : Fresh) → form_of (endpoint c ep) ≡ Some f → number_of f ≡ g → HeldGrant y a ep f
  held_form a ep c e f q n = subst (λ z. IsHeldAt z a ep f) (ap (grant_in s.grants) n ∙ here) (some_form (endpoint c ep) s.grants a ep f q (placed.records a c e ep))

  sends_there : (a ep : ℕ) (c : Context) → context_of a s.contexts ≡ Some c → is_record_of g (endpoint c ep) ≡ true → (a ≡ to) × (sends_by g (endpoint c ep) ≡ true)
  sends_there a ep c e is =
      let f = form_at g (endpoint c ep) is in
      let h = held_form a ep c e f.0 f.1.0 f.1.1.0 in
      (sym h.act ∙ holds, either f.1.1.1 h)
    where
      either : (sends_by g (endpoint c ep) ≡ true) ⊎ (limit_of (form_at g (endpoint c ep) is).0 ≡ 0) → HeldGrant y a ep (form_at g (endpoint c ep) is).0 → sends_by g (endpoint c ep) ≡ true
      either (inl z) h = z
      either (inr z) h = absurd (limited (ap limit_of h.fresh ∙ z))

  some_index : (es : List Endpoint) → 1 ≤ how_many (is_record_of g) es → (i : ℕ) × (is_record_of g (get_or es i Free) ≡ true)
  some_index [] l = absurd (omega (arith, l))
  some_index (e ∷ es) l = by_head (is_record_of g e) refl (some_index es)
    where
      up : (i : ℕ) × (is_record_of g (get_or es i Free) ≡ true) → (i : ℕ) × (is_record_of g (get_or (e ∷ es) i Free) ≡ true)
      up r = (suc r.0, r.1)

      by_head : (b : Bool) → is_record_of g e ≡ b → (1 ≤ how_many (is_record_of g) es → (i : ℕ) × (is_record_of g (get_or es i Free) ≡ true)) → (i : ℕ) × (is_record_of g (get_or (e ∷ es) i Free) ≡ true)
      by_head true w ih = (0, w)
      by_head false w ih = up (ih (omega (arith, l, ap one w)))

  pub home_there : has_send g x ≡ true
  home_there =
      let r = found_lone (λ c. how_many (is_record_of g) c.endpoints) to s.contexts acts (λ a c e l. let i = some_index c.endpoints l in (sends_there a i.0 c e i.1).0) one_there in
      let same : r.0 ≡ x = (let z = r.1.0 in cc) in
      any_sends g x.endpoints (λ i is. (sends_there to i x at is).1) (subst (λ z. 1 ≤ how_many (is_record_of g) z.endpoints) same r.1.1)
