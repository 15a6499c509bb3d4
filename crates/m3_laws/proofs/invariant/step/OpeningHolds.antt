-- The grant invariant holds at each opening, and so do the laws on credits, records and children after each run.
use Rattle.std.proofs.Common.{◌≡◌, ℕ, zero, suc, ◌+◌, ◌<◌, Bool, true, false, List, [], ◌∷◌, ◌++◌, length, get_or, Some, None, refl, sym, subst, ◌∙◌, ap, arith, inl, inr}
use Rattle.std.specs.Prelude.{Option, if◌then◌else◌, ◌==◌, nat_lt, ◌⊎◌, replicate}
use Rattle.std.specs.List.{list_any}
use Rattle.std.proofs.lemmas.Bool.Decides.{nat_tests}
use Rattle.m3_base.specs.declared.packet.Packet.{Packet}
use Rattle.m3_base.specs.declared.packet.Fresh.{Fresh}
use Rattle.m3_base.specs.declared.order.GrantLine.{GrantLine}
use Rattle.m3_base.specs.Lists.Counting.{one, how_many}
use Rattle.m3_base.specs.Ideal.Flights.{kernel, flight, end_flight, new_flight}
use Rattle.m3_base.specs.Ideal.Context.{Free, Context, endpoint, with_endpoint, new_endpoint, new_context}
use Rattle.m3_base.specs.Ideal.Landing.{has_closing, is_record_of}
use Rattle.m3_base.specs.Ideal.State.{Standing, Live, Closing, Closed, Done, Grant, State, context_of, put_context, act_of, same_act, act_before, grant_in, holder, holder_ep, parent_of, parent_in, undone, is_done, new_context_in, is_open, DistinctActs}
use Rattle.m3_base.specs.Ideal.GrantRules.{form, with_grant_made, kernel_id, new_grant, holds_at, is_above_closing, new_install}
use Rattle.m3_base.specs.Ideal.Credits.{carries_credit, credits}
use Rattle.m3_base.proofs.KeyedList.{total-inserted}
use Rattle.m3_base.proofs.FlightNames.{same_name-itself}
use Rattle.m3_laws.proofs.credits.EndpointWeights.{context_weight}
use Rattle.m3_laws.proofs.credits.Land.{credits_are}
use Rattle.m3_laws.specs.GrantInvariant.{is_open_grant, is_close_sent, KeepsOpen, QueueLawful, ContextLawful, CreditsLawful, GrantInvariant, FormLawful, form_of}
use Rattle.m3_laws.specs.Laws.{AllFit, CreditLaw, RecordLaw, ChildrenLaw}
use Rattle.m3_laws.proofs.grants.GrantList.{grant_added}
use Rattle.m3_laws.proofs.invariant.step.ChangeKeepsTraffic.{credits_keep}
use Rattle.m3_base.specs.declared.step.Step.{Step}
use Rattle.m3_base.specs.declared.setup_line.SetupLine.{SetupLine}
use Rattle.m3_base.specs.Ideal.Opening.{opening, with_line, with_lines, state_with_grant, contexts_with_record}
use Rattle.m3_base.specs.Ideal.MessageTraces.{final}
use Rattle.m3_base.proofs.FlightOrder.{find-new}
use Rattle.m3_base.specs.Setup.Rules.{SetupValue, IsValid}
use Rattle.m3_base.proofs.SetupObligations.{valid_obeys}
use Rattle.m3_base.specs.Setup.Obligations.{LineIsOk, LinesAreOk, Declared}
use Rattle.m3_laws.proofs.invariant.step.OrdersKeep.{made_lawful, install_lawful}
use Rattle.m3_laws.proofs.invariant.step.StepKeeps.{run_lawful}
use Rattle.m3_laws.proofs.invariant.records.RecordsOfGrants.{record_open}
use Rattle.m3_base.proofs.Activities.{same_act-is}
use Rattle.m3_base.specs.Ideal.Step.{after_ending}

-- a state of the setup: nothing flies, and each grant is live
pub record Early (s : State) : Type 0 where
  pub law : GrantInvariant s
  pub flights : s.flights ≡ []
  pub live : (g : ℕ) (x : Grant) → grant_in s.grants g ≡ Some x → x.standing ≡ Live

-- ---- no name is used where nothing flies

reset : (s : State) (fs : List Packet) (k : ℕ) → s.flights ≡ fs → fs ≡ [] → GrantInvariant s → GrantInvariant (record s { flights = fs; kernel_next = k })
reset s fs k e z law =
    let same : GrantInvariant (record s { flights = fs }) = subst (λ w. GrantInvariant (record s { flights = w })) e law in
    record {
      placed = record { distinct = same.placed.distinct; cells = same.placed.cells; records = same.placed.records; installs = same.placed.installs; presence = same.placed.presence; closings = same.placed.closings; grants = same.placed.grants; slots = same.placed.slots };
      traffic = record { acts = same.traffic.acts; contexts = same.traffic.contexts; packets = same.traffic.packets; orders = λ n h. ap (flight (record { issuer = kernel; number = n })) z };
      credits = same.credits;
    }

-- ---- a new activity

pub find_inserted : (a : ℕ) (d : Context) (cs : List Context) → context_of d.act cs ≡ None → (x : Context) → context_of a (new_context_in d cs) ≡ Some x → ((a ≡ d.act) × (x ≡ d)) ⊎ (context_of a cs ≡ Some x)
find_inserted a d [] n x e = by_act (same_act a d.act) refl
  where
    by_act : (b : Bool) → same_act a d.act ≡ b → ((a ≡ d.act) × (x ≡ d)) ⊎ (context_of a [] ≡ Some x)
    by_act true w = let q : d ≡ x = grind (arith, e, w) in inl (same_act-is a d.act w, sym q)
    by_act false w = absurd (grind (arith, e, w))
find_inserted a d (y ∷ ys) n x e = by_order (nat_lt d.act y.act) e (find_inserted a d ys (grind (arith, n)) x)
  where
    front : context_of a (d ∷ y ∷ ys) ≡ Some x → (b : Bool) → same_act a d.act ≡ b → ((a ≡ d.act) × (x ≡ d)) ⊎ (context_of a (y ∷ ys) ≡ Some x)
    front e true w = let q : d ≡ x = grind (arith, e, w) in inl (same_act-is a d.act w, sym q)
    front e false w = inr (grind (arith, e, w))

    behind : context_of a (y ∷ new_context_in d ys) ≡ Some x → (context_of a (new_context_in d ys) ≡ Some x → ((a ≡ d.act) × (x ≡ d)) ⊎ (context_of a ys ≡ Some x)) → (b : Bool) → same_act a y.act ≡ b → ((a ≡ d.act) × (x ≡ d)) ⊎ (context_of a (y ∷ ys) ≡ Some x)
    behind e ih true w = inr (grind (arith, e, w))
    behind e ih false w = up (ih (grind (arith, e, w)))
      where
        up : ((a ≡ d.act) × (x ≡ d)) ⊎ (context_of a ys ≡ Some x) → ((a ≡ d.act) × (x ≡ d)) ⊎ (context_of a (y ∷ ys) ≡ Some x)
        up (inl z) = inl z
        up (inr z) = inr (grind (arith, w, z))

    by_order : (b : Bool) → context_of a (if b then d ∷ y ∷ ys else y ∷ new_context_in d ys) ≡ Some x → (context_of a (new_context_in d ys) ≡ Some x → ((a ≡ d.act) × (x ≡ d)) ⊎ (context_of a ys ≡ Some x)) → ((a ≡ d.act) × (x ≡ d)) ⊎ (context_of a (y ∷ ys) ≡ Some x)
    by_order true e ih = front e (same_act a d.act) refl
    by_order false e ih = behind e ih (same_act a y.act) refl

none_inserted : (a : ℕ) (d : Context) (cs : List Context) → same_act a d.act ≡ false → context_of a cs ≡ None → context_of a (new_context_in d cs) ≡ None
none_inserted a d [] w n = grind (arith, w)
none_inserted a d (y ∷ ys) w n = grind (arith, w, n, none_inserted a d ys w)

acts_inserted : (d : Context) (cs : List Context) → context_of d.act cs ≡ None → DistinctActs cs → DistinctActs (new_context_in d cs)
acts_inserted d [] n h = (refl, tt)
acts_inserted d (y ∷ ys) n h = by_order (nat_lt d.act y.act) (acts_inserted d ys (grind (arith, n)) h.1)
  where
    apart : same_act y.act d.act ≡ false
    apart = grind (arith, nat_tests, n)

    by_order : (b : Bool) → DistinctActs (new_context_in d ys) → DistinctActs (if b then d ∷ y ∷ ys else y ∷ new_context_in d ys)
    by_order true ih = (n, h)
    by_order false ih = (none_inserted y.act d ys apart h.0, ih)

pub free_at : (n i : ℕ) → get_or (replicate n Free) i Free ≡ Free
free_at zero i = refl
free_at (suc n) zero = refl
free_at (suc n) (suc i) = free_at n i

new_lawful_context : (gs : List Grant) (a : ℕ) → a < kernel → ContextLawful gs [] (new_context a)
new_lawful_context gs a l = record {
  act = l;
  lone = omega arith;
  fresh = λ n h. refl;
  apart = λ n h. refl;
  stands = λ n. tt;
  queues = λ i. subst (QueueLawful gs) (sym (free_at 16 i)) tt;
}

acted : (s : State) (a : ℕ) → context_of a s.contexts ≡ None → a < kernel → Early s → Early (record s { contexts = new_context_in (new_context a) s.contexts })
acted s a n l early = record {
  law = record {
    placed = record {
      distinct = early.law.placed.distinct;
      cells = λ b x e. by_cells b x (find_inserted b (new_context a) s.contexts n x e);
      records = λ b x e ep. by_records b x ep (find_inserted b (new_context a) s.contexts n x e);
      installs = λ id p e. absurd (grind (arith, e, early.flights));
      presence = λ g. omega (arith, early.law.placed.presence g, total-inserted act_of same_act act_before (λ x. how_many (is_record_of g) x.endpoints) (new_context a) s.contexts);
      closings = λ g. omega (arith, early.law.placed.closings g, total-inserted act_of same_act act_before (λ x. how_many (has_closing g) x.endpoints) (new_context a) s.contexts);
      grants = early.law.placed.grants;
      slots = early.law.placed.slots;
    };
    traffic = record {
      acts = acts_inserted (new_context a) s.contexts n early.law.traffic.acts;
      contexts = λ b x e. by_context b x (find_inserted b (new_context a) s.contexts n x e);
      packets = λ id p e. absurd (grind (arith, e, early.flights));
      orders = early.law.traffic.orders;
    };
    credits = λ g. credits_keep (grant_in s.grants g) (credits g s) _ (λ claim. omega (
      arith,
      credits_are g s,
      credits_are g (record s { contexts = new_context_in (new_context a) s.contexts }),
      total-inserted act_of same_act act_before (context_weight g) (new_context a) s.contexts,
      ap (how_many (carries_credit g s.contexts)) early.flights,
      ap (how_many (carries_credit g (new_context_in (new_context a) s.contexts))) early.flights,
    )) (early.law.credits g);
  };
  flights = early.flights;
  live = early.live;
}
  where
    by_cells : (b : ℕ) (x : Context) → ((b ≡ a) × (x ≡ new_context a)) ⊎ (context_of b s.contexts ≡ Some x) → length x.endpoints ≡ 16
    by_cells b x (inl q) = subst (λ z. length z.endpoints ≡ 16) (sym q.1) refl
    by_cells b x (inr q) = early.law.placed.cells b x q

    by_records : (b : ℕ) (x : Context) (ep : ℕ) → ((b ≡ a) × (x ≡ new_context a)) ⊎ (context_of b s.contexts ≡ Some x) → FormLawful s.grants b ep (form_of (endpoint x ep))
    by_records b x ep (inl q) = subst (λ z. FormLawful s.grants b ep (form_of (endpoint z ep))) (sym q.1) (subst (λ z. FormLawful s.grants b ep (form_of z)) (sym (free_at 16 ep)) tt)
    by_records b x ep (inr q) = early.law.placed.records b x q ep

    by_context : (b : ℕ) (x : Context) → ((b ≡ a) × (x ≡ new_context a)) ⊎ (context_of b s.contexts ≡ Some x) → ContextLawful s.grants s.flights x
    by_context b x (inl q) = subst (ContextLawful s.grants s.flights) (sym q.1) (subst (λ fs. ContextLawful s.grants fs (new_context a)) (sym early.flights) (new_lawful_context s.grants a l))
    by_context b x (inr q) = early.law.traffic.contexts b x q

-- ---- a grant of the setup: it is made, and its Install lands

module _ (s : State) (line : GrantLine) (f : Fresh) (early : Early s) (inside : holder_ep line < 16) (slot : list_any (holds_at (holder line) (holder_ep line)) s.grants ≡ false) (is_form : form (length s.grants + 1) line (parent_in s.grants (parent_of line)) ≡ Some f) where
  live_undone : (o : Option Grant) → ((x : Grant) → o ≡ Some x → x.standing ≡ Live) → (undone o ≡ o) × (is_above_closing (undone o) ≡ false)
  live_undone None h = (refl, refl)
  live_undone (Some x) h = let z = h x refl in (grind (arith, z), grind (arith, z))

  parent_live : (o : Option ℕ) (x : Grant) → parent_in s.grants o ≡ Some x → x.standing ≡ Live
  parent_live None x e = absurd (cc)
  parent_live (Some p) x e = early.live p x e

  facts : (undone (parent_in s.grants (parent_of line)) ≡ parent_in s.grants (parent_of line)) × (is_above_closing (undone (parent_in s.grants (parent_of line))) ≡ false)
  facts = live_undone (parent_in s.grants (parent_of line)) (λ x e. parent_live (parent_of line) x e)

  the_made : GrantInvariant (with_grant_made s line f)
  the_made = made_lawful s line f early.law (subst (λ z. form (length s.grants + 1) line z ≡ Some f) (sym facts.0) is_form) facts.1 slot inside

  one_flight : new_flight (new_install s line f) s.flights ≡ (new_install s line f) ∷ []
  one_flight = ap (new_flight (new_install s line f)) early.flights

  there : flight (kernel_id s) (new_flight (new_install s line f) s.flights) ≡ Some (new_install s line f)
  there = find-new (new_install s line f) s.flights (early.law.traffic.orders s.kernel_next (omega arith))

  none_left : end_flight (kernel_id s) (new_flight (new_install s line f) s.flights) ≡ []
  none_left = ap (end_flight (kernel_id s)) one_flight ∙ grind (arith, same_name-itself (kernel_id s))

  new_live : (g : ℕ) (x : Grant) → grant_in (s.grants ++ new_grant line f ∷ []) g ≡ Some x → x.standing ≡ Live
  new_live g x e = by_number (g == (length s.grants + 1)) (sym (grant_added s.grants (new_grant line f) g) ∙ e)
    where
      by_number : (b : Bool) → (if b then Some (new_grant line f) else grant_in s.grants g) ≡ Some x → x.standing ≡ Live
      by_number true e = let q : new_grant line f ≡ x = cc in ap (λ z. z.standing) (sym q)
      by_number false e = early.live g x e

  pub granted_early : (o : Option Context) → context_of (holder line) s.contexts ≡ o → Declared o → Early (record s { contexts = contexts_with_record (holder_ep line) f s.contexts o; grants = s.grants ++ new_grant line f ∷ [] })
  granted_early None e d = absurd d
  granted_early (Some c) e d = record {
    law =
        let landed = install_lawful (with_grant_made s line f) (kernel_id s) (kernel_id s) (holder line) (holder_ep line) f c the_made there e in
        subst (λ fs. GrantInvariant (record s { contexts = put_context (with_endpoint c (holder_ep line) (new_endpoint f)) s.contexts; flights = fs; grants = s.grants ++ new_grant line f ∷ [] })) (sym early.flights)
        (reset (after_ending (with_grant_made s line f) (kernel_id s) (with_endpoint c (holder_ep line) (new_endpoint f))) [] s.kernel_next none_left refl landed);
    flights = early.flights;
    live = new_live;
  }

line_early : (s : State) (l : SetupLine) → LineIsOk s l → Early s → Early (with_line s l)
line_early s (SetupLine.Act a t) o early = acted s a o.0 o.1 early
line_early s (SetupLine.Quantum q) o early = early
line_early s (SetupLine.Files g) o early = early
line_early s (SetupLine.Item a c) o early = early
line_early s (SetupLine.AwaitItem a ep) o early = early
line_early s (SetupLine.Writer a m r p c n b) o early = early
line_early s (SetupLine.Reader a m r c n f) o early = early
line_early s (SetupLine.Boxed a k f) o early = early
line_early s (SetupLine.Grant line) o early = by_form (form (length s.grants + 1) line (parent_in s.grants (parent_of line))) refl
  where
    by_form : (f : Option Fresh) → form (length s.grants + 1) line (parent_in s.grants (parent_of line)) ≡ f → Early (state_with_grant s line f)
    by_form None e = early
    by_form (Some f) e = granted_early s line f early o.0 o.1.1 e (context_of (holder line) s.contexts) refl o.1.0

lines_early : (s : State) (ls : List SetupLine) → LinesAreOk s ls → Early s → Early (with_lines s ls)
lines_early s [] o early = early
lines_early s (l ∷ ls) o early = lines_early (with_line s l) ls o.1 (line_early s l o.0 early)

pub no_grant : (g : ℕ) → grant_in [] g ≡ None
no_grant g = grind (arith, nat_tests)

empty_early : (memory : ℕ) → Early (opening memory [])
empty_early memory = record {
  law = record {
    placed = record {
      distinct = tt;
      cells = λ a c e. absurd (cc);
      records = λ a c e ep. absurd (cc);
      installs = λ id p e. absurd (cc);
      presence = λ g. sym (ap (λ z. one (is_open_grant z)) (no_grant g));
      closings = λ g. sym (ap (λ z. one (is_close_sent z)) (no_grant g));
      grants = λ g x e. absurd (let z = no_grant g in cc);
      slots = λ g h x y e w m n p q. absurd (let z = no_grant g in cc);
    };
    traffic = record { acts = tt; contexts = λ a c e. absurd (cc); packets = λ id p e. absurd (cc); orders = λ n h. refl };
    credits = λ g. subst (λ z. CreditsLawful z 0) (sym (no_grant g)) refl;
  };
  flights = refl;
  live = λ g x e. absurd (let z = no_grant g in cc);
}

pub always_lawful : (memory : ℕ) (lines : List SetupLine) (steps : List Step) → LinesAreOk (opening memory []) lines → AllFit steps → GrantInvariant (final (opening memory lines) steps)
always_lawful memory lines steps o p = run_lawful (opening memory lines) steps (lines_early (opening memory []) lines o (empty_early memory)).law p

pub ever_lawful : (setup : SetupValue) (steps : List Step) → IsValid setup → AllFit steps → GrantInvariant (final (opening setup.memory setup.lines) steps)
ever_lawful setup steps v p = always_lawful setup.memory setup.lines steps (valid_obeys setup v) p

-- ---- the laws

pub credit_law : CreditLaw
credit_law setup steps o p g x e z =
    let l = (ever_lawful setup steps o p).credits g in
    subst (λ y. CreditsLawful y (credits g (final (opening setup.memory setup.lines) steps))) e l z

pub record_law : RecordLaw
record_law setup steps o p g x a ep c e z at = by_is (is_record_of g (endpoint c ep)) refl
  where
    law : GrantInvariant (final (opening setup.memory setup.lines) steps)
    law = ever_lawful setup steps o p

    by_is : (b : Bool) → is_record_of g (endpoint c ep) ≡ b → b ≡ false
    by_is false w = refl
    by_is true w =
        let t = record_open (final (opening setup.memory setup.lines) steps) law.placed g a ep c at w in
        let u : is_open_grant (grant_in (final (opening setup.memory setup.lines) steps).grants g) ≡ false = ap is_open_grant e ∙ z in
        absurd (cc)

pub children_law : ChildrenLaw
children_law setup steps o p g q x y e w u d = by_done (is_done x.standing) refl
  where
    law : GrantInvariant (final (opening setup.memory setup.lines) steps)
    law = ever_lawful setup steps o p

    done_closed : (t : Standing) → is_done t ≡ true → is_open t ≡ false
    done_closed Done e = refl
    done_closed Live e = absurd (cc)
    done_closed Closing e = absurd (cc)
    done_closed Closed e = absurd (cc)

    by_done : (b : Bool) → is_done x.standing ≡ b → b ≡ true
    by_done true v = refl
    by_done false v =
        let r : KeepsOpen (final (opening setup.memory setup.lines) steps).grants (Some q) = subst (KeepsOpen (final (opening setup.memory setup.lines) steps).grants) u ((law.placed.grants g x e).above v) in
        let t : is_open y.standing ≡ false = done_closed y.standing d in
        absurd (grind (arith, r, w, t))
