-- What arrives, and what is issued, names activities of the setup alone where the context and the packet do.
use Rattle.std.proofs.Common.{◌≡◌, ℕ, zero, suc, Bool, true, false, cond, List, [], ◌∷◌, ◌++◌, Some, None, refl, arith, set, get_or}
use Rattle.std.specs.Prelude.{Option, if◌then◌else◌, ◌==◌}
use Rattle.std.specs.List.{list_all}
use Rattle.m3_base.specs.declared.ids.FlightId.{FlightId}
use Rattle.m3_base.specs.declared.message.Message.{Message}
use Rattle.m3_base.specs.declared.command.Answer.{Answer}
use Rattle.m3_base.specs.declared.command.Refusal.{Refusal}
use Rattle.m3_base.specs.declared.packet.Packet.{Packet}
use Rattle.m3_base.specs.declared.packet.Fresh.{Fresh}
use Rattle.m3_base.specs.Ideal.Context.{Kind, Flying, Fetched, Endpoint, Free, Sends, Receives, Reaches, Context, endpoint, with_endpoint, new_endpoint}
use Rattle.m3_base.specs.Ideal.ReceiveRecord.{without_token, with_mark}
use Rattle.m3_base.specs.Ideal.Landing.{land_by, land_refusal, with_message, endpoints_with_credit, with_credit, after_message, closed_at, endpoint_after_answer, context_after_answer, has_live, flies_at, flying_at, freed_grant}
use Rattle.m3_base.specs.Ideal.Arrival.{Arrival, arrive, close_arrives, answer_arrives, arrival_of_answer}
use Rattle.m3_model.specs.Config.Site.{Site}
use Rattle.m3_model.specs.Config.KnownActivities.{is_home, is_named, acts_in_form, is_from_home, is_fetched_from_home, names_at, is_named_context}

-- ---- lists of endpoints

module _ (h : Site) where
  abbrev pub AllAt : List Endpoint → Type 0
  AllAt es = list_all (names_at h) es ≡ true

  pub all_get : (es : List Endpoint) (ep : ℕ) → AllAt es → names_at h (get_or es ep Free) ≡ true
  all_get [] ep a = refl
  all_get (e ∷ es) zero a = grind (arith, a)
  all_get (e ∷ es) (suc ep) a = all_get es ep (grind (arith, a))

  pub all_set : (es : List Endpoint) (ep : ℕ) (e : Endpoint) → AllAt es → names_at h e ≡ true → AllAt (set es ep e)
  all_set [] ep e a n = refl
  all_set (x ∷ es) zero e a n = grind (arith, a, n)
  all_set (x ∷ es) (suc ep) e a n = let r = all_set es ep e (grind (arith, a)) n in grind (arith, a, r)

  all_credited : (g : ℕ) (es : List Endpoint) → AllAt es → AllAt (endpoints_with_credit g es)
  all_credited g [] a = refl
  all_credited g (e ∷ es) a = let r = all_credited g es in grind (arith, a, r)

  -- ---- one endpoint

  all_more : (ms : List Message) (m : Message) → list_all (is_from_home h) ms ≡ true → is_from_home h m ≡ true → list_all (is_from_home h) (ms ++ m ∷ []) ≡ true
  all_more [] m a n = grind (arith, n)
  all_more (x ∷ ms) m a n = let r = all_more ms m (grind (arith, a)) n in grind (arith, a, r)

  pub fetched_more : (fs : List Fetched) (f : Fetched) → list_all (is_fetched_from_home h) fs ≡ true → is_fetched_from_home h f ≡ true → list_all (is_fetched_from_home h) (fs ++ f ∷ []) ≡ true
  fetched_more [] f a n = grind (arith, n)
  fetched_more (x ∷ fs) f a n = let r = fetched_more fs f (grind (arith, a)) n in grind (arith, a, r)

  pub fetched_less : (t : ℕ) (fs : List Fetched) → list_all (is_fetched_from_home h) fs ≡ true → list_all (is_fetched_from_home h) (without_token t fs) ≡ true
  fetched_less t [] a = refl
  fetched_less t (f ∷ fs) a = let r = fetched_less t fs in grind (arith, a, r)

  pub fetched_marked : (b : Bool) (t : ℕ) (fs : List Fetched) → list_all (is_fetched_from_home h) fs ≡ true → list_all (is_fetched_from_home h) (with_mark b t fs) ≡ true
  fetched_marked b t [] a = refl
  fetched_marked b t (f ∷ fs) a = let r = fetched_marked b t fs in grind (arith, a, r)

  joined_named : (m : Message) (e : Endpoint) → names_at h e ≡ true → is_from_home h m ≡ true → names_at h (with_message m e) ≡ true
  joined_named m Free a n = refl
  joined_named m (Sends r) a n = a
  joined_named m (Reaches r) a n = refl
  joined_named m (Receives r) a n = let b = all_more r.unread m (grind (arith, a)) n in grind (arith, a, b)

  closed_named : (e : Endpoint) → names_at h e ≡ true → names_at h (closed_at e) ≡ true
  closed_named Free a = refl
  closed_named (Sends r) a = a
  closed_named (Receives r) a = a
  closed_named (Reaches r) a = refl

  settled_named : (k : Kind) (t : ℕ) (answer : Answer) (e : Endpoint) → names_at h e ≡ true → names_at h (endpoint_after_answer k t answer e) ≡ true
  settled_named k t answer Free a = grind arith
  settled_named k t answer (Sends r) a = grind (arith, a)
  settled_named k t answer (Reaches r) a = grind arith
  settled_named k t answer (Receives r) a =
      let b = fetched_less t r.fetched in
      let d = fetched_marked false t r.fetched in
      grind (arith, a, b, d)

  pub opened_named : (f : Fresh) → list_all (is_home h) (acts_in_form f) ≡ true → names_at h (new_endpoint f) ≡ true
  opened_named (Fresh.Send grant to to_ep to_grant label size limit) a = grind (arith, a)
  opened_named (Fresh.Receive grant slots size) a = refl
  opened_named (Fresh.Memory grant start length perm) a = refl

-- ---- what arrives

abbrev pub NamedIf : Site → Option Packet → Type 0
NamedIf h None = Unit {0}
NamedIf h (Some q) = is_named h q ≡ true

module _ (h : Site) (c : Context) (named : is_named_context h c ≡ true) where
  at_endpoint : (ep : ℕ) → names_at h (endpoint c ep) ≡ true
  at_endpoint ep = all_get h c.endpoints ep named

  -- the context, and the answer, name activities of the setup alone
  abbrev pub NamedBy : Option Arrival → Type 0
  NamedBy None = Unit {0}
  NamedBy (Some r) = (is_named_context h r.context ≡ true) × NamedIf h r.answer

  taken_named : (ep : ℕ) (m : Message) → is_from_home h m ≡ true → is_named_context h (after_message ep m c) ≡ true
  taken_named ep m n = by_flags (m.header.flags == 0) joins (all_credited h m.header.send (set c.endpoints ep (with_message m (endpoint c ep))) joins)
    where
      joins : list_all (names_at h) (set c.endpoints ep (with_message m (endpoint c ep))) ≡ true
      joins = all_set h c.endpoints ep (with_message m (endpoint c ep)) named (joined_named h m (endpoint c ep) (at_endpoint ep) n)

      by_flags : (b : Bool) → list_all (names_at h) (set c.endpoints ep (with_message m (endpoint c ep))) ≡ true → list_all (names_at h) (endpoints_with_credit m.header.send (set c.endpoints ep (with_message m (endpoint c ep)))) ≡ true
          → is_named_context h (if b then with_endpoint c ep (with_message m (endpoint c ep)) else with_credit m.header.send (with_endpoint c ep (with_message m (endpoint c ep)))) ≡ true
      by_flags true x y = x
      by_flags false x y = y

  land_named : (ep : ℕ) (m : Message) → is_from_home h m ≡ true → (why : Option Refusal)
      → (is_named_context h (land_by ep m c why).context ≡ true) × (is_named h (land_by ep m c why).answer ≡ true)
  land_named ep m n None = (taken_named ep m n, grind (arith, n))
  land_named ep m n (Some x) = (named, grind (arith, n))

  answered_named : (x : Flying) (answer : Answer) → is_named_context h (context_after_answer x answer c) ≡ true
  answered_named x answer = all_set h c.endpoints x.ep (endpoint_after_answer x.kind x.token answer (endpoint c x.ep)) named (settled_named h x.kind x.token answer (endpoint c x.ep) (at_endpoint x.ep))

  settles_named : (id : FlightId) (answer : Answer) (d : Context) (ep : ℕ) → is_named_context h d ≡ true → (o : Option ℕ) → NamedBy (arrival_of_answer id answer d ep o)
  settles_named id answer d ep n None = (n, tt)
  settles_named id answer d ep n (Some g) = (all_set h d.endpoints ep Free n refl, tt)

  flying_named : (id : FlightId) (answer : Answer) (o : Option Flying) → NamedBy (answer_arrives c id answer o)
  flying_named id answer None = tt
  flying_named id answer (Some x) = settles_named id answer (context_after_answer x answer c) x.ep (answered_named x answer) (freed_grant x.ep (context_after_answer x answer c))

  close_named : (id : FlightId) (ep g : ℕ) (b : Bool) → NamedBy (close_arrives c id ep g (with_endpoint c ep (closed_at (endpoint c ep))) b)
  close_named id ep g b = by_flying b (all_set h c.endpoints ep (closed_at (endpoint c ep)) named (closed_named h (endpoint c ep) (at_endpoint ep)))
    where
      by_flying : (b : Bool) → list_all (names_at h) (set c.endpoints ep (closed_at (endpoint c ep))) ≡ true → NamedBy (close_arrives c id ep g (with_endpoint c ep (closed_at (endpoint c ep))) b)
      by_flying true x = (x, tt)
      by_flying false x = (all_set h (set c.endpoints ep (closed_at (endpoint c ep))) ep Free x refl, tt)

  live_named : (id : FlightId) (ep g : ℕ) (b : Bool) → NamedBy (cond b (close_arrives c id ep g (with_endpoint c ep (closed_at (endpoint c ep))) (flies_at ep c)) None)
  live_named id ep g true = close_named id ep g (flies_at ep c)
  live_named id ep g false = tt

  pub arrive_names : (p : Packet) → is_named h p ≡ true → NamedBy (arrive c p)
  arrive_names (Packet.Message to ep g m) n = land_named ep m (grind (arith, n)) (land_refusal g m (endpoint c ep))
  arrive_names (Packet.Credit id to g) n = (all_credited h g c.endpoints named, tt)
  arrive_names (Packet.Read id g place buffer) n = tt
  arrive_names (Packet.Write id g place payload) n = tt
  arrive_names (Packet.Answer id answer) n = flying_named id answer (flying_at id.number c.flying)
  arrive_names (Packet.Install id to ep f) n = (all_set h c.endpoints ep (new_endpoint f) named (opened_named h f (grind (arith, n))), tt)
  arrive_names (Packet.Close id to ep g) n = live_named id ep g (has_live g (endpoint c ep))
