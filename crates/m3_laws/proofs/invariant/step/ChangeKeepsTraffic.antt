-- What a change of one context leaves of activities, data packets and names.
use Rattle.std.proofs.Common.{◌≡◌, ℕ, zero, suc, ◌<◌, ◌≤◌, Bool, true, false, List, [], ◌∷◌, length, get_or, set, Some, None, refl, sym, subst, ◌∙◌, ap, arith, inl, inr}
use Rattle.std.specs.Prelude.{Option, if◌then◌else◌, ◌==◌, ◌⊎◌}
use Rattle.std.specs.List.{list_any}
use Rattle.std.proofs.lemmas.Bool.Decides.{nat_tests}
use Rattle.m3_base.specs.declared.ids.FlightId.{FlightId}
use Rattle.m3_base.specs.declared.message.Message.{Message}
use Rattle.m3_base.specs.declared.packet.Packet.{Packet}
use Rattle.m3_base.specs.declared.packet.Fresh.{Fresh}
use Rattle.m3_base.specs.Ideal.Flights.{kernel, flight, same_name, name_of}
use Rattle.m3_base.specs.Ideal.Context.{Kind, Sending, Replying, Reading, Writing, Flying, Fetched, SendRecord, Endpoint, Free, Sends, Receives, Reaches, Context, endpoint, with_endpoint, new_endpoint}
use Rattle.m3_base.specs.Ideal.ReceiveRecord.{with_unread}
use Rattle.m3_base.specs.Ideal.Landing.{with_message, after_message, with_credit, endpoints_with_credit, one_more, land_refusal, message_id, flying_at, closed_at, flies_at, is_command_at}
use Rattle.m3_base.specs.Ideal.State.{Grant, context_of, put_context, same_act, grant_in, is_open, DistinctActs}
use Rattle.m3_base.specs.Ideal.Credits.{gives_back, gives_back_by}
use Rattle.m3_base.specs.Ideal.FlightNames.{Apart}
use Rattle.m3_laws.proofs.invariant.step.CommandRecordsStay.{Safe, safe, safe-free, safe-sends, safe-receives, safe-then}
use Rattle.m3_laws.proofs.invariant.step.IssueEffects.{EachSafe, each_safe, each-set, safe-credited}
use Rattle.m3_laws.proofs.invariant.step.ChangeOneContext.{Moved, moved_back, back_in_moved}
use Rattle.m3_laws.proofs.credits.Land.{SameBack}
use Rattle.m3_laws.proofs.invariant.step.LookUps.{found_after}
use Rattle.m3_laws.specs.GrantInvariant.{HolderIs, ChildOf, SentTo, AllSentTo, AllFetchedTo, QueueLawful, ContextLawful, PacketLawful, Traffic, CreditsLawful}
use Rattle.m3_laws.proofs.invariant.records.QueueOwners.{EachLawful, sent-push, each_set}
use Rattle.m3_laws.specs.CommandRecord.{CommandsHaveRecords, IsRecordFor, CommandHasRecord}

-- ---- one context in place of another

act_put : (a : ℕ) (d : Context) (cs : List Context) → context_of a cs ≡ None → context_of a (put_context d cs) ≡ None
act_put a d [] h = refl
act_put a d (x ∷ cs) h = grind (arith, nat_tests, act_put a d cs)

pub acts_put : (d : Context) (cs : List Context) → DistinctActs cs → DistinctActs (put_context d cs)
acts_put d [] h = tt
acts_put d (x ∷ cs) h = by_act (d.act == x.act) refl (acts_put d cs h.1)
  where
    by_act : (b : Bool) → (d.act == x.act) ≡ b → DistinctActs (put_context d cs) → DistinctActs (if b then d ∷ cs else x ∷ put_context d cs)
    by_act true w ih = let q : d.act ≡ x.act = grind (arith, nat_tests, w) in (subst (λ z. context_of z cs ≡ None) (sym q) h.0, h.1)
    by_act false w ih = (act_put x.act d cs h.0, ih)

pub packet_stays : (n : ℕ) (gs : List Grant) (cs : List Context) (c d : Context) (p : Packet) → Moved n c d → context_of d.act cs ≡ Some c → same_name (record { issuer = d.act; number = n }) (name_of p) ≡ false → PacketLawful gs cs p → PacketLawful gs (put_context d cs) p
packet_stays n gs cs c d (Packet.Message to ep h m) mv at ne ok = (λ g. back_in_moved g n (message_id m) cs c d mv at ne (same_act m.header.sender d.act) refl ∙ ok.0 g, ok.1, ok.2)
packet_stays n gs cs c d (Packet.Credit id to h) mv at ne ok = ok
packet_stays n gs cs c d (Packet.Read id h place buffer) mv at ne ok = tt
packet_stays n gs cs c d (Packet.Write id h place payload) mv at ne ok = tt
packet_stays n gs cs c d (Packet.Answer id answer) mv at ne ok = tt
packet_stays n gs cs c d (Packet.Install id to ep f) mv at ne ok = tt
packet_stays n gs cs c d (Packet.Close id to ep h) mv at ne ok = tt

apart_number : (p : Packet) (a : ℕ) → same_name (record { issuer = a; number = suc (name_of p).number }) (name_of p) ≡ false
apart_number p a = grind (arith, nat_tests)

moved_by : (n : ℕ) (c d : Context) → SameBack c d → Moved n c d
moved_by n c d s = record { act = s.act; back = λ g k ne. s.back g k }

-- where each endpoint changes safely, what the flying commands get back stays
pub back_safe : (c d : Context) → d.act ≡ c.act → d.flying ≡ c.flying → EachSafe c.endpoints d.endpoints → CommandsHaveRecords c → SameBack c d
back_safe c d a f e st = record { act = a; back = λ g n. (moved_back (suc n) c d (record { act = a; each = e; others = λ k ne. ap (flying_at k) f }) st).back g n (omega arith) }

pub stands_safe : (c d : Context) → d.flying ≡ c.flying → EachSafe c.endpoints d.endpoints → CommandsHaveRecords c → CommandsHaveRecords d
stands_safe c d f e st k = by_flying (flying_at k d.flying) (subst (λ fs. CommandHasRecord c (flying_at k fs)) (sym f) (st k))
  where
    by_flying : (o : Option Flying) → CommandHasRecord c o → CommandHasRecord d o
    by_flying None h = tt
    by_flying (Some x) h = (e x.ep).stands x.kind x.token h

-- what a landing leaves of a context
pub record Leaves (gs : List Grant) (c d : Context) : Type 0 where
  pub back : SameBack c d
  pub flying : d.flying ≡ c.flying
  pub next : d.next ≡ c.next
  pub stands : CommandsHaveRecords d
  pub queues : EachLawful gs d.endpoints

pub leaves_safe : (gs : List Grant) (c d : Context) → d.act ≡ c.act → d.flying ≡ c.flying → d.next ≡ c.next → EachSafe c.endpoints d.endpoints → CommandsHaveRecords c → EachLawful gs d.endpoints → Leaves gs c d
leaves_safe gs c d a f n e st q = record { back = back_safe c d a f e st; flying = f; next = n; stands = stands_safe c d f e st; queues = q }

module _ (gs : List Grant) (cs : List Context) (fs hs : List Packet) (next : ℕ) (c d : Context) (law : Traffic gs cs fs next) (at : context_of d.act cs ≡ Some c) (l : Leaves gs c d) (keeps : (id : FlightId) → Apart id fs → Apart id hs) (packs : (id : FlightId) (p : Packet) → flight id hs ≡ Some p → (flight id fs ≡ Some p) ⊎ PacketLawful gs (put_context d cs) p) where
  own : ContextLawful gs hs d
  own =
      let ok = law.contexts d.act c at in
      record {
        act = subst (λ z. z < kernel) (sym l.back.act) ok.act;
        lone = subst (λ z. length z ≤ 1) (sym l.flying) ok.lone;
        fresh = λ n h. ap (flying_at n) l.flying ∙ ok.fresh n (subst (λ z. z ≤ n) l.next h);
        apart = λ n h. keeps (record { issuer = d.act; number = n }) (subst (λ z. Apart (record { issuer = z; number = n }) fs) (sym l.back.act) (ok.apart n (subst (λ z. z ≤ n) l.next h)));
        stands = l.stands;
        queues = l.queues;
      }

  pub data_left : Traffic gs (put_context d cs) hs next
  data_left = record {
    acts = acts_put d cs law.acts;
    contexts = λ b x e. by_found b x (found_after b x c d cs at e);
    packets = λ id p e. by_packet id p (packs id p e);
    orders = λ n h. keeps (record { issuer = kernel; number = n }) (law.orders n h);
  }
    where
      by_found : (b : ℕ) (x : Context) → ((b ≡ d.act) × (x ≡ d)) ⊎ ((same_act b d.act ≡ false) × (context_of b cs ≡ Some x)) → ContextLawful gs hs x
      by_found b x (inl q) = subst (ContextLawful gs hs) (sym q.1) own
      by_found b x (inr q) =
          let ok = law.contexts b x q.1 in
          record { act = ok.act; lone = ok.lone; fresh = ok.fresh; apart = λ n h. keeps (record { issuer = x.act; number = n }) (ok.apart n h); stands = ok.stands; queues = ok.queues }

      by_packet : (id : FlightId) (p : Packet) → (flight id fs ≡ Some p) ⊎ PacketLawful gs (put_context d cs) p → PacketLawful gs (put_context d cs) p
      by_packet id p (inr z) = z
      by_packet id p (inl e) = packet_stays (suc (name_of p).number) gs cs c d p (moved_by (suc (name_of p).number) c d l.back) at (apart_number p d.act) (law.packets id p e)

-- ---- other grants of the same lines

pub record Grows (gs ks : List Grant) : Type 0 where
  pub holds : (g a : ℕ) → HolderIs (grant_in gs g) a → HolderIs (grant_in ks g) a
  pub child : (g a h : ℕ) → ChildOf (grant_in gs g) a h → ChildOf (grant_in ks g) a h

module _ (gs ks : List Grant) (gr : Grows gs ks) where
  all_grown : (h : ℕ) (ms : List Message) → AllSentTo gs h ms → AllSentTo ks h ms
  all_grown h [] a = tt
  all_grown h (m ∷ ms) a = (λ z. gr.child m.header.send m.header.sender h (a.0 z), all_grown h ms a.1)

  fetched_grown : (h : ℕ) (fs : List Fetched) → AllFetchedTo gs h fs → AllFetchedTo ks h fs
  fetched_grown h [] a = tt
  fetched_grown h (f ∷ fs) a = (λ z. gr.child f.message.header.send f.message.header.sender h (a.0 z), fetched_grown h fs a.1)

  pub queue_grown : (e : Endpoint) → QueueLawful gs e → QueueLawful ks e
  queue_grown (Receives r) q = (all_grown r.grant r.unread q.0, fetched_grown r.grant r.fetched q.1)
  queue_grown Free q = tt
  queue_grown (Sends r) q = tt
  queue_grown (Reaches r) q = tt

  packet_grown : (cs : List Context) (p : Packet) → PacketLawful gs cs p → PacketLawful ks cs p
  packet_grown cs (Packet.Message to ep h m) ok = (ok.0, λ z. gr.child m.header.send m.header.sender h (ok.1 z), λ z. gr.holds m.header.send to (ok.2 z))
  packet_grown cs (Packet.Credit id to h) ok = gr.holds h to ok
  packet_grown cs (Packet.Read id h place buffer) ok = tt
  packet_grown cs (Packet.Write id h place payload) ok = tt
  packet_grown cs (Packet.Answer id answer) ok = tt
  packet_grown cs (Packet.Install id to ep f) ok = tt
  packet_grown cs (Packet.Close id to ep h) ok = tt

  pub data_grown : (cs : List Context) (fs : List Packet) (next : ℕ) → Traffic gs cs fs next → Traffic ks cs fs next
  data_grown cs fs next law = record {
    acts = law.acts;
    contexts = λ a c e.
        let ok = law.contexts a c e in
        record { act = ok.act; lone = ok.lone; fresh = ok.fresh; apart = ok.apart; stands = ok.stands; queues = λ i. queue_grown (endpoint c i) (ok.queues i) };
    packets = λ id p e. packet_grown cs p (law.packets id p e);
    orders = law.orders;
  }

-- ---- one more packet of the kernel's

abbrev pub IsOrder : Packet → Type 0
IsOrder (Packet.Install id to ep f) = Unit {0}
IsOrder (Packet.Close id to ep g) = Unit {0}
IsOrder p = ⊥

pub order_lawful : (gs : List Grant) (cs : List Context) (p : Packet) → IsOrder p → PacketLawful gs cs p
order_lawful gs cs (Packet.Install id to ep f) o = tt
order_lawful gs cs (Packet.Close id to ep g) o = tt
order_lawful gs cs (Packet.Message to ep h m) o = absurd o
order_lawful gs cs (Packet.Credit id to h) o = absurd o
order_lawful gs cs (Packet.Read id h place buffer) o = absurd o
order_lawful gs cs (Packet.Write id h place payload) o = absurd o
order_lawful gs cs (Packet.Answer id answer) o = absurd o

-- ---- credits that stay

-- of a grant that isn't made yet, or is open, the law says something
abbrev pub Claimed : Option Grant → Type 0
Claimed None = Unit {0}
Claimed (Some x) = is_open x.standing ≡ true

pub credits_keep : (o : Option Grant) (m n : ℕ) → (Claimed o → n ≡ m) → CreditsLawful o m → CreditsLawful o n
credits_keep None m n h l = h tt ∙ l
credits_keep (Some x) m n h l = λ z. h z ∙ l z

-- ---- the contexts of each landing

joined_lawful : (gs : List Grant) (h : ℕ) (m : Message) (e : Endpoint) → land_refusal h m e ≡ None → SentTo gs h m → QueueLawful gs e → QueueLawful gs (with_message m e)
joined_lawful gs h m Free w t q = tt
joined_lawful gs h m (Sends r) w t q = tt
joined_lawful gs h m (Reaches r) w t q = tt
joined_lawful gs h m (Receives r) w t q =
    let same : r.grant ≡ h = grind (arith, nat_tests, w) in
    (sent-push gs r.grant m r.unread (subst (λ z. SentTo gs z m) (sym same) t) q.0, q.1)

more_lawful : (gs : List Grant) (r : SendRecord) (es ds : List Endpoint) → EachLawful gs es → EachLawful gs ds → (b : Bool) → EachLawful gs (if b then Sends (one_more r) ∷ es else Sends r ∷ ds)
more_lawful gs r es ds old rest true zero = tt
more_lawful gs r es ds old rest true (suc i) = old i
more_lawful gs r es ds old rest false zero = tt
more_lawful gs r es ds old rest false (suc i) = rest i

pub credited_lawful : (gs : List Grant) (h : ℕ) (es : List Endpoint) → EachLawful gs es → EachLawful gs (endpoints_with_credit h es)
credited_lawful gs h [] a i = tt
credited_lawful gs h (Free ∷ es) a zero = tt
credited_lawful gs h (Free ∷ es) a (suc i) = credited_lawful gs h es (λ k. a (suc k)) i
credited_lawful gs h (Receives r ∷ es) a zero = a 0
credited_lawful gs h (Receives r ∷ es) a (suc i) = credited_lawful gs h es (λ k. a (suc k)) i
credited_lawful gs h (Reaches r ∷ es) a zero = tt
credited_lawful gs h (Reaches r ∷ es) a (suc i) = credited_lawful gs h es (λ k. a (suc k)) i
credited_lawful gs h (Sends r ∷ es) a i = more_lawful gs r es (endpoints_with_credit h es) (λ k. a (suc k)) (credited_lawful gs h es (λ k. a (suc k))) (r.grant == h) i

safe-joined : (m : Message) (e : Endpoint) → Safe e (with_message m e)
safe-joined m Free = safe Free
safe-joined m (Sends r) = safe (Sends r)
safe-joined m (Reaches r) = safe (Reaches r)
safe-joined m (Receives r) = safe-receives r (with_unread r m) (λ t h. refl)

pub leaves_same : (gs : List Grant) (c : Context) → CommandsHaveRecords c → EachLawful gs c.endpoints → Leaves gs c c
leaves_same gs c st q = leaves_safe gs c c refl refl refl (each_safe c.endpoints) st q

pub leaves_credit : (gs : List Grant) (h : ℕ) (c : Context) → CommandsHaveRecords c → EachLawful gs c.endpoints → Leaves gs c (with_credit h c)
leaves_credit gs h c st q = leaves_safe gs c (with_credit h c) refl refl refl (safe-credited h c.endpoints) st (credited_lawful gs h c.endpoints q)

pub leaves_taken : (gs : List Grant) (ep h : ℕ) (m : Message) (c : Context) → CommandsHaveRecords c → EachLawful gs c.endpoints → SentTo gs h m → land_refusal h m (endpoint c ep) ≡ None → Leaves gs c (after_message ep m c)
leaves_taken gs ep h m c st q sent w = by_flags (m.header.flags == 0)
  where
    sets : EachSafe c.endpoints (set c.endpoints ep (with_message m (get_or c.endpoints ep Free)))
    sets = each-set c.endpoints ep (get_or c.endpoints ep Free) (with_message m (get_or c.endpoints ep Free)) refl (safe-joined m (get_or c.endpoints ep Free))

    lawful : EachLawful gs (set c.endpoints ep (with_message m (get_or c.endpoints ep Free)))
    lawful = each_set gs c.endpoints ep (with_message m (get_or c.endpoints ep Free)) q (joined_lawful gs h m (get_or c.endpoints ep Free) w sent (q ep))

    by_flags : (b : Bool) → Leaves gs c (if b then with_endpoint c ep (with_message m (endpoint c ep)) else with_credit m.header.send (with_endpoint c ep (with_message m (endpoint c ep))))
    by_flags true = leaves_safe gs c (with_endpoint c ep (with_message m (endpoint c ep))) refl refl refl sets st lawful
    by_flags false =
        leaves_safe gs c (with_credit m.header.send (with_endpoint c ep (with_message m (endpoint c ep)))) refl refl refl (
        λ i. safe-then (get_or c.endpoints i Free) (get_or (set c.endpoints ep (with_message m (get_or c.endpoints ep Free))) i Free) _ (sets i) (safe-credited m.header.send (set c.endpoints ep (with_message m (get_or c.endpoints ep Free))) i)
        ) st (credited_lawful gs m.header.send (set c.endpoints ep (with_message m (get_or c.endpoints ep Free))) lawful)

-- ---- the contexts of orders

opened_queue : (gs : List Grant) (f : Fresh) → QueueLawful gs (new_endpoint f)
opened_queue gs (Fresh.Send grant to to_ep to_grant label size limit) = tt
opened_queue gs (Fresh.Receive grant slots size) = (tt, tt)
opened_queue gs (Fresh.Memory grant start len perm) = tt

pub leaves_install : (gs : List Grant) (ep : ℕ) (f : Fresh) (c : Context) → endpoint c ep ≡ Free → CommandsHaveRecords c → EachLawful gs c.endpoints → Leaves gs c (with_endpoint c ep (new_endpoint f))
leaves_install gs ep f c free st q =
    leaves_safe gs c (with_endpoint c ep (new_endpoint f)) refl refl refl (each-set c.endpoints ep Free (new_endpoint f) free (safe-free (new_endpoint f))) st (each_set gs c.endpoints ep (new_endpoint f) q (opened_queue gs f))

safe-closed : (e : Endpoint) → Safe e (closed_at e)
safe-closed Free = safe Free
safe-closed (Sends r) = safe-sends r _ refl
safe-closed (Receives r) = safe-receives r _ (λ t h. refl)
safe-closed (Reaches r) = record { stands = stay; back = same }
  where
    stay : (k : Kind) (t : ℕ) → IsRecordFor k t (Reaches r) → IsRecordFor k t (Reaches (record r { closing = true }))
    stay Sending t h = h
    stay Replying t h = h
    stay Reading t h = tt
    stay Writing t h = tt

    same : (k : Kind) (t : ℕ) → IsRecordFor k t (Reaches r) → (g : ℕ) → gives_back g k t (Reaches (record r { closing = true })) ≡ gives_back g k t (Reaches r)
    same Sending t h g = refl
    same Replying t h g = refl
    same Reading t h g = refl
    same Writing t h g = refl

closed_queue : (gs : List Grant) (e : Endpoint) → QueueLawful gs e → QueueLawful gs (closed_at e)
closed_queue gs Free q = tt
closed_queue gs (Sends r) q = tt
closed_queue gs (Receives r) q = q
closed_queue gs (Reaches r) q = tt

pub leaves_close : (gs : List Grant) (ep : ℕ) (c : Context) → CommandsHaveRecords c → EachLawful gs c.endpoints → Leaves gs c (with_endpoint c ep (closed_at (endpoint c ep)))
leaves_close gs ep c st q =
    leaves_safe gs c (with_endpoint c ep (closed_at (endpoint c ep))) refl refl refl (each-set c.endpoints ep (endpoint c ep) (closed_at (endpoint c ep)) refl (safe-closed (endpoint c ep))) st (each_set gs c.endpoints ep (closed_at (endpoint c ep)) q (closed_queue gs (endpoint c ep) (q ep)))

-- an endpoint becomes free that no command uses
not_used : (ep n : ℕ) (fs : List Flying) (x : Flying) → list_any (is_command_at ep) fs ≡ false → flying_at n fs ≡ Some x → (x.ep == ep) ≡ false
not_used ep n [] x u e = absurd (cc)
not_used ep n (y ∷ fs) x u e = by_number (y.number == n) refl (not_used ep n fs x)
  where
    by_number : (b : Bool) → (y.number == n) ≡ b → (list_any (is_command_at ep) fs ≡ false → flying_at n fs ≡ Some x → (x.ep == ep) ≡ false) → (x.ep == ep) ≡ false
    by_number true w ih = let q : y ≡ x = grind (arith, w, e) in subst (λ z. (z.ep == ep) ≡ false) q (grind (arith, u))
    by_number false w ih = ih (grind (arith, u)) (grind (arith, w, e))

set_elsewhere : (es : List Endpoint) (ep i : ℕ) (e : Endpoint) → (i == ep) ≡ false → get_or (set es ep e) i Free ≡ get_or es i Free
set_elsewhere [] ep i e h = refl
set_elsewhere (x ∷ es) zero zero e h = absurd (grind (arith, nat_tests, h))
set_elsewhere (x ∷ es) zero (suc i) e h = refl
set_elsewhere (x ∷ es) (suc ep) zero e h = refl
set_elsewhere (x ∷ es) (suc ep) (suc i) e h = set_elsewhere es ep i e (grind (arith, nat_tests, h))

pub leaves_free : (gs : List Grant) (ep : ℕ) (c : Context) → flies_at ep c ≡ false → CommandsHaveRecords c → EachLawful gs c.endpoints → Leaves gs c (with_endpoint c ep Free)
leaves_free gs ep c none st q = record {
  back = record { act = refl; back = λ g n. by_back g (flying_at n c.flying) (λ x e. not_used ep n c.flying x none e) };
  flying = refl;
  next = refl;
  stands = λ n. by_stands (flying_at n c.flying) (λ x e. not_used ep n c.flying x none e) (st n);
  queues = each_set gs c.endpoints ep Free q tt;
}
  where
    d : Context
    d = with_endpoint c ep Free

    by_back : (g : ℕ) (o : Option Flying) → ((x : Flying) → o ≡ Some x → (x.ep == ep) ≡ false) → gives_back_by g (with_endpoint c ep Free) o ≡ gives_back_by g c o
    by_back g None h = refl
    by_back g (Some x) h = ap (gives_back g x.kind x.token) (set_elsewhere c.endpoints ep x.ep Free (h x refl))

    by_stands : (o : Option Flying) → ((x : Flying) → o ≡ Some x → (x.ep == ep) ≡ false) → CommandHasRecord c o → CommandHasRecord (with_endpoint c ep Free) o
    by_stands None h t = tt
    by_stands (Some x) h t = subst (IsRecordFor x.kind x.token) (sym (set_elsewhere c.endpoints ep x.ep Free (h x refl))) t
