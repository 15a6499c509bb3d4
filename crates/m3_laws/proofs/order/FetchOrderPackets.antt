-- Commands, packets that land and answers keep it: what was fetched is the first of what landed.
use Rattle.std.proofs.Common.{◌≡◌, ℕ, ◌<◌, Bool, true, false, List, [], ◌∷◌, ◌++◌, length, get_or, set, get_or-set_same, Some, None, refl, sym, subst, ◌∙◌, ap, arith, inl, inr, append_assoc}
use Rattle.std.specs.Prelude.{Option, if◌then◌else◌, ◌==◌, ◌⊎◌}
use Rattle.std.proofs.lemmas.Bool.Decides.{nat_tests}
use Rattle.std.proofs.lemmas.List.{append-nil}
use Rattle.m3_base.specs.declared.ids.FlightId.{FlightId}
use Rattle.m3_base.specs.declared.message.Message.{Message}
use Rattle.m3_base.specs.declared.packet.Packet.{Packet}
use Rattle.m3_base.specs.declared.packet.Fresh.{Fresh}
use Rattle.m3_base.specs.declared.command.Refusal.{Refusal}
use Rattle.m3_base.specs.declared.command.Answer.{Answer}
use Rattle.m3_base.specs.declared.command.Command.{Command}
use Rattle.m3_base.specs.Lists.Counting.{how_many}
use Rattle.m3_base.specs.Ideal.Flights.{flight, name_of, same_name, change_flight, end_flight}
use Rattle.m3_base.specs.Ideal.Context.{Kind, Sending, Replying, Flying, ReceiveRecord, Endpoint, Free, Sends, Receives, Reaches, Context, endpoint, with_endpoint, new_endpoint}
use Rattle.m3_base.specs.Ideal.ReceiveRecord.{with_fetched, with_unread}
use Rattle.m3_base.specs.Ideal.Issue.{Issued, issue}
use Rattle.m3_base.specs.Ideal.Landing.{grant_of, with_message, after_message, with_credit, endpoints_with_credit, land_by, land_refusal, landed_answer, message_id, context_after_answer, endpoint_after_answer, flying_at, closed_at, is_record_of}
use Rattle.m3_base.specs.Ideal.State.{Grant, State, context_of, put_context, act_of, same_act, grant_in, act_before}
use Rattle.m3_base.specs.Ideal.Step.{IdealResult, number_of, with_packet, is_install_of, after_ending}
use Rattle.m3_base.specs.Ideal.Credits.{is_sent_by}
use Rattle.m3_base.specs.Ideal.MessageTraces.{only_of, shown_by, if_landed}
use Rattle.m3_base.specs.Ideal.FlightNames.{Apart}
use Rattle.m3_base.proofs.KeyedList.{find-replaced_same}
use Rattle.m3_laws.specs.Laws.{parent_at}
use Rattle.m3_laws.specs.GrantInvariant.{QueueLawful, SentTo, AllSentTo, ChildOf, is_open_grant, IsData}
use Rattle.m3_laws.specs.Invariant.{Invariant}
use Rattle.m3_laws.proofs.credits.Land.{after_landing}
use Rattle.m3_base.proofs.FlightNames.{name_found}
use Rattle.m3_laws.proofs.invariant.step.LookUps.{found_after, found_ended, found_new, found_changed}
use Rattle.m3_laws.proofs.credits.Issue.{in_range}
use Rattle.m3_laws.proofs.invariant.step.IssueEffects.{IssueEffect, NewPacket, issue_effect}
use Rattle.m3_laws.proofs.credits.Counting.{at_set, some_at, some_found, one_found}
use Rattle.m3_laws.proofs.invariant.records.RecordsOfGrants.{one_less}
use Rattle.m3_laws.proofs.invariant.step.IssueKeeps.{data_new}
use Rattle.m3_laws.proofs.order.FetchOrderStep.{sent_of, unread_of, IsParent, Shown, before_same, shown_stays, AllSame, same_itself, same_set, same_then, before_put, same_credited, Fetches, Leaves, issue_leaves, one_place, sent_of-push}
use Rattle.m3_base.proofs.Activities.{same_act-itself, found_own}

-- ---- where the parent's record is known

is_at_grant : (g : ℕ) (e : Endpoint) → grant_of e ≡ Some g → is_record_of g e ≡ true
is_at_grant g e h = grind (arith, nat_tests, h)

-- no Install of a grant flies that has a record
no_install : (n : State) → Invariant n → (b j h : ℕ) (d : Context) → context_of b n.contexts ≡ Some d → grant_of (endpoint d j) ≡ Some h → (id x : FlightId) (to ep : ℕ) (f : Fresh) → flight id n.flights ≡ Some (Packet.Install x to ep f) → number_of f ≡ h → ⊥
no_install n law b j h d at e id x to ep f find same =
    let k = (some_at (is_record_of h) d.endpoints j refl (is_at_grant h (endpoint d j) e)).0 in
    let l = some_found act_of same_act (λ z. how_many (is_record_of h) z.endpoints) b d n.contexts at in
    let i = one_found name_of same_name (is_install_of h) id (Packet.Install x to ep f) n.flights find (grind (arith, nat_tests, same)) in
    let m = one_less (is_open_grant (grant_in n.grants h)) in
    omega (arith, k, l, i, m, law.lawful.placed.presence h)

shown_at : (g : ℕ) (n : State) → Invariant n → (b j h : ℕ) (d : Context) (e : Endpoint) → context_of b n.contexts ≡ Some d → endpoint d j ≡ e → grant_of e ≡ Some h → IsParent n.grants g h → (fetched landed : List Message) → fetched ++ sent_of g (unread_of e) ≡ landed → Shown g n fetched landed
shown_at g n law b j h d e at here grant p fetched landed q = record {
  at = λ a ep k c w v r. by_place a ep c w (one_place n law h a b ep j c d w at (ap (λ z. z) v ∙ same k r) (ap grant_of here ∙ grant));
  coming = λ id x to ep f find r. absurd (no_install n law b j h d at (ap grant_of here ∙ grant) id x to ep f find (number (number_of f) r));
  unmade = λ z. absurd (clash (sym (ap parent_at z) ∙ p));
  prefix = (sent_of g (unread_of e), q);
}
  where
    clash : None ≡ Some h → ⊥
    clash z = cc

    number : (k : ℕ) → IsParent n.grants g k → k ≡ h
    number k r = let z : Some k ≡ Some h = sym r ∙ p in cc

    same : (k : ℕ) → IsParent n.grants g k → Some k ≡ Some h
    same k r = sym r ∙ p

    by_place : (a ep : ℕ) (c : Context) → context_of a n.contexts ≡ Some c → (a ≡ b) × (ep ≡ j) → fetched ++ sent_of g (unread_of (endpoint c ep)) ≡ landed
    by_place a ep c w s =
        let z : Some c ≡ Some d = sym w ∙ (ap (λ k. context_of k n.contexts) s.0 ∙ at) in
        let k : c ≡ d = cc in
        let m : endpoint c ep ≡ e = ap (λ y. endpoint y ep) k ∙ (ap (endpoint d) s.1 ∙ here) in
        ap (λ y. fetched ++ sent_of g (unread_of y)) m ∙ q

-- ---- what is unread names its grant

pub none_of_sent : (gs : List Grant) (g h : ℕ) (ms : List Message) → AllSentTo gs h ms → grant_in gs g ≡ None → sent_of g ms ≡ []
none_of_sent gs g h [] a n = refl
none_of_sent gs g h (m ∷ ms) a n = by_test (is_sent_by g m) refl (none_of_sent gs g h ms a.1 n)
  where
    by_test : (b : Bool) → is_sent_by g m ≡ b → sent_of g ms ≡ [] → (if b then m ∷ [] else []) ++ sent_of g ms ≡ []
    by_test false w ih = ih
    by_test true w ih =
        let flags : m.header.flags ≡ 0 = grind (arith, nat_tests, w) in
        let send : m.header.send ≡ g = grind (arith, nat_tests, w) in
        absurd (subst (λ o. ChildOf o m.header.sender h) (ap (grant_in gs) send ∙ n) (a.0 flags))

child_parent : (gs : List Grant) (g h : ℕ) (m : Message) → SentTo gs h m → is_sent_by g m ≡ true → IsParent gs g h
child_parent gs g h m s w =
    let flags : m.header.flags ≡ 0 = grind (arith, nat_tests, w) in
    let send : m.header.send ≡ g = grind (arith, nat_tests, w) in
    by_grant (grant_in gs g) (subst (λ k. ChildOf (grant_in gs k) m.header.sender h) send (s flags))
  where
    by_grant : (o : Option Grant) → ChildOf o m.header.sender h → parent_at o ≡ Some h
    by_grant None c = absurd c
    by_grant (Some x) c = c.1

abbrev pub AllShown : ℕ → Option IdealResult → List Message → List Message → Type 0
AllShown g None fetched landed = Unit {0}
AllShown g (Some n) fetched landed = Shown g n.state fetched landed

pub nil_both : (g : ℕ) (n : State) (fetched landed : List Message) → Shown g n fetched landed → Shown g n (fetched ++ []) (landed ++ [])
nil_both g n fetched landed h = subst (λ y. Shown g n y (landed ++ [])) (sym (append-nil fetched)) (subst (λ y. Shown g n fetched y) (sym (append-nil landed)) h)

pub opened_unread : (f : Fresh) → unread_of (new_endpoint f) ≡ []
opened_unread (Fresh.Send k a b d l z n) = refl
opened_unread (Fresh.Receive k slots size) = refl
opened_unread (Fresh.Memory k start extent perm) = refl

module _ (g : ℕ) (s : State) (law : Invariant s) (fetched landed : List Message) (old : Shown g s fetched landed) where
  abbrev Installs : List Packet → Type 0
  Installs hs = (id x : FlightId) (to ep : ℕ) (f : Fresh) → flight id hs ≡ Some (Packet.Install x to ep f) → flight id s.flights ≡ Some (Packet.Install x to ep f)

  pub put_shown : (memory : List ℕ) (c d : Context) (hs : List Packet) → context_of d.act s.contexts ≡ Some c → AllSame g c.endpoints d.endpoints → Installs hs → Shown g (record s { memory = memory; contexts = put_context d s.contexts; flights = hs }) fetched landed
  put_shown memory c d hs at same kept = shown_stays g s (record s { memory = memory; contexts = put_context d s.contexts; flights = hs }) fetched landed (record { parents = λ h p. p; unmade = λ e. e; contexts = before_put g s c d at same; flights = kept }) old

  here_of : (a : ℕ) (c : Context) → context_of a s.contexts ≡ Some c → context_of c.act s.contexts ≡ Some c
  here_of a c at = found_own a c s.contexts at

  ended_kept : (id : FlightId) → Installs (end_flight id s.flights)
  ended_kept id i x to ep f e = found_ended id i (Packet.Install x to ep f) s.flights law.lawful.placed.distinct e

  changed_kept : (p q : Packet) → flight (name_of q) s.flights ≡ Some p → IsData q → Installs (change_flight q s.flights)
  changed_kept p q find d i x to ep f e = either (found_changed i (Packet.Install x to ep f) p q s.flights find e)
    where
      either : (Packet.Install x to ep f ≡ q) ⊎ (flight i s.flights ≡ Some (Packet.Install x to ep f)) → flight i s.flights ≡ Some (Packet.Install x to ep f)
      either (inr z) = z
      either (inl z) = absurd (subst IsData (sym z) d)

  -- ---- commands

  module _ (a : ℕ) (k : Command) (c : Context) (i : Issued) (at : context_of a s.contexts ≡ Some c) (e : issue c k ≡ Some i) (after : Invariant (record s { contexts = put_context i.context s.contexts; flights = with_packet i.packet s.flights })) where
    does : IssueEffect c i
    does = issue_effect c k i e ((law.lawful.traffic.contexts a c at).fresh c.next (omega arith))

    there : context_of i.context.act s.contexts ≡ Some c
    there = subst (λ z. context_of z s.contexts ≡ Some c) (sym does.act) (here_of a c at)

    issued_kept : Installs (with_packet i.packet s.flights)
    issued_kept id x to ep f w = by_packet i.packet does.packet w
      where
        by_packet : (mp : Option Packet) → NewPacket c i.context mp → flight id (with_packet mp s.flights) ≡ Some (Packet.Install x to ep f) → flight id s.flights ≡ Some (Packet.Install x to ep f)
        by_packet None n w = w
        by_packet (Some q) n w = by_new (found_new id (Packet.Install x to ep f) q s.flights (subst (λ z. Apart z s.flights) (sym n.0) ((law.lawful.traffic.contexts a c at).apart c.next (omega arith))) w)
          where
            by_new : (Packet.Install x to ep f ≡ q) ⊎ (flight id s.flights ≡ Some (Packet.Install x to ep f)) → flight id s.flights ≡ Some (Packet.Install x to ep f)
            by_new (inr z) = z
            by_new (inl z) = absurd (subst IsData (sym z) (data_new i.context (flying_at c.next i.context.flying) q n.1))

    fetch_shown : Fetches c i → Shown g (record s { contexts = put_context i.context s.contexts; flights = with_packet i.packet s.flights }) (fetched ++ shown_by g i.told) landed
    fetch_shown f = by_test (is_sent_by g f.message) refl
      where
        new : Endpoint
        new = Receives (with_fetched f.its f.message f.rest)

        told : (b : Bool) → is_sent_by g f.message ≡ b → shown_by g i.told ≡ (if b then f.message ∷ [] else [])
        told b w = ap (shown_by g) f.told ∙ ap (λ z. if z then f.message ∷ [] else []) w

        queue : AllSentTo s.grants f.its.grant (f.message ∷ f.rest)
        queue = subst (AllSentTo s.grants f.its.grant) f.unread (subst (QueueLawful s.grants) f.found ((law.lawful.traffic.contexts a c at).queues f.ep)).0

        others : is_sent_by g f.message ≡ false → AllSame g c.endpoints i.context.endpoints
        others w = subst (AllSame g c.endpoints) (sym f.endpoints) (same_set g c.endpoints f.ep (Receives (with_fetched f.its f.message f.rest)) (λ h z. (ap grant_of f.found ∙ z, ap (λ y. sent_of g (unread_of y)) f.found ∙ (ap (sent_of g) f.unread ∙ ap (λ b. (if b then f.message ∷ [] else []) ++ sent_of g f.rest) w))))

        inside : f.ep < length c.endpoints
        inside = in_range c.endpoints f.ep (λ q. clash (sym f.found ∙ q))
          where
            clash : Receives f.its ≡ Free → ⊥
            clash q = cc

        put_there : context_of i.context.act (put_context i.context s.contexts) ≡ Some i.context
        put_there = find-replaced_same act_of same_act act_before i.context c s.contexts (same_act-itself i.context.act) there

        place : endpoint i.context f.ep ≡ Receives (with_fetched f.its f.message f.rest)
        place = ap (λ es. get_or es f.ep Free) f.endpoints ∙ get_or-set_same c.endpoints f.ep (Receives (with_fetched f.its f.message f.rest)) Free inside

        before : is_sent_by g f.message ≡ true → fetched ++ (f.message ∷ sent_of g f.rest) ≡ landed
        before w =
            ap (λ b. fetched ++ ((if b then f.message ∷ [] else []) ++ sent_of g f.rest)) (sym w)
            ∙ (ap (λ ms. fetched ++ sent_of g ms) (sym f.unread)
            ∙ (ap (λ y. fetched ++ sent_of g (unread_of y)) (sym f.found)
            ∙ old.at a f.ep f.its.grant c at (ap grant_of f.found) (child_parent s.grants g f.its.grant f.message queue.0 w)))

        by_test : (b : Bool) → is_sent_by g f.message ≡ b → Shown g (record s { contexts = put_context i.context s.contexts; flights = with_packet i.packet s.flights }) (fetched ++ shown_by g i.told) landed
        by_test false w = subst (λ y. Shown g (record s { contexts = put_context i.context s.contexts; flights = with_packet i.packet s.flights }) y landed) (sym (ap (λ y. fetched ++ y) (told false w) ∙ append-nil fetched)) (put_shown s.memory c i.context (with_packet i.packet s.flights) there (others w) issued_kept)
        by_test true w =
            shown_at g (record s { contexts = put_context i.context s.contexts; flights = with_packet i.packet s.flights }) after i.context.act f.ep f.its.grant i.context (Receives (with_fetched f.its f.message f.rest)) put_there place refl (child_parent s.grants g f.its.grant f.message queue.0 w) (fetched ++ shown_by g i.told) landed
            (ap (λ y. (fetched ++ y) ++ sent_of g f.rest) (told true w) ∙ (append_assoc fetched (f.message ∷ []) (sent_of g f.rest) ∙ before w))

    pub issue_shown : Shown g (record s { contexts = put_context i.context s.contexts; flights = with_packet i.packet s.flights }) (fetched ++ shown_by g i.told) landed
    issue_shown = by_leaves (issue_leaves g c k i e)
      where
        by_leaves : Leaves g c i → Shown g (record s { contexts = put_context i.context s.contexts; flights = with_packet i.packet s.flights }) (fetched ++ shown_by g i.told) landed
        by_leaves (inr f) = fetch_shown f
        by_leaves (inl l) = subst (λ y. Shown g (record s { contexts = put_context i.context s.contexts; flights = with_packet i.packet s.flights }) y landed) (sym (ap (λ y. fetched ++ y) l.1 ∙ append-nil fetched)) (put_shown s.memory c i.context (with_packet i.packet s.flights) there l.0 issued_kept)

  -- ---- messages

  joined_same : (m : Message) (e : Endpoint) → only_of g m ≡ [] → (h : ℕ) → grant_of (with_message m e) ≡ Some h → (grant_of e ≡ Some h) × (sent_of g (unread_of e) ≡ sent_of g (unread_of (with_message m e)))
  joined_same m Free z h w = (w, refl)
  joined_same m (Sends r) z h w = (w, refl)
  joined_same m (Reaches r) z h w = (w, refl)
  joined_same m (Receives r) z h w = (w, sym (sent_of-push g r.unread m ∙ (ap (λ y. sent_of g r.unread ++ y) z ∙ append-nil (sent_of g r.unread))))

  taken_same : (ep : ℕ) (m : Message) (c : Context) → only_of g m ≡ [] → AllSame g c.endpoints (after_message ep m c).endpoints
  taken_same ep m c z = by_flags (m.header.flags == 0)
    where
      first : AllSame g c.endpoints (set c.endpoints ep (with_message m (endpoint c ep)))
      first = same_set g c.endpoints ep (with_message m (endpoint c ep)) (joined_same m (endpoint c ep) z)

      by_flags : (b : Bool) → AllSame g c.endpoints (if b then with_endpoint c ep (with_message m (endpoint c ep)) else with_credit m.header.send (with_endpoint c ep (with_message m (endpoint c ep)))).endpoints
      by_flags true = first
      by_flags false = same_then g c.endpoints (set c.endpoints ep (with_message m (endpoint c ep))) (endpoints_with_credit m.header.send (set c.endpoints ep (with_message m (endpoint c ep)))) first (same_credited g m.header.send (set c.endpoints ep (with_message m (endpoint c ep))))

  module _ (id : FlightId) (to ep h : ℕ) (m : Message) (x : Context) (at : context_of to s.contexts ≡ Some x) (find : flight id s.flights ≡ Some (Packet.Message to ep h m)) where
    found : flight (message_id m) s.flights ≡ Some (Packet.Message to ep h m)
    found = subst (λ z. flight z s.flights ≡ Some (Packet.Message to ep h m)) (name_found id (Packet.Message to ep h m) s.flights find) find

    answer_kept : (answer : Answer) → Installs (change_flight (Packet.Answer (message_id m) answer) s.flights)
    answer_kept answer = changed_kept (Packet.Message to ep h m) (Packet.Answer (message_id m) answer) found tt

    taken_act : (after_message ep m x).act ≡ x.act
    taken_act = by_flags (m.header.flags == 0)
      where
        by_flags : (b : Bool) → (if b then with_endpoint x ep (with_message m (endpoint x ep)) else with_credit m.header.send (with_endpoint x ep (with_message m (endpoint x ep)))).act ≡ x.act
        by_flags true = refl
        by_flags false = refl

    there_taken : context_of (after_message ep m x).act s.contexts ≡ Some x
    there_taken = subst (λ z. context_of z s.contexts ≡ Some x) (sym taken_act) (here_of to x at)

    -- a message of g that joins the unread ones
    joins : Invariant (after_landing s (land_by ep m x None)) → land_refusal h m (endpoint x ep) ≡ None → is_sent_by g m ≡ true → (r : ReceiveRecord) → endpoint x ep ≡ Receives r → Shown g (after_landing s (land_by ep m x None)) fetched (landed ++ m ∷ [])
    joins after w sent r here =
        let same : r.grant ≡ h = grind (arith, nat_tests, ap (land_refusal h m) (sym here) ∙ w) in
        let plain : (m.header.flags == 0) ≡ true = grind (arith, sent) in
        let p : IsParent s.grants g r.grant = subst (IsParent s.grants g) (sym same) (child_parent s.grants g h m (law.lawful.traffic.packets id (Packet.Message to ep h m) find).1 sent) in
        let inside = in_range x.endpoints ep (λ q. clash r (sym here ∙ q)) in
        let ends : (after_message ep m x).endpoints ≡ set x.endpoints ep (Receives (with_unread r m)) = ap (λ b. (if b then with_endpoint x ep (with_message m (endpoint x ep)) else with_credit m.header.send (with_endpoint x ep (with_message m (endpoint x ep)))).endpoints) plain ∙ ap (λ y. set x.endpoints ep (with_message m y)) here in
        let place : endpoint (after_message ep m x) ep ≡ Receives (with_unread r m) = ap (λ es. get_or es ep Free) ends ∙ get_or-set_same x.endpoints ep (Receives (with_unread r m)) Free inside in
        let before : fetched ++ sent_of g r.unread ≡ landed = ap (λ y. fetched ++ sent_of g (unread_of y)) (sym here) ∙ old.at to ep r.grant x at (ap grant_of here) p in
        let more : fetched ++ sent_of g (r.unread ++ m ∷ []) ≡ landed ++ m ∷ [] =
        ap (λ y. fetched ++ y) (sent_of-push g r.unread m)
        ∙ (ap (λ b. fetched ++ (sent_of g r.unread ++ (if b then m ∷ [] else []))) sent
        ∙ (sym (append_assoc fetched (sent_of g r.unread) (m ∷ [])) ∙ ap (λ y. y ++ m ∷ []) before)) in
        shown_at g (after_landing s (land_by ep m x None)) after (after_message ep m x).act ep r.grant (after_message ep m x) (Receives (with_unread r m)) (find-replaced_same act_of same_act act_before (after_message ep m x) x s.contexts (same_act-itself (after_message ep m x).act) there_taken) place refl p fetched (landed ++ m ∷ []) more
      where
        clash : (r : ReceiveRecord) → Receives r ≡ Free → ⊥
        clash r q = cc

    pub message_shown : (why : Option Refusal) → land_refusal h m (endpoint x ep) ≡ why → Invariant (after_landing s (land_by ep m x why)) → Shown g (after_landing s (land_by ep m x why)) fetched (landed ++ if_landed why (only_of g m))
    message_shown (Some w) e after = subst (λ y. Shown g (after_landing s (land_by ep m x (Some w))) fetched y) (sym (append-nil landed)) (put_shown s.memory x x (change_flight (Packet.Answer (message_id m) (Answer.Refused w)) s.flights) (here_of to x at) (same_itself g x.endpoints) (answer_kept (Answer.Refused w)))
    message_shown None e after = by_test (is_sent_by g m) refl
      where
        lands : (e' : Endpoint) → endpoint x ep ≡ e' → is_sent_by g m ≡ true → Shown g (after_landing s (land_by ep m x None)) fetched (landed ++ m ∷ [])
        lands (Receives r) here sent = joins after e sent r here
        lands Free here sent = absurd (let z = ap (land_refusal h m) (sym here) ∙ e in cc)
        lands (Sends r) here sent = absurd (let z = ap (land_refusal h m) (sym here) ∙ e in cc)
        lands (Reaches r) here sent = absurd (let z = ap (land_refusal h m) (sym here) ∙ e in cc)

        by_test : (b : Bool) → is_sent_by g m ≡ b → Shown g (after_landing s (land_by ep m x None)) fetched (landed ++ only_of g m)
        by_test true w = subst (λ y. Shown g (after_landing s (land_by ep m x None)) fetched (landed ++ y)) (sym (ap (λ b. if b then m ∷ [] else []) w)) (lands (endpoint x ep) refl w)
        by_test false w =
            let z : only_of g m ≡ [] = ap (λ b. if b then m ∷ [] else []) w in
            subst (λ y. Shown g (after_landing s (land_by ep m x None)) fetched y) (sym (ap (λ y. landed ++ y) z ∙ append-nil landed)) (put_shown s.memory x (after_message ep m x) (change_flight (Packet.Answer (message_id m) (landed_answer m)) s.flights) there_taken (taken_same ep m x z) (answer_kept (landed_answer m)))

  -- ---- orders that land

  pub ended_shown : (id : FlightId) (a : ℕ) (c d : Context) → context_of a s.contexts ≡ Some c → d.act ≡ c.act → AllSame g c.endpoints d.endpoints → Shown g (after_ending s id d) fetched landed
  ended_shown id a c d at same all = put_shown s.memory c d (end_flight id s.flights) (subst (λ z. context_of z s.contexts ≡ Some c) (sym same) (here_of a c at)) all (ended_kept id)

  opened_grant : (f : Fresh) → grant_of (new_endpoint f) ≡ Some (number_of f)
  opened_grant (Fresh.Send k a b d l z n) = refl
  opened_grant (Fresh.Receive k slots size) = refl
  opened_grant (Fresh.Memory k start extent perm) = refl

  pub install_shown : (id x : FlightId) (to ep : ℕ) (f : Fresh) (c : Context) → context_of to s.contexts ≡ Some c → flight id s.flights ≡ Some (Packet.Install x to ep f) → Shown g (after_ending s id (with_endpoint c ep (new_endpoint f))) fetched landed
  install_shown id x to ep f c at find = record {
    at = λ a i h y e w p. by_found a i h y w p (found_after a y c (with_endpoint c ep (new_endpoint f)) s.contexts (here_of to c at) e);
    coming = λ j z b k r e p. old.coming j z b k r (ended_kept id j z b k r e) p;
    unmade = old.unmade;
    prefix = old.prefix;
  }
    where
      by_place : (i h : ℕ) → grant_of (endpoint (with_endpoint c ep (new_endpoint f)) i) ≡ Some h → IsParent s.grants g h → (get_or (set c.endpoints ep (new_endpoint f)) i Free ≡ get_or c.endpoints i Free) ⊎ ((i ≡ ep) × (get_or (set c.endpoints ep (new_endpoint f)) i Free ≡ new_endpoint f)) → fetched ++ sent_of g (unread_of (endpoint (with_endpoint c ep (new_endpoint f)) i)) ≡ landed
      by_place i h w p (inl q) = ap (λ z. fetched ++ sent_of g (unread_of z)) q ∙ old.at to i h c at (ap grant_of (sym q) ∙ w) p
      by_place i h w p (inr q) =
          let n : Some (number_of f) ≡ Some h = sym (opened_grant f) ∙ (ap grant_of (sym q.1) ∙ w) in
          let k : h ≡ number_of f = cc in
          ap (λ z. fetched ++ sent_of g (unread_of z)) q.1 ∙ (ap (λ ms. fetched ++ sent_of g ms) (opened_unread f) ∙ (append-nil fetched ∙ old.coming id x to ep f find (subst (IsParent s.grants g) k p)))

      by_found : (a i h : ℕ) (y : Context) → grant_of (endpoint y i) ≡ Some h → IsParent s.grants g h → ((a ≡ c.act) × (y ≡ with_endpoint c ep (new_endpoint f))) ⊎ ((same_act a c.act ≡ false) × (context_of a s.contexts ≡ Some y)) → fetched ++ sent_of g (unread_of (endpoint y i)) ≡ landed
      by_found a i h y w p (inr q) = old.at a i h y q.1 w p
      by_found a i h y w p (inl q) = ap (λ z. fetched ++ sent_of g (unread_of (endpoint z i))) q.1 ∙ by_place i h (ap (λ z. grant_of (endpoint z i)) (sym q.1) ∙ w) p (at_set c.endpoints ep i (new_endpoint f))

  pub closed_same : (e : Endpoint) (h : ℕ) → grant_of (closed_at e) ≡ Some h → (grant_of e ≡ Some h) × (sent_of g (unread_of e) ≡ sent_of g (unread_of (closed_at e)))
  closed_same Free h w = (w, refl)
  closed_same (Sends r) h w = (w, refl)
  closed_same (Receives r) h w = (w, refl)
  closed_same (Reaches r) h w = (w, refl)

  settled_same : (k : Kind) (t : ℕ) (answer : Answer) (e : Endpoint) → (grant_of (endpoint_after_answer k t answer e) ≡ grant_of e) × (unread_of (endpoint_after_answer k t answer e) ≡ unread_of e)
  settled_same Sending t (Answer.Refused why) (Sends r) = (refl, refl)
  settled_same Replying t Answer.Replied (Receives r) = (refl, refl)
  settled_same Replying t (Answer.Refused why) (Receives r) = (refl, refl)
  settled_same k t answer e = (refl, refl)

  pub answered_shown : (id : FlightId) (a : ℕ) (c : Context) (f : Flying) (answer : Answer) → context_of a s.contexts ≡ Some c → Shown g (after_ending s id (context_after_answer f answer c)) fetched landed
  answered_shown id a c f answer at =
      let z = settled_same f.kind f.token answer (endpoint c f.ep) in
      ended_shown id a c (context_after_answer f answer c) at refl (same_set g c.endpoints f.ep (endpoint_after_answer f.kind f.token answer (endpoint c f.ep)) (λ h w. (sym z.0 ∙ w, ap (sent_of g) (sym z.1))))

  pub served_shown : (memory : List ℕ) (p q : Packet) → flight (name_of q) s.flights ≡ Some p → IsData q → Shown g (record s { memory = memory; flights = change_flight q s.flights }) fetched landed
  served_shown memory p q find d = shown_stays g s (record s { memory = memory; flights = change_flight q s.flights }) fetched landed (record { parents = λ h p. p; unmade = λ e. e; contexts = before_same g s; flights = changed_kept p q find d }) old
