-- Commands and answers keep the grant invariant.
use Rattle.std.proofs.Common.{◌≡◌, ◌≢◌, ℕ, ◌<◌, ◌≤◌, Bool, true, false, List, [], ◌∷◌, length, Some, None, refl, sym, subst, ◌∙◌, ap, arith, inl, inr}
use Rattle.std.specs.Prelude.{Option, ◌==◌, ◌⊎◌}
use Rattle.std.proofs.lemmas.Bool.Decides.{nat_tests}
use Rattle.m3_base.specs.declared.ids.FlightId.{FlightId}
use Rattle.m3_base.specs.declared.packet.Packet.{Packet}
use Rattle.m3_base.specs.declared.command.Answer.{Answer}
use Rattle.m3_base.specs.declared.packet.Fresh.{Fresh}
use Rattle.m3_base.specs.declared.order.GrantLine.{GrantLine}
use Rattle.m3_base.specs.Ideal.Flights.{kernel, flight, end_flight, same_name, name_of}
use Rattle.m3_base.specs.Ideal.Context.{Kind, Flying, Endpoint, Sends, Receives, Context, endpoint, SendRecord, Sending, Replying}
use Rattle.m3_base.specs.Ideal.Landing.{flying_at, context_after_answer, endpoint_after_answer, without_flying}
use Rattle.m3_base.specs.Ideal.State.{Grant, State, context_of, put_context, act_of, same_act, act_before, grant_in, parent_of, parent_in}
use Rattle.m3_base.specs.Ideal.GrantRules.{form, send_form, part_form}
use Rattle.m3_base.specs.Ideal.Credits.{credits, gives_back_in, gives_back_by}
use Rattle.m3_base.proofs.KeyedList.{find-replaced_same}
use Rattle.m3_base.specs.Ideal.FlightNames.{Apart}
use Rattle.m3_base.proofs.FlightNames.{flight-new, apart-end, ended}
use Rattle.m3_laws.proofs.credits.Land.{credits_are}
use Rattle.m3_laws.proofs.credits.Answer.{OnlyFlies, answered_moved, answer_keeps}
use Rattle.m3_laws.proofs.invariant.step.LookUps.{apart_found, found_after, found_ended, found_new}
use Rattle.m3_laws.specs.GrantInvariant.{ChildOf, QueueLawful, ContextLawful, PacketLawful, Traffic, GrantInvariant, GrantsLawful, form_of, IsHeldAt, FormLawful, IsData}
use Rattle.m3_laws.proofs.invariant.records.RecordsOfGrants.{faces_placed}
use Rattle.m3_laws.proofs.invariant.records.RecordFormsStay.{orders_ended, issue_faces, answered_faces, orders_new}
use Rattle.m3_laws.proofs.invariant.step.ChangeKeepsTraffic.{credits_keep, packet_stays, acts_put}
use Rattle.m3_laws.proofs.invariant.records.QueueOwners.{each_set, NewLawful, Owns, issue_owns, fetched-without, fetched-mark}
use Rattle.m3_base.specs.declared.command.Command.{Command}
use Rattle.m3_base.specs.Ideal.Issue.{Issued, issue, next_id}
use Rattle.m3_base.specs.Ideal.Step.{with_packet, after_ending}
use Rattle.m3_laws.proofs.invariant.step.IssueEffects.{NewPacket, OwnBack, IssueEffect, issue_effect}
use Rattle.m3_laws.proofs.invariant.step.ChangeOneContext.{Moved, moved_back, credits_issued}
use Rattle.m3_laws.proofs.credits.Issue.{issue_keeps}
use Rattle.m3_base.specs.declared.packet.Perm.{Perm}
use Rattle.m3_laws.specs.CommandRecord.{CommandsHaveRecords, IsRecordFor, CommandHasRecord}
use Rattle.m3_base.proofs.Activities.{same_act-itself, act_found, found_own}

-- ---- a context of which one command changes

pub data_moved : (gs : List Grant) (cs : List Context) (fs hs : List Packet) (next n : ℕ) (c d : Context) → Traffic gs cs fs next → context_of d.act cs ≡ Some c → Moved n c d → ContextLawful gs hs d → ((a k : ℕ) → (same_act a d.act ≡ false) → Apart (record { issuer = a; number = k }) fs → Apart (record { issuer = a; number = k }) hs) → d.act < kernel → ((id : FlightId) (p : Packet) → flight id hs ≡ Some p → ((flight id fs ≡ Some p) × (same_name (record { issuer = d.act; number = n }) (name_of p) ≡ false)) ⊎ PacketLawful gs (put_context d cs) p) → Traffic gs (put_context d cs) hs next
data_moved gs cs fs hs next n c d law at mv own apart below packs = record {
  acts = acts_put d cs law.acts;
  contexts = λ b x e. by_found b x (found_after b x c d cs at e);
  packets = λ id p e. by_packet id p (packs id p e);
  orders = λ k h. apart kernel k (grind (arith, nat_tests, below)) (law.orders k h);
}
  where
    by_found : (b : ℕ) (x : Context) → ((b ≡ d.act) × (x ≡ d)) ⊎ ((same_act b d.act ≡ false) × (context_of b cs ≡ Some x)) → ContextLawful gs hs x
    by_found b x (inl q) = subst (ContextLawful gs hs) (sym q.1) own
    by_found b x (inr q) =
        let ok = law.contexts b x q.1 in
        let ne : same_act x.act d.act ≡ false = subst (λ z. same_act z d.act ≡ false) (act_found b x cs q.1) q.0 in
        record { act = ok.act; lone = ok.lone; fresh = ok.fresh; apart = λ k h. apart x.act k ne (ok.apart k h); stands = ok.stands; queues = ok.queues }

    by_packet : (id : FlightId) (p : Packet) → ((flight id fs ≡ Some p) × (same_name (record { issuer = d.act; number = n }) (name_of p) ≡ false)) ⊎ PacketLawful gs (put_context d cs) p → PacketLawful gs (put_context d cs) p
    by_packet id p (inr z) = z
    by_packet id p (inl e) = packet_stays n gs cs c d p mv at e.1 (law.packets id p e.0)

-- ---- a command

stands_after : (c : Context) (i : Issued) → IssueEffect c i → CommandsHaveRecords c → CommandsHaveRecords i.context
stands_after c i does st k = by_case (k == c.next) refl
  where
    by_flying : (o : Option Flying) → CommandHasRecord c o → CommandHasRecord i.context o
    by_flying None h = tt
    by_flying (Some f) h = (does.each f.ep).stands f.kind f.token h

    by_case : (b : Bool) → (k == c.next) ≡ b → CommandHasRecord i.context (flying_at k i.context.flying)
    by_case true w = subst (λ n. CommandHasRecord i.context (flying_at n i.context.flying)) (grind (arith, nat_tests, w)) does.own
    by_case false w = subst (CommandHasRecord i.context) (sym (does.others k (grind (arith, nat_tests, w)))) (by_flying (flying_at k c.flying) (st k))

apart_after : (c : Context) (fs : List Packet) (i : Issued) (a n : ℕ) → NewPacket c i.context i.packet → ((a ≡ c.act → n ≢ c.next)) → Apart (record { issuer = a; number = n }) fs → Apart (record { issuer = a; number = n }) (with_packet i.packet fs)
apart_after c fs i a n new ne h = by_packet i.packet new
  where
    other : (p : Packet) → name_of p ≡ next_id c → same_name (record { issuer = a; number = n }) (name_of p) ≡ false
    other p e = rw e (grind (arith, nat_tests, ne))

    by_packet : (mp : Option Packet) → NewPacket c i.context mp → Apart (record { issuer = a; number = n }) (with_packet mp fs)
    by_packet None w = h
    by_packet (Some p) w = flight-new (record { issuer = a; number = n }) p fs (other p w.0) ∙ h

pub data_new : (d : Context) (f : Option Flying) (p : Packet) → OwnBack d f p → IsData p
data_new d f (Packet.Message to ep h m) own = tt
data_new d f (Packet.Credit id to h) own = tt
data_new d f (Packet.Read id h place buffer) own = tt
data_new d f (Packet.Write id h place payload) own = tt
data_new d f (Packet.Answer id answer) own = absurd own
data_new d f (Packet.Install id to ep k) own = absurd own
data_new d f (Packet.Close id to ep h) own = absurd own

-- the new packet
new_lawful : (gs : List Grant) (cs : List Context) (c d : Context) (p : Packet) → context_of d.act cs ≡ Some c → d.act ≡ c.act → NewPacket c d (Some p) → NewLawful gs (Some p) → PacketLawful gs (put_context d cs) p
new_lawful gs cs c d (Packet.Message to ep h m) at act new names =
    let here : context_of d.act (put_context d cs) ≡ Some d = find-replaced_same act_of same_act act_before d c cs (same_act-itself d.act) at in
    let sender : m.header.sender ≡ d.act = ap (λ x. x.issuer) new.0 ∙ sym act in
    let number : m.header.number ≡ c.next = ap (λ x. x.number) new.0 in
    let found : context_of m.header.sender (put_context d cs) ≡ Some d = subst (λ z. context_of z (put_context d cs) ≡ Some d) (sym sender) here in
    (λ g. ap (gives_back_in g m.header.number) found ∙ ap (λ n. gives_back_by g d (flying_at n d.flying)) number ∙ new.1 g, names.0, names.1)
new_lawful gs cs c d (Packet.Credit id to h) at act new names = names
new_lawful gs cs c d (Packet.Read id h place buffer) at act new names = tt
new_lawful gs cs c d (Packet.Write id h place payload) at act new names = tt
new_lawful gs cs c d (Packet.Answer id answer) at act new names = tt
new_lawful gs cs c d (Packet.Install id to ep f) at act new names = tt
new_lawful gs cs c d (Packet.Close id to ep h) at act new names = tt

-- a send record's grant is a child of the receive grant that it names
form_child : (g of label credits : ℕ) (k l : GrantLine) (f : Fresh) (to to_ep to_grant label' size limit : ℕ) → send_form g of label credits l f ≡ Some (Fresh.Send g to to_ep to_grant label' size limit) → of ≡ to_grant
form_child g of label credits k l (Fresh.Receive h slots size) to to_ep to_grant label' size' limit e = grind (arith, e)
form_child g of label credits k l (Fresh.Send h a b c d e' f) to to_ep to_grant label' size' limit e = absurd (cc)
form_child g of label credits k l (Fresh.Memory h start len perm) to to_ep to_grant label' size' limit e = absurd (cc)

part_no_send : (g at len : ℕ) (perm : Perm) (f : Fresh) (h to to_ep to_grant label size limit : ℕ) → part_form g at len perm f ≡ Some (Fresh.Send h to to_ep to_grant label size limit) → ⊥
part_no_send g at len perm (Fresh.Memory k start length its) h to to_ep to_grant label size limit e = absurd (cc)
part_no_send g at len perm (Fresh.Send k a b c d e' f) h to to_ep to_grant label size limit e = absurd (cc)
part_no_send g at len perm (Fresh.Receive k slots size') h to to_ep to_grant label size limit e = absurd (cc)

line_child : (g : ℕ) (line : GrantLine) (above : Option Grant) (to to_ep to_grant label size limit : ℕ) → form g line above ≡ Some (Fresh.Send g to to_ep to_grant label size limit) → parent_of line ≡ Some to_grant
line_child g (GrantLine.Recv act ep slots size') above to to_ep to_grant label size limit e = absurd (cc)
line_child g (GrantLine.Range act ep at len perm) above to to_ep to_grant label size limit e = absurd (cc)
line_child g (GrantLine.Send act ep of label' credits) None to to_ep to_grant label size limit e = absurd (cc)
line_child g (GrantLine.Send act ep of label' credits) (Some x) to to_ep to_grant label size limit e = ap Some (form_child g of label' credits x.line x.line x.fresh to to_ep to_grant label size limit e)
line_child g (GrantLine.Part act ep of at len perm) None to to_ep to_grant label size limit e = absurd (cc)
line_child g (GrantLine.Part act ep of at len perm) (Some x) to to_ep to_grant label size limit e = absurd (part_no_send g at len perm x.fresh g to to_ep to_grant label size limit e)

pub record_child : (gs : List Grant) → GrantsLawful gs → (a ep : ℕ) (r : SendRecord) → FormLawful gs a ep (form_of (Sends r)) → ChildOf (grant_in gs r.grant) a r.to_grant
record_child gs law a ep r h = by_grant (grant_in gs r.grant) refl h
  where
    by_grant : (o : Option Grant) → grant_in gs r.grant ≡ o → IsHeldAt o a ep (Fresh.Send r.grant r.to r.to_ep r.to_grant r.label r.size r.limit) → ChildOf o a r.to_grant
    by_grant None e h = absurd h
    by_grant (Some x) e h =
        (h.act, line_child r.grant x.line (parent_in gs (parent_of x.line)) r.to r.to_ep r.to_grant r.label r.size r.limit ((law r.grant x e).fresh ∙ ap Some h.fresh))

module _ (s : State) (a : ℕ) (k : Command) (c : Context) (i : Issued) (law : GrantInvariant s) (at : context_of a s.contexts ≡ Some c) (e : issue c k ≡ Some i) where
  ok : ContextLawful s.grants s.flights c
  ok = law.traffic.contexts a c at

  does : IssueEffect c i
  does = issue_effect c k i e (ok.fresh c.next (omega arith))

  here : context_of c.act s.contexts ≡ Some c
  here = found_own a c s.contexts at

  there : context_of i.context.act s.contexts ≡ Some c
  there = subst (λ z. context_of z s.contexts ≡ Some c) (sym does.act) here

  owns : Owns s.grants c i
  owns = issue_owns s.grants c k i (λ ep r q. record_child s.grants law.placed.grants c.act ep r (subst (λ z. FormLawful s.grants c.act ep (form_of z)) q (law.placed.records c.act c here ep))) ok.queues e

  mv : Moved c.next c i.context
  mv = moved_back c.next c i.context (record { act = does.act; each = does.each; others = does.others }) ok.stands

  free : Apart (record { issuer = i.context.act; number = c.next }) s.flights
  free = subst (λ z. Apart (record { issuer = z; number = c.next }) s.flights) (sym does.act) (ok.apart c.next (omega arith))

  rose_over : (n : ℕ) → i.context.next ≤ n → (n ≡ c.next → flying_at c.next i.context.flying ≡ None)
  rose_over n h q = either (owns.rose (ok.fresh c.next (omega arith)))
    where
      either : (flying_at c.next i.context.flying ≡ None) ⊎ (c.next < i.context.next) → flying_at c.next i.context.flying ≡ None
      either (inl z) = z
      either (inr z) = absurd (omega (arith, z, h, q))

  fresh_after : (n : ℕ) → i.context.next ≤ n → flying_at n i.context.flying ≡ None
  fresh_after n h = by_case (n == c.next) refl
    where
      by_case : (b : Bool) → (n == c.next) ≡ b → flying_at n i.context.flying ≡ None
      by_case true w =
          let q : n ≡ c.next = grind (arith, nat_tests, w) in
          subst (λ z. flying_at z i.context.flying ≡ None) (sym q) (rose_over n h q)
      by_case false w = does.others n (grind (arith, nat_tests, w)) ∙ ok.fresh n (omega (arith, h, owns.next))

  apart_own : (n : ℕ) → i.context.next ≤ n → Apart (record { issuer = i.context.act; number = n }) (with_packet i.packet s.flights)
  apart_own n h = subst (λ z. Apart (record { issuer = z; number = n }) (with_packet i.packet s.flights)) (sym does.act) (by_packet owns.rose_packet)
    where
      before : Apart (record { issuer = c.act; number = n }) s.flights
      before = ok.apart n (omega (arith, h, owns.next))

      by_packet : (i.packet ≡ None) ⊎ (c.next < i.context.next) → Apart (record { issuer = c.act; number = n }) (with_packet i.packet s.flights)
      by_packet (inl z) = subst (λ y. Apart (record { issuer = c.act; number = n }) (with_packet y s.flights)) (sym z) before
      by_packet (inr z) = apart_after c s.flights i c.act n does.packet (λ _ q. absurd (omega (arith, z, h, q))) before

  own : ContextLawful s.grants (with_packet i.packet s.flights) i.context
  own = record {
    act = subst (λ z. z < kernel) (sym does.act) ok.act;
    lone = owns.lone ok.lone;
    fresh = fresh_after;
    apart = apart_own;
    stands = stands_after c i does ok.stands;
    queues = owns.each;
  }

  packs : (id : FlightId) (p : Packet) → flight id (with_packet i.packet s.flights) ≡ Some p → ((flight id s.flights ≡ Some p) × (same_name (record { issuer = i.context.act; number = c.next }) (name_of p) ≡ false)) ⊎ PacketLawful s.grants (put_context i.context s.contexts) p
  packs id p f = by_packet i.packet does.packet owns.packet f
    where
      old : flight id s.flights ≡ Some p → ((flight id s.flights ≡ Some p) × (same_name (record { issuer = i.context.act; number = c.next }) (name_of p) ≡ false)) ⊎ PacketLawful s.grants (put_context i.context s.contexts) p
      old f = inl (f, apart_found (record { issuer = i.context.act; number = c.next }) id p s.flights free f)

      by_packet : (mp : Option Packet) → NewPacket c i.context mp → NewLawful s.grants mp → flight id (with_packet mp s.flights) ≡ Some p → ((flight id s.flights ≡ Some p) × (same_name (record { issuer = i.context.act; number = c.next }) (name_of p) ≡ false)) ⊎ PacketLawful s.grants (put_context i.context s.contexts) p
      by_packet None w h f = old f
      by_packet (Some q) w h f = either (found_new id p q s.flights (subst (λ y. Apart y s.flights) (sym w.0) (ok.apart c.next (omega arith))) f)
        where
          either : (p ≡ q) ⊎ (flight id s.flights ≡ Some p) → ((flight id s.flights ≡ Some p) × (same_name (record { issuer = i.context.act; number = c.next }) (name_of p) ≡ false)) ⊎ PacketLawful s.grants (put_context i.context s.contexts) p
          either (inl z) = inr (subst (PacketLawful s.grants (put_context i.context s.contexts)) (sym z) (new_lawful s.grants s.contexts c i.context q there does.act w h))
          either (inr z) = old z

  new_data : (p : Packet) → i.packet ≡ Some p → Apart (name_of p) s.flights × IsData p
  new_data p q =
      let w = subst (NewPacket c i.context) q does.packet in
      (subst (λ y. Apart y s.flights) (sym w.0) (ok.apart c.next (omega arith)), data_new i.context (flying_at c.next i.context.flying) p w.1)

  pub issue_lawful : GrantInvariant (record s { contexts = put_context i.context s.contexts; flights = with_packet i.packet s.flights })
  issue_lawful = record {
    placed = faces_placed s s.memory c i.context (with_packet i.packet s.flights) law.placed there (issue_faces c k i e) (orders_new s.grants s.contexts s.flights law.placed.distinct law.placed.installs i.packet new_data);
    traffic = data_moved s.grants s.contexts s.flights (with_packet i.packet s.flights) s.kernel_next c.next c i.context law.traffic there mv own (λ b n ne h. apart_after c s.flights i b n does.packet (λ q. absurd (grind (arith, nat_tests, ne, q, does.act))) h) (subst (λ z. z < kernel) (sym does.act) ok.act) packs;
    credits = λ g. credits_keep (grant_in s.grants g) (credits g s) _ (λ claim.
        credits_are g (record s { contexts = put_context i.context s.contexts; flights = with_packet i.packet s.flights })
        ∙ credits_issued g c.next s.contexts s.flights c i.context i.packet mv there free does.packet (issue_keeps g c k i e)
        ∙ sym (credits_are g s)) (law.credits g);
  }

-- ---- an answer

settled_queue : (gs : List Grant) (k : Kind) (t : ℕ) (answer : Answer) (e : Endpoint) → QueueLawful gs e → QueueLawful gs (endpoint_after_answer k t answer e)
settled_queue gs Sending t (Answer.Refused why) (Sends r) h = h
settled_queue gs Replying t Answer.Replied (Receives r) h = (h.0, fetched-without gs r.grant t r.fetched h.1)
settled_queue gs Replying t (Answer.Refused why) (Receives r) h = (h.0, fetched-mark gs r.grant false t r.fetched h.1)
settled_queue gs k t answer e h = h

lone_flying : (c : Context) (f : Flying) (n : ℕ) → length c.flying ≤ 1 → flying_at n c.flying ≡ Some f → OnlyFlies f c × (f.number ≡ n)
lone_flying c f n l e = by_list c.flying l e
  where
    by_list : (fs : List Flying) → length fs ≤ 1 → flying_at n fs ≡ Some f → (fs ≡ f ∷ []) × (f.number ≡ n)
    by_list [] l e = absurd (cc)
    by_list (x ∷ []) l e = by_number (x.number == n) refl
      where
        by_number : (b : Bool) → (x.number == n) ≡ b → (x ∷ [] ≡ f ∷ []) × (f.number ≡ n)
        by_number true w = let same : x ≡ f = grind (arith, e, w) in (ap (λ y. y ∷ []) same, ap (λ y. y.number) (sym same) ∙ grind (arith, nat_tests, w))
        by_number false w = absurd (grind (arith, e, w))
    by_list (x ∷ y ∷ fs) l e = absurd (omega arith)

module _ (s : State) (id : FlightId) (answer : Answer) (c : Context) (f : Flying) (law : GrantInvariant s) (at : context_of id.issuer s.contexts ≡ Some c) (find : flight id s.flights ≡ Some (Packet.Answer id answer)) (flies : flying_at id.number c.flying ≡ Some f) where
  ours : ContextLawful s.grants s.flights c
  ours = law.traffic.contexts id.issuer c at

  its_act : c.act ≡ id.issuer
  its_act = sym (act_found id.issuer c s.contexts at)

  only : OnlyFlies f c × (f.number ≡ id.number)
  only = lone_flying c f id.number ours.lone flies

  stood : IsRecordFor f.kind f.token (endpoint c f.ep)
  stood = subst (CommandHasRecord c) flies (ours.stands id.number)

  none_flies : (context_after_answer f answer c).flying ≡ []
  none_flies = ap (without_flying f.number) only.0 ∙ grind (arith, nat_tests)

  its_here : context_of (context_after_answer f answer c).act s.contexts ≡ Some c
  its_here = subst (λ z. context_of z s.contexts ≡ Some c) (sym its_act) at

  its_own : ContextLawful s.grants (end_flight id s.flights) (context_after_answer f answer c)
  its_own = record {
    act = ours.act;
    lone = subst (λ fs. length fs ≤ 1) (sym none_flies) (omega arith);
    fresh = λ n h. ap (flying_at n) none_flies;
    apart = λ n h. apart-end (record { issuer = c.act; number = n }) id s.flights (ours.apart n h);
    stands = λ n. subst (λ fs. CommandHasRecord (context_after_answer f answer c) (flying_at n fs)) (sym none_flies) tt;
    queues = each_set s.grants c.endpoints f.ep (endpoint_after_answer f.kind f.token answer (endpoint c f.ep)) ours.queues (settled_queue s.grants f.kind f.token answer (endpoint c f.ep) (ours.queues f.ep));
  }

  its_moved : Moved id.number c (context_after_answer f answer c)
  its_moved = subst (λ n. Moved n c (context_after_answer f answer c)) only.1 (answered_moved f answer c only.0)

  gone : Apart (record { issuer = c.act; number = id.number }) (end_flight id s.flights)
  gone = subst (λ z. Apart (record { issuer = z; number = id.number }) (end_flight id s.flights)) (sym its_act) (ended id s.flights law.placed.distinct)

  pub answer_lawful : GrantInvariant (after_ending s id (context_after_answer f answer c))
  answer_lawful = record {
    placed = faces_placed s s.memory c (context_after_answer f answer c) (end_flight id s.flights) law.placed its_here (answered_faces f answer c) (orders_ended s.grants s.contexts s.flights law.placed.distinct law.placed.installs id (Packet.Answer id answer) find tt);
    traffic = data_moved s.grants s.contexts s.flights (end_flight id s.flights) s.kernel_next id.number c (context_after_answer f answer c) law.traffic its_here its_moved its_own (λ b n ne h. apart-end (record { issuer = b; number = n }) id s.flights h) ours.act (λ n p e. inl (found_ended id n p s.flights law.placed.distinct e, apart_found (record { issuer = c.act; number = id.number }) n p (end_flight id s.flights) gone e));
    credits = λ g. credits_keep (grant_in s.grants g) (credits g s) _ (λ claim. answer_keeps g s id answer c f at its_act only.0 only.1 stood find law.placed.distinct) (law.credits g);
  }
