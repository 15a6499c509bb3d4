-- Why sends are refused, at issue and where they land.
use Rattle.std.proofs.Common.{◌≡◌, ℕ, ◌+◌, ◌≤◌, Bool, true, false, List, [], ◌∷◌, length, Some, None, refl, sym, subst, ◌∙◌, ap, arith}
use Rattle.std.specs.Prelude.{Option, if◌then◌else◌, ◌==◌, nat_lt}
use Rattle.std.specs.List.{list_any}
use Rattle.std.proofs.lemmas.Bool.Decides.{nat_tests}
use Rattle.m3_base.specs.declared.ids.FlightId.{FlightId}
use Rattle.m3_base.specs.declared.message.Message.{Message}
use Rattle.m3_base.specs.declared.packet.Packet.{Packet}
use Rattle.m3_base.specs.declared.packet.Perm.{Perm}
use Rattle.m3_base.specs.declared.packet.Fresh.{Fresh}
use Rattle.m3_base.specs.declared.command.Refusal.{Refusal}
use Rattle.m3_base.specs.declared.command.Command.{Command}
use Rattle.m3_base.specs.declared.command.Reply.{Reply}
use Rattle.m3_base.specs.declared.order.GrantLine.{GrantLine}
use Rattle.m3_base.specs.Lists.Counting.{one, how_many}
use Rattle.m3_base.specs.Ideal.Flights.{flight}
use Rattle.m3_base.specs.Ideal.Context.{SendRecord, Endpoint, Free, Sends, Receives, Reaches, Context, endpoint, Sending, with_endpoint}
use Rattle.m3_base.specs.Ideal.ReceiveRecord.{is_full}
use Rattle.m3_base.specs.Ideal.Issue.{IssueOutcome, Issued, send, send_refusal, send_packet, next_id, with_flying_command, less_one, unless_refusal, issue, is_busy}
use Rattle.m3_base.specs.Ideal.State.{put_context, Grant, State, context_of, act_of, same_act, grant_in, parent_in, parent_of, holder, holder_ep}
use Rattle.m3_base.specs.Ideal.Opening.{opening}
use Rattle.m3_base.specs.Ideal.MessageTraces.{final}
use Rattle.m3_laws.proofs.credits.Issue.{came_through}
use Rattle.m3_base.specs.Ideal.Landing.{land_refusal, has_closing, is_record_of}
use Rattle.m3_base.specs.Ideal.GrantRules.{form, send_form, part_form}
use Rattle.m3_base.specs.Ideal.Step.{At_issue, issue_in, issued_in, with_packet, number_of, is_install_of}
use Rattle.m3_laws.specs.Laws.{SendCauses, IsSendCause, send_cause, told_of_send, SendsHaveCauses, LandCauses, land_cause, has_no_slot}
use Rattle.m3_laws.specs.GrantInvariant.{GrantLawful, KeepsOpen, is_ready, is_open_grant, is_close_sent, ChildOf, IsHeldAt, FormLawful, form_of}
use Rattle.m3_laws.specs.WellFormed.{is_sent_by_form, is_sent_as}
use Rattle.m3_laws.specs.Invariant.{Invariant}
use Rattle.m3_laws.proofs.credits.Counting.{some_at, some_found}
use Rattle.m3_laws.proofs.invariant.records.RecordsOfGrants.{open_undone}
use Rattle.m3_laws.proofs.invariant.records.OrdersKeepRecords.{form_number}
use Rattle.m3_laws.proofs.invariant.step.Consequences.{record_there}
use Rattle.m3_laws.proofs.grants.OpenWhileUsed.{message_held}
use Rattle.m3_laws.proofs.grants.RevokedIsGone.{refused_there}
use Rattle.m3_laws.proofs.invariant.step.Invariant.{invariant_ever}
use Rattle.m3_base.specs.Ideal.GrantHolder.{HeldThere}

-- ---- at issue

refusal_sends : (c : Context) (r : SendRecord) (payload : List ℕ) (to : Option ℕ) (why : Refusal) → send_refusal c r payload to ≡ Some why → IsSendCause why
refusal_sends c r payload to Refusal.NoEndpoint e = tt
refusal_sends c r payload to Refusal.Revoked e = tt
refusal_sends c r payload to Refusal.BadReplyEndpoint e = tt
refusal_sends c r payload to Refusal.TooLarge e = tt
refusal_sends c r payload to Refusal.NoCredits e = tt
refusal_sends c r payload to why e = absurd (grind (arith, e))

-- ---- the parent of a send grant

-- where a send grant of this line leads
pub record Leads (to ep len : ℕ) (y : Grant) : Type 0 where
  pub act : holder y.line ≡ to
  pub endpoint : holder_ep y.line ≡ ep
  pub number : ℕ
  pub slots : ℕ
  pub size : ℕ
  pub fresh : y.fresh ≡ Fresh.Receive number slots size
  pub short : nat_lt size len ≡ false

send_leads : (g of label credits to ep h len : ℕ) (y : Grant) (p f : Fresh) → y.fresh ≡ p → send_form g of label credits y.line p ≡ Some f → is_sent_by_form to ep h len f ≡ true → Leads to ep len y
send_leads g of label credits to ep h len y (Fresh.Receive k slots size) f w e i =
    let q : Fresh.Send g (holder y.line) (holder_ep y.line) of label size credits ≡ f = cc in
    let j : is_sent_by_form to ep h len (Fresh.Send g (holder y.line) (holder_ep y.line) of label size credits) ≡ true = subst (λ z. is_sent_by_form to ep h len z ≡ true) (sym q) i in
    record { act = grind (arith, nat_tests, j); endpoint = grind (arith, nat_tests, j); number = k; slots = slots; size = size; fresh = w; short = grind (arith, nat_tests, j) }
send_leads g of label credits to ep h len y (Fresh.Send k a b d l z n) f w e i = absurd (cc)
send_leads g of label credits to ep h len y (Fresh.Memory k start extent perm) f w e i = absurd (cc)

part_not : (g at n to ep h len : ℕ) (perm : Perm) (p f : Fresh) → part_form g at n perm p ≡ Some f → is_sent_by_form to ep h len f ≡ true → ⊥
part_not g at n to ep h len perm (Fresh.Memory k start extent its) f e i =
    let q : Fresh.Memory g (start + at) n perm ≡ f = cc in
    let j : is_sent_by_form to ep h len (Fresh.Memory g (start + at) n perm) ≡ true = subst (λ z. is_sent_by_form to ep h len z ≡ true) (sym q) i in
    cc
part_not g at n to ep h len perm (Fresh.Send k a b d l z m) f e i = cc
part_not g at n to ep h len perm (Fresh.Receive k slots size) f e i = cc

line_leads : (g to ep h len : ℕ) (line : GrantLine) (y : Grant) (f : Fresh) → parent_of line ≡ Some h → form g line (Some y) ≡ Some f → is_sent_by_form to ep h len f ≡ true → Leads to ep len y
line_leads g to ep h len (GrantLine.Recv a e slots size) y f p w i = absurd (cc)
line_leads g to ep h len (GrantLine.Range a e at n perm) y f p w i = absurd (cc)
line_leads g to ep h len (GrantLine.Send a e of label credits) y f p w i = send_leads g of label credits to ep h len y y.fresh f refl w i
line_leads g to ep h len (GrantLine.Part a e of at n perm) y f p w i = absurd (part_not g at n to ep h len perm y.fresh f w i)

-- ---- where a message lands

any_many : (p : Packet → Bool) (fs : List Packet) → list_any p fs ≡ true → 1 ≤ how_many p fs
any_many p [] h = absurd (cc)
any_many p (x ∷ fs) h = by_head (p x) refl (any_many p fs)
  where
    by_head : (b : Bool) → p x ≡ b → (list_any p fs ≡ true → 1 ≤ how_many p fs) → 1 ≤ how_many p (x ∷ fs)
    by_head true w ih = omega (arith, ap one w)
    by_head false w ih = let z = ih (grind (arith, h, w)) in omega (arith, z)

none_many : (p : Packet → Bool) (fs : List Packet) → list_any p fs ≡ false → how_many p fs ≡ 0
none_many p [] h = refl
none_many p (x ∷ fs) h =
    let a : p x ≡ false = grind (arith, h) in
    let z = none_many p fs (grind (arith, h)) in
    omega (arith, ap one a, z)

module _ (s : State) (law : Invariant s) (id : FlightId) (to ep h : ℕ) (m : Message) (c : Context) (find : flight id s.flights ≡ Some (Packet.Message to ep h m)) (plain : (m.header.flags == 0) ≡ true) (at : context_of to s.contexts ≡ Some c) where
  abbrev sender : (e : ℕ) × HeldThere s.grants m.header.send m.header.sender e
  sender = message_held s law id to ep h m find plain

  abbrev x : Grant
  x = sender.1.grant

  found : grant_in s.grants m.header.send ≡ Some x
  found = sender.1.found

  rules : GrantLawful s.grants m.header.send x
  rules = law.lawful.placed.grants m.header.send x found

  parent : parent_of x.line ≡ Some h
  parent =
      let flags : m.header.flags ≡ 0 = grind (arith, nat_tests, plain) in
      let child : ChildOf (grant_in s.grants m.header.send) m.header.sender h = (law.lawful.traffic.packets id (Packet.Message to ep h m) find).1 flags in
      (subst (λ o. ChildOf o m.header.sender h) found child).1

  ready : is_ready (grant_in s.grants h) ≡ true
  ready = subst (KeepsOpen s.grants) parent (rules.above (open_undone x.standing sender.1.stands))

  sent_form : is_sent_by_form to ep h (length m.payload) x.fresh ≡ true
  sent_form = subst (λ o. is_sent_as to ep h (length m.payload) o ≡ true) found (by_flags (m.header.flags == 0) plain (law.proper.packets id (Packet.Message to ep h m) find).entitled)
    where
      by_flags : (b : Bool) → b ≡ true → (if b then is_sent_as to ep h (length m.payload) (grant_in s.grants m.header.send) else true) ≡ true → is_sent_as to ep h (length m.payload) (grant_in s.grants m.header.send) ≡ true
      by_flags true e h = h
      by_flags false e h = absurd (cc)

  -- ---- where the receive grant is open

  module _ (y : Grant) (above : grant_in s.grants h ≡ Some y) where
    leads : Leads to ep (length m.payload) y
    leads =
        let made : form m.header.send x.line (Some y) ≡ Some x.fresh = subst (λ o. form m.header.send x.line o ≡ Some x.fresh) (ap (parent_in s.grants) parent ∙ above) rules.fresh in
        line_leads m.header.send to ep h (length m.payload) x.line y x.fresh parent made sent_form

    its_number : leads.number ≡ h
    its_number =
        let r = (law.lawful.placed.grants h y above).fresh in
        form_number h y.line (parent_in s.grants (parent_of y.line)) (Fresh.Receive leads.number leads.slots leads.size) (r ∙ ap Some leads.fresh)

    opened_there : is_ready (Some y) ≡ true → HeldThere s.grants h to ep
    opened_there w = record { grant = y; found = above; stands = grind (arith, w); act = leads.act; endpoint = leads.endpoint }

    -- its Install flies
    waits : 1 ≤ how_many (is_install_of h) s.flights → is_ready (Some y) ≡ true → land_refusal h m (endpoint c ep) ≡ Some Refusal.Revoked
    waits n w = refused_there h m (endpoint c ep) (none (is_record_of h (endpoint c ep)) refl)
      where
        none : (b : Bool) → is_record_of h (endpoint c ep) ≡ b → b ≡ false
        none false e = refl
        none true e =
            let k = (some_at (is_record_of h) c.endpoints ep refl e).0 in
            let l = some_found act_of same_act (λ z. how_many (is_record_of h) z.endpoints) to c s.contexts at in
            let op : is_open_grant (grant_in s.grants h) ≡ true = ap is_open_grant above ∙ grind (arith, w) in
            absurd (omega (arith, n, k, l, law.lawful.placed.presence h, ap one op))

    -- its record is there
    stands : how_many (is_install_of h) s.flights ≡ 0 → is_ready (Some y) ≡ true → land_refusal h m (endpoint c ep) ≡ land_cause false (has_no_slot (endpoint c ep))
    stands n w =
        let is = record_there s law h to ep c (opened_there w) at n in
        let held = law.lawful.placed.records to c at ep in
        by_end (endpoint c ep) refl is held
      where
        unsent : is_close_sent (grant_in s.grants h) ≡ false
        unsent = ap is_close_sent above ∙ grind (arith, w)

        live : (e : Endpoint) → endpoint c ep ≡ e → has_closing h e ≡ false
        live e q = by_closing (has_closing h e) refl
          where
            by_closing : (b : Bool) → has_closing h e ≡ b → b ≡ false
            by_closing false v = refl
            by_closing true v =
                let k = (some_at (has_closing h) c.endpoints ep refl (ap (has_closing h) q ∙ v)).0 in
                let l = some_found act_of same_act (λ z. how_many (has_closing h) z.endpoints) to c s.contexts at in
                absurd (omega (arith, k, l, law.lawful.placed.closings h, ap one unsent))

        held_form : (f : Fresh) → number_of f ≡ h → IsHeldAt (grant_in s.grants (number_of f)) to ep f → y.fresh ≡ f
        held_form f q k = (subst (λ o. IsHeldAt o to ep f) (ap (grant_in s.grants) q ∙ above) k).fresh

        by_end : (e : Endpoint) → endpoint c ep ≡ e → is_record_of h e ≡ true → FormLawful s.grants to ep (form_of e) → land_refusal h m e ≡ land_cause false (has_no_slot e)
        by_end Free q is k = absurd (cc)
        by_end (Sends r) q is k =
            let g : r.grant ≡ h = grind (arith, nat_tests, is) in
            let f = held_form (Fresh.Send r.grant r.to r.to_ep r.to_grant r.label r.size r.limit) g k in
            absurd (let z = sym f ∙ leads.fresh in cc)
        by_end (Reaches r) q is k =
            let g : r.grant ≡ h = grind (arith, nat_tests, is) in
            let f = held_form (Fresh.Memory r.grant r.start r.length r.perm) g k in
            absurd (let z = sym f ∙ leads.fresh in cc)
        by_end (Receives r) q is k =
            let g : r.grant ≡ h = grind (arith, nat_tests, is) in
            let f = held_form (Fresh.Receive r.grant r.slots r.size) g k in
            let z : Fresh.Receive r.grant r.slots r.size ≡ Fresh.Receive leads.number leads.slots leads.size = sym f ∙ leads.fresh in
            let size : r.size ≡ leads.size = cc in
            let short : nat_lt r.size (length m.payload) ≡ false = ap (λ n. nat_lt n (length m.payload)) size ∙ leads.short in
            let closing : r.closing ≡ false = (let v = live (Receives r) q in grind (arith, nat_tests, v, is)) in
            by_full (is_full r) refl g short closing
          where
            by_full : (b : Bool) → is_full r ≡ b → r.grant ≡ h → nat_lt r.size (length m.payload) ≡ false → r.closing ≡ false → land_refusal h m (Receives r) ≡ land_cause false (is_full r)
            by_full true v g short closing = grind (arith, nat_tests, v, g, short, closing)
            by_full false v g short closing = grind (arith, nat_tests, v, g, short, closing)

  pub land_causes : land_refusal h m (endpoint c ep) ≡ land_cause (list_any (is_install_of h) s.flights) (has_no_slot (endpoint c ep))
  land_causes = by_grant (grant_in s.grants h) refl ready
    where
      by_any : (y : Grant) → grant_in s.grants h ≡ Some y → is_ready (Some y) ≡ true → (b : Bool) → list_any (is_install_of h) s.flights ≡ b → land_refusal h m (endpoint c ep) ≡ land_cause b (has_no_slot (endpoint c ep))
      by_any y e w true v = waits y e (any_many (is_install_of h) s.flights v) w
      by_any y e w false v = stands y e (none_many (is_install_of h) s.flights v) w

      by_grant : (o : Option Grant) → grant_in s.grants h ≡ o → is_ready o ≡ true → land_refusal h m (endpoint c ep) ≡ land_cause (list_any (is_install_of h) s.flights) (has_no_slot (endpoint c ep))
      by_grant None e w = absurd (cc)
      by_grant (Some y) e w = by_any y e w (list_any (is_install_of h) s.flights) refl

pub land_causes_law : LandCauses
land_causes_law setup steps v p id to ep h m c find plain at = land_causes (final (opening setup.memory setup.lines) steps) (invariant_ever setup steps v p) id to ep h m c find plain at

-- ---- at issue

told_sends : (c : Context) (ep : ℕ) (payload : List ℕ) (to : Option ℕ) (e : Endpoint) (why : Refusal) → (send c ep payload to e).told ≡ IssueOutcome.Gives (Reply.Refused why) → IsSendCause why
told_sends c ep payload to Free why e = by_cause why e
  where
    by_cause : (why : Refusal) → IssueOutcome.Gives (Reply.Refused Refusal.NoEndpoint) ≡ IssueOutcome.Gives (Reply.Refused why) → IsSendCause why
    by_cause why e = let q : Refusal.NoEndpoint ≡ why = cc in subst IsSendCause q tt
told_sends c ep payload to (Receives r) why e = let q : Refusal.NoEndpoint ≡ why = cc in subst IsSendCause q tt
told_sends c ep payload to (Reaches r) why e = let q : Refusal.NoEndpoint ≡ why = cc in subst IsSendCause q tt
told_sends c ep payload to (Sends r) why e = by_why (send_refusal c r payload to) refl e
  where
    by_why : (o : Option Refusal) → send_refusal c r payload to ≡ o → (unless_refusal o c (record { told = IssueOutcome.Flies (next_id c); packet = Some (send_packet c r payload to); context = with_endpoint (with_flying_command c Sending ep 0) ep (Sends (less_one r)) })).told ≡ IssueOutcome.Gives (Reply.Refused why) → IsSendCause why
    by_why None w e = absurd (cc)
    by_why (Some x) w e = let q : x ≡ why = cc in subst IsSendCause q (refusal_sends c r payload to x w)

told_cause : (c : Context) (ep : ℕ) (payload : List ℕ) (to : Option ℕ) (e : Endpoint) → (send c ep payload to e).told ≡ told_of_send c (send_cause c payload to e)
told_cause c ep payload to Free = refl
told_cause c ep payload to (Receives r) = refl
told_cause c ep payload to (Reaches r) = refl
told_cause c ep payload to (Sends r) = by_why (send_refusal c r payload to)
  where
    by_why : (o : Option Refusal) → (unless_refusal o c (record { told = IssueOutcome.Flies (next_id c); packet = Some (send_packet c r payload to); context = with_endpoint (with_flying_command c Sending ep 0) ep (Sends (less_one r)) })).told ≡ told_of_send c o
    by_why None = refl
    by_why (Some x) = refl

pub sends_told : SendsHaveCauses
sends_told s a ep payload to n c there e = by_issue (issue c (Command.Send ep payload to)) (λ i f. ap (λ z. z.told) (sym (came_through (is_busy c) _ i f)) ∙ told_cause c ep payload to (endpoint c ep)) (subst (λ (o : Option Context). issue_in s o (Command.Send ep payload to) ≡ Some n) there e)
  where
    by_issue : (o : Option Issued) → ((i : Issued) → o ≡ Some i → i.told ≡ told_of_send c (send_cause c payload to (endpoint c ep))) → issued_in s o ≡ Some n → n.word ≡ At_issue (told_of_send c (send_cause c payload to (endpoint c ep)))
    by_issue None h e = absurd (cc)
    by_issue (Some i) h e =
        let q : At_issue i.told ≡ n.word = (let z : record { word = At_issue i.told; state = record s { contexts = put_context i.context s.contexts; flights = with_packet i.packet s.flights } } ≡ n = cc in ap (λ k. k.word) z) in
        sym q ∙ ap (λ t. At_issue t) (h i refl)

pub send_causes : SendCauses
send_causes s a ep payload to n why e w = by_context (context_of a s.contexts) e
  where
    by_issue : (o : Option Issued) → ((i : Issued) → o ≡ Some i → i.told ≡ IssueOutcome.Gives (Reply.Refused why) → IsSendCause why) → issued_in s o ≡ Some n → IsSendCause why
    by_issue None h e = absurd (cc)
    by_issue (Some i) h e =
        let q : At_issue i.told ≡ n.word = (let z : record { word = At_issue i.told; state = record s { contexts = put_context i.context s.contexts; flights = with_packet i.packet s.flights } } ≡ n = cc in ap (λ k. k.word) z) in
        let told : i.told ≡ IssueOutcome.Gives (Reply.Refused why) = (let z = q ∙ w in cc) in
        h i refl told

    by_context : (o : Option Context) → issue_in s o (Command.Send ep payload to) ≡ Some n → IsSendCause why
    by_context None e = absurd (cc)
    by_context (Some c) e = by_issue (issue c (Command.Send ep payload to)) (λ i f t. told_sends c ep payload to (endpoint c ep) why (ap (λ z. z.told) (came_through (is_busy c) _ i f) ∙ t)) e
