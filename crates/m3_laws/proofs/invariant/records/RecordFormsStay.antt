-- Commands, landings of data and answers leave the fixed parts of all endpoints.
use Rattle.std.proofs.Common.{◌≡◌, ℕ, Bool, true, false, List, [], ◌∷◌, length, set, Some, None, refl, sym, subst, ◌∙◌, ap, arith, inl, inr}
use Rattle.std.specs.Prelude.{Option, if◌then◌else◌, ◌==◌, map, ◌⊎◌}
use Rattle.m3_base.specs.declared.ids.FlightId.{FlightId}
use Rattle.m3_base.specs.declared.message.Message.{Message}
use Rattle.m3_base.specs.declared.packet.Packet.{Packet}
use Rattle.m3_base.specs.declared.command.Answer.{Answer}
use Rattle.m3_base.specs.declared.command.Refusal.{Refusal}
use Rattle.m3_base.specs.declared.command.Command.{Command}
use Rattle.m3_base.specs.Lists.Counting.{one}
use Rattle.m3_base.specs.Ideal.Flights.{flight, end_flight, change_flight, same_name, name_before, name_of}
use Rattle.m3_base.specs.Ideal.Context.{Kind, Sending, Replying, Reading, Writing, Flying, Endpoint, Free, Sends, Receives, Reaches, Context, endpoint, with_endpoint}
use Rattle.m3_base.specs.Ideal.ReceiveRecord.{fetched_at, unmarked_message}
use Rattle.m3_base.specs.Ideal.Issue.{IssueOutcome, next_id, send_packet, with_flying_command, less_one, Issued, issue, send, reply, fetch, acknowledge, read, write, unless_refusal, first_of, is_busy, send_refusal, reply_refusal, reply_to, fetch_from, acknowledge_at, after_acknowledge, access, access_refusal, may_read, may_write}
use Rattle.m3_base.specs.Ideal.Landing.{with_message, after_message, with_credit, endpoints_with_credit, more_at, context_after_answer, endpoint_after_answer}
use Rattle.m3_base.specs.Ideal.State.{Grant}
use Rattle.m3_base.specs.Ideal.Step.{with_packet, is_install_of}
use Rattle.m3_base.proofs.KeyedList.{how_many-inserted, how_many-without, how_many-replaced}
use Rattle.m3_laws.proofs.credits.Issue.{came_through}
use Rattle.m3_base.specs.Ideal.FlightNames.{Apart, Distinct}
use Rattle.m3_base.proofs.FlightNames.{distinct-change, distinct-end, distinct-new}
use Rattle.m3_laws.proofs.invariant.step.LookUps.{found_ended, found_new, found_changed}
use Rattle.m3_laws.specs.GrantInvariant.{fixed_part, InstallLawful, IsData}
use Rattle.m3_laws.specs.Laws.{is_close_of}
use Rattle.m3_laws.proofs.credits.Counting.{SameFixedParts, same_fixed_parts, faces_then, faces_set}
use Rattle.m3_laws.proofs.invariant.records.RecordsOfGrants.{SameOrders}
use Rattle.std.proofs.lemmas.Option.{same_Some}

pub face_put : (c d : Context) (ep : ℕ) (e : Endpoint) → d.act ≡ c.act → d.endpoints ≡ set c.endpoints ep e → fixed_part e ≡ fixed_part (endpoint c ep) → SameFixedParts c d
face_put c d ep e a q h = record { act = a; faces = ap (map fixed_part) q ∙ faces_set c.endpoints ep e h }

send_faces : (c : Context) (ep : ℕ) (payload : List ℕ) (to : Option ℕ) (e : Endpoint) → endpoint c ep ≡ e → (why : Option Refusal) → SameFixedParts c (send c ep payload to e).context
send_faces c ep payload to Free h why = same_fixed_parts c
send_faces c ep payload to (Receives r) h why = same_fixed_parts c
send_faces c ep payload to (Reaches r) h why = same_fixed_parts c
send_faces c ep payload to (Sends r) h why = by_why (send_refusal c r payload to)
  where
    by_why : (w : Option Refusal) → SameFixedParts c (unless_refusal w c (record { told = IssueOutcome.Flies (next_id c); packet = Some (send_packet c r payload to); context = with_endpoint (with_flying_command c Sending ep 0) ep (Sends (less_one r)) })).context
    by_why (Some x) = same_fixed_parts c
    by_why None = face_put c _ ep _ refl refl (ap fixed_part (sym h))

reply_faces : (c : Context) (ep token : ℕ) (payload : List ℕ) (e : Endpoint) → endpoint c ep ≡ e → SameFixedParts c (reply c ep token payload e).context
reply_faces c ep token payload Free h = same_fixed_parts c
reply_faces c ep token payload (Sends r) h = same_fixed_parts c
reply_faces c ep token payload (Reaches r) h = same_fixed_parts c
reply_faces c ep token payload (Receives r) h = by_why (reply_refusal r token payload) (unmarked_message (fetched_at token r.fetched))
  where
    by_why : (w : Option Refusal) (o : Option Message) → SameFixedParts c (unless_refusal w c (reply_to c ep token payload r o)).context
    by_why (Some x) o = same_fixed_parts c
    by_why None None = same_fixed_parts c
    by_why None (Some m) = face_put c _ ep _ refl refl (ap fixed_part (sym h))

fetch_faces : (c : Context) (ep : ℕ) (e : Endpoint) → endpoint c ep ≡ e → SameFixedParts c (fetch c ep e).context
fetch_faces c ep Free h = same_fixed_parts c
fetch_faces c ep (Sends r) h = same_fixed_parts c
fetch_faces c ep (Reaches r) h = same_fixed_parts c
fetch_faces c ep (Receives r) h = by_why (first_of ((r.closing, Refusal.Revoked) ∷ [])) r.unread
  where
    by_why : (w : Option Refusal) (ms : List Message) → SameFixedParts c (unless_refusal w c (fetch_from c ep r ms)).context
    by_why (Some x) ms = same_fixed_parts c
    by_why None [] = same_fixed_parts c
    by_why None (m ∷ ms) = face_put c _ ep _ refl refl (ap fixed_part (sym h))

acknowledge_faces : (c : Context) (ep token : ℕ) (e : Endpoint) → endpoint c ep ≡ e → SameFixedParts c (acknowledge c ep token e).context
acknowledge_faces c ep token Free h = same_fixed_parts c
acknowledge_faces c ep token (Sends r) h = same_fixed_parts c
acknowledge_faces c ep token (Reaches r) h = same_fixed_parts c
acknowledge_faces c ep token (Receives r) h = by_why (first_of ((r.closing, Refusal.Revoked) ∷ [])) (unmarked_message (fetched_at token r.fetched))
  where
    by_flags : (m : Message) (b : Bool) → SameFixedParts c (after_acknowledge c ep r token m b).context
    by_flags m true = face_put c _ ep _ refl refl (ap fixed_part (sym h))
    by_flags m false = face_put c _ ep _ refl refl (ap fixed_part (sym h))

    by_why : (w : Option Refusal) (o : Option Message) → SameFixedParts c (unless_refusal w c (acknowledge_at c ep r token o)).context
    by_why (Some x) o = same_fixed_parts c
    by_why None None = same_fixed_parts c
    by_why None (Some m) = by_flags m (m.header.flags == 0)

access_faces : (c : Context) (kind : Kind) (ep : ℕ) (p : Packet) (w : Option Refusal) → SameFixedParts c (unless_refusal w c (access c kind ep p)).context
access_faces c kind ep p (Some x) = same_fixed_parts c
access_faces c kind ep p None = record { act = refl; faces = refl }

read_faces : (c : Context) (ep off len : ℕ) (e : Endpoint) → SameFixedParts c (read c ep off len e).context
read_faces c ep off len Free = same_fixed_parts c
read_faces c ep off len (Sends r) = same_fixed_parts c
read_faces c ep off len (Receives r) = same_fixed_parts c
read_faces c ep off len (Reaches r) = access_faces c Reading ep _ (access_refusal r off len (may_read r.perm))

write_faces : (c : Context) (ep off : ℕ) (payload : List ℕ) (e : Endpoint) → SameFixedParts c (write c ep off payload e).context
write_faces c ep off payload Free = same_fixed_parts c
write_faces c ep off payload (Sends r) = same_fixed_parts c
write_faces c ep off payload (Receives r) = same_fixed_parts c
write_faces c ep off payload (Reaches r) = access_faces c Writing ep _ (access_refusal r off (length payload) (may_write r.perm))

pub issue_faces : (c : Context) (k : Command) (i : Issued) → issue c k ≡ Some i → SameFixedParts c i.context
issue_faces c (Command.Send ep payload to) i e = subst (λ z. SameFixedParts c z.context) (came_through (is_busy c) _ i e) (send_faces c ep payload to (endpoint c ep) refl None)
issue_faces c (Command.Reply ep token payload) i e = subst (λ z. SameFixedParts c z.context) (came_through (is_busy c) _ i e) (reply_faces c ep token payload (endpoint c ep) refl)
issue_faces c (Command.Fetch ep) i e = subst (λ z. SameFixedParts c z.context) (same_Some _ i e) (fetch_faces c ep (endpoint c ep) refl)
issue_faces c (Command.Acknowledge ep token) i e = subst (λ z. SameFixedParts c z.context) (same_Some _ i e) (acknowledge_faces c ep token (endpoint c ep) refl)
issue_faces c (Command.Read ep off len) i e = subst (λ z. SameFixedParts c z.context) (came_through (is_busy c) _ i e) (read_faces c ep off len (endpoint c ep))
issue_faces c (Command.Write ep off payload) i e = subst (λ z. SameFixedParts c z.context) (came_through (is_busy c) _ i e) (write_faces c ep off payload (endpoint c ep))

-- ---- landings

faces_credited : (h : ℕ) (es : List Endpoint) → map fixed_part (endpoints_with_credit h es) ≡ map fixed_part es
faces_credited h [] = refl
faces_credited h (Free ∷ es) = ap (λ z. fixed_part Free ∷ z) (faces_credited h es)
faces_credited h (Receives r ∷ es) = ap (λ z. fixed_part (Receives r) ∷ z) (faces_credited h es)
faces_credited h (Reaches r ∷ es) = ap (λ z. fixed_part (Reaches r) ∷ z) (faces_credited h es)
faces_credited h (Sends r ∷ es) = by_grant (r.grant == h) (faces_credited h es)
  where
    by_grant : (b : Bool) → map fixed_part (endpoints_with_credit h es) ≡ map fixed_part es → map fixed_part (if b then more_at (Sends r) ∷ es else Sends r ∷ endpoints_with_credit h es) ≡ fixed_part (Sends r) ∷ map fixed_part es
    by_grant true ih = refl
    by_grant false ih = ap (λ z. fixed_part (Sends r) ∷ z) ih

pub credit_faces : (h : ℕ) (c : Context) → SameFixedParts c (with_credit h c)
credit_faces h c = record { act = refl; faces = faces_credited h c.endpoints }

joined_face : (m : Message) (e : Endpoint) → fixed_part (with_message m e) ≡ fixed_part e
joined_face m Free = refl
joined_face m (Sends r) = refl
joined_face m (Receives r) = refl
joined_face m (Reaches r) = refl

pub taken_faces : (ep : ℕ) (m : Message) (c : Context) → SameFixedParts c (after_message ep m c)
taken_faces ep m c = by_flags (m.header.flags == 0)
  where
    first : SameFixedParts c (with_endpoint c ep (with_message m (endpoint c ep)))
    first = face_put c (with_endpoint c ep (with_message m (endpoint c ep))) ep (with_message m (endpoint c ep)) refl refl (joined_face m (endpoint c ep))

    by_flags : (b : Bool) → SameFixedParts c (if b then with_endpoint c ep (with_message m (endpoint c ep)) else with_credit m.header.send (with_endpoint c ep (with_message m (endpoint c ep))))
    by_flags true = first
    by_flags false = faces_then c (with_endpoint c ep (with_message m (endpoint c ep))) _ first (credit_faces m.header.send (with_endpoint c ep (with_message m (endpoint c ep))))

-- ---- answers

settled_face : (k : Kind) (t : ℕ) (answer : Answer) (e : Endpoint) → fixed_part (endpoint_after_answer k t answer e) ≡ fixed_part e
settled_face Sending t (Answer.Refused why) (Sends r) = refl
settled_face Replying t Answer.Replied (Receives r) = refl
settled_face Replying t (Answer.Refused why) (Receives r) = refl
settled_face k t answer e = refl

pub answered_faces : (f : Flying) (answer : Answer) (c : Context) → SameFixedParts c (context_after_answer f answer c)
answered_faces f answer c = face_put c (context_after_answer f answer c) f.ep (endpoint_after_answer f.kind f.token answer (endpoint c f.ep)) refl refl (settled_face f.kind f.token answer (endpoint c f.ep))

-- ---- flights

pub data_counts : (g : ℕ) (p : Packet) → IsData p → (is_install_of g p ≡ false) × (is_close_of g p ≡ false)
data_counts g (Packet.Message to ep h m) d = (refl, refl)
data_counts g (Packet.Credit id to h) d = (refl, refl)
data_counts g (Packet.Read id h place buffer) d = (refl, refl)
data_counts g (Packet.Write id h place payload) d = (refl, refl)
data_counts g (Packet.Answer id answer) d = (refl, refl)
data_counts g (Packet.Install id to ep f) d = absurd d
data_counts g (Packet.Close id to ep h) d = absurd d

pub data_install : (gs : List Grant) (cs : List Context) (p : Packet) → IsData p → InstallLawful gs cs p
data_install gs cs (Packet.Message to ep h m) d = tt
data_install gs cs (Packet.Credit id to h) d = tt
data_install gs cs (Packet.Read id h place buffer) d = tt
data_install gs cs (Packet.Write id h place payload) d = tt
data_install gs cs (Packet.Answer id answer) d = tt
data_install gs cs (Packet.Install id to ep f) d = absurd d
data_install gs cs (Packet.Close id to ep h) d = absurd d

module _ (gs : List Grant) (cs : List Context) (fs : List Packet) (distinct : Distinct fs) (old : (id : FlightId) (p : Packet) → flight id fs ≡ Some p → InstallLawful gs cs p) where
  pub orders_changed : (p q : Packet) → flight (name_of q) fs ≡ Some p → IsData p → IsData q → SameOrders gs cs fs (change_flight q fs)
  orders_changed p q find dp dq = record {
    distinct = distinct-change q fs distinct;
    waits = λ i x e. by_found i x (found_changed i x p q fs find e);
    installed = λ g. omega (arith, how_many-replaced name_of same_name name_before (is_install_of g) q p fs find, ap one (data_counts g p dp).0, ap one (data_counts g q dq).0);
    closed = λ g. omega (arith, how_many-replaced name_of same_name name_before (is_close_of g) q p fs find, ap one (data_counts g p dp).1, ap one (data_counts g q dq).1);
  }
    where
      by_found : (i : FlightId) (x : Packet) → (x ≡ q) ⊎ (flight i fs ≡ Some x) → InstallLawful gs cs x
      by_found i x (inl z) = data_install gs cs x (subst IsData (sym z) dq)
      by_found i x (inr z) = old i x z

  pub orders_ended : (id : FlightId) (p : Packet) → flight id fs ≡ Some p → IsData p → SameOrders gs cs fs (end_flight id fs)
  orders_ended id p find dp = record {
    distinct = distinct-end id fs distinct;
    waits = λ i x e. old i x (found_ended id i x fs distinct e);
    installed = λ g. omega (arith, how_many-without name_of same_name name_before (is_install_of g) id p fs find, ap one (data_counts g p dp).0);
    closed = λ g. omega (arith, how_many-without name_of same_name name_before (is_close_of g) id p fs find, ap one (data_counts g p dp).1);
  }

  pub orders_new : (mp : Option Packet) → ((p : Packet) → mp ≡ Some p → Apart (name_of p) fs × IsData p) → SameOrders gs cs fs (with_packet mp fs)
  orders_new None h = record { distinct = distinct; waits = old; installed = λ g. refl; closed = λ g. refl }
  orders_new (Some p) h =
      let f = h p refl in
      record {
        distinct = distinct-new p fs f.0 distinct;
        waits = λ i x e. by_found i x (found_new i x p fs f.0 e);
        installed = λ g. omega (arith, how_many-inserted name_of same_name name_before (is_install_of g) p fs, ap one (data_counts g p f.1).0);
        closed = λ g. omega (arith, how_many-inserted name_of same_name name_before (is_close_of g) p fs, ap one (data_counts g p f.1).1);
      }
    where
      by_found : (i : FlightId) (x : Packet) → (x ≡ p) ⊎ (flight i fs ≡ Some x) → InstallLawful gs cs x
      by_found i x (inl z) = data_install gs cs x (subst IsData (sym z) ((h p refl).1))
      by_found i x (inr z) = old i x z
