-- An activity makes a command.
use Rattle.std.proofs.Common.{◌≡◌, ℕ, ◌+◌, Bool, true, false, cond, List, [], ◌∷◌, ◌++◌, Some, None, refl, arith, set, length, replicate, Option}
use Rattle.std.specs.Prelude.{◌==◌, ◌&&◌}
use Rattle.std.specs.List.{list_all}
use Rattle.m3_base.specs.declared.message.Message.{Message}
use Rattle.m3_base.specs.declared.command.Command.{Command}
use Rattle.m3_base.specs.declared.command.Refusal.{Refusal}
use Rattle.m3_base.specs.declared.packet.Packet.{Packet}
use Rattle.m3_base.specs.Ideal.Flights.{name_of}
use Rattle.m3_base.specs.Ideal.Context.{Sending, Reading, Writing, Fetched, ReceiveRecord, Endpoint, Free, Sends, Receives, Reaches, Context, endpoint, with_endpoint}
use Rattle.m3_base.specs.Ideal.ReceiveRecord.{with_fetched, fetched_at, unmarked_message, without_token, with_mark, without_fetched, with_mark_at}
use Rattle.m3_base.specs.Ideal.Issue.{Flies, Issued, first_of, unless_refusal, next_id, with_flying_command, send_packet, send_refusal, less_one, send, reply_refusal, reply_to, reply, fetch_from, fetch, after_acknowledge, acknowledge_at, acknowledge, access, access_refusal, read, write, may_read, may_write, is_busy, flies_always, issue}
use Rattle.m3_model.specs.Config.Site.{Site}
use Rattle.m3_model.specs.Config.KnownActivities.{is_home, is_named, is_from_home, is_fetched_from_home, names_at, is_named_context}
use Rattle.m3_refine.proofs.arrival.KeepsKnownActivities.{all_get, all_set, fetched_more, fetched_less, fetched_marked}
use Rattle.std.proofs.lemmas.Bool.{and_from}

-- a new packet has the next name, and goes to the memory or to an activity
abbrev pub NewOk : Site → Context → Option Packet → Type 0
NewOk h c None = Unit {0}
NewOk h c (Some q) = (name_of q ≡ next_id c) × (is_named h q ≡ true)

-- the activity stays, and so do its names
abbrev pub IssuesOk : Site → Context → Issued → Type 0
IssuesOk h c i = (i.context.act ≡ c.act) × (is_named_context h i.context ≡ true) × NewOk h c i.packet

abbrev pub IssuedOk : Site → Context → Option Issued → Type 0
IssuedOk h c None = Unit {0}
IssuedOk h c (Some i) = IssuesOk h c i

module _ (h : Site) (c : Context) (known : is_home h c.act ≡ true) (named : is_named_context h c ≡ true) where
  unless_ok : (why : Option Refusal) (i : Issued) → IssuesOk h c i → IssuesOk h c (unless_refusal why c i)
  unless_ok None i k = k
  unless_ok (Some x) i k = (refl, named, tt)

  set_ok : (ep : ℕ) (e : Endpoint) → names_at h e ≡ true → list_all (names_at h) (set c.endpoints ep e) ≡ true
  set_ok ep e n = all_set h c.endpoints ep e named n

  send_ok : (ep : ℕ) (payload : List ℕ) (to : Option ℕ) (e : Endpoint) → names_at h e ≡ true → IssuesOk h c (send c ep payload to e)
  send_ok ep payload to Free n = (refl, named, tt)
  send_ok ep payload to (Receives r) n = (refl, named, tt)
  send_ok ep payload to (Reaches r) n = (refl, named, tt)
  send_ok ep payload to (Sends r) n =
      unless_ok (send_refusal c r payload to) (record {
        told = Flies (next_id c);
        packet = Some (send_packet c r payload to);
        context = with_endpoint (with_flying_command c Sending ep 0) ep (Sends (less_one r));
      }) (refl, set_ok ep (Sends (less_one r)) n, (refl, grind (arith, n, known)))

  fetched_from : (t : ℕ) (fs : List Fetched) (m : Message) → list_all (is_fetched_from_home h) fs ≡ true → unmarked_message (fetched_at t fs) ≡ Some m → is_from_home h m ≡ true
  fetched_from t [] m a e = absurd (cc)
  fetched_from t (f ∷ fs) m a e = let r = fetched_from t fs m in grind (arith, a, e, r)

  parts : (r : ReceiveRecord) → names_at h (Receives r) ≡ true → (list_all (is_from_home h) r.unread ≡ true) × (list_all (is_fetched_from_home h) r.fetched ≡ true)
  parts r n = (grind (arith, n), grind (arith, n))

  reply_to_ok : (ep token : ℕ) (payload : List ℕ) (r : ReceiveRecord) → names_at h (Receives r) ≡ true → (o : Option Message) → unmarked_message (fetched_at token r.fetched) ≡ o → IssuesOk h c (reply_to c ep token payload r o)
  reply_to_ok ep token payload r n None e = (refl, named, tt)
  reply_to_ok ep token payload r n (Some m) e =
      let k = parts r n in
      let f : is_from_home h m ≡ true = fetched_from token r.fetched m k.1 e in
      (refl, set_ok ep (Receives (with_mark_at true r token)) (and_from (list_all (is_from_home h) r.unread) (list_all (is_fetched_from_home h) (with_mark true token r.fetched)) k.0 (fetched_marked h true token r.fetched k.1)), (refl, grind (arith, f, known)))

  reply_ok : (ep token : ℕ) (payload : List ℕ) (e : Endpoint) → names_at h e ≡ true → IssuesOk h c (reply c ep token payload e)
  reply_ok ep token payload Free n = (refl, named, tt)
  reply_ok ep token payload (Sends r) n = (refl, named, tt)
  reply_ok ep token payload (Reaches r) n = (refl, named, tt)
  reply_ok ep token payload (Receives r) n =
      unless_ok (reply_refusal r token payload) (reply_to c ep token payload r (unmarked_message (fetched_at token r.fetched))) (reply_to_ok ep token payload r n (unmarked_message (fetched_at token r.fetched)) refl)

  fetch_from_ok : (ep : ℕ) (r : ReceiveRecord) → names_at h (Receives r) ≡ true → (ms : List Message) → list_all (is_from_home h) ms ≡ true → IssuesOk h c (fetch_from c ep r ms)
  fetch_from_ok ep r n [] a = (refl, named, tt)
  fetch_from_ok ep r n (m ∷ ms) a =
      let k = parts r n in
      let first : is_from_home h m ≡ true = grind (arith, a) in
      let more : list_all (is_from_home h) ms ≡ true = grind (arith, a) in
      let f : Fetched = record { token = r.next_token; marked = false; message = m } in
      (refl, set_ok ep (Receives (with_fetched r m ms)) (and_from (list_all (is_from_home h) ms) (list_all (is_fetched_from_home h) (r.fetched ++ f ∷ [])) more (fetched_more h r.fetched f k.1 first)), tt)

  fetch_ok : (ep : ℕ) (e : Endpoint) → names_at h e ≡ true → IssuesOk h c (fetch c ep e)
  fetch_ok ep Free n = (refl, named, tt)
  fetch_ok ep (Sends r) n = (refl, named, tt)
  fetch_ok ep (Reaches r) n = (refl, named, tt)
  fetch_ok ep (Receives r) n =
      unless_ok (first_of ((r.closing, Refusal.Revoked) ∷ [])) (fetch_from c ep r r.unread) (fetch_from_ok ep r n r.unread (parts r n).0)

  acknowledged_ok : (ep token : ℕ) (r : ReceiveRecord) → names_at h (Receives r) ≡ true → (m : Message) → is_from_home h m ≡ true → (b : Bool) → IssuesOk h c (after_acknowledge c ep r token m b)
  acknowledged_ok ep token r n m f b = by_wish b (set_ok ep (Receives (without_fetched r token)) (and_from (list_all (is_from_home h) r.unread) (list_all (is_fetched_from_home h) (without_token token r.fetched)) (parts r n).0 (fetched_less h token r.fetched (parts r n).1)))
    where
      by_wish : (b : Bool) → list_all (names_at h) (set c.endpoints ep (Receives (without_fetched r token))) ≡ true → IssuesOk h c (after_acknowledge c ep r token m b)
      by_wish true x = (refl, x, (refl, grind (arith, f, known)))
      by_wish false x = (refl, x, tt)

  acknowledge_at_ok : (ep token : ℕ) (r : ReceiveRecord) → names_at h (Receives r) ≡ true → (o : Option Message) → unmarked_message (fetched_at token r.fetched) ≡ o → IssuesOk h c (acknowledge_at c ep r token o)
  acknowledge_at_ok ep token r n None e = (refl, named, tt)
  acknowledge_at_ok ep token r n (Some m) e = acknowledged_ok ep token r n m (fetched_from token r.fetched m (parts r n).1 e) (m.header.flags == 0)

  acknowledge_ok : (ep token : ℕ) (e : Endpoint) → names_at h e ≡ true → IssuesOk h c (acknowledge c ep token e)
  acknowledge_ok ep token Free n = (refl, named, tt)
  acknowledge_ok ep token (Sends r) n = (refl, named, tt)
  acknowledge_ok ep token (Reaches r) n = (refl, named, tt)
  acknowledge_ok ep token (Receives r) n =
      unless_ok (first_of ((r.closing, Refusal.Revoked) ∷ [])) (acknowledge_at c ep r token (unmarked_message (fetched_at token r.fetched))) (acknowledge_at_ok ep token r n (unmarked_message (fetched_at token r.fetched)) refl)

  read_ok : (ep off len : ℕ) (e : Endpoint) → IssuesOk h c (read c ep off len e)
  read_ok ep off len Free = (refl, named, tt)
  read_ok ep off len (Sends r) = (refl, named, tt)
  read_ok ep off len (Receives r) = (refl, named, tt)
  read_ok ep off len (Reaches r) =
      unless_ok (access_refusal r off len (may_read r.perm)) (access c Reading ep (Packet.Read (next_id c) r.grant (r.start + off) (replicate len 0))) (refl, named, (refl, grind (arith, known)))

  write_ok : (ep off : ℕ) (payload : List ℕ) (e : Endpoint) → IssuesOk h c (write c ep off payload e)
  write_ok ep off payload Free = (refl, named, tt)
  write_ok ep off payload (Sends r) = (refl, named, tt)
  write_ok ep off payload (Receives r) = (refl, named, tt)
  write_ok ep off payload (Reaches r) =
      unless_ok (access_refusal r off (length payload) (may_write r.perm)) (access c Writing ep (Packet.Write (next_id c) r.grant (r.start + off) payload)) (refl, named, (refl, grind (arith, known)))

  busy_ok : (b : Bool) (i : Issued) → IssuesOk h c i → IssuedOk h c (cond b None (Some i))
  busy_ok true i k = tt
  busy_ok false i k = k

  pub issue_ok : (x : Command) → IssuedOk h c (issue c x)
  issue_ok (Command.Send ep payload to) = busy_ok (is_busy c) (send c ep payload to (endpoint c ep)) (send_ok ep payload to (endpoint c ep) (all_get h c.endpoints ep named))
  issue_ok (Command.Reply ep token payload) = busy_ok (is_busy c) (reply c ep token payload (endpoint c ep)) (reply_ok ep token payload (endpoint c ep) (all_get h c.endpoints ep named))
  issue_ok (Command.Fetch ep) = fetch_ok ep (endpoint c ep) (all_get h c.endpoints ep named)
  issue_ok (Command.Acknowledge ep token) = acknowledge_ok ep token (endpoint c ep) (all_get h c.endpoints ep named)
  issue_ok (Command.Read ep off len) = busy_ok (is_busy c) (read c ep off len (endpoint c ep)) (read_ok ep off len (endpoint c ep))
  issue_ok (Command.Write ep off payload) = busy_ok (is_busy c) (write c ep off payload (endpoint c ep)) (write_ok ep off payload (endpoint c ep))

-- a command waits just where it would fly and as many fly as may
abbrev pub WaitsIf : Bool → Option Issued → Type 0
WaitsIf b None = b ≡ true
WaitsIf b (Some i) = b ≡ false

waits_by : (c : Context) (b : Bool) → is_busy c ≡ b → (i : Issued) → WaitsIf (true && is_busy c) (cond b None (Some i))
waits_by c true e i = e
waits_by c false e i = e

pub issue_waits : (c : Context) (x : Command) → WaitsIf (flies_always x && is_busy c) (issue c x)
issue_waits c (Command.Send ep payload to) = waits_by c (is_busy c) refl (send c ep payload to (endpoint c ep))
issue_waits c (Command.Reply ep token payload) = waits_by c (is_busy c) refl (reply c ep token payload (endpoint c ep))
issue_waits c (Command.Fetch ep) = refl
issue_waits c (Command.Acknowledge ep token) = refl
issue_waits c (Command.Read ep off len) = waits_by c (is_busy c) refl (read c ep off len (endpoint c ep))
issue_waits c (Command.Write ep off payload) = waits_by c (is_busy c) refl (write c ep off payload (endpoint c ep))
