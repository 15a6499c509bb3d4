-- A command flies from its issue until its answer is applied, whatever ideal steps come between.
use Rattle.std.proofs.Common.{◌≡◌, ◌≢◌, ℕ, ◌+◌, Bool, true, false, List, [], ◌∷◌, ◌++◌, length, Option, Some, None, refl, sym, subst, ◌∙◌, ap, arith}
use Rattle.std.specs.Prelude.{◌==◌, ◌&&◌, not, is_some, if◌then◌else◌}
use Rattle.std.proofs.lemmas.Bool.Decides.{nat_tests}
use Rattle.std.proofs.lemmas.Option.{same_Some}
use Rattle.m3_base.specs.declared.command.Answer.{Answer}
use Rattle.m3_base.specs.declared.command.Command.{Command}
use Rattle.m3_base.specs.declared.command.Refusal.{Refusal}
use Rattle.m3_base.specs.declared.event.No.{No}
use Rattle.m3_base.specs.declared.ids.FlightId.{FlightId}
use Rattle.m3_base.specs.declared.message.Message.{Message}
use Rattle.m3_base.specs.declared.order.GrantLine.{GrantLine}
use Rattle.m3_base.specs.declared.packet.Fresh.{Fresh}
use Rattle.m3_base.specs.declared.packet.Packet.{Packet}
use Rattle.m3_base.specs.declared.step.Step.{Step}
use Rattle.m3_base.specs.Ideal.Context.{Context, Endpoint, Flying, Free, Kind, Reaches, Reading, ReceiveRecord, Receives, Replying, Sending, Sends, Writing, endpoint, with_endpoint}
use Rattle.m3_base.specs.Ideal.Flights.{flight, same_name}
use Rattle.m3_base.specs.Ideal.GrantRules.{change_grant, close_sent, form, is_closed_grant, kernel_id, make_refusal, may_close, revoke_refusal, to_done}
use Rattle.m3_base.specs.Ideal.Issue.{Flies, Gives, IssueOutcome, Issued, access_refusal, acknowledge, acknowledge_at, after_acknowledge, fetch, fetch_from, first_of, is_busy, issue, less_one, may_read, may_write, next_id, read, reply, reply_refusal, reply_to, send, send_packet, send_refusal, unless_refusal, with_flying_command, write}
use Rattle.m3_base.specs.Ideal.Landing.{closed_at, context_after_answer, flies_at, flying_at, has_closing, has_live, land, land_by, land_refusal, with_credit, with_message}
use Rattle.m3_base.specs.Ideal.ReceiveRecord.{fetched_at, unmarked_message}
use Rattle.m3_base.specs.Ideal.State.{Closed, Grant, State, act_of, context_of, grant_in, holder, holder_ep, parent_in, parent_of, put_context, same_act, undone}
use Rattle.m3_base.specs.Ideal.Step.{Closes_endpoint, Finishes, Frees, IdealResult, Label, RunResult, Sends_close, Starts_closing, after_ending, answer_in, answered_in, await_in, close_in, closed_in, credit_in, done_in, free_in, ideal_run, ideal_step, install_in, issue_in, issued_in, land_in, make_for, make_in, message_in, on_from, revoke_in, send_close_in, settle_in, step_to, with_label}
use Rattle.m3_base.specs.Journal.Entry.{ran_to}
use Rattle.m3_base.proofs.Activities.{act_found, same_act-itself, same_act-joins}
use Rattle.m3_base.proofs.KeyedList.{find-replaced_other, find-replaced_same}
use Rattle.m3_laws.proofs.invariant.commands.ListChanges.{flying_at-without, flying_number}
use Rattle.m3_trace.specs.Hearing.{IsFlying, command_of}

-- ---- flying commands of a context

abbrev pub HasCommand : ℕ → Context → Type 0
HasCommand n c = is_some (flying_at n c.flying) ≡ true

flies_longer : (n : ℕ) (fs gs : List Flying) → is_some (flying_at n fs) ≡ true → is_some (flying_at n (fs ++ gs)) ≡ true
flies_longer n [] gs e = absurd (cc)
flies_longer n (f ∷ fs) gs e = by_number (f.number == n) (flies_longer n fs gs) e
  where
    by_number : (b : Bool) → (is_some (flying_at n fs) ≡ true → is_some (flying_at n (fs ++ gs)) ≡ true) → is_some (if b then Some f else flying_at n fs) ≡ true → is_some (if b then Some f else flying_at n (fs ++ gs)) ≡ true
    by_number true ih k = refl
    by_number false ih k = ih k

flies_last : (f : Flying) (fs : List Flying) → is_some (flying_at f.number (fs ++ f ∷ [])) ≡ true
flies_last f [] = ap (λ b. is_some (if b then Some f else None)) (let z : (f.number == f.number) ≡ true = grind (arith, nat_tests) in z)
flies_last f (g ∷ fs) = by_number (g.number == f.number) (flies_last f fs)
  where
    by_number : (b : Bool) → is_some (flying_at f.number (fs ++ f ∷ [])) ≡ true → is_some (if b then Some g else flying_at f.number (fs ++ f ∷ [])) ≡ true
    by_number true ih = refl
    by_number false ih = ih

-- ---- an issue

-- the command that flies at once is one of the context's then
abbrev pub FliesAtOnce : IssueOutcome → Context → Type 0
FliesAtOnce (Gives r) c = Unit {0}
FliesAtOnce (Flies id) c = HasCommand id.number c

pub record IssueFlies (c : Context) (i : Issued) : Type 0 where
  pub act : i.context.act ≡ c.act
  pub more : (n : ℕ) → HasCommand n c → HasCommand n i.context
  pub own : FliesAtOnce i.told i.context

-- the endpoints alone change, and the next number
stays_flies : (c : Context) (i : Issued) → i.context.act ≡ c.act → i.context.flying ≡ c.flying → FliesAtOnce i.told i.context → IssueFlies c i
stays_flies c i a f o = record { act = a; more = λ n k. ap (λ fs. is_some (flying_at n fs)) f ∙ k; own = o }

module _ (c : Context) (kind : Kind) (ep token : ℕ) (i : Issued) (told : i.told ≡ Flies (next_id c)) (act : i.context.act ≡ c.act) (flying : i.context.flying ≡ (with_flying_command c kind ep token).flying) where
  one_flies : IssueFlies c i
  one_flies = record {
    act = act;
    more = λ n k. ap (λ fs. is_some (flying_at n fs)) flying ∙ flies_longer n c.flying _ k;
    own = subst (λ t. FliesAtOnce t i.context) (sym told) (ap (λ fs. is_some (flying_at c.next fs)) flying ∙ flies_last (record { number = c.next; kind = kind; ep = ep; token = token }) c.flying);
  }

unless_flies : (o : Option Refusal) (c : Context) (i : Issued) → IssueFlies c i → IssueFlies c (unless_refusal o c i)
unless_flies (Some why) c i k = stays_flies c _ refl refl tt
unless_flies None c i k = k

send_flies : (c : Context) (ep : ℕ) (payload : List ℕ) (to : Option ℕ) (e : Endpoint) → IssueFlies c (send c ep payload to e)
send_flies c ep payload to (Sends r) =
    unless_flies (send_refusal c r payload to) c (record { told = Flies (next_id c); packet = Some (send_packet c r payload to); context = with_endpoint (with_flying_command c Sending ep 0) ep (Sends (less_one r)) }) (one_flies c Sending ep 0 _ refl refl refl)
send_flies c ep payload to Free = stays_flies c _ refl refl tt
send_flies c ep payload to (Receives r) = stays_flies c _ refl refl tt
send_flies c ep payload to (Reaches r) = stays_flies c _ refl refl tt

reply_to_flies : (c : Context) (ep token : ℕ) (payload : List ℕ) (r : ReceiveRecord) (o : Option Message) → IssueFlies c (reply_to c ep token payload r o)
reply_to_flies c ep token payload r None = stays_flies c _ refl refl tt
reply_to_flies c ep token payload r (Some m) = one_flies c Replying ep token _ refl refl refl

reply_flies : (c : Context) (ep token : ℕ) (payload : List ℕ) (e : Endpoint) → IssueFlies c (reply c ep token payload e)
reply_flies c ep token payload (Receives r) = unless_flies (reply_refusal r token payload) c (reply_to c ep token payload r (unmarked_message (fetched_at token r.fetched))) (reply_to_flies c ep token payload r (unmarked_message (fetched_at token r.fetched)))
reply_flies c ep token payload Free = stays_flies c _ refl refl tt
reply_flies c ep token payload (Sends r) = stays_flies c _ refl refl tt
reply_flies c ep token payload (Reaches r) = stays_flies c _ refl refl tt

fetch_from_flies : (c : Context) (ep : ℕ) (r : ReceiveRecord) (ms : List Message) → IssueFlies c (fetch_from c ep r ms)
fetch_from_flies c ep r [] = stays_flies c _ refl refl tt
fetch_from_flies c ep r (m ∷ ms) = stays_flies c _ refl refl tt

fetch_flies : (c : Context) (ep : ℕ) (e : Endpoint) → IssueFlies c (fetch c ep e)
fetch_flies c ep (Receives r) = unless_flies (first_of ((r.closing, Refusal.Revoked) ∷ [])) c (fetch_from c ep r r.unread) (fetch_from_flies c ep r r.unread)
fetch_flies c ep Free = stays_flies c _ refl refl tt
fetch_flies c ep (Sends r) = stays_flies c _ refl refl tt
fetch_flies c ep (Reaches r) = stays_flies c _ refl refl tt

after_acknowledge_flies : (c : Context) (ep : ℕ) (r : ReceiveRecord) (token : ℕ) (m : Message) (b : Bool) → IssueFlies c (after_acknowledge c ep r token m b)
after_acknowledge_flies c ep r token m true = stays_flies c _ refl refl tt
after_acknowledge_flies c ep r token m false = stays_flies c _ refl refl tt

acknowledge_at_flies : (c : Context) (ep : ℕ) (r : ReceiveRecord) (token : ℕ) (o : Option Message) → IssueFlies c (acknowledge_at c ep r token o)
acknowledge_at_flies c ep r token None = stays_flies c _ refl refl tt
acknowledge_at_flies c ep r token (Some m) = after_acknowledge_flies c ep r token m (m.header.flags == 0)

acknowledge_flies : (c : Context) (ep token : ℕ) (e : Endpoint) → IssueFlies c (acknowledge c ep token e)
acknowledge_flies c ep token (Receives r) =
    unless_flies (first_of ((r.closing, Refusal.Revoked) ∷ [])) c (acknowledge_at c ep r token (unmarked_message (fetched_at token r.fetched))) (acknowledge_at_flies c ep r token (unmarked_message (fetched_at token r.fetched)))
acknowledge_flies c ep token Free = stays_flies c _ refl refl tt
acknowledge_flies c ep token (Sends r) = stays_flies c _ refl refl tt
acknowledge_flies c ep token (Reaches r) = stays_flies c _ refl refl tt

read_flies : (c : Context) (ep off len : ℕ) (e : Endpoint) → IssueFlies c (read c ep off len e)
read_flies c ep off len (Reaches r) = unless_flies (access_refusal r off len (may_read r.perm)) c _ (one_flies c Reading ep 0 _ refl refl refl)
read_flies c ep off len Free = stays_flies c _ refl refl tt
read_flies c ep off len (Sends r) = stays_flies c _ refl refl tt
read_flies c ep off len (Receives r) = stays_flies c _ refl refl tt

write_flies : (c : Context) (ep off : ℕ) (payload : List ℕ) (e : Endpoint) → IssueFlies c (write c ep off payload e)
write_flies c ep off payload (Reaches r) = unless_flies (access_refusal r off (length payload) (may_write r.perm)) c _ (one_flies c Writing ep 0 _ refl refl refl)
write_flies c ep off payload Free = stays_flies c _ refl refl tt
write_flies c ep off payload (Sends r) = stays_flies c _ refl refl tt
write_flies c ep off payload (Receives r) = stays_flies c _ refl refl tt

idle_flies : (c : Context) (b : Bool) (d i : Issued) → IssueFlies c d → (if b then None else Some d) ≡ Some i → IssueFlies c i
idle_flies c true d i k e = absurd (cc)
idle_flies c false d i k e = subst (IssueFlies c) (same_Some d i e) k

pub issue_flies : (c : Context) (x : Command) (i : Issued) → issue c x ≡ Some i → IssueFlies c i
issue_flies c (Command.Send ep payload to) i e = idle_flies c (is_busy c) (send c ep payload to (endpoint c ep)) i (send_flies c ep payload to (endpoint c ep)) e
issue_flies c (Command.Reply ep token payload) i e = idle_flies c (is_busy c) (reply c ep token payload (endpoint c ep)) i (reply_flies c ep token payload (endpoint c ep)) e
issue_flies c (Command.Fetch ep) i e = subst (IssueFlies c) (same_Some (fetch c ep (endpoint c ep)) i e) (fetch_flies c ep (endpoint c ep))
issue_flies c (Command.Acknowledge ep token) i e = subst (IssueFlies c) (same_Some (acknowledge c ep token (endpoint c ep)) i e) (acknowledge_flies c ep token (endpoint c ep))
issue_flies c (Command.Read ep off len) i e = idle_flies c (is_busy c) (read c ep off len (endpoint c ep)) i (read_flies c ep off len (endpoint c ep)) e
issue_flies c (Command.Write ep off payload) i e = idle_flies c (is_busy c) (write c ep off payload (endpoint c ep)) i (write_flies c ep off payload (endpoint c ep)) e

-- ---- a command of one name

module _ (a n : ℕ) where
  abbrev FliesIn : List Context → Type 0
  FliesIn cs = is_some (command_of n (context_of a cs)) ≡ true

  -- one context changes, and keeps the command
  put_flies : (cs : List Context) (b : ℕ) (c d : Context) → context_of b cs ≡ Some c → d.act ≡ c.act → (a ≡ b → HasCommand n c → HasCommand n d) → FliesIn cs → FliesIn (put_context d cs)
  put_flies cs b c d at act keeps flies = by_act (same_act a d.act) refl
    where
      is : d.act ≡ b
      is = act ∙ sym (act_found b c cs at)

      by_act : (k : Bool) → same_act a d.act ≡ k → FliesIn (put_context d cs)
      by_act false e = ap (λ o. is_some (command_of n o)) (find-replaced_other act_of same_act same_act a d cs same_act-joins e) ∙ flies
      by_act true e =
          let k : a ≡ d.act = grind (arith, nat_tests, e) in
          let there : context_of d.act cs ≡ Some c = ap (λ z. context_of z cs) is ∙ at in
          let had : HasCommand n c = ap (λ o. is_some (command_of n o)) (sym (ap (λ z. context_of z cs) k ∙ there)) ∙ flies in
          ap (λ z. is_some (command_of n (context_of z (put_context d cs)))) k
          ∙ ap (λ o. is_some (command_of n o)) (find-replaced_same act_of same_act same_act d c cs (same_act-itself d.act) there)
          ∙ keeps (k ∙ is) had

  abbrev StillFlies : Option IdealResult → Type 0
  StillFlies None = Unit {0}
  StillFlies (Some r) = FliesIn r.state.contexts

  if_still : (b : Bool) (o : Option IdealResult) → StillFlies o → StillFlies (if b then o else None)
  if_still true o k = k
  if_still false o k = tt

  -- a step but the command's answer
  abbrev pub Spares : Step → Type 0
  Spares (Step.Answered id) = same_name id (record { issuer = a; number = n }) ≡ false
  Spares step = Unit {0}

  module _ (s : State) (flies : FliesIn s.contexts) where
    issued_flies : (b : ℕ) (x : Context) (c : Command) → context_of b s.contexts ≡ Some x → (o : Option Issued) → issue x c ≡ o → StillFlies (issued_in s o)
    issued_flies b x c at None e = tt
    issued_flies b x c at (Some i) e = let k = issue_flies x c i e in put_flies s.contexts b x i.context at k.act (λ z. k.more n) flies

    issue_still : (b : ℕ) (c : Command) (o : Option Context) → context_of b s.contexts ≡ o → StillFlies (issue_in s o c)
    issue_still b c None e = tt
    issue_still b c (Some x) e = issued_flies b x c e (issue x c) refl

    await_still : (ep : ℕ) (o : Option Context) → StillFlies (await_in s o ep)
    await_still ep None = tt
    await_still ep (Some x) = flies

    message_same : (ep : ℕ) (m : Message) (x : Context) (o : Option Refusal) → ((land_by ep m x o).context.act ≡ x.act) × ((land_by ep m x o).context.flying ≡ x.flying)
    message_same ep m x (Some why) = (refl, refl)
    message_same ep m x None = by_flags (m.header.flags == 0)
      where
        by_flags : (b : Bool) → ((if b then with_endpoint x ep (with_message m (endpoint x ep)) else with_credit m.header.send (with_endpoint x ep (with_message m (endpoint x ep)))).act ≡ x.act)
            × ((if b then with_endpoint x ep (with_message m (endpoint x ep)) else with_credit m.header.send (with_endpoint x ep (with_message m (endpoint x ep)))).flying ≡ x.flying)
        by_flags true = (refl, refl)
        by_flags false = (refl, refl)

    -- the flying commands stay as they are
    same_still : (b : ℕ) (x d : Context) → context_of b s.contexts ≡ Some x → d.act ≡ x.act → d.flying ≡ x.flying → FliesIn (put_context d s.contexts)
    same_still b x d at act same = put_flies s.contexts b x d at act (λ z k. ap (λ fs. is_some (flying_at n fs)) same ∙ k) flies

    message_still : (id : FlightId) (to ep g : ℕ) (m : Message) (o : Option Context) → context_of to s.contexts ≡ o → StillFlies (message_in s id ep g m o)
    message_still id to ep g m None e = tt
    message_still id to ep g m (Some x) e = let k = message_same ep m x (land_refusal g m (endpoint x ep)) in same_still to x (land ep g m x).context e k.0 k.1

    credit_still : (id : FlightId) (to g : ℕ) (o : Option Context) → context_of to s.contexts ≡ o → StillFlies (credit_in s id g o)
    credit_still id to g None e = tt
    credit_still id to g (Some x) e = same_still to x (with_credit g x) e refl refl

    install_still : (id : FlightId) (to ep : ℕ) (f : Fresh) (o : Option Context) → context_of to s.contexts ≡ o → StillFlies (install_in s id ep f o)
    install_still id to ep f None e = tt
    install_still id to ep f (Some x) e = same_still to x _ e refl refl

    close_still : (id : FlightId) (to ep g : ℕ) (o : Option Context) → context_of to s.contexts ≡ o → StillFlies (close_in s id ep g o)
    close_still id to ep g None e = tt
    close_still id to ep g (Some x) e =
        let d = with_endpoint x ep (closed_at (endpoint x ep)) in
        if_still (has_live g (endpoint x ep)) (step_to (if flies_at ep x then Starts_closing id g else Closes_endpoint id g) (after_ending s id d)) (same_still to x d e refl refl)

    land_still : (id : FlightId) (o : Option Packet) → StillFlies (land_in s id o)
    land_still id None = tt
    land_still id (Some (Packet.Message to ep g m)) = message_still id to ep g m (context_of to s.contexts) refl
    land_still id (Some (Packet.Credit x to g)) = credit_still id to g (context_of to s.contexts) refl
    land_still id (Some (Packet.Read x g place buffer)) = flies
    land_still id (Some (Packet.Write x g place payload)) = flies
    land_still id (Some (Packet.Answer x answer)) = tt
    land_still id (Some (Packet.Install x to ep f)) = install_still id to ep f (context_of to s.contexts) refl
    land_still id (Some (Packet.Close x to ep g)) = close_still id to ep g (context_of to s.contexts) refl

    -- an answer takes its own command alone
    settle_still : (id : FlightId) (answer : Answer) → same_name id (record { issuer = a; number = n }) ≡ false → (x : Context) → context_of id.issuer s.contexts ≡ Some x → (o : Option Flying) → flying_at id.number x.flying ≡ o → StillFlies (settle_in s id answer x o)
    settle_still id answer spares x at None e = tt
    settle_still id answer spares x at (Some f) e =
        put_flies s.contexts id.issuer x (context_after_answer f answer x) at refl (
        λ k had.
        let number : f.number ≡ id.number = flying_number id.number f x.flying e in
        let other : n ≢ f.number = (λ i. absurd (grind (arith, nat_tests, spares, k, i, number))) in
        ap (λ o. is_some o) (flying_at-without n f.number x.flying other) ∙ had
        ) flies

    answer_still : (id : FlightId) (answer : Answer) → same_name id (record { issuer = a; number = n }) ≡ false → (o : Option Context) → context_of id.issuer s.contexts ≡ o → StillFlies (answer_in s id answer o)
    answer_still id answer spares None e = tt
    answer_still id answer spares (Some x) e = settle_still id answer spares x e (flying_at id.number x.flying) refl

    answered_still : (id : FlightId) → same_name id (record { issuer = a; number = n }) ≡ false → (o : Option Packet) → StillFlies (answered_in s id o)
    answered_still id spares None = tt
    answered_still id spares (Some (Packet.Message to ep g m)) = tt
    answered_still id spares (Some (Packet.Credit x to g)) = tt
    answered_still id spares (Some (Packet.Read x g place buffer)) = tt
    answered_still id spares (Some (Packet.Write x g place payload)) = tt
    answered_still id spares (Some (Packet.Answer x answer)) = answer_still id answer spares (context_of id.issuer s.contexts) refl
    answered_still id spares (Some (Packet.Install x to ep f)) = tt
    answered_still id spares (Some (Packet.Close x to ep g)) = tt

    -- ---- grants

    make_still : (line : GrantLine) (why : Option No) (f : Option Fresh) → StillFlies (make_in s line why f)
    make_still line (Some why) f = flies
    make_still line None None = tt
    make_still line None (Some f) = flies

    make_for_still : (line : GrantLine) (o : Option Context) → StillFlies (make_for s line o)
    make_for_still line None = tt
    make_for_still line (Some x) = make_still line (make_refusal (length s.memory) s.grants line) (form (length s.grants + 1) line (undone (parent_in s.grants (parent_of line))))

    revoke_still : (g : ℕ) (o : Option No) → StillFlies (revoke_in s g o)
    revoke_still g (Some why) = flies
    revoke_still g None = flies

    send_close_still : (g : ℕ) (o : Option Grant) → StillFlies (send_close_in s g o)
    send_close_still g None = tt
    send_close_still g (Some x) = if_still (may_close s.grants g (Some x)) (step_to (Sends_close g (kernel_id s)) (close_sent s g x)) flies

    free_still : (g ep b : ℕ) (o : Option Context) → context_of b s.contexts ≡ o → StillFlies (free_in s g ep o)
    free_still g ep b None e = tt
    free_still g ep b (Some x) e =
        let t : State = record s { contexts = put_context (with_endpoint x ep Free) s.contexts; grants = change_grant s.grants g (λ y. record y { standing = Closed }) } in
        if_still (has_closing g (endpoint x ep) && not (flies_at ep x)) (step_to (Frees g) t) (same_still b x (with_endpoint x ep Free) e refl refl)

    closed_still : (g : ℕ) (o : Option Grant) → StillFlies (closed_in s g o)
    closed_still g None = tt
    closed_still g (Some x) = free_still g (holder_ep x.line) (holder x.line) (context_of (holder x.line) s.contexts) refl

    done_still : (g : ℕ) (o : Option Grant) → StillFlies (done_in s g o)
    done_still g None = tt
    done_still g (Some x) = if_still (is_closed_grant x.standing) (step_to (Finishes g x.is_root) (record s { grants = change_grant s.grants g to_done })) flies

    step_still : (t : Step) → Spares t → StillFlies (ideal_step s t)
    step_still (Step.Issue b c) k = issue_still b c (context_of b s.contexts) refl
    step_still (Step.Await b ep) k = await_still ep (context_of b s.contexts)
    step_still (Step.Land id) k = land_still id (flight id s.flights)
    step_still (Step.Answered id) k = answered_still id k (flight id s.flights)
    step_still (Step.Make line) k = make_for_still line (context_of (holder line) s.contexts)
    step_still (Step.Revoke g) k = revoke_still g (revoke_refusal (grant_in s.grants g))
    step_still (Step.Close g) k = send_close_still g (grant_in s.grants g)
    step_still (Step.Closed g) k = closed_still g (grant_in s.grants g)
    step_still (Step.Done g) k = done_still g (grant_in s.grants g)

  -- ---- many steps

  abbrev pub AllSpare : List Step → Type 0
  AllSpare [] = Unit {0}
  AllSpare (t ∷ ts) = Spares t × AllSpare ts

  abbrev RunStill : Option RunResult → Type 0
  RunStill None = Unit {0}
  RunStill (Some r) = FliesIn r.state.contexts

  label_still : (w : Label) (o : Option RunResult) → RunStill o → RunStill (with_label w o)
  label_still w None r = tt
  label_still w (Some x) r = r

  from_still : (ts : List Step) → ((s : State) → FliesIn s.contexts → RunStill (ideal_run ts s)) → (o : Option IdealResult) → StillFlies o → RunStill (on_from (ideal_run ts) o)
  from_still ts more None r = tt
  from_still ts more (Some x) r = label_still x.word (ideal_run ts x.state) (more x.state r)

  run_still : (ts : List Step) (s : State) → AllSpare ts → FliesIn s.contexts → RunStill (ideal_run ts s)
  run_still [] s k flies = flies
  run_still (t ∷ ts) s k flies = from_still ts (λ z r. run_still ts z k.1 r) (ideal_step s t) (step_still s flies t k.0)

  -- the command still flies after steps that are no answer to it
  pub still_flies : (ts : List Step) (s : State) → AllSpare ts → IsFlying a n s → IsFlying a n (ran_to (ideal_run ts s) s)
  still_flies ts s k flies = by_run (ideal_run ts s) (run_still ts s k flies)
    where
      by_run : (o : Option RunResult) → RunStill o → IsFlying a n (ran_to o s)
      by_run None r = flies
      by_run (Some x) r = r
