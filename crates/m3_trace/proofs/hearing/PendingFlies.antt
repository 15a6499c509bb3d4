-- Along a journal that is a run of the ideal machine, the command flies whose answer is pending.
use Rattle.std.proofs.Common.{◌≡◌, ℕ, Bool, true, false, List, [], ◌∷◌, Option, Some, None, refl, sym, subst, ◌∙◌, ap, arith, inl, inr}
use Rattle.std.specs.Prelude.{◌==◌, is_some, if◌then◌else◌, IsSomeAnd}
use Rattle.std.proofs.lemmas.Bool.Decides.{nat_tests}
use Rattle.std.proofs.lemmas.Option.{same_Some}
use Rattle.m3_base.specs.declared.command.Command.{Command}
use Rattle.m3_base.specs.declared.command.Reply.{Reply}
use Rattle.m3_base.specs.declared.event.Entry.{Entry}
use Rattle.m3_base.specs.declared.event.Event.{Event}
use Rattle.m3_base.specs.declared.event.Made.{Made}
use Rattle.m3_base.specs.declared.event.Outcome.{Outcome}
use Rattle.m3_base.specs.declared.event.Said.{Said}
use Rattle.m3_base.specs.declared.ids.FlightId.{FlightId}
use Rattle.m3_base.specs.declared.message.Message.{Message}
use Rattle.m3_base.specs.declared.order.Order.{Order}
use Rattle.m3_base.specs.declared.program.Seen as program
use Rattle.m3_base.specs.declared.step.Step.{Step}
use Rattle.m3_base.specs.Calls.JournalCalls.{Input, Known, Missing, PendingAnswer, PendingAwait, input_after_answer, input_after_await, input_after_do, input_after_event, input_after_turn, input_along, input_of_reply}
use Rattle.m3_base.specs.Ideal.Context.{Context}
use Rattle.m3_base.specs.Ideal.Flights.{same_name}
use Rattle.m3_base.specs.Ideal.Issue.{Flies, Gives, IssueOutcome, Issued, issue}
use Rattle.m3_base.specs.Ideal.State.{State, context_of, put_context}
use Rattle.m3_base.specs.Ideal.Step.{IdealResult, ideal_run, issue_in, issued_in, on_from}
use Rattle.m3_base.specs.Journal.Entry.{IsRun, MatchesBy, Shows, await_steps, close_steps, command_steps, landing_steps, next_state, ran_to, shown_message, shown_reply, shown_told, state_after_entries, steps_of, then_closed, turn_steps}
use Rattle.m3_base.specs.Journal.Replies.{printed_at_issue, reply_of}
use Rattle.m3_base.proofs.Activities.{act_found, context-put_same}
use Rattle.m3_trace.specs.Hearing.{IsFlying, command_of}
use Rattle.m3_trace.proofs.hearing.CommandsFly.{AllSpare, FliesAtOnce, HasCommand, issue_flies, still_flies}

-- ---- what isn't pending

no_reply_pends : (xs : List Reply) (n : ℕ) → input_of_reply xs ≡ PendingAnswer n → ⊥
no_reply_pends [] n e = absurd (cc)
no_reply_pends (r ∷ rs) n e = absurd (cc)

no_await_pends : (ep : ℕ) (said : Said) (n : ℕ) → input_after_await ep said ≡ PendingAnswer n → ⊥
no_await_pends ep Said.Awake n e = absurd (cc)
no_await_pends ep said n e = absurd (cc)

message_says : (t : ℕ) (m : Message) (b : Bool) (id : FlightId) → shown_message t m b ≡ Said.Flying id → ⊥
message_says t m true id e = absurd (cc)
message_says t m false id e = absurd (cc)

reply_says : (r : Reply) (id : FlightId) → shown_reply r ≡ Said.Flying id → ⊥
reply_says Reply.Sent id e = absurd (cc)
reply_says Reply.Replied id e = absurd (cc)
reply_says Reply.Nothing id e = absurd (cc)
reply_says (Reply.Fetched t m) id e = message_says t m (m.header.flags == 0) id e
reply_says (Reply.Acknowledged credit) id e = absurd (cc)
reply_says (Reply.Bytes bytes) id e = absurd (cc)
reply_says Reply.Written id e = absurd (cc)
reply_says (Reply.Refused why) id e = absurd (cc)

module _ (a n : ℕ) where
  -- ---- steps that are no answer to the command

  command_spares : (b : ℕ) (c : Command) (said : Said) → AllSpare a n (command_steps b c said)
  command_spares b c (Said.Idle why) = tt
  command_spares b c said = (tt, tt)

  await_spares : (b ep : ℕ) (said : Said) → AllSpare a n (await_steps b ep said)
  await_spares b ep (Said.Idle why) = tt
  await_spares b ep said = (tt, tt)

  turn_spares : (b : ℕ) (made : Option Made) (said : Said) → AllSpare a n (turn_steps b made said)
  turn_spares b (Some (Made.Command c)) said = command_spares b c said
  turn_spares b (Some (Made.Await ep)) said = await_spares b ep said
  turn_spares b made said = tt

  -- the outcome answers another command
  abbrev AnswersOther : Said → Type 0
  AnswersOther (Said.Answered id answer closed) = same_name id (record { issuer = a; number = n }) ≡ false
  AnswersOther said = Unit {0}

  closed_spares : (o : Option ℕ) → AllSpare a n (then_closed o)
  closed_spares None = tt
  closed_spares (Some g) = (tt, tt)

  landing_spares : (said : Said) → AnswersOther said → AllSpare a n (landing_steps said)
  landing_spares (Said.Landed id) k = (tt, tt)
  landing_spares (Said.LandRefused id why) k = (tt, tt)
  landing_spares (Said.Credited id g) k = (tt, tt)
  landing_spares (Said.Discarded id g) k = (tt, tt)
  landing_spares (Said.Installed id g) k = (tt, tt)
  landing_spares (Said.Closing id g) k = (tt, tt)
  landing_spares (Said.Closed id g) k = (tt, (tt, tt))
  landing_spares (Said.Answered id answer closed) k = (k, closed_spares closed)
  landing_spares (Said.Done g revoked) k = (tt, tt)
  landing_spares said k = tt

  close_spares : (said : Said) → AllSpare a n (close_steps said)
  close_spares (Said.CloseSent g id held) = (tt, tt)
  close_spares said = tt

  order_spares : (o : Order) (x : Outcome) → AllSpare a n (steps_of (Event.Order o) x)
  order_spares (Order.Switch t b) x = tt
  order_spares (Order.Grant line) x = (tt, tt)
  order_spares (Order.Revoke g) x = (tt, tt)

  -- ---- one entry

  -- the command flies where its answer is pending
  abbrev PendingFlies : Input → State → Type 0
  PendingFlies i s = i ≡ PendingAnswer n → IsFlying a n s

  abbrev After : State → Event → Outcome → State
  After s e o = ran_to (ideal_run (steps_of e o) s) s

  -- an issue that says that its command flies
  issue_pends : (s : State) (c : Command) (id : FlightId) → MatchesBy (Step.Issue a c ∷ []) s (Said.Flying id) → id.number ≡ n → IsFlying a n (ran_to (ideal_run (Step.Issue a c ∷ []) s) s)
  issue_pends s c id says number = by_context (context_of a s.contexts) refl says
    where
      P : Option IdealResult → Type 0
      P o = IsSomeAnd (on_from (ideal_run []) o) (λ r. Shows r.words (Said.Flying id)) → IsFlying a n (ran_to (on_from (ideal_run []) o) s)

      by_told : (x : Context) (i : Issued) → context_of a s.contexts ≡ Some x → i.context.act ≡ x.act → (t : IssueOutcome) → FliesAtOnce t i.context → shown_told t ≡ Said.Flying id → is_some (command_of n (context_of a (put_context i.context s.contexts))) ≡ true
      by_told x i at act (Gives r) f e = absurd (reply_says r id e)
      by_told x i at act (Flies k) f e =
          let same : k.number ≡ id.number = cc in
          let is : i.context.act ≡ a = act ∙ sym (act_found a x s.contexts at) in
          let there : context_of i.context.act s.contexts ≡ Some x = ap (λ z. context_of z s.contexts) is ∙ at in
          ap (λ z. is_some (command_of n (context_of z (put_context i.context s.contexts)))) (sym is)
          ∙ ap (λ o. is_some (command_of n o)) (context-put_same x i.context s.contexts there)
          ∙ subst (λ z. HasCommand z i.context) (same ∙ number) f

      by_issued : (x : Context) (o : Option Issued) → context_of a s.contexts ≡ Some x → issue x c ≡ o → P (issued_in s o)
      by_issued x None at e w = absurd w
      by_issued x (Some i) at e (inl w) = let k = issue_flies x c i e in by_told x i at k.act i.told k.own (same_Some (shown_told i.told) (Said.Flying id) w)
      by_issued x (Some i) at e (inr w) = absurd w

      by_context : (o : Option Context) → context_of a s.contexts ≡ o → P (issue_in s o c)
      by_context None at w = absurd w
      by_context (Some x) at w = by_issued x (issue x c) at refl w

  do_pends : (s : State) (c : Command) (said : Said) → MatchesBy (command_steps a c said) s said → input_after_do s a c said ≡ PendingAnswer n → IsFlying a n (ran_to (ideal_run (command_steps a c said) s) s)
  do_pends s c (Said.Flying id) says e = issue_pends s c id says (pending_number id.number e)
    where
      number_or : Input → ℕ
      number_or (PendingAnswer k) = k
      number_or i = n

      pending_number : (k : ℕ) → PendingAnswer k ≡ PendingAnswer n → k ≡ n
      pending_number k f = ap number_or f
  do_pends s c said says e = absurd (no_reply_pends (printed_at_issue s a c said) n e)

  own_turn_pends : (s : State) (i : Input) (made : Option Made) (said : Said) → MatchesBy (turn_steps a made said) s said → PendingFlies i s → PendingFlies (input_after_turn s a i made said) (ran_to (ideal_run (turn_steps a made said) s) s)
  own_turn_pends s i (Some (Made.Command c)) said says old e = do_pends s c said says e
  own_turn_pends s i (Some (Made.Await ep)) said says old e = absurd (no_await_pends ep said n e)
  own_turn_pends s i (Some Made.Quantum) said says old e = old e
  own_turn_pends s i (Some Made.End) said says old e = old e
  own_turn_pends s i None said says old e = old e

  kept : (s : State) (e : Event) (o : Outcome) → AllSpare a n (steps_of e o) → IsFlying a n s → IsFlying a n (After s e o)
  kept s e o k f = still_flies a n (steps_of e o) s k f

  -- what was pending before, and which answer came
  answer_pends : (i : Input) (said : Said) → input_after_answer a i said ≡ PendingAnswer n → (i ≡ PendingAnswer n) × AnswersOther said
  answer_pends (PendingAnswer k) (Said.Answered id answer closed) e = by_name (same_name id (record { issuer = a; number = k })) refl e
    where
      number_or : Input → ℕ
      number_or (PendingAnswer j) = j
      number_or i = n

      by_name : (b : Bool) → same_name id (record { issuer = a; number = k }) ≡ b → (if b then Known (program.Seen.Answer (reply_of answer)) else PendingAnswer k) ≡ PendingAnswer n
          → (PendingAnswer k ≡ PendingAnswer n) × (same_name id (record { issuer = a; number = n }) ≡ false)
      by_name true w f = absurd (cc)
      by_name false w f = (f, ap (λ j. same_name id (record { issuer = a; number = j })) (sym (ap number_or f)) ∙ w)
  answer_pends (Known seen) said e = absurd (cc)
  answer_pends (PendingAwait ep) said e = absurd (cc)
  answer_pends Missing said e = absurd (cc)
  answer_pends (PendingAnswer k) said e = (e, tt)

  entry_pends : (s : State) (i : Input) (e : Event) (o : Outcome) → MatchesBy (steps_of e o) s o.said → PendingFlies i s → PendingFlies (input_after_event a s i e o) (After s e o)
  entry_pends s i (Event.Do b c) o says old k = kept s (Event.Do b c) o (command_spares b c o.said) (old k)
  entry_pends s i (Event.Turn b) o says old k = by_act (b == a) refl k
    where
      by_act : (c : Bool) → (b == a) ≡ c → (if c then input_after_turn s a i o.made o.said else i) ≡ PendingAnswer n → IsFlying a n (After s (Event.Turn b) o)
      by_act true d f =
          let same : a ≡ b = grind (arith, nat_tests, d) in
          subst (λ z. MatchesBy (turn_steps z o.made o.said) s o.said → IsFlying a n (ran_to (ideal_run (turn_steps z o.made o.said) s) s)) same (λ w. own_turn_pends s i o.made o.said w old f) says
      by_act false d f = kept s (Event.Turn b) o (turn_spares b o.made o.said) (old f)
  entry_pends s i (Event.Take to from) o says old k = let p = answer_pends i o.said k in kept s (Event.Take to from) o (landing_spares o.said p.1) (old p.0)
  entry_pends s i (Event.Tend b) o says old k = let p = answer_pends i o.said k in kept s (Event.Tend b) o (landing_spares o.said p.1) (old p.0)
  entry_pends s i Event.Close o says old k = kept s Event.Close o (close_spares o.said) (old k)
  entry_pends s i (Event.Order order) o says old k = kept s (Event.Order order) o (order_spares order o) (old k)
  entry_pends s i (Event.File l) o says old k = old k

  -- ---- a whole journal

  pub pending_flies : (s : State) (i : Input) (es : List Entry) → IsRun s es → PendingFlies i s → PendingFlies (input_along a s i es) (state_after_entries s es)
  pending_flies s i [] run old = old
  pending_flies s i (e ∷ es) run old = pending_flies (next_state s e) (input_after_event a s i e.event e.outcome) es run.1 (entry_pends s i e.event e.outcome run.0 old)
