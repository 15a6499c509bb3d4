-- A program's turn over what it is to see: its fold goes on as its resident does, and the turn's call is the one that is asked.
use Rattle.std.proofs.Common.{◌≡◌, ℕ, ◌+◌, Bool, true, false, cond, List, [], ◌∷◌, length, Option, Some, None, refl, sym, subst, ◌∙◌, ap, arith}
use Rattle.std.specs.Prelude.{◌==◌, ◌&&◌, not, is_some, if◌then◌else◌}
use Rattle.std.proofs.lemmas.Bool.Decides.{nat_tests}
use Rattle.m3_base.specs.declared.command.Command.{Command}
use Rattle.m3_base.specs.declared.command.Reply.{Reply}
use Rattle.m3_base.specs.declared.event.IdleWhy.{IdleWhy}
use Rattle.m3_base.specs.declared.event.Made.{Made}
use Rattle.m3_base.specs.declared.event.Said.{Said}
use Rattle.m3_base.specs.declared.message.Message.{Message}
use Rattle.m3_base.specs.Calls.JournalCalls.{Input, Known, Missing, PendingAnswer, PendingAwait, call_of_turn, call_with, input_after_await, input_after_do, input_after_turn, input_of_reply}
use Rattle.m3_base.specs.Ideal.Context.{Context, endpoint}
use Rattle.m3_base.specs.Ideal.Issue.{Flies, Gives, IssueOutcome, Issued, issue}
use Rattle.m3_base.specs.Ideal.State.{State, context_of}
use Rattle.m3_base.specs.Ideal.Step.{has_unread}
use Rattle.m3_base.specs.Journal.Entry.{shown_message, shown_reply, shown_told}
use Rattle.m3_base.specs.Journal.Replies.{printed_at_issue}
use Rattle.m3_base.specs.Placement.Turn.{is_repeat}
use Rattle.m3_base.proofs.PrintedAtIssue.{Prints, prints}
use Rattle.m3_model.specs.Config.Site.{Site}
use Rattle.m3_model.specs.LocalStep.{LocalResult, idle_result, local_result_made}
use Rattle.m3_model.specs.Parcel.{Heard, Parcel, Yield}
use Rattle.m3_model.specs.Tile.Ask.{Ask, Idle_turn, Quantum_turn, ask_at, ask_by, ask_pending, turn_ask}
use Rattle.m3_model.specs.Tile.State.{Awake, Resident, Tile}
use Rattle.m3_model.specs.Tile.Step.{is_due, is_waiting, new_out, resident_of, seen_of_reply, tile_turn, turn_at, turn_await, turn_by, turn_issued, turn_made, turn_move, turn_quantum, with_current, with_resident, yield_result}
use Rattle.m3_refine.proofs.arrival.CurrentContext.{stay_key}
use Rattle.m3_refine.proofs.lists.EachElement.{InSome}
use Rattle.m3_trace.specs.Hearing.{input_by, input_of_ask, input_of_seen, resident_input}
use Rattle.m3_trace.proofs.hearing.TileTellsAnswers.{resident_then}

-- ---- what a command's outcome says is to be seen

module _ (s : State) (a : ℕ) (c : Command) where
  message_known : (t : ℕ) (m : Message) (b : Bool) → input_after_do s a c (shown_message t m b) ≡ input_of_reply (printed_at_issue s a c (shown_message t m b))
  message_known t m true = refl
  message_known t m false = refl

  reply_known : (r : Reply) → input_after_do s a c (shown_reply r) ≡ input_of_reply (printed_at_issue s a c (shown_reply r))
  reply_known Reply.Sent = refl
  reply_known Reply.Replied = refl
  reply_known Reply.Nothing = refl
  reply_known (Reply.Fetched t m) = message_known t m (m.header.flags == 0)
  reply_known (Reply.Acknowledged credit) = refl
  reply_known (Reply.Bytes bytes) = refl
  reply_known Reply.Written = refl
  reply_known (Reply.Refused why) = refl

  -- what the resident then has is what the outcome shows
  issue_seen : (told : IssueOutcome) → Prints s a c told → input_after_do s a c (shown_told told) ≡ input_of_seen (seen_of_reply told)
  issue_seen (Gives r) p = reply_known r ∙ ap input_of_reply p
  issue_seen (Flies id) p = refl

call_none : (i : Input) → call_with i None ≡ []
call_none (Known seen) = refl
call_none (PendingAnswer n) = refl
call_none (PendingAwait ep) = refl
call_none Missing = refl

pending_ask : (y : Resident) (p : Option ℕ) → input_of_ask (ask_pending y p) ≡ input_by p y.seen
pending_ask y None = refl
pending_ask y (Some ep) = refl

-- ---- the turn

-- what is to be seen, i, goes on as the fold says to what the resident has; the call is the one asked; and no other changes
pub record TurnTells (s : State) (t : Tile) (a : ℕ) (xs : List Heard) (ask : Ask) (d : LocalResult Tile) : Type 0 where
  pub input : input_after_turn s a (resident_input (resident_of a t) xs) d.outcome.made d.outcome.said ≡ resident_input (resident_of a d.part) xs
  pub call : call_of_turn (resident_input (resident_of a t) xs) d.outcome.made ≡ call_of_turn (input_of_ask ask) d.outcome.made
  pub others : (b : ℕ) → (b == a) ≡ false → resident_of b d.part ≡ resident_of b t

module _ (h : Site) (s : State) (t : Tile) (a : ℕ) where
  idle_tells : (xs : List Heard) (ask : Ask) (why : IdleWhy) → TurnTells s t a xs ask (idle_result why t)
  idle_tells xs ask why = record { input = refl; call = refl; others = λ b d. refl }

  -- the activity is current: it has nothing to hear from elsewhere
  module _ (x : Context) (found : context_of a s.contexts ≡ Some x) (y : Resident) (there : resident_of a t ≡ Some y) where
    abbrev Tells : Ask → LocalResult Tile → Type 0
    Tells ask d = TurnTells s t a [] ask d

    abbrev i : Input
    i = input_by y.pending y.seen

    is : resident_input (resident_of a t) [] ≡ input_by y.pending y.seen
    is = ap (λ o. resident_input o []) there

    key : y.act ≡ a
    key = stay_key a t.stays y there

    its : resident_of y.act t ≡ Some y
    its = ap (λ n. resident_of n t) key ∙ there

    module _ (z : Resident) (same : z.act ≡ y.act) (c : Option Context) where
      now : resident_input (resident_of a (with_resident z (with_current c t))) [] ≡ input_by z.pending z.seen
      now =
          resident_then (with_current c t) y z its same (λ n o. n ≡ a → resident_input o [] ≡ input_by z.pending z.seen) a
          (λ d e. absurd (let k : (a == y.act) ≡ true = grind (arith, nat_tests, key) in cc)) (λ k e. refl) refl

      others : (b : ℕ) → (b == a) ≡ false → resident_of b (with_resident z (with_current c t)) ≡ resident_of b t
      others b d =
          resident_then (with_current c t) y z its same (λ n o. (n == a) ≡ false → o ≡ resident_of n t) b (λ k e. refl)
          (λ k e. absurd (let q : (b == a) ≡ true = grind (arith, nat_tests, k, key) in cc)) d

      -- where its stay becomes z by this move
      becomes : (ask : Ask) (m : Made) (said : Said) (out : List (ℕ × Parcel)) → input_after_turn s a i (Some m) said ≡ input_by z.pending z.seen → call_of_turn i (Some m) ≡ call_of_turn (input_of_ask ask) (Some m)
          → Tells ask (local_result_made m said (with_resident z (with_current c t)) out)
      becomes ask m said out e k = record {
        input = ap (λ j. input_after_turn s a j (Some m) said) is ∙ e ∙ sym now;
        call = ap (λ j. call_of_turn j (Some m)) is ∙ k;
        others = others;
      }

    -- a Yield goes out or not
    yields : (z : Resident) → z.act ≡ y.act → (ask : Ask) (m : Made) (said : Said) → input_after_turn s a i (Some m) said ≡ input_by z.pending z.seen → call_of_turn i (Some m) ≡ call_of_turn (input_of_ask ask) (Some m)
        → Tells ask (yield_result m said t z)
    yields z same ask m said e k = by_sent z.yield_sent
      where
        by_sent : (b : Bool) → Tells ask (local_result_made m said (with_resident (if b then z else record z { yield_sent = true }) t) (if b then [] else (0, Yield z.act) ∷ []))
        by_sent true = becomes z same t.current ask m said [] e k
        by_sent false = becomes (record z { yield_sent = true }) same t.current ask m said ((0, Yield z.act) ∷ []) e k

    abbrev OfSome : Ask → Option (LocalResult Tile) → Type 0
    OfSome ask o = InSome (Tells ask) o

    abbrev asks : Ask
    asks = ask_pending y y.pending

    call_is : (m : Made) → call_of_turn i (Some m) ≡ call_of_turn (input_of_ask (ask_pending y y.pending)) (Some m)
    call_is m = ap (λ j. call_of_turn j (Some m)) (sym (pending_ask y y.pending))

    none_or : (ask : Ask) (b : Bool) (o : Option (LocalResult Tile)) → (b ≡ false → OfSome ask o) → OfSome ask (if b then None else o)
    none_or ask true o f = tt
    none_or ask false o f = f refl

    or_none : (ask : Ask) (b : Bool) (o : Option (LocalResult Tile)) → OfSome ask o → OfSome ask (if b then o else None)
    or_none ask true o k = k
    or_none ask false o k = tt

    no_pending : (p : Option ℕ) → is_some p ≡ false → p ≡ None
    no_pending None e = refl
    no_pending (Some ep) e = absurd (cc)

    issued_tells : y.pending ≡ None → (c : Command) (o : Option Issued) → issue x c ≡ o → Tells asks (turn_issued h t y (Made.Command c) o)
    issued_tells none c None e = idle_tells [] asks IdleWhy.Busy
    issued_tells none c (Some j) e =
        becomes (record y { moves = y.moves + 1; seen = seen_of_reply j.told }) refl (Some j.context) asks (Made.Command c) (shown_told j.told) (new_out h j.packet)
        (issue_seen s a c j.told (prints s a c x j found e) ∙ ap (λ p. input_by p (seen_of_reply j.told)) (sym none)) (call_is (Made.Command c))

    await_said : (ep : ℕ) (b : Bool) → input_after_await ep (if b then Said.Asleep else Said.Yield) ≡ PendingAwait ep
    await_said ep true = refl
    await_said ep false = refl

    await_tells : (ep : ℕ) (b : Bool) → Tells asks (turn_await t y ep b)
    await_tells ep true = becomes (record y { pending = None; seen = Awake }) refl t.current asks (Made.Await ep) Said.Awake [] refl (call_is (Made.Await ep))
    await_tells ep false = yields (record y { pending = Some ep }) refl asks (Made.Await ep) (if y.yield_sent then Said.Asleep else Said.Yield) (await_said ep y.yield_sent) (call_is (Made.Await ep))

    move_tells : (m : Made) → OfSome asks (turn_move h t x y m)
    move_tells (Made.Command c) = none_or asks (is_some y.pending) (Some (turn_issued h t y (Made.Command c) (issue x c))) (λ e. issued_tells (no_pending y.pending e) c (issue x c) refl)
    move_tells (Made.Await ep) = or_none asks (is_repeat y.pending ep) (Some (turn_await t y ep (has_unread (endpoint x ep)))) (await_tells ep (has_unread (endpoint x ep)))
    move_tells Made.Quantum = tt
    move_tells Made.End =
        none_or asks (is_some y.pending) (Some (yield_result Made.End Said.Ended t (record y { ended = true }))) (λ e. yields (record y { ended = true }) refl asks Made.End Said.Ended refl (call_is Made.End))

    quantum_tells : (m : Made) → OfSome Quantum_turn (turn_quantum t y m)
    quantum_tells Made.Quantum = yields y refl Quantum_turn Made.Quantum Said.Yield refl (call_none i)
    quantum_tells (Made.Command c) = tt
    quantum_tells (Made.Await ep) = tt
    quantum_tells Made.End = tt

    either : (b : Bool) (p q : Ask) (v w : Option (LocalResult Tile)) → OfSome p v → OfSome q w → OfSome (cond b p q) (cond b v w)
    either true p q v w k l = k
    either false p q v w k l = l

    made_tells : (made : Option Made) → OfSome (cond (is_due h t y) Quantum_turn asks) (turn_made h t x y made)
    made_tells None = tt
    made_tells (Some m) = either (is_due h t y) Quantum_turn asks (turn_quantum t y m) (turn_move h t x y m) (quantum_tells m) (move_tells m)

    by_tells : (made : Option Made) → OfSome (ask_by h t x (Some y)) (turn_by h t x made (Some y))
    by_tells made =
        let due = cond (is_due h t y) Quantum_turn asks in
        let waits = cond (y.yield_sent && is_waiting x y) (Idle_turn IdleWhy.Waiting) due in
        let waiting = cond (y.yield_sent && is_waiting x y) (Some (idle_result IdleWhy.Waiting t)) (turn_made h t x y made) in
        either y.ended (Idle_turn IdleWhy.Ended) (cond (not (length x.flying == 0)) (Idle_turn IdleWhy.Busy) waits) (Some (idle_result IdleWhy.Ended t)) (cond (not (length x.flying == 0)) (Some (idle_result IdleWhy.Busy t)) waiting)
        (idle_tells [] (Idle_turn IdleWhy.Ended) IdleWhy.Ended)
        (either (not (length x.flying == 0)) (Idle_turn IdleWhy.Busy) waits (Some (idle_result IdleWhy.Busy t)) waiting (idle_tells [] (Idle_turn IdleWhy.Busy) IdleWhy.Busy)
        (either (y.yield_sent && is_waiting x y) (Idle_turn IdleWhy.Waiting) due (Some (idle_result IdleWhy.Waiting t)) (turn_made h t x y made) (idle_tells [] (Idle_turn IdleWhy.Waiting) IdleWhy.Waiting) (made_tells made)))

  module _ (xs : List Heard) where
    resident_tells : (x : Context) → context_of a s.contexts ≡ Some x → xs ≡ [] → (made : Option Made) (o : Option Resident) → resident_of a t ≡ o → InSome (TurnTells s t a xs (ask_by h t x o)) (turn_by h t x made o)
    resident_tells x found none made None e = tt
    resident_tells x found none made (Some y) e = subst (λ l. InSome (TurnTells s t a l (ask_by h t x (Some y))) (turn_by h t x made (Some y))) (sym none) (by_tells x found y e made)

    at_tells : (made : Option Made) (o : Option Context) → ((x : Context) → o ≡ Some x → a ≡ x.act → (context_of a s.contexts ≡ Some x) × (xs ≡ [])) → InSome (TurnTells s t a xs (ask_at h t a o)) (turn_at h t a made o)
    at_tells made None current = idle_tells xs (Idle_turn IdleWhy.NotCurrent) IdleWhy.NotCurrent
    at_tells made (Some x) current = by_act (x.act == a) refl
      where
        by_act : (b : Bool) → (x.act == a) ≡ b → InSome (TurnTells s t a xs (cond b (ask_by h t x (resident_of a t)) (Idle_turn IdleWhy.NotCurrent))) (cond b (turn_by h t x made (resident_of a t)) (Some (idle_result IdleWhy.NotCurrent t)))
        by_act true e = let k : a ≡ x.act = grind (arith, nat_tests, e) in let c = current x refl k in resident_tells x c.0 c.1 made (resident_of a t) refl
        by_act false e = idle_tells xs (Idle_turn IdleWhy.NotCurrent) IdleWhy.NotCurrent

    -- a turn of the activity
    pub turn_tells : ((x : Context) → t.current ≡ Some x → a ≡ x.act → (context_of a s.contexts ≡ Some x) × (xs ≡ [])) → (made : Option Made) → InSome (TurnTells s t a xs (turn_ask h t a)) (tile_turn h t a made)
    turn_tells current made = at_tells made t.current current
