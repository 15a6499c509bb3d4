-- The replies that a journal prints for an activity are those that its ideal steps give it.
use Rattle.std.proofs.Common.{◌≡◌, ℕ, Bool, true, false, List, [], ◌∷◌, ◌++◌, Some, None, refl, sym, ◌∙◌, ap, subst, append_assoc, inl, inr}
use Rattle.std.specs.Prelude.{Option, ◌==◌, ◌⊎◌, if◌then◌else◌, IsSomeAnd}
use Rattle.m3_base.specs.declared.ids.FlightId.{FlightId}
use Rattle.m3_base.specs.declared.command.Command.{Command}
use Rattle.m3_base.specs.declared.command.Reply.{Reply}
use Rattle.m3_base.specs.declared.command.Answer.{Answer}
use Rattle.m3_base.specs.declared.event.Said.{Said}
use Rattle.m3_base.specs.declared.event.IdleWhy.{IdleWhy}
use Rattle.m3_base.specs.declared.event.Event.{Event}
use Rattle.m3_base.specs.declared.event.Made.{Made}
use Rattle.m3_base.specs.declared.event.Outcome.{Outcome}
use Rattle.m3_base.specs.declared.event.Entry.{Entry}
use Rattle.m3_base.specs.declared.order.GrantLine.{GrantLine}
use Rattle.m3_base.specs.declared.order.Order.{Order}
use Rattle.m3_base.specs.declared.step.Step.{Step}
use Rattle.m3_base.specs.Ideal.Context.{Flying, Context}
use Rattle.m3_base.specs.Ideal.State.{State, context_of}
use Rattle.m3_base.specs.Ideal.Issue.{Issued, issue}
use Rattle.std.proofs.lemmas.List.{append-nil}
use Rattle.m3_base.specs.Ideal.Step.{Label, RunResult, IdealResult, ideal_step, ideal_run, on_from, with_label, issue_in, issued_in, settle_in, answer_in, answered_in}
use Rattle.m3_base.specs.Ideal.Landing.{context_after_answer, freed_grant, flying_at}
use Rattle.m3_base.specs.Ideal.Flights.{flight}
use Rattle.m3_base.specs.declared.packet.Packet.{Packet}
use Rattle.m3_base.specs.Journal.Entry.{MatchesBy, Shows, IsRun, command_steps, await_steps, turn_steps, landing_steps, close_steps, steps_of, next_state, ran_to, shown_told}
use Rattle.m3_base.specs.Ideal.MessageTraces.{state_after_steps, final}
use Rattle.m3_base.specs.Journal.Replies.{printed_at_issue, told_reply, ideal_replies, ideal_replies_by, reply_of_label, printed_answer, printed_move, printed_by, printed_replies_of, printed_replies, steps_in, reply_of}
use Rattle.m3_base.proofs.PrintedAtIssue.{prints}

-- ---- what one entry prints, and what its steps give

given_one : (a : ℕ) (s : State) (t : Step) → ideal_replies a s (t ∷ []) ≡ ideal_replies_by a t (ideal_step s t)
given_one a s t = append-nil (ideal_replies_by a t (ideal_step s t))

issued_given : (a b : ℕ) (s : State) (c : Command) (said : Said) → MatchesBy (Step.Issue b c ∷ []) s said → (if b == a then printed_at_issue s b c said else []) ≡ ideal_replies a s (Step.Issue b c ∷ [])
issued_given a b s c said h = by_context (context_of b s.contexts) refl h
  where
    P : Option IdealResult → Type 0
    P n = IsSomeAnd (on_from (ideal_run []) n) (λ r. Shows r.words said) → (if b == a then printed_at_issue s b c said else []) ≡ ideal_replies_by a (Step.Issue b c) n ++ []

    by_told : (x : Context) (i : Issued) → context_of b s.contexts ≡ Some x → issue x c ≡ Some i → P (issued_in s (Some i))
    by_told x i e w (inl z) =
        let same : shown_told i.told ≡ said = cc in
        let q : printed_at_issue s b c said ≡ told_reply i.told = subst (λ y. printed_at_issue s b c y ≡ told_reply i.told) same (prints s b c x i e w) in
        ap (λ l. if b == a then l else []) q ∙ sym (append-nil (if b == a then told_reply i.told else []))
    by_told x i e w (inr z) = absurd z

    by_issued : (x : Context) (o : Option Issued) → context_of b s.contexts ≡ Some x → issue x c ≡ o → P (issued_in s o)
    by_issued x None e w z = absurd z
    by_issued x (Some i) e w z = by_told x i e w z

    by_context : (o : Option Context) → context_of b s.contexts ≡ o → P (issue_in s o c)
    by_context None e z = absurd z
    by_context (Some x) e z = by_issued x (issue x c) e refl z

-- an idle command has no step, and any other its issue
command_shape : (b : ℕ) (c : Command) (said : Said) → (command_steps b c said ≡ Step.Issue b c ∷ []) ⊎ ((why : IdleWhy) × (said ≡ Said.Idle why))
command_shape b c (Said.Idle why) = inr (why, refl)
command_shape b c said = inl refl

idle_prints : (s : State) (b : ℕ) (c : Command) (why : IdleWhy) → printed_at_issue s b c (Said.Idle why) ≡ []
idle_prints s b (Command.Send ep payload to) why = refl
idle_prints s b (Command.Reply ep token payload) why = refl
idle_prints s b (Command.Fetch ep) why = refl
idle_prints s b (Command.Acknowledge ep token) why = refl
idle_prints s b (Command.Read ep off len) why = refl
idle_prints s b (Command.Write ep off payload) why = refl

either_none : {X : Type 0} (k : Bool) (xs : List X) → xs ≡ [] → (if k then xs else []) ≡ []
either_none true xs e = e
either_none false xs e = refl

command_given : (a b : ℕ) (s : State) (c : Command) (said : Said) → MatchesBy (command_steps b c said) s said → (if b == a then printed_at_issue s b c said else []) ≡ ideal_replies a s (command_steps b c said)
command_given a b s c said h = by_shape (command_shape b c said)
  where
    by_shape : (command_steps b c said ≡ Step.Issue b c ∷ []) ⊎ ((why : IdleWhy) × (said ≡ Said.Idle why)) → (if b == a then printed_at_issue s b c said else []) ≡ ideal_replies a s (command_steps b c said)
    by_shape (inl e) = issued_given a b s c said (subst (λ ts. MatchesBy ts s said) e h) ∙ ap (ideal_replies a s) (sym e)
    by_shape (inr z) = subst (λ y. (if b == a then printed_at_issue s b c y else []) ≡ ideal_replies a s (command_steps b c y)) (sym z.1) (either_none (b == a) (printed_at_issue s b c (Said.Idle z.0)) (idle_prints s b c z.0))

-- ---- landings and answers

abbrev pub answer_in_said : Said → List Reply
answer_in_said (Said.Answered id answer closed) = reply_of answer ∷ []
answer_in_said said = []

abbrev pub shown_answer : Option Said → List Reply
shown_answer None = []
shown_answer (Some said) = answer_in_said said

-- a step whose replies nobody reads adds none
silent : (a : ℕ) (s : State) (t : Step) → ((o : Option IdealResult) → ideal_replies_by a t o ≡ []) → ideal_replies a s (t ∷ []) ≡ []
silent a s t h = given_one a s t ∙ h (ideal_step s t)

no_word : (a : ℕ) (id : FlightId) (o : Option IdealResult) → ideal_replies_by a (Step.Land id) o ≡ []
no_word a id None = refl
no_word a id (Some n) = refl

no_closed : (a g : ℕ) (o : Option IdealResult) → ideal_replies_by a (Step.Closed g) o ≡ []
no_closed a g None = refl
no_closed a g (Some n) = refl

no_done : (a g : ℕ) (o : Option IdealResult) → ideal_replies_by a (Step.Done g) o ≡ []
no_done a g None = refl
no_done a g (Some n) = refl

no_close : (a g : ℕ) (o : Option IdealResult) → ideal_replies_by a (Step.Close g) o ≡ []
no_close a g None = refl
no_close a g (Some n) = refl

no_make : (a : ℕ) (line : GrantLine) (o : Option IdealResult) → ideal_replies_by a (Step.Make line) o ≡ []
no_make a line None = refl
no_make a line (Some n) = refl

no_revoke : (a g : ℕ) (o : Option IdealResult) → ideal_replies_by a (Step.Revoke g) o ≡ []
no_revoke a g None = refl
no_revoke a g (Some n) = refl

no_await : (a b ep : ℕ) (o : Option IdealResult) → ideal_replies_by a (Step.Await b ep) o ≡ []
no_await a b ep None = refl
no_await a b ep (Some n) = refl

-- an answer's step says an answer of this name
abbrev pub SaysAnswer : FlightId → Option IdealResult → Type 0
SaysAnswer id None = Unit {0}
SaysAnswer id (Some n) = (answer : Answer) × (freed : Option ℕ) × (n.word ≡ Label.Answers id answer freed)

settle_says : (s : State) (id : FlightId) (answer : Answer) (x : Context) (o : Option Flying) → SaysAnswer id (settle_in s id answer x o)
settle_says s id answer x None = tt
settle_says s id answer x (Some f) = (answer, freed_grant f.ep (context_after_answer f answer x), refl)

answer_says : (s : State) (id : FlightId) (answer : Answer) (o : Option Context) → SaysAnswer id (answer_in s id answer o)
answer_says s id answer None = tt
answer_says s id answer (Some x) = settle_says s id answer x (flying_at id.number x.flying)

answered_says : (s : State) (id : FlightId) (o : Option Packet) → SaysAnswer id (answered_in s id o)
answered_says s id None = tt
answered_says s id (Some (Packet.Message to ep g m)) = tt
answered_says s id (Some (Packet.Credit x to g)) = tt
answered_says s id (Some (Packet.Read x g place buffer)) = tt
answered_says s id (Some (Packet.Write x g place payload)) = tt
answered_says s id (Some (Packet.Answer x answer)) = answer_says s id answer (context_of id.issuer s.contexts)
answered_says s id (Some (Packet.Install x to ep f)) = tt
answered_says s id (Some (Packet.Close x to ep g)) = tt

printed_is : (a : ℕ) (id : FlightId) (other answer : Answer) → reply_of other ∷ [] ≡ reply_of answer ∷ [] → reply_of_label a (Step.Answered id) (Label.Answers id other None) ≡ printed_answer a (Said.Answered id answer None)
printed_is a id other answer r = ap (λ l. if id.issuer == a then l else []) r

-- alone, or before the endpoint becomes free
answered_by : (a : ℕ) (id : FlightId) (answer : Answer) (closed : Option ℕ) (more : State → Option RunResult) (o : Option IdealResult) → SaysAnswer id o → IsSomeAnd (on_from more o) (λ r. Shows r.words (Said.Answered id answer closed)) → ideal_replies_by a (Step.Answered id) o ≡ printed_answer a (Said.Answered id answer closed)
answered_by a id answer closed more None h z = absurd z
answered_by a id answer closed more (Some n) h z =
    let w : n.word ≡ Label.Answers id h.0 h.1 = h.2 in
    ap (reply_of_label a (Step.Answered id)) w ∙ by_more (more n.state) (subst (λ x. IsSomeAnd (with_label x (more n.state)) (λ r. Shows r.words (Said.Answered id answer closed))) w z)
  where
    told : shown_answer (Some (Said.Answered id h.0 h.1)) ≡ shown_answer (Some (Said.Answered id answer closed)) → reply_of_label a (Step.Answered id) (Label.Answers id h.0 h.1) ≡ printed_answer a (Said.Answered id answer closed)
    told r = printed_is a id h.0 answer r

    by_words : (ws : List Label) → Shows (Label.Answers id h.0 h.1 ∷ ws) (Said.Answered id answer closed) → reply_of_label a (Step.Answered id) (Label.Answers id h.0 h.1) ≡ printed_answer a (Said.Answered id answer closed)
    by_words [] (inl e) = told (ap shown_answer e)
    by_words [] (inr e) = absurd e
    by_words (Label.Frees g ∷ []) (inl e) = told (ap shown_answer e)
    by_words (Label.Frees g ∷ w ∷ ws) (inl e) = absurd (let x : None ≡ Some (Said.Answered id answer closed) = e in cc)
    by_words (w ∷ ws) (inr e) = absurd e
    by_words (w ∷ ws) (inl e) = absurd (let x : None ≡ Some (Said.Answered id answer closed) = e in cc)

    by_more : (r : Option RunResult) → IsSomeAnd (with_label (Label.Answers id h.0 h.1) r) (λ r. Shows r.words (Said.Answered id answer closed)) → reply_of_label a (Step.Answered id) (Label.Answers id h.0 h.1) ≡ printed_answer a (Said.Answered id answer closed)
    by_more None y = absurd y
    by_more (Some r) y = by_words r.words y

landing_given : (a : ℕ) (s : State) (said : Said) → MatchesBy (landing_steps said) s said → printed_answer a said ≡ ideal_replies a s (landing_steps said)
landing_given a s (Said.Landed id) h = sym (silent a s (Step.Land id) (no_word a id))
landing_given a s (Said.LandRefused id why) h = sym (silent a s (Step.Land id) (no_word a id))
landing_given a s (Said.Credited id g) h = sym (silent a s (Step.Land id) (no_word a id))
landing_given a s (Said.Discarded id g) h = sym (silent a s (Step.Land id) (no_word a id))
landing_given a s (Said.Installed id g) h = sym (silent a s (Step.Land id) (no_word a id))
landing_given a s (Said.Closing id g) h = sym (silent a s (Step.Land id) (no_word a id))
landing_given a s (Said.Closed id g) h = sym (ap (λ l. l ++ ideal_replies a (state_after_steps s (ideal_step s (Step.Land id))) (Step.Closed g ∷ [])) (no_word a id (ideal_step s (Step.Land id))) ∙ silent a (state_after_steps s (ideal_step s (Step.Land id))) (Step.Closed g) (no_closed a g))
landing_given a s (Said.Answered id answer None) h = sym (given_one a s (Step.Answered id) ∙ answered_by a id answer None (ideal_run []) (ideal_step s (Step.Answered id)) (answered_says s id (flight id s.flights)) h)
landing_given a s (Said.Answered id answer (Some g)) h =
    let t = state_after_steps s (ideal_step s (Step.Answered id)) in
    sym (ap (λ l. ideal_replies_by a (Step.Answered id) (ideal_step s (Step.Answered id)) ++ l) (silent a t (Step.Closed g) (no_closed a g)) ∙ (append-nil (ideal_replies_by a (Step.Answered id) (ideal_step s (Step.Answered id))) ∙ answered_by a id answer (Some g) (ideal_run (Step.Closed g ∷ [])) (ideal_step s (Step.Answered id)) (answered_says s id (flight id s.flights)) h))
landing_given a s (Said.Done g revoked) h = sym (silent a s (Step.Done g) (no_done a g))
landing_given a s said h = refl

-- ---- any entry

await_shape : (b ep : ℕ) (said : Said) → (await_steps b ep said ≡ Step.Await b ep ∷ []) ⊎ (await_steps b ep said ≡ [])
await_shape b ep (Said.Idle why) = inr refl
await_shape b ep said = inl refl

await_given : (a b ep : ℕ) (s : State) (said : Said) → [] ≡ ideal_replies a s (await_steps b ep said)
await_given a b ep s said = by_shape (await_shape b ep said)
  where
    by_shape : (await_steps b ep said ≡ Step.Await b ep ∷ []) ⊎ (await_steps b ep said ≡ []) → [] ≡ ideal_replies a s (await_steps b ep said)
    by_shape (inl e) = sym (ap (ideal_replies a s) e ∙ silent a s (Step.Await b ep) (no_await a b ep))
    by_shape (inr e) = ap (ideal_replies a s) (sym e)

turn_given : (a b : ℕ) (s : State) (made : Option Made) (said : Said) → MatchesBy (turn_steps b made said) s said → (if b == a then printed_move s b made said else []) ≡ ideal_replies a s (turn_steps b made said)
turn_given a b s None said h = either_none (b == a) [] refl
turn_given a b s (Some (Made.Command c)) said h = command_given a b s c said h
turn_given a b s (Some (Made.Await ep)) said h = either_none (b == a) [] refl ∙ await_given a b ep s said
turn_given a b s (Some Made.Quantum) said h = either_none (b == a) [] refl
turn_given a b s (Some Made.End) said h = either_none (b == a) [] refl

close_given : (a : ℕ) (s : State) (said : Said) → [] ≡ ideal_replies a s (close_steps said)
close_given a s (Said.CloseSent g id held) = sym (silent a s (Step.Close g) (no_close a g))
close_given a s said = refl

entry_given : (a : ℕ) (s : State) (e : Event) (o : Outcome) → MatchesBy (steps_of e o) s o.said → printed_by a s e o ≡ ideal_replies a s (steps_of e o)
entry_given a s (Event.Do b c) o h = command_given a b s c o.said h
entry_given a s (Event.Turn b) o h = turn_given a b s o.made o.said h
entry_given a s (Event.Take to from) o h = landing_given a s o.said h
entry_given a s (Event.Tend b) o h = landing_given a s o.said h
entry_given a s Event.Close o h = close_given a s o.said
entry_given a s (Event.Order (Order.Switch t b)) o h = refl
entry_given a s (Event.Order (Order.Grant line)) o h = sym (silent a s (Step.Make line) (no_make a line))
entry_given a s (Event.Order (Order.Revoke g)) o h = sym (silent a s (Step.Revoke g) (no_revoke a g))
entry_given a s (Event.File line) o h = refl

-- ---- whole journals

given_append : (a : ℕ) (s : State) (xs ys : List Step) → ideal_replies a s (xs ++ ys) ≡ ideal_replies a s xs ++ ideal_replies a (final s xs) ys
given_append a s [] ys = refl
given_append a s (t ∷ xs) ys =
    ap (λ l. ideal_replies_by a t (ideal_step s t) ++ l) (given_append a (state_after_steps s (ideal_step s t)) xs ys)
    ∙ sym (append_assoc (ideal_replies_by a t (ideal_step s t)) (ideal_replies a (state_after_steps s (ideal_step s t)) xs) (ideal_replies a (final (state_after_steps s (ideal_step s t)) xs) ys))

final_is : (ts : List Step) (s : State) (r : RunResult) → ideal_run ts s ≡ Some r → final s ts ≡ r.state
final_is [] s r e = ap (ran_state s) e
  where
    ran_state : State → Option RunResult → State
    ran_state d None = d
    ran_state d (Some x) = x.state
final_is (t ∷ ts) s r e = by_next (ideal_step s t) (λ n x q. final_is ts n.state x q) e
  where
    Later : Type 0
    Later = (n : IdealResult) (x : RunResult) → ideal_run ts n.state ≡ Some x → final n.state ts ≡ x.state

    by_more : Later → (n : IdealResult) (o : Option RunResult) → ideal_run ts n.state ≡ o → with_label n.word o ≡ Some r → final n.state ts ≡ r.state
    by_more later n None q w = absurd (cc)
    by_more later n (Some x) q w = later n x q ∙ ap (λ o. ran_to o n.state) w

    by_next : (o : Option IdealResult) → Later → on_from (ideal_run ts) o ≡ Some r → final (state_after_steps s o) ts ≡ r.state
    by_next None later w = absurd (cc)
    by_next (Some n) later w = by_more later n (ideal_run ts n.state) refl w

reached : (ts : List Step) (s : State) (said : Said) → MatchesBy ts s said → ran_to (ideal_run ts s) s ≡ final s ts
reached [] s said h = refl
reached (t ∷ ts) s said h = by_ran (ideal_run (t ∷ ts) s) refl h
  where
    by_ran : (o : Option RunResult) → ideal_run (t ∷ ts) s ≡ o → IsSomeAnd o (λ r. Shows r.words said) → ran_to o s ≡ final s (t ∷ ts)
    by_ran None e z = absurd z
    by_ran (Some r) e z = sym (final_is (t ∷ ts) s r e)

-- just the replies printed: those that the steps of a run give
pub seen_given : (a : ℕ) (s : State) (es : List Entry) → IsRun s es → printed_replies a s es ≡ ideal_replies a s (steps_in es)
seen_given a s [] h = refl
seen_given a s (e ∷ es) h =
    let ts = steps_of e.event e.outcome in
    let more : printed_replies a (next_state s e) es ≡ ideal_replies a (final s ts) (steps_in es) = seen_given a (next_state s e) es h.1 ∙ ap (λ x. ideal_replies a x (steps_in es)) (reached ts s e.outcome.said h.0) in
    ap (λ l. printed_replies_of a s e ++ l) more
    ∙ (ap (λ l. l ++ ideal_replies a (final s ts) (steps_in es)) (entry_given a s e.event e.outcome h.0)
    ∙ sym (given_append a s ts (steps_in es)))
