-- What the places' step gives is what the ideal steps of its entry say, and the state that they reach.
use Rattle.std.proofs.Common.{◌≡◌, ℕ, Bool, true, false, cond, List, [], ◌∷◌, Some, None, refl, sym, subst, ◌∙◌, ap, Option, ◌⊎◌, inl, inr}
use Rattle.std.specs.Prelude.{if◌then◌else◌, ◌==◌, not, ◌&&◌, IsSomeAnd}
use Rattle.m3_base.specs.declared.ids.FlightId.{FlightId}
use Rattle.m3_base.specs.declared.message.Message.{Message}
use Rattle.m3_base.specs.declared.command.Answer.{Answer}
use Rattle.m3_base.specs.declared.command.Command.{Command}
use Rattle.m3_base.specs.declared.command.Refusal.{Refusal}
use Rattle.m3_base.specs.declared.command.Reply.{Reply}
use Rattle.m3_base.specs.declared.packet.Packet.{Packet}
use Rattle.m3_base.specs.declared.packet.Fresh.{Fresh}
use Rattle.m3_base.specs.declared.event.Event.{Event}
use Rattle.m3_base.specs.declared.event.Made.{Made}
use Rattle.m3_base.specs.declared.event.Said.{Said}
use Rattle.m3_base.specs.declared.event.IdleWhy.{IdleWhy}
use Rattle.m3_base.specs.declared.event.Entry.{Entry}
use Rattle.m3_base.specs.declared.step.Step.{Step}
use Rattle.m3_base.specs.Ideal.Flights.{flight}
use Rattle.m3_base.specs.Ideal.Context.{Context, Flying, endpoint}
use Rattle.m3_base.specs.Ideal.Issue.{IssueOutcome, Gives, Flies, Issued, issue}
use Rattle.m3_base.specs.Ideal.Landing.{land, has_send, has_live, has_closing, flies_at, flying_at}
use Rattle.m3_base.specs.Ideal.State.{Grant, State, context_of, grant_in, holder, holder_ep}
use Rattle.m3_base.specs.Ideal.Step.{Label, At_issue, Present, Landing, Refusing, Credits, Discards, Installs, Starts_closing, Closes_endpoint, Answers, Not_made, Makes, Revokes, Sends_close, Frees, Finishes, IdealResult, ideal_step, ideal_run, on_from, with_label, issue_in, issued_in, land_in, message_in, credit_in, install_in, close_in, answered_in, answer_in, settle_in, landing_word, closed_in, free_in}
use Rattle.m3_base.specs.Journal.Entry.{MatchesBy, Shows, steps_of, ran_to, said_of, is_held, shown_told, shown_message, command_steps, landing_steps}
use Rattle.m3_base.specs.Placement.Command as places_command
use Rattle.m3_base.specs.Placement.Landing as places_landing
use Rattle.m3_base.specs.Placement.State as places_state
use Rattle.m3_base.specs.Placement.State.{Placement}
use Rattle.m3_base.specs.Placement.Landing.{PlacementResult, said_or_nothing, LandingResult, landing_result, landing_result_by, closing_steps, labels_in, landing_step}

-- what these steps say from here, and where they lead
abbrev pub SaidBy : List Step → State → Said → State → Type 0
SaidBy ts s said n = MatchesBy ts s said × (ran_to (ideal_run ts s) s ≡ n)

abbrev pub entry_of : Event → Option Made → PlacementResult → Entry
entry_of e made d = record { event = e; outcome = record { made = made; said = d.said; restore = d.restore } }

abbrev pub SaysAs : State → Event → Option Made → Option PlacementResult → Type 0
SaysAs s e made None = Unit {0}
SaysAs s e made (Some d) = SaidBy (steps_of e (record { made = made; said = d.said; restore = d.restore })) s d.said d.state

-- ---- one step

pub one_step : (s n : State) (t : Step) (w : Label) (said : Said) → ideal_step s t ≡ Some (record { word = w; state = n }) → Shows (w ∷ []) said → SaidBy (t ∷ []) s said n
one_step s n t w said e shows =
    let ran : ideal_run (t ∷ []) s ≡ Some (record { words = w ∷ []; state = n }) = ap (on_from (ideal_run [])) e in
    (subst (λ r. IsSomeAnd r (λ x. Shows x.words said)) (sym ran) shows, ap (λ r. ran_to r s) ran)

two_steps : (s m n : State) (t u : Step) (v w : Label) (said : Said) → ideal_step s t ≡ Some (record { word = v; state = m }) → ideal_step m u ≡ Some (record { word = w; state = n }) → Shows (v ∷ w ∷ []) said → SaidBy (t ∷ u ∷ []) s said n
two_steps s m n t u v w said e f shows =
    let ran : ideal_run (t ∷ u ∷ []) s ≡ Some (record { words = v ∷ w ∷ []; state = n }) =
    ap (on_from (ideal_run (u ∷ []))) e ∙ ap (λ o. with_label v (on_from (ideal_run []) o)) f in
    (subst (λ r. IsSomeAnd r (λ x. Shows x.words said)) (sym ran) shows, ap (λ r. ran_to r s) ran)

-- ---- commands

message_steps : (a : ℕ) (c : Command) (t : ℕ) (m : Message) (b : Bool) → command_steps a c (shown_message t m b) ≡ Step.Issue a c ∷ []
message_steps a c t m true = refl
message_steps a c t m false = refl

told_steps : (a : ℕ) (c : Command) (t : IssueOutcome) → command_steps a c (shown_told t) ≡ Step.Issue a c ∷ []
told_steps a c (Flies id) = refl
told_steps a c (Gives Reply.Nothing) = refl
told_steps a c (Gives (Reply.Fetched t m)) = message_steps a c t m (m.header.flags == 0)
told_steps a c (Gives (Reply.Acknowledged o)) = refl
told_steps a c (Gives (Reply.Refused why)) = refl
told_steps a c (Gives Reply.Sent) = refl
told_steps a c (Gives Reply.Replied) = refl
told_steps a c (Gives Reply.Written) = refl
told_steps a c (Gives (Reply.Bytes bytes)) = refl

abbrev IsIssueWord : Option IdealResult → Type 0
IsIssueWord None = Unit {0}
IsIssueWord (Some n) = (t : IssueOutcome) × (n.word ≡ At_issue t)

issued_word : (s : State) (o : Option Issued) → IsIssueWord (issued_in s o)
issued_word s None = tt
issued_word s (Some i) = (i.told, refl)

issue_word : (s : State) (o : Option Context) (c : Command) → IsIssueWord (issue_in s o c)
issue_word s None c = tt
issue_word s (Some x) c = issued_word s (issue x c)

abbrev pub CommandAs : State → ℕ → Command → Option PlacementResult → Type 0
CommandAs s a c None = Unit {0}
CommandAs s a c (Some d) = SaidBy (command_steps a c d.said) s d.said d.state

command_by_word : (s : State) (p : Placement) (a : ℕ) (c : Command) (o : Option IdealResult) → ideal_step s (Step.Issue a c) ≡ o → IsIssueWord o → CommandAs s a c (places_command.command_by s p a (on_from (ideal_run []) o))
command_by_word s p a c None e k = tt
command_by_word s p a c (Some n) e k =
    let t = k.0 in
    let said = shown_told t in
    let goal : SaidBy (command_steps a c said) s said n.state =
    subst (λ ts. SaidBy ts s said n.state) (sym (told_steps a c t))
    (one_step s n.state (Step.Issue a c) (At_issue t) said (e ∙ ap (λ w. Some (record { word = w; state = n.state })) k.1) (inl refl)) in
    subst (λ w. SaidBy (command_steps a c (said_or_nothing (said_of false (w ∷ [])))) s (said_or_nothing (said_of false (w ∷ []))) n.state) (sym k.1) goal

pub command_as : (s : State) (p : Placement) (a : ℕ) (c : Command) → CommandAs s a c (places_command.command_by s p a (ideal_run (Step.Issue a c ∷ []) s))
command_as s p a c = command_by_word s p a c (ideal_step s (Step.Issue a c)) refl (issue_word s (context_of a s.contexts) c)

pub idle_command : (s : State) (p : Placement) (a : ℕ) (c : Command) (why : IdleWhy) → CommandAs s a c (places_landing.idle_outcome why s p)
idle_command s p a c why = (tt, refl)

pub do_as : (s : State) (p : Placement) (a : ℕ) (c : Command) → CommandAs s a c (places_command.command s p a c)
do_as s p a c = by_current (not (places_state.is_current a p)) (places_command.busy_with c (context_of a s.contexts))
  where
    by_current : (b d : Bool) → CommandAs s a c (cond b (places_landing.idle_outcome IdleWhy.NotCurrent s p) (cond d (places_landing.idle_outcome IdleWhy.Busy s p) (places_command.command_by s p a (ideal_run (Step.Issue a c ∷ []) s))))
    by_current true d = idle_command s p a c IdleWhy.NotCurrent
    by_current false true = idle_command s p a c IdleWhy.Busy
    by_current false false = command_as s p a c

-- ---- landings

abbrev IsLandWord : FlightId → Label → Type 0
IsLandWord id (Landing x) = x ≡ id
IsLandWord id (Refusing x why) = x ≡ id
IsLandWord id (Credits x g) = x ≡ id
IsLandWord id (Discards x g) = x ≡ id
IsLandWord id (Installs x g) = x ≡ id
IsLandWord id (Starts_closing x g) = x ≡ id
IsLandWord id (Closes_endpoint x g) = x ≡ id
IsLandWord id _ = ⊥

abbrev LandsWord : FlightId → Option IdealResult → Type 0
LandsWord id None = Unit {0}
LandsWord id (Some n) = IsLandWord id n.word

landing_is : (id : FlightId) (why : Option Refusal) → IsLandWord id (landing_word id why)
landing_is id None = refl
landing_is id (Some x) = refl

message_word : (s : State) (id : FlightId) (ep g : ℕ) (m : Message) (o : Option Context) → LandsWord id (message_in s id ep g m o)
message_word s id ep g m None = tt
message_word s id ep g m (Some x) = landing_is id (land ep g m x).refused

credit_word : (s : State) (id : FlightId) (g : ℕ) (o : Option Context) → LandsWord id (credit_in s id g o)
credit_word s id g None = tt
credit_word s id g (Some x) = by_test (has_send g x)
  where
    by_test : (b : Bool) → IsLandWord id (if b then Credits id g else Discards id g)
    by_test true = refl
    by_test false = refl

install_word : (s : State) (id : FlightId) (ep : ℕ) (f : Fresh) (o : Option Context) → LandsWord id (install_in s id ep f o)
install_word s id ep f None = tt
install_word s id ep f (Some x) = refl

close_word : (s : State) (id : FlightId) (ep g : ℕ) (o : Option Context) → LandsWord id (close_in s id ep g o)
close_word s id ep g None = tt
close_word s id ep g (Some x) = by_live (has_live g (endpoint x ep)) (flies_at ep x) _
  where
    by_live : (b d : Bool) (n : State) → LandsWord id (cond b (Some (record { word = if d then Starts_closing id g else Closes_endpoint id g; state = n })) None)
    by_live true true n = refl
    by_live true false n = refl
    by_live false d n = tt

land_word : (s : State) (id : FlightId) (o : Option Packet) → LandsWord id (land_in s id o)
land_word s id None = tt
land_word s id (Some (Packet.Message to ep g m)) = message_word s id ep g m (context_of to s.contexts)
land_word s id (Some (Packet.Credit x to g)) = credit_word s id g (context_of to s.contexts)
land_word s id (Some (Packet.Read x g place buffer)) = refl
land_word s id (Some (Packet.Write x g place payload)) = refl
land_word s id (Some (Packet.Answer x answer)) = tt
land_word s id (Some (Packet.Install x to ep f)) = install_word s id ep f (context_of to s.contexts)
land_word s id (Some (Packet.Close x to ep g)) = close_word s id ep g (context_of to s.contexts)

abbrev IsAnswerWord : FlightId → Label → Type 0
IsAnswerWord id (Answers x answer closed) = x ≡ id
IsAnswerWord id _ = ⊥

abbrev AnswersWord : FlightId → Option IdealResult → Type 0
AnswersWord id None = Unit {0}
AnswersWord id (Some n) = IsAnswerWord id n.word

settle_word : (s : State) (id : FlightId) (answer : Answer) (x : Context) (o : Option Flying) → AnswersWord id (settle_in s id answer x o)
settle_word s id answer x None = tt
settle_word s id answer x (Some f) = refl

answered_word : (s : State) (id : FlightId) (answer : Answer) (o : Option Context) → AnswersWord id (answer_in s id answer o)
answered_word s id answer None = tt
answered_word s id answer (Some x) = settle_word s id answer x (flying_at id.number x.flying)

answer_word : (s : State) (id : FlightId) (o : Option Packet) → AnswersWord id (answered_in s id o)
answer_word s id None = tt
answer_word s id (Some (Packet.Answer x answer)) = answered_word s id answer (context_of id.issuer s.contexts)
answer_word s id (Some (Packet.Message to ep g m)) = tt
answer_word s id (Some (Packet.Credit x to g)) = tt
answer_word s id (Some (Packet.Read x g place buffer)) = tt
answer_word s id (Some (Packet.Write x g place payload)) = tt
answer_word s id (Some (Packet.Install x to ep f)) = tt
answer_word s id (Some (Packet.Close x to ep g)) = tt

abbrev FreesWord : ℕ → Option IdealResult → Type 0
FreesWord g None = Unit {0}
FreesWord g (Some n) = n.word ≡ Frees g

free_word : (s : State) (g ep : ℕ) (o : Option Context) → FreesWord g (free_in s g ep o)
free_word s g ep None = tt
free_word s g ep (Some x) = by_test (has_closing g (endpoint x ep) && not (flies_at ep x)) _
  where
    by_test : (b : Bool) (n : State) → FreesWord g (cond b (Some (record { word = Frees g; state = n })) None)
    by_test true n = refl
    by_test false n = tt

closed_word : (s : State) (g : ℕ) (o : Option Grant) → FreesWord g (closed_in s g o)
closed_word s g None = tt
closed_word s g (Some x) = free_word s g (holder_ep x.line) (context_of (holder x.line) s.contexts)

abbrev pub CameSays : State → Option LandingResult → Type 0
CameSays s None = Unit {0}
CameSays s (Some c) = SaidBy (landing_steps c.said) s c.said c.state

-- a step that frees no endpoint, and one that does
lone_came : (s n : State) (id : FlightId) (t : Step) (w : Label) (said : Said) → ideal_step s t ≡ Some (record { word = w; state = n }) → said_of false (w ∷ []) ≡ Some said → landing_steps said ≡ t ∷ [] → is_held said ≡ false
    → CameSays s (landing_result_by s id (t ∷ []) (Some (record { words = w ∷ []; state = n })))
lone_came s n id t w said e says steps held =
    subst (λ o. SaidBy (landing_steps (said_or_nothing o)) s (said_or_nothing o) n) (sym says)
    (subst (λ ts. SaidBy ts s said n) (sym steps) (one_step s n t w said e (inl (ap (λ b. said_of b (w ∷ [])) held ∙ says))))

freeing_came : (s m : State) (id : FlightId) (t : Step) (w : Label) (g : ℕ) (said : Said) → ideal_step s t ≡ Some (record { word = w; state = m }) → ((x : Label) → x ≡ Frees g → said_of false (w ∷ x ∷ []) ≡ Some said)
    → landing_steps said ≡ t ∷ Step.Closed g ∷ [] → is_held said ≡ false
    → (o : Option IdealResult) → ideal_step m (Step.Closed g) ≡ o → FreesWord g o → CameSays s (landing_result_by s id (t ∷ Step.Closed g ∷ []) (with_label w (on_from (ideal_run []) o)))
freeing_came s m id t w g said e says steps held None f k = tt
freeing_came s m id t w g said e says steps held (Some n) f k =
    subst (λ o. SaidBy (landing_steps (said_or_nothing o)) s (said_or_nothing o) n.state) (sym (says n.word k))
    (subst (λ ts. SaidBy ts s said n.state) (sym steps) (two_steps s m n.state t (Step.Closed g) w n.word said e f (inl (ap (λ b. said_of b (w ∷ n.word ∷ [])) held ∙ says n.word k))))

land_by : (s n : State) (id : FlightId) (w : Label) → ideal_step s (Step.Land id) ≡ Some (record { word = w; state = n }) → IsLandWord id w
    → CameSays s (landing_result_by s id (Step.Land id ∷ closing_steps (w ∷ [])) (on_from (ideal_run (closing_steps (w ∷ []))) (Some (record { word = w; state = n }))))
land_by s n id (Landing x) e k = lone_came s n id (Step.Land id) (Landing x) (Said.Landed x) e refl (ap (λ y. Step.Land y ∷ []) k) refl
land_by s n id (Refusing x why) e k = lone_came s n id (Step.Land id) (Refusing x why) (Said.LandRefused x why) e refl (ap (λ y. Step.Land y ∷ []) k) refl
land_by s n id (Credits x g) e k = lone_came s n id (Step.Land id) (Credits x g) (Said.Credited x g) e refl (ap (λ y. Step.Land y ∷ []) k) refl
land_by s n id (Discards x g) e k = lone_came s n id (Step.Land id) (Discards x g) (Said.Discarded x g) e refl (ap (λ y. Step.Land y ∷ []) k) refl
land_by s n id (Installs x g) e k = lone_came s n id (Step.Land id) (Installs x g) (Said.Installed x g) e refl (ap (λ y. Step.Land y ∷ []) k) refl
land_by s n id (Starts_closing x g) e k = lone_came s n id (Step.Land id) (Starts_closing x g) (Said.Closing x g) e refl (ap (λ y. Step.Land y ∷ []) k) refl
land_by s n id (Closes_endpoint x g) e k =
    freeing_came s n id (Step.Land id) (Closes_endpoint x g) g (Said.Closed x g) e (λ y f. ap (λ z. said_of false (Closes_endpoint x g ∷ z ∷ [])) f) (ap (λ y. Step.Land y ∷ Step.Closed g ∷ []) k) refl
    (ideal_step n (Step.Closed g)) refl (closed_word n g (grant_in n.grants g))
land_by s n id (At_issue t) e k = absurd k
land_by s n id (Present b) e k = absurd k
land_by s n id (Answers x answer o) e k = absurd k
land_by s n id (Not_made why) e k = absurd k
land_by s n id (Makes g x) e k = absurd k
land_by s n id (Revokes g) e k = absurd k
land_by s n id (Sends_close g x) e k = absurd k
land_by s n id (Frees g) e k = absurd k
land_by s n id (Finishes g b) e k = absurd k

answer_by : (s n : State) (id : FlightId) (w : Label) → ideal_step s (Step.Answered id) ≡ Some (record { word = w; state = n }) → IsAnswerWord id w
    → CameSays s (landing_result_by s id (Step.Answered id ∷ closing_steps (w ∷ [])) (on_from (ideal_run (closing_steps (w ∷ []))) (Some (record { word = w; state = n }))))
answer_by s n id (Answers x answer None) e k = lone_came s n id (Step.Answered id) (Answers x answer None) (Said.Answered x answer None) e refl (ap (λ y. Step.Answered y ∷ []) k) refl
answer_by s n id (Answers x answer (Some g)) e k =
    freeing_came s n id (Step.Answered id) (Answers x answer (Some g)) g (Said.Answered x answer (Some g)) e (λ y f. ap (λ z. said_of false (Answers x answer (Some g) ∷ z ∷ [])) f) (ap (λ y. Step.Answered y ∷ Step.Closed g ∷ []) k) refl
    (ideal_step n (Step.Closed g)) refl (closed_word n g (grant_in n.grants g))
answer_by s n id (Landing x) e k = absurd k
answer_by s n id (Refusing x why) e k = absurd k
answer_by s n id (Credits x g) e k = absurd k
answer_by s n id (Discards x g) e k = absurd k
answer_by s n id (Installs x g) e k = absurd k
answer_by s n id (Starts_closing x g) e k = absurd k
answer_by s n id (Closes_endpoint x g) e k = absurd k
answer_by s n id (At_issue t) e k = absurd k
answer_by s n id (Present b) e k = absurd k
answer_by s n id (Not_made why) e k = absurd k
answer_by s n id (Makes g x) e k = absurd k
answer_by s n id (Revokes g) e k = absurd k
answer_by s n id (Sends_close g x) e k = absurd k
answer_by s n id (Frees g) e k = absurd k
answer_by s n id (Finishes g b) e k = absurd k

land_came : (s : State) (id : FlightId) (o : Option IdealResult) → ideal_step s (Step.Land id) ≡ o → LandsWord id o
    → CameSays s (landing_result_by s id (Step.Land id ∷ closing_steps (labels_in (on_from (ideal_run []) o))) (on_from (ideal_run (closing_steps (labels_in (on_from (ideal_run []) o)))) o))
land_came s id None e k = tt
land_came s id (Some n) e k = land_by s n.state id n.word e k

answer_came : (s : State) (id : FlightId) (o : Option IdealResult) → ideal_step s (Step.Answered id) ≡ o → AnswersWord id o
    → CameSays s (landing_result_by s id (Step.Answered id ∷ closing_steps (labels_in (on_from (ideal_run []) o))) (on_from (ideal_run (closing_steps (labels_in (on_from (ideal_run []) o)))) o))
answer_came s id None e k = tt
answer_came s id (Some n) e k = answer_by s n.state id n.word e k

came_first : (s : State) (id : FlightId) (t : Step) → (t ≡ Step.Land id) ⊎ (t ≡ Step.Answered id) → CameSays s (landing_result_by s id (t ∷ closing_steps (labels_in (ideal_run (t ∷ []) s))) (ideal_run (t ∷ closing_steps (labels_in (ideal_run (t ∷ []) s))) s))
came_first s id t (inl e) = subst (λ t. CameSays s (landing_result_by s id (t ∷ closing_steps (labels_in (ideal_run (t ∷ []) s))) (ideal_run (t ∷ closing_steps (labels_in (ideal_run (t ∷ []) s))) s))) (sym e) (land_came s id (ideal_step s (Step.Land id)) refl (land_word s id (flight id s.flights)))
came_first s id t (inr e) = subst (λ t. CameSays s (landing_result_by s id (t ∷ closing_steps (labels_in (ideal_run (t ∷ []) s))) (ideal_run (t ∷ closing_steps (labels_in (ideal_run (t ∷ []) s))) s))) (sym e) (answer_came s id (ideal_step s (Step.Answered id)) refl (answer_word s id (flight id s.flights)))

first_step : (id : FlightId) (o : Option Packet) → (landing_step id o ≡ Step.Land id) ⊎ (landing_step id o ≡ Step.Answered id)
first_step id None = inl refl
first_step id (Some (Packet.Message to ep g m)) = inl refl
first_step id (Some (Packet.Credit x to g)) = inl refl
first_step id (Some (Packet.Read x g place buffer)) = inl refl
first_step id (Some (Packet.Write x g place payload)) = inl refl
first_step id (Some (Packet.Answer x answer)) = inr refl
first_step id (Some (Packet.Install x to ep f)) = inl refl
first_step id (Some (Packet.Close x to ep g)) = inl refl

pub came_says : (s : State) (id : FlightId) → CameSays s (landing_result s id)
came_says s id = came_first s id (landing_step id (flight id s.flights)) (first_step id (flight id s.flights))
