-- What an outcome tells an activity, and what that makes of what its program is to see.
use Rattle.std.proofs.Common.{◌≡◌, ℕ, Bool, true, false, List, [], ◌∷◌, ◌++◌, Option, Some, None, refl, sym, subst, ◌∙◌, ap, append-nil}
use Rattle.std.specs.Prelude.{◌==◌, ◌&&◌, if◌then◌else◌}
use Rattle.m3_base.specs.declared.command.Answer.{Answer}
use Rattle.m3_base.specs.declared.command.Refusal.{Refusal}
use Rattle.m3_base.specs.declared.event.Said.{Said}
use Rattle.m3_base.specs.declared.ids.FlightId.{FlightId}
use Rattle.m3_base.specs.declared.packet.Packet.{Packet}
use Rattle.m3_base.specs.declared.program.Seen as program
use Rattle.m3_base.specs.Calls.JournalCalls.{Known, PendingAnswer, input_after_answer}
use Rattle.m3_base.specs.Ideal.Acceptance.{arrive_fit, fits}
use Rattle.m3_base.specs.Ideal.Arrival.{Arrival, answer_arrives, arrive, close_arrives, landed_said}
use Rattle.m3_base.specs.Ideal.Context.{Context, Flying, endpoint, with_endpoint}
use Rattle.m3_base.specs.Ideal.Flights.{name_of}
use Rattle.m3_base.specs.Ideal.Landing.{closed_at, flies_at, flying_at, has_live, has_send, land}
use Rattle.m3_base.specs.Journal.Replies.{reply_of}
use Rattle.m3_base.specs.Placement.Routing.{target}
use Rattle.m3_base.proofs.Activities.{same_act-turned}
use Rattle.m3_model.specs.LocalStep.{heard_in_answer}
use Rattle.m3_model.specs.Parcel.{Heard}
use Rattle.m3_model.specs.Tile.State.{Awake, First, Got, Resident, Seen, Waits}
use Rattle.m3_model.specs.Tile.Step.{seen_after_answer, seen_after_answers}
use Rattle.m3_refine.proofs.arrival.ArriveKeeps.{KeptBy, arrive_keeps}
use Rattle.m3_refine.proofs.lists.EachElement.{InSome}
use Rattle.m3_trace.specs.Hearing.{input_by, input_of_seen, resident_input}
use Rattle.std.proofs.lemmas.Option.{same_Some}

-- what an outcome tells the activity
abbrev pub heard_said : ℕ → Said → List Heard
heard_said a (Said.Answered id answer closed) = if id.issuer == a then record { number = id.number; answer = answer } ∷ [] else []
heard_said a said = []

-- ---- what is to be seen then

pub seen_more : (s : Seen) (xs ys : List Heard) → seen_after_answers s (xs ++ ys) ≡ seen_after_answers (seen_after_answers s xs) ys
seen_more s [] ys = refl
seen_more s (x ∷ xs) ys = seen_more (seen_after_answer s x) xs ys

first_stays : (xs : List Heard) → seen_after_answers First xs ≡ First
first_stays [] = refl
first_stays (x ∷ xs) = first_stays xs

awake_stays : (xs : List Heard) → seen_after_answers Awake xs ≡ Awake
awake_stays [] = refl
awake_stays (x ∷ xs) = awake_stays xs

module _ (a : ℕ) where
  reply_stays : (s : Seen) (xs : List Heard) → ((x : Heard) → seen_after_answer s x ≡ s) → seen_after_answers s xs ≡ s
  reply_stays s [] e = refl
  reply_stays s (x ∷ xs) e = ap (λ z. seen_after_answers z xs) (e x) ∙ reply_stays s xs e

  answer_seen : (n : ℕ) (id : FlightId) (answer : Answer) (b d : Bool) → (id.number == n) ≡ d → (n == id.number) ≡ d
      → (if b && (id.number == n) then Known (program.Seen.Answer (reply_of answer)) else PendingAnswer n)
      ≡ input_of_seen (seen_after_answers (Waits n) (if b then record { number = id.number; answer = answer } ∷ [] else []))
  answer_seen n id answer false d e f = refl
  answer_seen n id answer true d e f =
      ap (λ c. if c then Known (program.Seen.Answer (reply_of answer)) else PendingAnswer n) e ∙ by_test d
      ∙ ap (λ c. input_of_seen (if c then Got (reply_of answer) else Waits n)) (sym f)
    where
      by_test : (c : Bool) → (if c then Known (program.Seen.Answer (reply_of answer)) else PendingAnswer n) ≡ input_of_seen (if c then Got (reply_of answer) else Waits n)
      by_test true = refl
      by_test false = refl

  seen_input : (s : Seen) (said : Said) → input_after_answer a (input_of_seen s) said ≡ input_of_seen (seen_after_answers s (heard_said a said))
  seen_input First said = ap input_of_seen (sym (first_stays (heard_said a said)))
  seen_input Awake said = ap input_of_seen (sym (awake_stays (heard_said a said)))
  seen_input (Got r) said = ap input_of_seen (sym (reply_stays (Got r) (heard_said a said) (λ x. refl)))
  seen_input (Waits n) (Said.Answered id answer closed) = answer_seen n id answer (id.issuer == a) (n == id.number) (same_act-turned id.number n) refl
  seen_input (Waits n) said = refl

  pending_input : (p : Option ℕ) (s : Seen) (said : Said) → input_after_answer a (input_by p s) said ≡ input_by p (seen_after_answers s (heard_said a said))
  pending_input None s said = seen_input s said
  pending_input (Some ep) s said = refl

  -- what is to be seen after an outcome: what the outcome tells was heard last
  pub input_heard : (o : Option Resident) (xs : List Heard) (said : Said) → input_after_answer a (resident_input o xs) said ≡ resident_input o (xs ++ heard_said a said)
  input_heard None xs said = refl
  input_heard (Some y) xs said = pending_input y.pending (seen_after_answers y.seen xs) said ∙ ap (input_by y.pending) (sym (seen_more y.seen xs (heard_said a said)))

  -- an outcome that tells nothing leaves it
  pub input_quiet : (o : Option Resident) (xs : List Heard) (said : Said) → heard_said a said ≡ [] → input_after_answer a (resident_input o xs) said ≡ resident_input o xs
  input_quiet o xs said e = input_heard o xs said ∙ ap (λ l. resident_input o (xs ++ l)) e ∙ ap (resident_input o) (append-nil xs)

  -- ---- what a packet tells where it arrives

  abbrev pub heard_packet : Packet → List Heard
  heard_packet (Packet.Answer id answer) = if id.issuer == a then record { number = id.number; answer = answer } ∷ [] else []
  heard_packet p = []

  abbrev SaysHeard : Packet → Option Arrival → Type 0
  SaysHeard p o = InSome (λ r. heard_said a r.said ≡ heard_packet p) o

  landed_says : (id : FlightId) (o : Option Refusal) → heard_said a (landed_said id o) ≡ []
  landed_says id None = refl
  landed_says id (Some why) = refl

  credit_says : (b : Bool) (id : FlightId) (g : ℕ) → heard_said a (if b then Said.Credited id g else Said.Discarded id g) ≡ []
  credit_says true id g = refl
  credit_says false id g = refl

  answer_says : (c : Context) (id : FlightId) (answer : Answer) (o : Option Flying) → SaysHeard (Packet.Answer id answer) (answer_arrives c id answer o)
  answer_says c id answer None = tt
  answer_says c id answer (Some f) = refl

  close_says : (c : Context) (id : FlightId) (to ep g : ℕ) (d : Context) (live flies : Bool) → SaysHeard (Packet.Close id to ep g) (if live then close_arrives c id ep g d flies else None)
  close_says c id to ep g d false flies = tt
  close_says c id to ep g d true true = refl
  close_says c id to ep g d true false = refl

  arrive_says : (c : Context) (p : Packet) → SaysHeard p (arrive c p)
  arrive_says c (Packet.Message to ep g m) = landed_says (name_of (Packet.Message to ep g m)) (land ep g m c).refused
  arrive_says c (Packet.Credit id to g) = credit_says (has_send g c) id g
  arrive_says c (Packet.Read id g place buffer) = tt
  arrive_says c (Packet.Write id g place payload) = tt
  arrive_says c (Packet.Answer id answer) = answer_says c id answer (flying_at id.number c.flying)
  arrive_says c (Packet.Install id to ep f) = refl
  arrive_says c (Packet.Close id to ep g) = close_says c id to ep g (with_endpoint c ep (closed_at (endpoint c ep))) (has_live g (endpoint c ep)) (flies_at ep c)

  fit_some : (P : Arrival → Type 0) (b : Bool) (o : Option Arrival) → InSome P o → InSome P (if b then o else None)
  fit_some P true o k = k
  fit_some P false o k = tt

  -- an arrival tells what its packet does, and its context is of the same activity
  pub arrival_says : (c : Context) (p : Packet) (r : Arrival) → arrive_fit c p ≡ Some r → (heard_said a r.said ≡ heard_packet p) × (r.context.act ≡ c.act)
  arrival_says c p r e = subst (InSome (λ (r : Arrival). (heard_said a r.said ≡ heard_packet p) × (r.context.act ≡ c.act))) e (fit_some (λ r. (heard_said a r.said ≡ heard_packet p) × (r.context.act ≡ c.act)) (fits c p) (arrive c p) (both (arrive c p) (arrive_says c p) (by_kept (arrive c p) refl)))
    where
      both : (o : Option Arrival) → InSome (λ r. heard_said a r.said ≡ heard_packet p) o → InSome (λ r. r.context.act ≡ c.act) o → InSome (λ r. (heard_said a r.said ≡ heard_packet p) × (r.context.act ≡ c.act)) o
      both None k l = tt
      both (Some r) k l = (k, l)

      by_kept : (o : Option Arrival) → arrive c p ≡ o → InSome (λ r. r.context.act ≡ c.act) o
      by_kept None k = tt
      by_kept (Some r) k = (subst (KeptBy c p) k (arrive_keeps c p)).0

  none_or : (c : Bool) → ◌≡◌ {A = List Heard} [] (if c then [] else [])
  none_or true = refl
  none_or false = refl

  -- at the activity that the packet is for
  pub heard_target : (b : ℕ) (p : Packet) → target p ≡ Some b → heard_packet p ≡ (if b == a then heard_in_answer p else [])
  heard_target b (Packet.Answer id answer) e = ap (λ n. if n == a then record { number = id.number; answer = answer } ∷ [] else []) (same_Some id.issuer b e)
  heard_target b (Packet.Message to ep g m) e = none_or (b == a)
  heard_target b (Packet.Credit id to g) e = none_or (b == a)
  heard_target b (Packet.Read id g place buffer) e = none_or (b == a)
  heard_target b (Packet.Write id g place payload) e = none_or (b == a)
  heard_target b (Packet.Install id to ep f) e = none_or (b == a)
  heard_target b (Packet.Close id to ep g) e = none_or (b == a)
