-- What flies at a context after a packet, and what is heard of it.
use Rattle.std.proofs.Common.{◌≡◌, ℕ, ◌≤◌, Bool, true, false, cond, List, [], ◌∷◌, ◌++◌, length, Option, Some, None, refl, sym, ap, ◌∙◌, arith}
use Rattle.std.specs.Prelude.{◌==◌, ◌&&◌, nat_lt}
use Rattle.m3_base.specs.declared.ids.FlightId.{FlightId}
use Rattle.m3_base.specs.declared.command.Answer.{Answer}
use Rattle.m3_base.specs.declared.command.Refusal.{Refusal}
use Rattle.m3_base.specs.declared.message.Message.{Message}
use Rattle.m3_base.specs.declared.packet.Packet.{Packet}
use Rattle.m3_base.specs.Ideal.Context.{Context, Flying, endpoint, with_endpoint}
use Rattle.m3_base.specs.Ideal.Landing.{land_by, land_refusal, after_message, flying_at, without_flying, has_live, closed_at, flies_at, context_after_answer, freed_grant}
use Rattle.m3_base.specs.Ideal.Arrival.{Arrival, arrive, answer_arrives, close_arrives, freed_context}
use Rattle.m3_base.specs.Ideal.Acceptance.{fits, fits_answer}
use Rattle.m3_base.specs.Placement.Routing.{target}
use Rattle.m3_model.specs.Parcel.{Heard}
use Rattle.m3_model.specs.LocalStep.{heard_in_answer}
use Rattle.m3_kernel.specs.ArrivalView.{answers_to}
use Rattle.m3_kernel.specs.PendingAnswer.{IsSettled, AreNotBoth}
use Rattle.m3_base.proofs.Positions.{command_number}

-- what flies then
abbrev pub flying_in : Option Arrival → List Flying
flying_in None = []
flying_in (Some r) = r.context.flying

-- an answer ends its command, and no other packet changes what flies
abbrev pub flying_after : Packet → List Flying → List Flying
flying_after (Packet.Answer id answer) fs = without_flying id.number fs
flying_after p fs = fs

taken_flying : (ep : ℕ) (m : Message) (c : Context) (b : Bool) → (m.header.flags == 0) ≡ b → (after_message ep m c).flying ≡ c.flying
taken_flying ep m c true e = rw e refl
taken_flying ep m c false e = rw e refl

landed_flying : (ep : ℕ) (m : Message) (c : Context) (o : Option Refusal) → (land_by ep m c o).context.flying ≡ c.flying
landed_flying ep m c None = taken_flying ep m c (m.header.flags == 0) refl
landed_flying ep m c (Some why) = refl

freed_flying : (c : Context) (ep : ℕ) (o : Option ℕ) → (freed_context c ep o).flying ≡ c.flying
freed_flying c ep None = refl
freed_flying c ep (Some g) = refl

answer_flying : (c : Context) (id : FlightId) (answer : Answer) (o : Option Flying) (r : Arrival) → flying_at id.number c.flying ≡ o → answer_arrives c id answer o ≡ Some r → r.context.flying ≡ without_flying id.number c.flying
answer_flying c id answer None r e a = absurd (cc)
answer_flying c id answer (Some f) r e a =
    ap flying_in (sym a) ∙ freed_flying (context_after_answer f answer c) f.ep (freed_grant f.ep (context_after_answer f answer c)) ∙ ap (λ n. without_flying n c.flying) (command_number id.number c.flying f e)

close_flying : (c d : Context) (id : FlightId) (ep g : ℕ) (b : Bool) (r : Arrival) → d.flying ≡ c.flying → close_arrives c id ep g d b ≡ Some r → r.context.flying ≡ c.flying
close_flying c d id ep g true r e a = ap flying_in (sym a) ∙ e
close_flying c d id ep g false r e a = ap flying_in (sym a) ∙ e

pub arrive_flying : (c : Context) (p : Packet) (r : Arrival) → arrive c p ≡ Some r → r.context.flying ≡ flying_after p c.flying
arrive_flying c (Packet.Message to ep g m) r a = ap flying_in (sym a) ∙ landed_flying ep m c (land_refusal g m (endpoint c ep))
arrive_flying c (Packet.Credit id to g) r a = ap flying_in (sym a)
arrive_flying c (Packet.Read id g place buffer) r a = absurd (cc)
arrive_flying c (Packet.Write id g place payload) r a = absurd (cc)
arrive_flying c (Packet.Answer id answer) r a = answer_flying c id answer (flying_at id.number c.flying) r refl a
arrive_flying c (Packet.Install id to ep f) r a = ap flying_in (sym a)
arrive_flying c (Packet.Close id to ep g) r a = by_live (has_live g (endpoint c ep)) refl
  where
    by_live : (b : Bool) → has_live g (endpoint c ep) ≡ b → r.context.flying ≡ c.flying
    by_live true d = close_flying c (with_endpoint c ep (closed_at (endpoint c ep))) id ep g (flies_at ep c) r refl (sym (ap (λ b. cond b (close_arrives c id ep g (with_endpoint c ep (closed_at (endpoint c ep))) (flies_at ep c)) None) d) ∙ a)
    by_live false d = let n : None ≡ Some r = sym (ap (λ b. cond b (close_arrives c id ep g (with_endpoint c ep (closed_at (endpoint c ep))) (flies_at ep c)) None) d) ∙ a in absurd (cc)

-- ---- what is heard

nothing_flies : (n : ℕ) (fs : List Flying) (f : Flying) → fs ≡ [] → flying_at n fs ≡ Some f → ⊥
nothing_flies n fs f e g = let k : None ≡ Some f = sym (ap (flying_at n) e) ∙ g in cc

waits : (c : Context) (answer : Answer) (o : Option Flying) → fits_answer c answer o ≡ true → (f : Flying) × (o ≡ Some f)
waits c answer None e = absurd (cc)
waits c answer (Some f) e = (f, refl)

last_of : (a b c : Bool) → (a && b && c) ≡ true → c ≡ true
last_of true true c e = e
last_of true false c e = absurd (cc)
last_of false b c e = absurd (cc)

fits_flying : (c : Context) (id : FlightId) (answer : Answer) → fits c (Packet.Answer id answer) ≡ true → (f : Flying) × (flying_at id.number c.flying ≡ Some f)
fits_flying c id answer e = waits c answer (flying_at id.number c.flying) (last_of (id.issuer == c.act) (nat_lt 0 id.number) (fits_answer c answer (flying_at id.number c.flying)) e)

one_left : (n : ℕ) (fs : List Flying) (f : Flying) → length fs ≤ 1 → flying_at n fs ≡ Some f → without_flying n fs ≡ []
one_left n [] f le e = refl
one_left n (g ∷ []) f le e = by_test (g.number == n) refl e
  where
    by_test : (b : Bool) → (g.number == n) ≡ b → cond b (Some g) None ≡ Some f → cond b [] (g ∷ []) ≡ []
    by_test true d e = refl
    by_test false d e = absurd (cc)
one_left n (g ∷ h ∷ fs) f le e = absurd (omega arith)

-- an answer comes to one that hasn't heard any
pub not_both : (c : Context) (p : Packet) (xs : List Heard) → fits c p ≡ true → IsSettled xs c → AreNotBoth xs (heard_in_answer p)
not_both c (Packet.Message to ep g m) [] e s = tt
not_both c (Packet.Message to ep g m) (x ∷ xs) e s = tt
not_both c (Packet.Credit id to g) [] e s = tt
not_both c (Packet.Credit id to g) (x ∷ xs) e s = tt
not_both c (Packet.Read id g place buffer) [] e s = tt
not_both c (Packet.Read id g place buffer) (x ∷ xs) e s = tt
not_both c (Packet.Write id g place payload) [] e s = tt
not_both c (Packet.Write id g place payload) (x ∷ xs) e s = tt
not_both c (Packet.Answer id answer) [] e s = tt
not_both c (Packet.Answer id answer) (x ∷ xs) e s = let w = fits_flying c id answer e in absurd (nothing_flies id.number c.flying w.0 s w.1)
not_both c (Packet.Install id to ep f) [] e s = tt
not_both c (Packet.Install id to ep f) (x ∷ xs) e s = tt
not_both c (Packet.Close id to ep g) [] e s = tt
not_both c (Packet.Close id to ep g) (x ∷ xs) e s = tt

settled_by : (xs : List Heard) (c d : Context) → d.flying ≡ c.flying → IsSettled xs c → IsSettled (xs ++ []) d
settled_by [] c d e s = tt
settled_by (x ∷ xs) c d e s = e ∙ s

settled_all : (xs : List Heard) (d : Context) → d.flying ≡ [] → IsSettled xs d
settled_all [] d e = tt
settled_all (x ∷ xs) d e = e

pub settled_then : (c : Context) (p : Packet) (r : Arrival) (xs : List Heard) → fits c p ≡ true → length c.flying ≤ 1 → arrive c p ≡ Some r → IsSettled xs c → IsSettled (xs ++ heard_in_answer p) r.context
settled_then c (Packet.Message to ep g m) r xs e le a s = settled_by xs c r.context (arrive_flying c (Packet.Message to ep g m) r a) s
settled_then c (Packet.Credit id to g) r xs e le a s = settled_by xs c r.context (arrive_flying c (Packet.Credit id to g) r a) s
settled_then c (Packet.Read id g place buffer) r xs e le a s = settled_by xs c r.context (arrive_flying c (Packet.Read id g place buffer) r a) s
settled_then c (Packet.Write id g place payload) r xs e le a s = settled_by xs c r.context (arrive_flying c (Packet.Write id g place payload) r a) s
settled_then c (Packet.Install id to ep f) r xs e le a s = settled_by xs c r.context (arrive_flying c (Packet.Install id to ep f) r a) s
settled_then c (Packet.Close id to ep g) r xs e le a s = settled_by xs c r.context (arrive_flying c (Packet.Close id to ep g) r a) s
settled_then c (Packet.Answer id answer) r xs e le a s =
    let w = fits_flying c id answer e in
    settled_all (xs ++ heard_in_answer (Packet.Answer id answer)) r.context (arrive_flying c (Packet.Answer id answer) r a ∙ one_left id.number c.flying w.0 le w.1)

-- ---- the answer

abbrev pub answer_in : Option Arrival → Option Packet
answer_in None = None
answer_in (Some r) = r.answer

-- an answer to this activity, or none
abbrev pub IsAnswerTo : Option ℕ → Option Packet → Type 0
IsAnswerTo None answer = answer ≡ None
IsAnswerTo (Some a) answer = (q : Packet) × ((answer ≡ Some q) × (target q ≡ Some a))

landed_to : (ep : ℕ) (m : Message) (c : Context) (o : Option Refusal) → target (land_by ep m c o).answer ≡ Some m.header.sender
landed_to ep m c None = refl
landed_to ep m c (Some why) = refl

close_answers : (c d : Context) (id : FlightId) (ep g : ℕ) (b : Bool) → answer_in (close_arrives c id ep g d b) ≡ None
close_answers c d id ep g true = refl
close_answers c d id ep g false = refl

-- a message is answered to its sender, and no other packet is answered
pub arrive_answers : (c : Context) (p : Packet) (r : Arrival) → arrive c p ≡ Some r → IsAnswerTo (answers_to p) r.answer
arrive_answers c (Packet.Message to ep g m) r a =
    let l = land_by ep m c (land_refusal g m (endpoint c ep)) in
    (l.answer, (ap answer_in (sym a), landed_to ep m c (land_refusal g m (endpoint c ep))))
arrive_answers c (Packet.Credit id to g) r a = ap answer_in (sym a)
arrive_answers c (Packet.Read id g place buffer) r a = absurd (cc)
arrive_answers c (Packet.Write id g place payload) r a = absurd (cc)
arrive_answers c (Packet.Answer id answer) r a = ap answer_in (sym a) ∙ by_found (flying_at id.number c.flying)
  where
    by_found : (o : Option Flying) → answer_in (answer_arrives c id answer o) ≡ None
    by_found None = refl
    by_found (Some f) = refl
arrive_answers c (Packet.Install id to ep f) r a = ap answer_in (sym a)
arrive_answers c (Packet.Close id to ep g) r a = ap answer_in (sym a) ∙ by_live (has_live g (endpoint c ep))
  where
    by_live : (b : Bool) → answer_in (cond b (close_arrives c id ep g (with_endpoint c ep (closed_at (endpoint c ep))) (flies_at ep c)) None) ≡ None
    by_live true = close_answers c (with_endpoint c ep (closed_at (endpoint c ep))) id ep g (flies_at ep c)
    by_live false = refl
