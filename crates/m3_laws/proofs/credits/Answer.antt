-- An answer that comes home moves credits, and makes or loses none.
use Rattle.std.proofs.Common.{◌≡◌, ◌≢◌, ℕ, ◌+◌, false, [], ◌∷◌, Some, None, refl, sym, subst, ◌∙◌, ap, arith}
use Rattle.std.specs.Prelude.{Option, ◌==◌, ◌&&◌}
use Rattle.std.proofs.lemmas.Bool.Decides.{nat_tests}
use Rattle.m3_base.specs.declared.ids.FlightId.{FlightId}
use Rattle.m3_base.specs.declared.packet.Packet.{Packet}
use Rattle.m3_base.specs.declared.command.Answer.{Answer}
use Rattle.m3_base.specs.Lists.Counting.{one}
use Rattle.m3_base.specs.Ideal.Flights.{flight}
use Rattle.m3_base.specs.Ideal.Context.{Kind, Sending, Replying, Reading, Writing, Flying, Fetched, Endpoint, Free, Sends, Receives, Reaches, Context, endpoint}
use Rattle.m3_base.specs.Ideal.ReceiveRecord.{fetched_at, with_mark_at}
use Rattle.m3_base.specs.Ideal.Landing.{endpoint_after_answer, context_after_answer, flying_at, without_flying, has_send, with_credit}
use Rattle.m3_base.specs.Ideal.State.{State, context_of}
use Rattle.m3_base.specs.Ideal.Credits.{gives_back, gives_back_by, is_refusal, carries_credit, credits}
use Rattle.m3_laws.proofs.credits.EndpointWeights.{weight, context_weight, owed-without_token, owed-with_mark, weight-credited}
use Rattle.m3_laws.proofs.credits.Issue.{weight-with_endpoint}
use Rattle.m3_laws.proofs.credits.Land.{credits_are}
use Rattle.m3_laws.proofs.invariant.step.ChangeOneContext.{Moved, credits_ended}
use Rattle.m3_base.specs.Ideal.FlightNames.{Distinct}
use Rattle.m3_laws.specs.CommandRecord.{IsBeingRepliedTo, IsRecordFor}
use Rattle.m3_base.specs.Ideal.Step.{after_ending}

-- what an answer gives back is what its endpoint gains
pub weight-settled : (g : ℕ) (k : Kind) (t : ℕ) (answer : Answer) (e : Endpoint) → IsRecordFor k t e → weight g (endpoint_after_answer k t answer e) ≡ weight g e + one (is_refusal answer && gives_back g k t e)
weight-settled g Sending t (Answer.Refused why) (Sends r) h = grind (arith, nat_tests)
weight-settled g Sending t Answer.Sent (Sends r) h = grind arith
weight-settled g Sending t Answer.Replied (Sends r) h = grind arith
weight-settled g Sending t Answer.Written (Sends r) h = grind arith
weight-settled g Sending t (Answer.Bytes bytes) (Sends r) h = grind arith
weight-settled g Replying t (Answer.Refused why) (Receives r) h = given_back (fetched_at t r.fetched) refl h
  where
    given_back : (o : Option Fetched) → fetched_at t r.fetched ≡ o → IsBeingRepliedTo (fetched_at t r.fetched) → weight g (Receives (with_mark_at false r t)) ≡ weight g (Receives r) + one (gives_back g Replying t (Receives r))
    given_back o e h = grind (arith, nat_tests, owed-with_mark g t false r.fetched)
weight-settled g Replying t Answer.Replied (Receives r) h = grind (arith, nat_tests, owed-without_token g t r.fetched)
weight-settled g Replying t Answer.Sent (Receives r) h = grind arith
weight-settled g Replying t Answer.Written (Receives r) h = grind arith
weight-settled g Replying t (Answer.Bytes bytes) (Receives r) h = grind arith
weight-settled g Reading t answer (Reaches r) h = grind arith
weight-settled g Writing t answer (Reaches r) h = grind arith
weight-settled g k t answer e h = omega arith

-- at most this command flies
abbrev pub OnlyFlies : Flying → Context → Type 0
OnlyFlies f c = c.flying ≡ f ∷ []

none_left : (f : Flying) (k : ℕ) → flying_at k (without_flying f.number (f ∷ [])) ≡ None
none_left f k = grind (arith, nat_tests)

not_flying : (f : Flying) (k : ℕ) → k ≢ f.number → flying_at k (f ∷ []) ≡ None
not_flying f k h = grind (arith, nat_tests)

pub answered_moved : (f : Flying) (answer : Answer) (c : Context) → OnlyFlies f c → Moved f.number c (context_after_answer f answer c)
answered_moved f answer c only = record {
  act = refl;
  back = λ g k ne.
      ap (gives_back_by g (context_after_answer f answer c)) (ap (λ fs. flying_at k (without_flying f.number fs)) only ∙ none_left f k)
      ∙ sym (ap (gives_back_by g c) (ap (flying_at k) only ∙ not_flying f k ne));
}

not_free : (k : Kind) (t : ℕ) (e : Endpoint) → IsRecordFor k t e → e ≢ Free
not_free Sending t e h q = subst (IsRecordFor Sending t) q h
not_free Replying t e h q = subst (IsRecordFor Replying t) q h
not_free Reading t e h q = subst (IsRecordFor Reading t) q h
not_free Writing t e h q = subst (IsRecordFor Writing t) q h

pub weight-answered : (g : ℕ) (f : Flying) (answer : Answer) (c : Context) → IsRecordFor f.kind f.token (endpoint c f.ep) → context_weight g (context_after_answer f answer c) ≡ context_weight g c + one (is_refusal answer && gives_back g f.kind f.token (endpoint c f.ep))
weight-answered g f answer c h =
    omega (
      arith,
      weight-settled g f.kind f.token answer (endpoint c f.ep) h,
      weight-with_endpoint g c.endpoints f.ep (endpoint c f.ep) (endpoint_after_answer f.kind f.token answer (endpoint c f.ep)) refl (not_free f.kind f.token (endpoint c f.ep) h),
    )

carries_own : (g : ℕ) (s : State) (id : FlightId) (answer : Answer) (c : Context) (f : Flying) → context_of id.issuer s.contexts ≡ Some c → flying_at id.number c.flying ≡ Some f → carries_credit g s.contexts (Packet.Answer id answer) ≡ (is_refusal answer && gives_back g f.kind f.token (endpoint c f.ep))
carries_own g s id answer c f at flies = rw (at, flies) refl

-- an answer comes to the only flying command of its issuer
pub answer_keeps : (g : ℕ) (s : State) (id : FlightId) (answer : Answer) (c : Context) (f : Flying) → context_of id.issuer s.contexts ≡ Some c → c.act ≡ id.issuer → OnlyFlies f c → f.number ≡ id.number → IsRecordFor f.kind f.token (endpoint c f.ep) → flight id s.flights ≡ Some (Packet.Answer id answer) → Distinct s.flights → credits g (after_ending s id (context_after_answer f answer c)) ≡ credits g s
answer_keeps g s id answer c f at act only number stands find ds =
    let flies : flying_at id.number c.flying ≡ Some f = rw only (grind (arith, nat_tests, number)) in
    let here : context_of (context_after_answer f answer c).act s.contexts ≡ Some c = subst (λ a. context_of a s.contexts ≡ Some c) (sym act) at in
    let moved : Moved id.number c (context_after_answer f answer c) = subst (λ n. Moved n c (context_after_answer f answer c)) number (answered_moved f answer c only) in
    credits_are g (after_ending s id (context_after_answer f answer c))
    ∙ credits_ended g id s.contexts s.flights c (context_after_answer f answer c) (Packet.Answer id answer) moved act here find ds refl (weight-answered g f answer c stands ∙ ap (λ b. context_weight g c + one b) (sym (carries_own g s id answer c f at flies)))
    ∙ sym (credits_are g s)

-- ---- a credit that lands

pub weight-with_credit : (g h : ℕ) (c : Context) → context_weight g (with_credit h c) ≡ context_weight g c + one (has_send h c && (h == g))
weight-with_credit g h c = weight-credited g h c.endpoints
