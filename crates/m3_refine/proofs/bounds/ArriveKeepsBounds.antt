-- What arrives leaves next numbers and next tokens.
use Rattle.std.proofs.Common.{◌≡◌, ℕ, zero, suc, ◌+◌, ◌≤◌, Bool, true, false, List, [], ◌∷◌, get_or, set, Option, Some, None, refl, sym, subst, arith}
use Rattle.std.specs.Prelude.{if◌then◌else◌, ◌==◌}
use Rattle.m3_base.specs.declared.command.Refusal.{Refusal}
use Rattle.m3_base.specs.declared.command.Answer.{Answer}
use Rattle.m3_base.specs.declared.message.Message.{Message}
use Rattle.m3_base.specs.declared.packet.Fresh.{Fresh}
use Rattle.m3_base.specs.declared.packet.Packet.{Packet}
use Rattle.m3_base.specs.declared.ids.FlightId.{FlightId}
use Rattle.m3_base.specs.Ideal.Context.{Kind, Sending, Replying, Reading, Writing, Flying, Endpoint, Free, Sends, Receives, Reaches, Context, endpoint, with_endpoint, new_endpoint}
use Rattle.m3_base.specs.Ideal.Landing.{sends_by, more_at, endpoints_with_credit, with_credit, land_by, land_refusal, with_message, after_message, has_live, closed_at, flies_at, flying_at, endpoint_after_answer, context_after_answer, freed_grant}
use Rattle.m3_base.specs.Ideal.Arrival.{Arrival, arrive, answer_arrives, close_arrives, freed_context}
use Rattle.m3_model.specs.Config.KnownActivities.{next_token_at}
use Rattle.m3_model.specs.NumberBounds.{HasBoundedCounters}
use Rattle.m3_refine.proofs.bounds.RiseByOne.{token_set}

-- a context with the same next number, and an endpoint of as low a token
low_at : (n ep : ℕ) (c d : Context) (e : Endpoint) → HasBoundedCounters n c → d.next ≡ c.next → d.endpoints ≡ set c.endpoints ep e → next_token_at e ≤ n → HasBoundedCounters n d
low_at n ep c d e h next same token = record {
  number = subst (λ (k : ℕ). k ≤ n + 1) (sym next) h.number;
  tokens = λ k. subst (λ (es : List Endpoint). next_token_at (get_or es k Free) ≤ n) (sym same) (token_set n ep k c.endpoints e h.tokens token);
}

more_same : (e : Endpoint) → next_token_at (more_at e) ≡ next_token_at e
more_same Free = refl
more_same (Sends r) = refl
more_same (Receives r) = refl
more_same (Reaches r) = refl

credited_same : (g : ℕ) (es : List Endpoint) (k : ℕ) → next_token_at (get_or (endpoints_with_credit g es) k Free) ≡ next_token_at (get_or es k Free)
credited_same g [] k = refl
credited_same g (e ∷ es) k = by_test (credited_same g es) (sends_by g e) k
  where
    by_test : ((j : ℕ) → next_token_at (get_or (endpoints_with_credit g es) j Free) ≡ next_token_at (get_or es j Free)) → (b : Bool) (j : ℕ) → next_token_at (get_or (if b then more_at e ∷ es else e ∷ endpoints_with_credit g es) j Free) ≡ next_token_at (get_or (e ∷ es) j Free)
    by_test ih true zero = more_same e
    by_test ih true (suc j) = refl
    by_test ih false zero = refl
    by_test ih false (suc j) = ih j

credit_low : (n g : ℕ) (c : Context) → HasBoundedCounters n c → HasBoundedCounters n (with_credit g c)
credit_low n g c h = record { number = h.number; tokens = λ k. subst (λ (t : ℕ). t ≤ n) (sym (credited_same g c.endpoints k)) (h.tokens k) }

joined_same : (m : Message) (e : Endpoint) → next_token_at (with_message m e) ≡ next_token_at e
joined_same m Free = refl
joined_same m (Sends r) = refl
joined_same m (Receives r) = refl
joined_same m (Reaches r) = refl

taken_low : (n ep : ℕ) (m : Message) (c : Context) → HasBoundedCounters n c → HasBoundedCounters n (after_message ep m c)
taken_low n ep m c h = by_kind (m.header.flags == 0)
  where
    here : HasBoundedCounters n (with_endpoint c ep (with_message m (endpoint c ep)))
    here = low_at n ep c _ (with_message m (endpoint c ep)) h refl refl (subst (λ (t : ℕ). t ≤ n) (sym (joined_same m (endpoint c ep))) (h.tokens ep))

    by_kind : (b : Bool) → HasBoundedCounters n (if b then with_endpoint c ep (with_message m (endpoint c ep)) else with_credit m.header.send (with_endpoint c ep (with_message m (endpoint c ep))))
    by_kind true = here
    by_kind false = credit_low n m.header.send (with_endpoint c ep (with_message m (endpoint c ep))) here

land_low : (n ep : ℕ) (m : Message) (c : Context) (o : Option Refusal) → HasBoundedCounters n c → HasBoundedCounters n (land_by ep m c o).context
land_low n ep m c None h = taken_low n ep m c h
land_low n ep m c (Some x) h = h

settled_same : (k : Kind) (t : ℕ) (a : Answer) (e : Endpoint) → next_token_at (endpoint_after_answer k t a e) ≡ next_token_at e
settled_same Sending t Answer.Sent e = refl
settled_same Sending t Answer.Replied e = refl
settled_same Sending t Answer.Written e = refl
settled_same Sending t (Answer.Bytes b) e = refl
settled_same Sending t (Answer.Refused x) Free = refl
settled_same Sending t (Answer.Refused x) (Sends r) = refl
settled_same Sending t (Answer.Refused x) (Receives r) = refl
settled_same Sending t (Answer.Refused x) (Reaches r) = refl
settled_same Replying t Answer.Sent e = refl
settled_same Replying t Answer.Replied Free = refl
settled_same Replying t Answer.Replied (Sends r) = refl
settled_same Replying t Answer.Replied (Receives r) = refl
settled_same Replying t Answer.Replied (Reaches r) = refl
settled_same Replying t Answer.Written e = refl
settled_same Replying t (Answer.Bytes b) e = refl
settled_same Replying t (Answer.Refused x) Free = refl
settled_same Replying t (Answer.Refused x) (Sends r) = refl
settled_same Replying t (Answer.Refused x) (Receives r) = refl
settled_same Replying t (Answer.Refused x) (Reaches r) = refl
settled_same Reading t a e = refl
settled_same Writing t a e = refl

answered_low : (n : ℕ) (f : Flying) (a : Answer) (c : Context) → HasBoundedCounters n c → HasBoundedCounters n (context_after_answer f a c)
answered_low n f a c h = low_at n f.ep c (context_after_answer f a c) (endpoint_after_answer f.kind f.token a (endpoint c f.ep)) h refl refl (subst (λ (t : ℕ). t ≤ n) (sym (settled_same f.kind f.token a (endpoint c f.ep))) (h.tokens f.ep))

freed_low : (n ep : ℕ) (c : Context) (o : Option ℕ) → HasBoundedCounters n c → HasBoundedCounters n (freed_context c ep o)
freed_low n ep c None h = h
freed_low n ep c (Some g) h = low_at n ep c (with_endpoint c ep Free) Free h refl refl (omega arith)

abbrev pub AllArrive : ℕ → Option Arrival → Type 0
AllArrive n None = Unit {0}
AllArrive n (Some r) = HasBoundedCounters n r.context

answer_low : (n : ℕ) (c : Context) (id : FlightId) (a : Answer) (o : Option Flying) → HasBoundedCounters n c → AllArrive n (answer_arrives c id a o)
answer_low n c id a None h = tt
answer_low n c id a (Some f) h = freed_low n f.ep (context_after_answer f a c) (freed_grant f.ep (context_after_answer f a c)) (answered_low n f a c h)

opened_low : (n : ℕ) (f : Fresh) → next_token_at (new_endpoint f) ≤ n
opened_low n (Fresh.Send grant to to_ep to_grant label size limit) = omega arith
opened_low n (Fresh.Receive grant slots size) = omega arith
opened_low n (Fresh.Memory grant start extent perm) = omega arith

closed_same : (e : Endpoint) → next_token_at (closed_at e) ≡ next_token_at e
closed_same Free = refl
closed_same (Sends r) = refl
closed_same (Receives r) = refl
closed_same (Reaches r) = refl

close_low : (n : ℕ) (c : Context) (id : FlightId) (ep g : ℕ) (b : Bool) → HasBoundedCounters n c → AllArrive n (close_arrives c id ep g (with_endpoint c ep (closed_at (endpoint c ep))) b)
close_low n c id ep g b h = by_use b
  where
    closing : HasBoundedCounters n (with_endpoint c ep (closed_at (endpoint c ep)))
    closing = low_at n ep c _ (closed_at (endpoint c ep)) h refl refl (subst (λ (t : ℕ). t ≤ n) (sym (closed_same (endpoint c ep))) (h.tokens ep))

    by_use : (x : Bool) → AllArrive n (close_arrives c id ep g (with_endpoint c ep (closed_at (endpoint c ep))) x)
    by_use true = closing
    by_use false = low_at n ep (with_endpoint c ep (closed_at (endpoint c ep))) _ Free closing refl refl (omega arith)

pub arrive_low : (n : ℕ) (c : Context) (p : Packet) → HasBoundedCounters n c → AllArrive n (arrive c p)
arrive_low n c (Packet.Message to ep g m) h = land_low n ep m c (land_refusal g m (endpoint c ep)) h
arrive_low n c (Packet.Credit id to g) h = credit_low n g c h
arrive_low n c (Packet.Read id g place buffer) h = tt
arrive_low n c (Packet.Write id g place payload) h = tt
arrive_low n c (Packet.Answer id answer) h = answer_low n c id answer (flying_at id.number c.flying) h
arrive_low n c (Packet.Install id to ep f) h = low_at n ep c (with_endpoint c ep (new_endpoint f)) (new_endpoint f) h refl refl (opened_low n f)
arrive_low n c (Packet.Close id to ep g) h = by_live (has_live g (endpoint c ep))
  where
    by_live : (b : Bool) → AllArrive n (if b then close_arrives c id ep g (with_endpoint c ep (closed_at (endpoint c ep))) (flies_at ep c) else None)
    by_live true = close_low n c id ep g (flies_at ep c) h
    by_live false = tt
