-- An answer leaves its command's context in order, and each other command its flight.
use Rattle.std.proofs.Common.{◌≡◌, ◌≢◌, ℕ, zero, suc, ◌+◌, ◌≤◌, Bool, true, false, List, [], ◌∷◌, get_or, set, Some, None, refl, sym, subst, ◌∙◌, ap, arith}
use Rattle.std.specs.Prelude.{Option, ◌==◌, ◌&&◌}
use Rattle.std.proofs.lemmas.Bool.Decides.{nat_tests}
use Rattle.std.proofs.lemmas.List.{get_or-set_same, get_or-set_other}
use Rattle.m3_base.specs.Lists.Counting.{one, how_many}
use Rattle.m3_base.specs.declared.packet.Packet.{Packet}
use Rattle.m3_base.specs.declared.command.Answer.{Answer}
use Rattle.m3_base.specs.Ideal.Context.{Kind, Sending, Replying, Reading, Writing, Flying, Fetched, Endpoint, Free, Sends, Receives, Reaches, Context, endpoint}
use Rattle.m3_base.specs.Ideal.ReceiveRecord.{fetched_at, without_token, with_mark, with_mark_at, has_mark}
use Rattle.m3_base.specs.Ideal.Landing.{flying_at, without_flying, context_after_answer, endpoint_after_answer, one_more}
use Rattle.m3_base.specs.Ideal.Acceptance.{is_answer_for}
use Rattle.m3_base.specs.Ideal.Flights.{flight}
use Rattle.m3_laws.specs.WellFormed.{is_replying}
use Rattle.m3_laws.specs.CommandFlights.{fetched_in, IsFlightOf, HasFlight, AllFly, replies_to, TokensAscend, ContextInOrder}
use Rattle.m3_laws.proofs.credits.Issue.{in_range}
use Rattle.m3_laws.proofs.invariant.step.CommandRecordsStay.{fetched_at-without, fetched_at-mark}
use Rattle.m3_laws.proofs.invariant.commands.ListChanges.{tokens-without, tokens-mark, fetched_at-gone, message_at-mark, marked-mark, numbers-without, flying_at-gone, flying_at-without, flying_number, how_many-without_flying, two_flying}
use Rattle.m3_laws.proofs.invariant.commands.ChangeKeeps.{has_kept, flight_kept, kept_set, each_set, replies_same, flight_freed}

-- ---- the endpoint of the command

-- the mark of a message after an answer, where no other command replies to it
marked-settled : (k : Kind) (token t : ℕ) (answer : Answer) (e : Endpoint) → is_answer_for k answer ≡ true → TokensAscend e → one (has_mark (fetched_in t (endpoint_after_answer k token answer e))) + one (is_replying k && ((token == t) && has_mark (fetched_in t e))) ≡ one (has_mark (fetched_in t e))
marked-settled Sending token t (Answer.Refused why) (Sends r) ok h = refl
marked-settled Replying token t Answer.Replied (Receives r) ok h = by_token (token == t) refl
  where
    by_token : (b : Bool) → (token == t) ≡ b → one (has_mark (fetched_at t (without_token token r.fetched))) + one (b && has_mark (fetched_at t r.fetched)) ≡ one (has_mark (fetched_at t r.fetched))
    by_token false w = let same = ap (λ z. one (has_mark z)) (fetched_at-without t token r.fetched (λ q. grind (arith, nat_tests, w, q))) in omega (arith, same)
    by_token true w =
        let its : token ≡ t = grind (arith, nat_tests, w) in
        let gone = ap (λ z. one (has_mark z)) (subst (λ z. fetched_at z (without_token token r.fetched) ≡ None) its (fetched_at-gone token 0 r.next_token r.fetched h)) in
        omega (arith, gone)
marked-settled Replying token t (Answer.Refused why) (Receives r) ok h = by_token (token == t) refl
  where
    by_fetched : token ≡ t → (o : Option Fetched) → fetched_at t r.fetched ≡ o → one (has_mark (fetched_at t (with_mark false token r.fetched))) + one (has_mark (fetched_at t r.fetched)) ≡ one (has_mark (fetched_at t r.fetched))
    by_fetched its None w =
        let none = ap (λ z. one (has_mark z)) w in
        let still = still_none r.fetched w in
        let gone = ap (λ z. one (has_mark z)) still in
        omega (arith, none, gone)
      where
        still_none : (fs : List Fetched) → fetched_at t fs ≡ None → fetched_at t (with_mark false token fs) ≡ None
        still_none [] q = refl
        still_none (x ∷ fs) q = grind (arith, nat_tests, its, q, still_none fs)
    by_fetched its (Some f) w =
        let gone = ap one (subst (λ z. has_mark (fetched_at t (with_mark false z r.fetched)) ≡ false) (sym its) (marked-mark false t f r.fetched w)) in
        omega (arith, gone)

    by_token : (b : Bool) → (token == t) ≡ b → one (has_mark (fetched_at t (with_mark false token r.fetched))) + one (b && has_mark (fetched_at t r.fetched)) ≡ one (has_mark (fetched_at t r.fetched))
    by_token false w = let same = ap (λ z. one (has_mark z)) (fetched_at-mark t token false r.fetched (λ q. grind (arith, nat_tests, w, q))) in omega (arith, same)
    by_token true w = by_fetched (grind (arith, nat_tests, w)) (fetched_at t r.fetched) refl
marked-settled Replying token t answer Free ok h = grind arith
marked-settled Replying token t answer (Sends r) ok h = grind arith
marked-settled Replying token t answer (Reaches r) ok h = grind arith
marked-settled Replying token t Answer.Sent (Receives r) ok h = absurd (cc)
marked-settled Replying token t Answer.Written (Receives r) ok h = absurd (cc)
marked-settled Replying token t (Answer.Bytes bytes) (Receives r) ok h = absurd (cc)
marked-settled Sending token t answer e ok h = omega arith
marked-settled Reading token t answer e ok h = omega arith
marked-settled Writing token t answer e ok h = omega arith

tokens-settled : (k : Kind) (token : ℕ) (answer : Answer) (e : Endpoint) → TokensAscend e → TokensAscend (endpoint_after_answer k token answer e)
tokens-settled Sending token (Answer.Refused why) (Sends r) h = h
tokens-settled Replying token Answer.Replied (Receives r) h = tokens-without token 0 r.next_token r.fetched h
tokens-settled Replying token (Answer.Refused why) (Receives r) h = tokens-mark false token 0 r.next_token r.fetched h
tokens-settled k token answer e h = h

-- the flight of another command of this endpoint, that replies to no such message
flight-settled : (k : Kind) (token : ℕ) (answer : Answer) (e : Endpoint) (x : Flying) (p : Packet) → (is_replying k && (is_replying x.kind && (x.token == token))) ≡ false → IsFlightOf x.kind x.token e p → IsFlightOf x.kind x.token (endpoint_after_answer k token answer e) p
flight-settled Sending token (Answer.Refused why) (Sends r) x p other h = flight_kept x.kind x.token (Sends r) (Sends (one_more r)) p refl (λ w. replies_same x.token (Sends r) (Sends (one_more r)) refl) h
flight-settled Replying token Answer.Replied (Receives r) x p other h = flight_freed r token x p other h
flight-settled Replying token (Answer.Refused why) (Receives r) x p other h = flight_kept x.kind x.token (Receives r) (Receives (with_mark_at false r token)) p refl (λ w. replies_same x.token (Receives r) (Receives (with_mark_at false r token)) (message_at-mark false x.token token r.fetched)) h
flight-settled k token answer e x p other h = h

-- ---- the context

module _ (f : Flying) (n : ℕ) (answer : Answer) (c : Context) (h : ContextInOrder c) (flies : flying_at n c.flying ≡ Some f) where
  number : f.number ≡ n
  number = flying_number n f c.flying flies

  mine : flying_at f.number c.flying ≡ Some f
  mine = subst (λ z. flying_at z c.flying ≡ Some f) (sym number) flies

  -- its message is marked for it alone
  own_mark : is_replying f.kind ≡ true → has_mark (fetched_in f.token (endpoint c f.ep)) ≡ true
  own_mark w =
      let here : replies_to f.ep f.token f ≡ true = grind (arith, nat_tests, w) in
      let less = how_many-without_flying (replies_to f.ep f.token) n f c.flying flies in
      let all = h.marks f.ep f.token in
      let x = ap one here in
      by_mark (has_mark (fetched_in f.token (endpoint c f.ep))) (omega (arith, less, all, x))
    where
      by_mark : (b : Bool) → 1 ≤ one b → b ≡ true
      by_mark true z = refl
      by_mark false z = absurd (omega (arith, z))

  -- no other command replies to it
  alone : (k : ℕ) (x : Flying) → k ≢ n → flying_at k c.flying ≡ Some x → f.ep ≡ x.ep → (is_replying f.kind && (is_replying x.kind && (x.token == f.token))) ≡ false
  alone k x ne e q = by_test (is_replying f.kind && (is_replying x.kind && (x.token == f.token))) refl
    where
      by_test : (b : Bool) → (is_replying f.kind && (is_replying x.kind && (x.token == f.token))) ≡ b → b ≡ false
      by_test false w = refl
      by_test true w =
          let here : replies_to f.ep f.token f ≡ true = grind (arith, nat_tests, w) in
          let there : replies_to f.ep f.token x ≡ true = grind (arith, nat_tests, w, q) in
          let two = two_flying (replies_to f.ep f.token) n k f x c.flying flies e ne here there in
          let all = h.marks f.ep f.token in
          absurd (at_most (has_mark (fetched_in f.token (endpoint c f.ep))) (omega (arith, two, all)))
        where
          at_most : (b : Bool) → 2 ≤ one b → ⊥
          at_most true z = omega (arith, z)
          at_most false z = omega (arith, z)

  abbrev after : Context
  after = context_after_answer f answer c

  marks_after : is_answer_for f.kind answer ≡ true → (ep t : ℕ) → how_many (replies_to ep t) after.flying ≡ one (has_mark (fetched_in t (endpoint after ep)))
  marks_after ok ep t =
      let less = how_many-without_flying (replies_to ep t) f.number f c.flying mine in
      let old = h.marks ep t in
      by_ep (f.ep == ep) refl less old
    where
      by_ep : (b : Bool) → (f.ep == ep) ≡ b → how_many (replies_to ep t) (without_flying f.number c.flying) + one (replies_to ep t f) ≡ how_many (replies_to ep t) c.flying → how_many (replies_to ep t) c.flying ≡ one (has_mark (fetched_in t (endpoint c ep))) → how_many (replies_to ep t) after.flying ≡ one (has_mark (fetched_in t (endpoint after ep)))
      by_ep false w less old =
          let no_match : one (replies_to ep t f) ≡ 0 = off (is_replying f.kind) (f.token == t) w in
          let same = ap (λ z. one (has_mark (fetched_in t z))) (get_or-set_other c.endpoints f.ep ep (endpoint_after_answer f.kind f.token answer (endpoint c f.ep)) Free (λ q. grind (arith, nat_tests, w, q))) in
          omega (arith, less, old, no_match, same)
        where
          off : (a d : Bool) → (f.ep == ep) ≡ false → one (a && ((f.ep == ep) && d)) ≡ 0
          off true d z = rw z refl
          off false d z = refl
      by_ep true w less old = by_end (endpoint c f.ep) refl
        where
          here : f.ep ≡ ep
          here = grind (arith, nat_tests, w)

          -- where the endpoint is there
          at_end : (e : Endpoint) → endpoint c f.ep ≡ e → endpoint after f.ep ≡ endpoint_after_answer f.kind f.token answer e → how_many (replies_to ep t) after.flying ≡ one (has_mark (fetched_in t (endpoint after ep)))
          at_end e at new =
              let step = marked-settled f.kind f.token t answer e ok (subst TokensAscend at (h.tokens f.ep)) in
              let now = ap (λ z. one (has_mark (fetched_in t z))) (subst (λ z. endpoint after z ≡ endpoint_after_answer f.kind f.token answer e) here new) in
              let was = ap (λ z. one (has_mark (fetched_in t z))) (subst (λ z. endpoint c z ≡ e) here at) in
              let own = match (is_replying f.kind) refl (f.token == t) refl in
              omega (arith, less, old, step, now, was, own)
            where
              match : (a : Bool) → is_replying f.kind ≡ a → (d : Bool) → (f.token == t) ≡ d → one (replies_to ep t f) ≡ one (is_replying f.kind && ((f.token == t) && has_mark (fetched_in t e)))
              match false v d z = rw v refl
              match true v false z = rw v (rw z (rw w refl))
              match true v true z =
                  let token : f.token ≡ t = grind (arith, nat_tests, z) in
                  let marked : has_mark (fetched_in t e) ≡ true = subst (λ y. has_mark (fetched_in y e) ≡ true) token (subst (λ y. has_mark (fetched_in f.token y) ≡ true) at (own_mark v)) in
                  rw v (rw z (rw w (rw marked refl)))

          there : (e : Endpoint) → endpoint c f.ep ≡ e → e ≢ Free → endpoint after f.ep ≡ endpoint_after_answer f.kind f.token answer e
          there e at used = subst (λ z. get_or (set c.endpoints f.ep (endpoint_after_answer f.kind f.token answer z)) f.ep Free ≡ endpoint_after_answer f.kind f.token answer e) (sym at) (get_or-set_same c.endpoints f.ep (endpoint_after_answer f.kind f.token answer e) Free (in_range c.endpoints f.ep (λ q. used (sym at ∙ q))))

          by_end : (e : Endpoint) → endpoint c f.ep ≡ e → how_many (replies_to ep t) after.flying ≡ one (has_mark (fetched_in t (endpoint after ep)))
          by_end Free at = at_end Free at (free_after at)
            where
              settled_free : (k : Kind) (token : ℕ) (answer : Answer) → endpoint_after_answer k token answer Free ≡ Free
              settled_free Sending token Answer.Sent = refl
              settled_free Sending token Answer.Replied = refl
              settled_free Sending token (Answer.Bytes bytes) = refl
              settled_free Sending token Answer.Written = refl
              settled_free Sending token (Answer.Refused why) = refl
              settled_free Replying token Answer.Sent = refl
              settled_free Replying token Answer.Replied = refl
              settled_free Replying token (Answer.Bytes bytes) = refl
              settled_free Replying token Answer.Written = refl
              settled_free Replying token (Answer.Refused why) = refl
              settled_free Reading token answer = refl
              settled_free Writing token answer = refl

              set_free : (es : List Endpoint) (i : ℕ) → get_or es i Free ≡ Free → get_or (set es i Free) i Free ≡ Free
              set_free [] i q = refl
              set_free (x ∷ es) zero q = refl
              set_free (x ∷ es) (suc i) q = set_free es i q

              free_after : endpoint c f.ep ≡ Free → endpoint after f.ep ≡ endpoint_after_answer f.kind f.token answer Free
              free_after q = subst (λ z. get_or (set c.endpoints f.ep (endpoint_after_answer f.kind f.token answer z)) f.ep Free ≡ endpoint_after_answer f.kind f.token answer Free) (sym q) (subst (λ z. get_or (set c.endpoints f.ep z) f.ep Free ≡ z) (sym (settled_free f.kind f.token answer)) (set_free c.endpoints f.ep q))
          by_end (Sends r) at = at_end (Sends r) at (there (Sends r) at (λ q. cc))
          by_end (Receives r) at = at_end (Receives r) at (there (Receives r) at (λ q. cc))
          by_end (Reaches r) at = at_end (Reaches r) at (there (Reaches r) at (λ q. cc))

  pub answered_in_order : is_answer_for f.kind answer ≡ true → ContextInOrder after
  answered_in_order ok = record {
    numbers = numbers-without f.number 0 c.next c.flying h.numbers;
    tokens = each_set (λ j e. TokensAscend e) c f.ep (endpoint_after_answer f.kind f.token answer (endpoint c f.ep)) h.tokens (tokens-settled f.kind f.token answer (endpoint c f.ep) (h.tokens f.ep));
    marks = marks_after ok;
  }

  -- each other command keeps its flight, while the flights of other names stay
  pub answered_fly : (fs hs : List Packet) → ((k : ℕ) → k ≢ n → flight (record { issuer = c.act; number = k }) hs ≡ flight (record { issuer = c.act; number = k }) fs) → AllFly fs c → AllFly hs after
  answered_fly fs hs same a k x e = by_number (k == n) refl
    where
      by_number : (b : Bool) → (k == n) ≡ b → HasFlight x (endpoint after x.ep) (flight (record { issuer = c.act; number = k }) hs)
      by_number true w =
          let its : k ≡ f.number = grind (arith, nat_tests, w, number) in
          let gone : flying_at k (without_flying f.number c.flying) ≡ None = subst (λ z. flying_at z (without_flying f.number c.flying) ≡ None) (sym its) (flying_at-gone f.number 0 c.next c.flying h.numbers) in
          absurd (cc)
      by_number false w =
          let ne : k ≢ n = (λ q. grind (arith, nat_tests, w, q)) in
          let old : flying_at k c.flying ≡ Some x = sym (flying_at-without k f.number c.flying (λ q. ne (q ∙ number))) ∙ e in
          let has = has_kept x (endpoint c x.ep) (endpoint after x.ep) (λ p y. kept_set x p c f.ep (endpoint_after_answer f.kind f.token answer (endpoint c f.ep)) (λ q z. flight-settled f.kind f.token answer (endpoint c f.ep) x p (alone k x ne old q) z) y) (flight (record { issuer = c.act; number = k }) fs) (a k x old) in
          subst (HasFlight x (endpoint after x.ep)) (sym (same k ne)) has
