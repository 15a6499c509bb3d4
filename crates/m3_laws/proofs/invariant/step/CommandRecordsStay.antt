-- The records of flying commands stay, and what an answer gives back stays the same.
use Rattle.std.proofs.Common.{◌≡◌, ◌≢◌, ℕ, Bool, List, [], ◌∷◌, ◌++◌, Some, None, refl, sym, subst, ◌∙◌, ap, arith}
use Rattle.std.specs.Prelude.{Option, ◌==◌}
use Rattle.std.proofs.lemmas.Bool.Decides.{nat_tests}
use Rattle.m3_base.specs.declared.message.Message.{Message}
use Rattle.m3_base.specs.Ideal.Context.{Kind, Sending, Replying, Reading, Writing, SendRecord, Fetched, ReceiveRecord, Endpoint, Free, Sends, Receives}
use Rattle.m3_base.specs.Ideal.ReceiveRecord.{fetched_at, unmarked_message, without_token, with_mark}
use Rattle.m3_base.specs.Ideal.Credits.{gives_back, is_through}
use Rattle.m3_laws.specs.CommandRecord.{IsBeingRepliedTo, IsRecordFor}

-- e may become d: what stands at e stands at d, and gives the same back
pub record Safe (e d : Endpoint) : Type 0 where
  pub stands : (k : Kind) (t : ℕ) → IsRecordFor k t e → IsRecordFor k t d
  pub back : (k : Kind) (t : ℕ) → IsRecordFor k t e → (g : ℕ) → gives_back g k t d ≡ gives_back g k t e

pub safe : (e : Endpoint) → Safe e e
safe e = record { stands = λ k t h. h; back = λ k t h g. refl }

pub safe-then : (a b c : Endpoint) → Safe a b → Safe b c → Safe a c
safe-then a b c x y = record { stands = λ k t h. y.stands k t (x.stands k t h); back = λ k t h g. y.back k t (x.stands k t h) g ∙ x.back k t h g }

-- from a Free endpoint nothing flies
pub safe-free : (d : Endpoint) → Safe Free d
safe-free d = record { stands = none; back = λ k t h g. absurd (never k t h) }
  where
    never : (k : Kind) (t : ℕ) → IsRecordFor k t Free → ⊥
    never Sending t h = h
    never Replying t h = h
    never Reading t h = h
    never Writing t h = h

    none : (k : Kind) (t : ℕ) → IsRecordFor k t Free → IsRecordFor k t d
    none k t h = absurd (never k t h)

-- a send record with another number of credits
pub safe-sends : (r q : SendRecord) → q.grant ≡ r.grant → Safe (Sends r) (Sends q)
safe-sends r q e = record { stands = stay; back = same }
  where
    stay : (k : Kind) (t : ℕ) → IsRecordFor k t (Sends r) → IsRecordFor k t (Sends q)
    stay Sending t h = tt
    stay Replying t h = h
    stay Reading t h = h
    stay Writing t h = h

    same : (k : Kind) (t : ℕ) → IsRecordFor k t (Sends r) → (g : ℕ) → gives_back g k t (Sends q) ≡ gives_back g k t (Sends r)
    same Sending t h g = ap (λ n. n == g) e
    same Replying t h g = refl
    same Reading t h g = refl
    same Writing t h g = refl

pub safe-receives : (r q : ReceiveRecord) → ((t : ℕ) → IsBeingRepliedTo (fetched_at t r.fetched) → fetched_at t q.fetched ≡ fetched_at t r.fetched) → Safe (Receives r) (Receives q)
safe-receives r q e = record { stands = stay; back = same }
  where
    stay : (k : Kind) (t : ℕ) → IsRecordFor k t (Receives r) → IsRecordFor k t (Receives q)
    stay Sending t h = h
    stay Replying t h = subst IsBeingRepliedTo (sym (e t h)) h
    stay Reading t h = h
    stay Writing t h = h

    same : (k : Kind) (t : ℕ) → IsRecordFor k t (Receives r) → (g : ℕ) → gives_back g k t (Receives q) ≡ gives_back g k t (Receives r)
    same Sending t h g = refl
    same Replying t h g = ap (is_through g) (e t h)
    same Reading t h g = refl
    same Writing t h g = refl

-- ---- the changes of fetched messages

pub fetched_at-push : (t : ℕ) (f : Fetched) (fs : List Fetched) → IsBeingRepliedTo (fetched_at t fs) → fetched_at t (fs ++ f ∷ []) ≡ fetched_at t fs
fetched_at-push t f [] h = absurd h
fetched_at-push t f (x ∷ fs) h = grind (arith, fetched_at-push t f fs)

pub fetched_at-without : (t u : ℕ) (fs : List Fetched) → t ≢ u → fetched_at t (without_token u fs) ≡ fetched_at t fs
fetched_at-without t u [] h = refl
fetched_at-without t u (x ∷ fs) h = grind (arith, nat_tests, fetched_at-without t u fs h)

pub fetched_at-mark : (t u : ℕ) (b : Bool) (fs : List Fetched) → t ≢ u → fetched_at t (with_mark b u fs) ≡ fetched_at t fs
fetched_at-mark t u b [] h = refl
fetched_at-mark t u b (x ∷ fs) h = grind (arith, nat_tests, fetched_at-mark t u b fs h)

-- one that is being replied to has another token than one that isn't marked
pub apart_tokens : (t u : ℕ) (m : Message) (fs : List Fetched) → IsBeingRepliedTo (fetched_at t fs) → unmarked_message (fetched_at u fs) ≡ Some m → t ≢ u
apart_tokens t u m fs h e same = clash (fetched_at u fs) (subst (λ v. IsBeingRepliedTo (fetched_at v fs)) same h) e
  where
    clash : (o : Option Fetched) → IsBeingRepliedTo o → unmarked_message o ≡ Some m → ⊥
    clash None h e = h
    clash (Some f) h e = grind (arith, h.0)
