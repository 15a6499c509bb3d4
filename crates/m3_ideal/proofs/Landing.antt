-- A credit and a message that joins change different records.
use Rattle.std.proofs.Common.{◌≡◌, ℕ, zero, suc, Bool, true, false, List, [], ◌∷◌, None, Ok, Err, refl, sym, subst, ap, ◌∙◌, arith}
use Rattle.std.specs.Result.{is_err}
use Rattle.std.specs.Prelude.{Result, OnOk, ◌==◌, slice_set, slice_index_or, if◌then◌else◌, Option}
use Rattle.m3_base.specs.declared.message.Message.{Message}
use Rattle.m3_base.specs.declared.command.Refusal.{Refusal}
use Rattle.m3_base.specs.Ideal.Context.{Context, Endpoint, Free, Sends, Receives, Reaches, endpoint, with_endpoint}
use Rattle.m3_base.specs.Ideal.Landing.{land_refusal, with_message, endpoints_with_credit, one_more, with_credit, after_message}
use Rattle.m3_ideal.specs.Landing.{credited_by, Lands}
use Rattle.m3_base.specs.Ideal.EndpointStep.{joined_if}

refusal_in : (h g : ℕ) (m : Message) (es : List Endpoint) (i : ℕ) → land_refusal h m (slice_index_or (endpoints_with_credit g es) i Free) ≡ land_refusal h m (slice_index_or es i Free)
refusal_in h g m [] i = refl
refusal_in h g m (Free ∷ es) zero = refl
refusal_in h g m (Receives r ∷ es) zero = refl
refusal_in h g m (Reaches r ∷ es) zero = refl
refusal_in h g m (Sends r ∷ es) zero = by_test (r.grant == g)
  where
    by_test : (b : Bool) → land_refusal h m (slice_index_or (if b then Sends (one_more r) ∷ es else Sends r ∷ endpoints_with_credit g es) zero Free) ≡ land_refusal h m (Sends r)
    by_test true = refl
    by_test false = refl
refusal_in h g m (Free ∷ es) (suc i) = refusal_in h g m es i
refusal_in h g m (Receives r ∷ es) (suc i) = refusal_in h g m es i
refusal_in h g m (Reaches r ∷ es) (suc i) = refusal_in h g m es i
refusal_in h g m (Sends r ∷ es) (suc i) = by_test (r.grant == g) (refusal_in h g m es i)
  where
    by_test : (b : Bool) → land_refusal h m (slice_index_or (endpoints_with_credit g es) i Free) ≡ land_refusal h m (slice_index_or es i Free)
        → land_refusal h m (slice_index_or (if b then Sends (one_more r) ∷ es else Sends r ∷ endpoints_with_credit g es) (suc i) Free) ≡ land_refusal h m (slice_index_or es i Free)
    by_test true more = refl
    by_test false more = more

joined_in : (g : ℕ) (m : Message) (es : List Endpoint) (i : ℕ)
    → slice_set (endpoints_with_credit g es) i (with_message m (slice_index_or (endpoints_with_credit g es) i Free)) ≡ endpoints_with_credit g (slice_set es i (with_message m (slice_index_or es i Free)))
joined_in g m [] i = refl
joined_in g m (Free ∷ es) zero = refl
joined_in g m (Receives r ∷ es) zero = refl
joined_in g m (Reaches r ∷ es) zero = refl
joined_in g m (Sends r ∷ es) zero = by_test (r.grant == g)
  where
    by_test : (b : Bool) → slice_set (if b then Sends (one_more r) ∷ es else Sends r ∷ endpoints_with_credit g es) zero (with_message m (slice_index_or (if b then Sends (one_more r) ∷ es else Sends r ∷ endpoints_with_credit g es) zero Free)) ≡ (if b then Sends (one_more r) ∷ es else Sends r ∷ endpoints_with_credit g es)
    by_test true = refl
    by_test false = refl
joined_in g m (Free ∷ es) (suc i) = grind (arith, joined_in g m es i)
joined_in g m (Receives r ∷ es) (suc i) = grind (arith, joined_in g m es i)
joined_in g m (Reaches r ∷ es) (suc i) = grind (arith, joined_in g m es i)
joined_in g m (Sends r ∷ es) (suc i) = by_test (r.grant == g) (joined_in g m es i)
  where
    by_test : (b : Bool)
        → slice_set (endpoints_with_credit g es) i (with_message m (slice_index_or (endpoints_with_credit g es) i Free)) ≡ endpoints_with_credit g (slice_set es i (with_message m (slice_index_or es i Free)))
        → slice_set (if b then Sends (one_more r) ∷ es else Sends r ∷ endpoints_with_credit g es) (suc i) (with_message m (slice_index_or (if b then Sends (one_more r) ∷ es else Sends r ∷ endpoints_with_credit g es) (suc i) Free)) ≡ (if b then Sends (one_more r) ∷ slice_set es i (with_message m (slice_index_or es i Free)) else Sends r ∷ endpoints_with_credit g (slice_set es i (with_message m (slice_index_or es i Free))))
    by_test true more = refl
    by_test false more = ap (λ z. Sends r ∷ z) more

refusal_credited : (h g : ℕ) (m : Message) (c : Context) (ep : ℕ) → land_refusal h m (endpoint (with_credit g c) ep) ≡ land_refusal h m (endpoint c ep)
refusal_credited h g m c ep = refusal_in h g m c.endpoints ep

joined_credited : (g : ℕ) (m : Message) (c : Context) (ep : ℕ)
    → with_endpoint (with_credit g c) ep (with_message m (endpoint (with_credit g c) ep)) ≡ with_credit g (with_endpoint c ep (with_message m (endpoint c ep)))
joined_credited g m c ep = grind (arith, joined_in g m c.endpoints ep)

refusal_same : (g : ℕ) (m : Message) (c : Context) (ep : ℕ) → land_refusal g m (endpoint (credited_by m c) ep) ≡ land_refusal g m (endpoint c ep)
refusal_same g m c ep = by_test (m.header.flags == 0)
  where
    by_test : (b : Bool) → land_refusal g m (endpoint (if b then c else with_credit m.header.send c) ep) ≡ land_refusal g m (endpoint c ep)
    by_test true = refl
    by_test false = refusal_credited g m.header.send m c ep

taken_after : (m : Message) (c : Context) (ep : ℕ) → with_endpoint (credited_by m c) ep (with_message m (endpoint (credited_by m c) ep)) ≡ after_message ep m c
taken_after m c ep = by_test (m.header.flags == 0)
  where
    by_test : (b : Bool) → with_endpoint (if b then c else with_credit m.header.send c) ep (with_message m (endpoint (if b then c else with_credit m.header.send c) ep))
        ≡ (if b then with_endpoint c ep (with_message m (endpoint c ep)) else with_credit m.header.send (with_endpoint c ep (with_message m (endpoint c ep))))
    by_test true = refl
    by_test false = joined_credited m.header.send m c ep

-- a credit first, and then the message
pub lands_after : (ep g : ℕ) (m : Message) (c d new : Context) (r : Option Refusal) → land_refusal g m (endpoint c ep) ≡ None → d ≡ credited_by m c
    → r ≡ land_refusal g m (endpoint d ep) → new ≡ with_endpoint d ep (joined_if r m (endpoint d ep)) → Lands (Ok r) ep g m c new
lands_after ep g m c d new r n k e w =
    let none : r ≡ None = e ∙ ap (λ z. land_refusal g m (endpoint z ep)) k ∙ refusal_same g m c ep ∙ n in
    let last : new ≡ after_message ep m c = w ∙ ap (λ z. with_endpoint d ep (joined_if z m (endpoint d ep))) none ∙ ap (λ z. with_endpoint z ep (with_message m (endpoint z ep))) k ∙ taken_after m c ep in
    subst (λ z. Lands (Ok z) ep g m c new) (sym none) (n, last)

-- a call that is no error did what it says
pub given_back : {T E : Type 0} {X : Type 0} (a b : X) (r : Result T E) → OnOk r (a ≡ b) → is_err r ≡ false → a ≡ b
given_back a b (Ok x) h e = h
given_back a b (Err x) h e = absurd cc
