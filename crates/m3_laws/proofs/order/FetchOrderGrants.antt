-- Orders of grants keep it: what was fetched is the first of what landed.
use Rattle.std.proofs.Common.{◌≡◌, ℕ, ◌+◌, false, List, [], ◌∷◌, ◌++◌, length, Some, None, refl, sym, subst, ◌∙◌, ap, arith, inl, inr}
use Rattle.std.specs.Prelude.{Option, if◌then◌else◌, ◌==◌, ◌⊎◌}
use Rattle.std.specs.Option.{option_map}
use Rattle.std.proofs.lemmas.Bool.Decides.{nat_tests}
use Rattle.std.proofs.lemmas.List.{append-nil}
use Rattle.m3_base.specs.declared.ids.FlightId.{FlightId}
use Rattle.m3_base.specs.declared.message.Message.{Message}
use Rattle.m3_base.specs.declared.packet.Packet.{Packet}
use Rattle.m3_base.specs.declared.packet.Fresh.{Fresh}
use Rattle.m3_base.specs.declared.order.GrantLine.{GrantLine}
use Rattle.m3_base.specs.Ideal.Flights.{flight, name_of, new_flight}
use Rattle.m3_base.specs.Ideal.Context.{Endpoint, Free, Sends, Receives, Reaches, Context, endpoint}
use Rattle.m3_base.specs.Ideal.State.{Grant, State, context_of, grant_in, parent_of, parent_in, undone, holder, holder_ep}
use Rattle.m3_base.specs.Ideal.GrantRules.{form, new_grant, with_grant_made, kernel_id}
use Rattle.m3_base.specs.Ideal.Step.{number_of}
use Rattle.m3_base.specs.Ideal.FlightNames.{Apart}
use Rattle.m3_laws.specs.Laws.{parent_at}
use Rattle.m3_laws.specs.GrantInvariant.{QueueLawful, IsAfter}
use Rattle.m3_laws.specs.Invariant.{Invariant}
use Rattle.m3_laws.proofs.invariant.step.LookUps.{found_new}
use Rattle.m3_laws.proofs.invariant.records.OrdersKeepRecords.{form_number}
use Rattle.m3_laws.proofs.grants.GrantList.{Changes, grant_added}
use Rattle.m3_laws.proofs.order.FetchOrderStep.{sent_of, unread_of, IsParent, Shown, before_same, shown_stays}
use Rattle.m3_laws.proofs.order.FetchOrderPackets.{none_of_sent}
use Rattle.m3_base.proofs.GrantsByNumber.{grant_past}

-- ---- grants

parent_changed : (gs ks : List Grant) (f : ℕ → Grant → Grant) → Changes gs ks f → (g : ℕ) → parent_at (grant_in ks g) ≡ parent_at (grant_in gs g)
parent_changed gs ks f ch g = ap parent_at (ch.at g) ∙ by_grant (grant_in gs g)
  where
    by_grant : (o : Option Grant) → parent_at (option_map (f g) o) ≡ parent_at o
    by_grant None = refl
    by_grant (Some x) = ap parent_of (ch.line g x)

unmade_changed : (gs ks : List Grant) (f : ℕ → Grant → Grant) → Changes gs ks f → (g : ℕ) → grant_in ks g ≡ None → grant_in gs g ≡ None
unmade_changed gs ks f ch g e = by_grant (grant_in gs g) (sym (ch.at g) ∙ e)
  where
    by_grant : (o : Option Grant) → option_map (f g) o ≡ None → o ≡ None
    by_grant None e = refl
    by_grant (Some x) e = absurd (cc)

-- where grants keep their lines
pub grants_shown : (g : ℕ) (s : State) (ks : List Grant) (f : ℕ → Grant → Grant) (fetched landed : List Message) → Changes s.grants ks f → Shown g s fetched landed → Shown g (record s { grants = ks }) fetched landed
grants_shown g s ks f fetched landed ch old = shown_stays g s (record s { grants = ks }) fetched landed (record { parents = λ h p. sym (parent_changed s.grants ks f ch g) ∙ p; unmade = unmade_changed s.grants ks f ch g; contexts = before_same g s; flights = λ id x to ep f e. e }) old

-- the kernel sends a Close
pub close_shown : (g : ℕ) (s : State) (p : Packet) (to ep h : ℕ) (fetched landed : List Message) → p ≡ Packet.Close (kernel_id s) to ep h → Apart (name_of p) s.flights → Shown g s fetched landed → Shown g (record s { flights = new_flight p s.flights; kernel_next = s.kernel_next + 1 }) fetched landed
close_shown g s p to ep h fetched landed is apart old = shown_stays g s (record s { flights = new_flight p s.flights; kernel_next = s.kernel_next + 1 }) fetched landed (record { parents = λ h p. p; unmade = λ e. e; contexts = before_same g s; flights = λ id x t e f w. by_new id x t e f (found_new id (Packet.Install x t e f) p s.flights apart w) }) old
  where
    clash : (x : FlightId) (t e : ℕ) (f : Fresh) → Packet.Install x t e f ≡ Packet.Close (kernel_id s) to ep h → ⊥
    clash x t e f q = cc

    by_new : (id x : FlightId) (t e : ℕ) (f : Fresh) → (Packet.Install x t e f ≡ p) ⊎ (flight id s.flights ≡ Some (Packet.Install x t e f)) → flight id s.flights ≡ Some (Packet.Install x t e f)
    by_new id x t e f (inr z) = z
    by_new id x t e f (inl z) = absurd (clash x t e f (z ∙ is))

-- a new grant
pub made_shown : (g : ℕ) (s : State) (line : GrantLine) (f : Fresh) (fetched landed : List Message) → Invariant s → Invariant (with_grant_made s line f) → form (length s.grants + 1) line (undone (parent_in s.grants (parent_of line))) ≡ Some f → Shown g s fetched landed → Shown g (with_grant_made s line f) fetched landed
made_shown g s line f fetched landed law after made' old = by_grant (grant_in s.grants g) refl
  where
    -- no grant's parent is the new one
    not_new : IsParent (s.grants ++ new_grant line f ∷ []) g (number_of f) → ⊥
    not_new p = by_last (grant_in (s.grants ++ new_grant line f ∷ []) g) refl p
      where
        long : length (s.grants ++ new_grant line f ∷ []) ≡ length s.grants + 1
        long = long_by s.grants
          where
            long_by : (gs : List Grant) → length (gs ++ new_grant line f ∷ []) ≡ length gs + 1
            long_by [] = refl
            long_by (x ∷ gs) = let z = long_by gs in omega (arith, z)

        by_last : (o : Option Grant) → grant_in (s.grants ++ new_grant line f ∷ []) g ≡ o → parent_at o ≡ Some (number_of f) → ⊥
        by_last None e p = cc
        by_last (Some x) e p =
            let n : number_of f ≡ length s.grants + 1 = form_number (length s.grants + 1) line (undone (parent_in s.grants (parent_of line))) f made' in
            let past = grant_past (s.grants ++ new_grant line f ∷ []) g x e in
            let low : IsAfter (Some (number_of f)) g = subst (λ o. IsAfter o g) p (after.lawful.placed.grants g x e).before in
            omega (arith, n, past, low, long)

    new_at : Apart (kernel_id s) s.flights
    new_at = law.lawful.traffic.orders s.kernel_next (omega arith)

    by_new : {A : Type 0} (id x : FlightId) (to ep : ℕ) (k : Fresh) → IsParent (s.grants ++ new_grant line f ∷ []) g (number_of k) → (flight id s.flights ≡ Some (Packet.Install x to ep k) → A) → (Packet.Install x to ep k ≡ Packet.Install (kernel_id s) (holder line) (holder_ep line) f) ⊎ (flight id s.flights ≡ Some (Packet.Install x to ep k)) → A
    by_new id x to ep k p more (inr z) = more z
    by_new id x to ep k p more (inl z) = let q : k ≡ f = cc in absurd (not_new (subst (λ y. IsParent (s.grants ++ new_grant line f ∷ []) g (number_of y)) q p))

    queue_none : (a ep h : ℕ) (c : Context) → context_of a s.contexts ≡ Some c → (e : Endpoint) → endpoint c ep ≡ e → grant_in s.grants g ≡ None → sent_of g (unread_of e) ≡ []
    queue_none a ep h c at Free q n = refl
    queue_none a ep h c at (Sends r) q n = refl
    queue_none a ep h c at (Reaches r) q n = refl
    queue_none a ep h c at (Receives r) q n = none_of_sent s.grants g r.grant r.unread (subst (QueueLawful s.grants) q ((law.lawful.traffic.contexts a c at).queues ep)).0 n

    by_grant : (o : Option Grant) → grant_in s.grants g ≡ o → Shown g (with_grant_made s line f) fetched landed
    by_grant None e = record {
      at = λ a ep h c at w p. ap (λ y. fetched ++ y) (queue_none a ep h c at (endpoint c ep) refl e) ∙ (append-nil fetched ∙ old.unmade e);
      coming = λ id x to ep k w p. old.unmade e;
      unmade = λ z. old.unmade e;
      prefix = old.prefix;
    }
    by_grant (Some y) e =
        let past = grant_past s.grants g y e in
        let other : (g == (length s.grants + 1)) ≡ false = grind (arith, nat_tests, past) in
        let same : grant_in (s.grants ++ new_grant line f ∷ []) g ≡ grant_in s.grants g = grant_added s.grants (new_grant line f) g ∙ ap (λ b. if b then Some (new_grant line f) else grant_in s.grants g) other in
        kept same
      where
        kept : grant_in (s.grants ++ new_grant line f ∷ []) g ≡ grant_in s.grants g → Shown g (with_grant_made s line f) fetched landed
        kept same = record {
          at = λ a ep h c at w p. old.at a ep h c at w (sym (ap parent_at same) ∙ p);
          coming = λ id x to ep k w p. by_new id x to ep k p (λ z. old.coming id x to ep k z (sym (ap parent_at same) ∙ p)) (found_new id (Packet.Install x to ep k) (Packet.Install (kernel_id s) (holder line) (holder_ep line) f) s.flights new_at w);
          unmade = λ z. old.unmade (sym same ∙ z);
          prefix = old.prefix;
        }
