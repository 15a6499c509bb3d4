-- Look-ups of contexts and flights after a change of one.
use Rattle.std.proofs.Common.{◌≡◌, ℕ, Bool, true, false, List, [], ◌∷◌, Some, None, refl, sym, ◌∙◌, ap, arith, subst, inl, inr}
use Rattle.std.specs.Prelude.{◌⊎◌}
use Rattle.m3_base.specs.declared.packet.Packet.{Packet}
use Rattle.m3_base.specs.Ideal.Flights.{name_of, same_name, name_before, flight, change_flight, new_flight, end_flight}
use Rattle.m3_base.specs.Ideal.Context.{Context}
use Rattle.m3_base.specs.Ideal.State.{context_of, put_context, same_act}
use Rattle.m3_base.proofs.KeyedList.{find-replaced_same}
use Rattle.m3_base.specs.declared.ids.FlightId.{FlightId}
use Rattle.m3_base.specs.Ideal.FlightNames.{Apart, Distinct}
use Rattle.m3_base.proofs.FlightNames.{name_found, same_name-is, flight-new, same_name-itself, flight-change}
use Rattle.m3_base.proofs.FlightOrder.{find-new}
use Rattle.m3_base.proofs.Activities.{same_act-is, context-put_same, context-put_other}

pub name_own : (id : FlightId) (p : Packet) (fs : List Packet) → flight id fs ≡ Some p → flight (name_of p) fs ≡ Some p
name_own id p fs find = subst (λ z. flight z fs ≡ Some p) (name_found id p fs find) find

-- a context after one was put in its place
pub found_after : (a : ℕ) (x c d : Context) (cs : List Context) → context_of d.act cs ≡ Some c → context_of a (put_context d cs) ≡ Some x → ((a ≡ d.act) × (x ≡ d)) ⊎ ((same_act a d.act ≡ false) × (context_of a cs ≡ Some x))
found_after a x c d cs at e = by_case (same_act a d.act) refl
  where
    by_case : (b : Bool) → same_act a d.act ≡ b → ((a ≡ d.act) × (x ≡ d)) ⊎ ((same_act a d.act ≡ false) × (context_of a cs ≡ Some x))
    by_case true w =
        let q = same_act-is a d.act w in
        let r : context_of d.act (put_context d cs) ≡ Some d = context-put_same c d cs at in
        let t : context_of d.act (put_context d cs) ≡ Some x = subst (λ z. context_of z (put_context d cs) ≡ Some x) q e in
        inl (q, cc)
    by_case false w = inr (w, sym (context-put_other a d cs w) ∙ e)

pub apart_found : (n id : FlightId) (p : Packet) (fs : List Packet) → Apart n fs → flight id fs ≡ Some p → same_name n (name_of p) ≡ false
apart_found n id p fs a f = by_case (same_name n (name_of p)) refl
  where
    by_case : (b : Bool) → same_name n (name_of p) ≡ b → same_name n (name_of p) ≡ false
    by_case false w = w
    by_case true w =
        let q : n ≡ id = same_name-is n (name_of p) w ∙ sym (name_found id p fs f) in
        let r : flight id fs ≡ None = subst (λ z. Apart z fs) q a in
        absurd (cc)

pub found_ended : (id n : FlightId) (x : Packet) (fs : List Packet) → Distinct fs → flight n (end_flight id fs) ≡ Some x → flight n fs ≡ Some x
found_ended id n x [] d e = e
found_ended id n x (q ∷ fs) d e = grind (arith, d.0, same_name-is, found_ended id n x fs d.1)

pub found_new : (i : FlightId) (q p : Packet) (fs : List Packet) → Apart (name_of p) fs → flight i (new_flight p fs) ≡ Some q → (q ≡ p) ⊎ (flight i fs ≡ Some q)
found_new i q p fs a e = by_name (same_name i (name_of p)) refl
  where
    by_name : (b : Bool) → same_name i (name_of p) ≡ b → (q ≡ p) ⊎ (flight i fs ≡ Some q)
    by_name false w = inr (sym (flight-new i p fs w) ∙ e)
    by_name true w =
        let n : i ≡ name_of p = same_name-is i (name_of p) w in
        let r : flight (name_of p) (new_flight p fs) ≡ Some q = subst (λ z. flight z (new_flight p fs) ≡ Some q) n e in
        let t = find-new p fs a in
        inl (cc)

pub found_changed : (i : FlightId) (x p q : Packet) (fs : List Packet) → flight (name_of q) fs ≡ Some p → flight i (change_flight q fs) ≡ Some x → (x ≡ q) ⊎ (flight i fs ≡ Some x)
found_changed i x p q fs find e = by_name (same_name i (name_of q)) refl
  where
    by_name : (b : Bool) → same_name i (name_of q) ≡ b → (x ≡ q) ⊎ (flight i fs ≡ Some x)
    by_name false w = inr (sym (flight-change i q fs w) ∙ e)
    by_name true w =
        let n : i ≡ name_of q = same_name-is i (name_of q) w in
        let r : flight (name_of q) (change_flight q fs) ≡ Some x = subst (λ z. flight z (change_flight q fs) ≡ Some x) n e in
        let t = find-replaced_same name_of same_name name_before q p fs (same_name-itself (name_of q)) find in
        inl (cc)
