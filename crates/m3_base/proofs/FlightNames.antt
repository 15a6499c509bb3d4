-- Names of flights that stay different.
use Rattle.std.proofs.Common.{◌≡◌, Bool, true, false, List, [], ◌∷◌, Some, refl, sym, subst, ◌∙◌, ap, arith}
use Rattle.std.specs.Prelude.{if◌then◌else◌}
use Rattle.std.proofs.lemmas.Bool.Decides.{nat_tests}
use Rattle.m3_base.specs.declared.ids.FlightId.{FlightId}
use Rattle.m3_base.specs.declared.packet.Packet.{Packet}
use Rattle.m3_base.specs.Ideal.FlightNames.{Apart, Distinct}
use Rattle.m3_base.specs.Ideal.Flights.{name_of, same_name, name_before, flight, new_flight, change_flight, end_flight}

pub same_name-is : (a b : FlightId) → same_name a b ≡ true → a ≡ b
same_name-is a b h = grind (arith, nat_tests)

-- a packet that is found has the name that was looked for
pub name_found : (id : FlightId) (p : Packet) (fs : List Packet) → flight id fs ≡ Some p → id ≡ name_of p
name_found id p [] e = absurd (cc)
name_found id p (x ∷ fs) e = by_case (same_name id (name_of x)) refl (name_found id p fs)
  where
    by_case : (b : Bool) → same_name id (name_of x) ≡ b → (flight id fs ≡ Some p → id ≡ name_of p) → id ≡ name_of p
    by_case true w ih = let same : x ≡ p = grind (arith, e, w) in same_name-is id (name_of x) w ∙ ap name_of same
    by_case false w ih = ih (grind (arith, e, w))

pub same_name-itself : (a : FlightId) → same_name a a ≡ true
same_name-itself a = grind (arith, nat_tests)

pub same_name-turned : (a b : FlightId) → same_name a b ≡ same_name b a
same_name-turned a b = grind (arith, nat_tests)

pub flight-new : (id : FlightId) (p : Packet) (fs : List Packet) → same_name id (name_of p) ≡ false → flight id (new_flight p fs) ≡ flight id fs
flight-new id p [] h = grind arith
flight-new id p (q ∷ fs) h = grind (arith, flight-new id p fs h)

pub flight-change : (id : FlightId) (p : Packet) (fs : List Packet) → same_name id (name_of p) ≡ false → flight id (change_flight p fs) ≡ flight id fs
flight-change id p [] h = refl
flight-change id p (q ∷ fs) h = grind (arith, flight-change id p fs h, same_name-is, same_name-turned)

pub flight-end : (n id : FlightId) (fs : List Packet) → same_name n id ≡ false → flight n (end_flight id fs) ≡ flight n fs
flight-end n id [] h = refl
flight-end n id (q ∷ fs) h = by_name (same_name id (name_of q)) refl (flight-end n id fs h)
  where
    by_name : (b : Bool) → same_name id (name_of q) ≡ b → flight n (end_flight id fs) ≡ flight n fs → flight n (if b then fs else q ∷ end_flight id fs) ≡ flight n (q ∷ fs)
    by_name true w ih =
        let other : same_name n (name_of q) ≡ false = subst (λ z. same_name n z ≡ false) (same_name-is id (name_of q) w) h in
        sym (ap (λ b. if b then Some q else flight n fs) other)
    by_name false w ih = ap (λ z. if same_name n (name_of q) then Some q else z) ih

pub apart-change : (id : FlightId) (p : Packet) (fs : List Packet) → Apart id fs → Apart id (change_flight p fs)
apart-change id p [] h = refl
apart-change id p (q ∷ fs) h = grind (arith, apart-change id p fs, same_name-is)

pub apart-end : (id x : FlightId) (fs : List Packet) → Apart id fs → Apart id (end_flight x fs)
apart-end id x [] h = refl
apart-end id x (q ∷ fs) h = grind (arith, apart-end id x fs)

pub ended : (id : FlightId) (fs : List Packet) → Distinct fs → Apart id (end_flight id fs)
ended id [] d = refl
ended id (q ∷ fs) d = grind (arith, ended id fs d.1, d.0, same_name-is)

pub distinct-new : (p : Packet) (fs : List Packet) → Apart (name_of p) fs → Distinct fs → Distinct (new_flight p fs)
distinct-new p [] a d = (refl, tt)
distinct-new p (q ∷ fs) a d = by_order (name_before (name_of p) (name_of q))
    (let apart : same_name (name_of q) (name_of p) ≡ false = grind (arith, a, same_name-turned) in flight-new (name_of q) p fs apart ∙ d.0)
    (distinct-new p fs (grind (arith, a)) d.1)
  where
    by_order : (b : Bool) → Apart (name_of q) (new_flight p fs) → Distinct (new_flight p fs) → Distinct (if b then p ∷ q ∷ fs else q ∷ new_flight p fs)
    by_order true x y = (a, d)
    by_order false x y = (x, y)

pub distinct-change : (p : Packet) (fs : List Packet) → Distinct fs → Distinct (change_flight p fs)
distinct-change p [] d = tt
distinct-change p (q ∷ fs) d = by_name (same_name (name_of p) (name_of q)) refl (distinct-change p fs d.1)
  where
    by_name : (b : Bool) → same_name (name_of p) (name_of q) ≡ b → Distinct (change_flight p fs) → Distinct (if b then p ∷ fs else q ∷ change_flight p fs)
    by_name true e x = (subst (λ n. Apart n fs) (sym (same_name-is (name_of p) (name_of q) e)) d.0, d.1)
    by_name false e x = (apart-change (name_of q) p fs d.0, x)

pub distinct-end : (id : FlightId) (fs : List Packet) → Distinct fs → Distinct (end_flight id fs)
distinct-end id [] d = tt
distinct-end id (q ∷ fs) d = by_name (same_name id (name_of q)) (distinct-end id fs d.1)
  where
    by_name : (b : Bool) → Distinct (end_flight id fs) → Distinct (if b then fs else q ∷ end_flight id fs)
    by_name true x = d.1
    by_name false x = (apart-end (name_of q) id fs d.0, x)
