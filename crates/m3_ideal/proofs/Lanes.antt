-- The list of flights by its lanes.
use Rattle.std.proofs.Common.{◌≡◌, ℕ, zero, suc, ◌+◌, ◌<◌, true, false, List, [], ◌∷◌, ◌++◌, length, Some, None, refl, sym, subst, ap, ◌∙◌, arith}
use Rattle.std.specs.Prelude.{◌==◌, nat_lt, slice_set, slice_index_or, Option}
use Rattle.std.proofs.lemmas.Bool.Decides.{nat_tests}
use Rattle.m3_base.specs.declared.ids.FlightId.{FlightId}
use Rattle.m3_base.specs.declared.packet.Packet.{Packet}
use Rattle.m3_base.specs.Ideal.Flights.{same_name, name_before, name_of, flight, new_flight, change_flight, end_flight, flight_name}
use Rattle.m3_ideal.specs.Tables.{present_on, AreKeyed}
use Rattle.m3_ideal.specs.Lanes.{flights_in, AreLanes}
use Rattle.m3_ideal.proofs.Tables.{or_find, find_on, replaced_on, without_on, inserted_end, find_other, replaced_other, without_other, inserted_past, inserted_front, differs, differs_more}

pub same_in : (a i j : ℕ) → same_name (flight_name a i) (flight_name a j) ≡ (i == j)
same_in a i j = grind (arith, nat_tests)

pub before_in : (a i j : ℕ) → name_before (flight_name a i) (flight_name a j) ≡ nat_lt i j
before_in a i j = grind (arith, nat_tests)

same_apart : (id : FlightId) (a i : ℕ) → (id.issuer == a) ≡ false → same_name id (flight_name a i) ≡ false
same_apart id a i h = grind (arith, nat_tests)

before_apart : (id : FlightId) (a i : ℕ) → a < id.issuer → name_before id (flight_name a i) ≡ false
before_apart id a i h = grind (arith, nat_tests)

before_later : (id : FlightId) (a i : ℕ) → id.issuer < a → name_before id (flight_name a i) ≡ true
before_later id a i h = grind (arith, nat_tests)

-- ---- what is found

flight_below : (a : ℕ) (id : FlightId) (ls : List (List (Option Packet))) → AreLanes a ls → id.issuer < a → flight id (flights_in ls) ≡ None
flight_below a id [] s h = refl
flight_below a id (l ∷ ls) s h =
    find_other name_of same_name name_before (flight_name a) 0 id l (flights_in ls) s.0 (λ i. same_apart id a i (differs _ _ h))
    ∙ flight_below (a + 1) id ls s.1 (omega arith)

or_none : (o : Option Packet) → or_find o None ≡ o
or_none None = refl
or_none (Some p) = refl

pub flight_in : (a k : ℕ) (id : FlightId) (ls : List (List (Option Packet))) → AreLanes a ls → id.issuer ≡ a + k
    → flight id (flights_in ls) ≡ slice_index_or (slice_index_or ls k []) id.number None
flight_in a k id [] s e = refl
flight_in a zero id (l ∷ ls) s e =
    let n : id ≡ flight_name a id.number = ap (λ z. flight_name z id.number) (omega arith) in
    ap (λ z. flight z (flights_in (l ∷ ls))) n
    ∙ find_on name_of same_name name_before (flight_name a) (same_in a) (before_in a) 0 id.number id.number l (flights_in ls) s.0 (omega arith)
    ∙ ap (or_find (slice_index_or l id.number None)) (ap (λ z. flight z (flights_in ls)) (sym n) ∙ flight_below (a + 1) id ls s.1 (omega arith))
    ∙ or_none (slice_index_or l id.number None)
flight_in a (suc k) id (l ∷ ls) s e =
    find_other name_of same_name name_before (flight_name a) 0 id l (flights_in ls) s.0 (λ i. same_apart id a i (differs_more _ _ (omega arith)))
    ∙ flight_in (a + 1) k id ls s.1 (omega arith)

-- ---- what is changed

pub changed_in : (a k : ℕ) (p q : Packet) (ls : List (List (Option Packet))) → AreLanes a ls → (name_of p).issuer ≡ a + k → slice_index_or (slice_index_or ls k []) (name_of p).number None ≡ Some q
    → change_flight p (flights_in ls) ≡ flights_in (slice_set ls k (slice_set (slice_index_or ls k []) (name_of p).number (Some p)))
changed_in a k p q [] s e h = absurd cc
changed_in a zero p q (l ∷ ls) s e h =
    replaced_on name_of same_name name_before (flight_name a) (same_in a) (before_in a) 0 (name_of p).number (name_of p).number p q l (flights_in ls) s.0 (ap (λ z. flight_name z (name_of p).number) (omega arith)) (omega arith) h
changed_in a (suc k) p q (l ∷ ls) s e h =
    replaced_other name_of same_name name_before (flight_name a) 0 p l (flights_in ls) s.0 (λ i. same_apart (name_of p) a i (differs_more _ _ (omega arith)))
    ∙ ap (present_on l) (changed_in (a + 1) k p q ls s.1 (omega arith) h)

-- ---- what ends

pub ended_in : (a k : ℕ) (id : FlightId) (q : Packet) (ls : List (List (Option Packet))) → AreLanes a ls → id.issuer ≡ a + k → slice_index_or (slice_index_or ls k []) id.number None ≡ Some q
    → end_flight id (flights_in ls) ≡ flights_in (slice_set ls k (slice_set (slice_index_or ls k []) id.number None))
ended_in a k id q [] s e h = absurd cc
ended_in a zero id q (l ∷ ls) s e h =
    ap (λ z. end_flight z (flights_in (l ∷ ls))) (ap (λ z. flight_name z id.number) (omega arith))
    ∙ without_on name_of same_name name_before (flight_name a) (same_in a) (before_in a) 0 id.number id.number q l (flights_in ls) s.0 (omega arith) h
ended_in a (suc k) id q (l ∷ ls) s e h =
    without_other name_of same_name name_before (flight_name a) 0 id l (flights_in ls) s.0 (λ i. same_apart id a i (differs_more _ _ (omega arith)))
    ∙ ap (present_on l) (ended_in (a + 1) k id q ls s.1 (omega arith) h)

-- ---- a new flight

new_below : (a : ℕ) (p : Packet) (ls : List (List (Option Packet))) → AreLanes a ls → (name_of p).issuer < a → new_flight p (flights_in ls) ≡ p ∷ flights_in ls
new_below a p [] s h = refl
new_below a p (l ∷ ls) s h =
    inserted_front name_of same_name name_before (flight_name a) 0 p l (flights_in ls) s.0 (λ i. before_later (name_of p) a i h) (new_below (a + 1) p ls s.1 (omega arith))

pub new_in : (a k : ℕ) (p : Packet) (ls : List (List (Option Packet))) → AreLanes a ls → k < length ls → (name_of p).issuer ≡ a + k → (name_of p).number ≡ length (slice_index_or ls k [])
    → new_flight p (flights_in ls) ≡ flights_in (slice_set ls k (slice_index_or ls k [] ++ Some p ∷ []))
new_in a k p [] s w e n = absurd (omega arith)
new_in a zero p (l ∷ ls) s w e n =
    inserted_end name_of same_name name_before (flight_name a) (same_in a) (before_in a) 0 (name_of p).number p l (flights_in ls) s.0 (ap (λ z. flight_name z (name_of p).number) (omega arith)) (omega arith) (new_below (a + 1) p ls s.1 (omega arith))
new_in a (suc k) p (l ∷ ls) s w e n =
    inserted_past name_of same_name name_before (flight_name a) 0 p l (flights_in ls) s.0 (λ i. before_apart (name_of p) a i (omega arith))
    ∙ ap (present_on l) (new_in (a + 1) k p ls s.1 (omega arith) (omega arith) n)

-- ---- the lanes stay lanes

abbrev pub IsLane : ℕ → List (Option Packet) → Type 0
IsLane a l = AreKeyed name_of (flight_name a) 0 l

pub lane_in : (a k : ℕ) (ls : List (List (Option Packet))) → AreLanes a ls → IsLane (a + k) (slice_index_or ls k [])
lane_in a k [] s = tt
lane_in a zero (l ∷ ls) s = subst (λ z. IsLane z l) (omega arith) s.0
lane_in a (suc k) (l ∷ ls) s = subst (λ z. IsLane z (slice_index_or ls k [])) (omega arith) (lane_in (a + 1) k ls s.1)

pub lanes_set : (a k : ℕ) (l : List (Option Packet)) (ls : List (List (Option Packet))) → AreLanes a ls → IsLane (a + k) l → AreLanes a (slice_set ls k l)
lanes_set a k l [] s h = tt
lanes_set a zero l (x ∷ ls) s h = (subst (λ z. IsLane z l) (omega arith) h, s.1)
lanes_set a (suc k) l (x ∷ ls) s h = (s.0, lanes_set (a + 1) k l ls s.1 (subst (λ z. IsLane z l) (omega arith) h))
