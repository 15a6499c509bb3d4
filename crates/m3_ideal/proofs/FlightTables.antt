-- A call at the lane of an issuer is a call on the list of all flights.
use Rattle.std.proofs.Common.{◌≡◌, ℕ, zero, suc, ◌+◌, ◌<◌, ◌≤◌, Bool, true, false, List, [], ◌∷◌, ◌++◌, length, map, Some, None, Ok, Err, refl, sym, subst, ap, ◌∙◌, arith}
use Rattle.std.specs.Prelude.{slice_set, slice_index_or, replicate, Option, Result, OnOk, vec_len, vec_capacity, if◌then◌else◌}
use Rattle.m3_base.specs.declared.ids.FlightId.{FlightId}
use Rattle.m3_base.specs.declared.packet.Packet.{Packet}
use Rattle.m3_base.specs.Ideal.Flights.{name_of, same_name, name_before, flight, new_flight, change_flight, end_flight, flight_name}
use Rattle.m3_ideal.specs.declared.lane.Lane.{Lane}
use Rattle.m3_ideal.specs.Lanes.{FlightTable, flights_in, AreLanes, HasLanes, lane_of, lanes_of, room_in, table_of, swapped}
use Rattle.m3_ideal.proofs.Tables.{keyed_set, keyed_none, keyed_push}
use Rattle.m3_ideal.proofs.Lanes.{same_in, before_in, IsLane, flight_in, changed_in, ended_in, new_in, lane_in, lanes_set}
use Rattle.m3_base.proofs.ListLookups.{length_pushed}
use Rattle.std.proofs.lemmas.List.{length-replicate, length-map}

-- ---- lists

zero_plus : (n : ℕ) → 0 + n ≡ n
zero_plus n = omega arith

map_set : {X Y : Type 0} (f : X → Y) (xs : List X) (i : ℕ) (y : X) → map f (slice_set xs i y) ≡ slice_set (map f xs) i (f y)
map_set f [] i y = refl
map_set f (x ∷ xs) zero y = refl
map_set f (x ∷ xs) (suc i) y = ap (λ z. f x ∷ z) (map_set f xs i y)

map_get : {X Y : Type 0} (f : X → Y) (xs : List X) (i : ℕ) (x : X) (d : Y) → i < length xs → x ≡ slice_index_or xs i x → slice_index_or (map f xs) i d ≡ f x
map_get f [] i x d h e = absurd (omega arith)
map_get f (y ∷ xs) zero x d h e = ap f (sym e)
map_get f (y ∷ xs) (suc i) x d h e = map_get f xs i x d (omega arith) e

map_past : {X Y : Type 0} (f : X → Y) (xs : List X) (i : ℕ) (d : Y) → length xs ≤ i → slice_index_or (map f xs) i d ≡ d
map_past f [] i d h = refl
map_past f (y ∷ xs) zero d h = absurd (omega arith)
map_past f (y ∷ xs) (suc i) d h = map_past f xs i d (omega arith)

set_length : {X : Type 0} (xs : List X) (i : ℕ) (y : X) → length (slice_set xs i y) ≡ length xs
set_length [] i y = refl
set_length (x ∷ xs) zero y = refl
set_length (x ∷ xs) (suc i) y = ap suc (set_length xs i y)

set_same : {X : Type 0} (xs : List X) (i : ℕ) (d x : X) → slice_index_or xs i d ≡ x → slice_set xs i x ≡ xs
set_same [] i d x h = refl
set_same (y ∷ xs) zero d x h = ap (λ z. z ∷ xs) (sym h)
set_same (y ∷ xs) (suc i) d x h = ap (λ z. y ∷ z) (set_same xs i d x h)

-- ---- what isn't there

without_absent : (id : FlightId) (ps : List Packet) → flight id ps ≡ None → end_flight id ps ≡ ps
without_absent id [] h = refl
without_absent id (p ∷ ps) h = by_test (same_name id (name_of p)) h (without_absent id ps)
  where
    by_test : (b : Bool) → (if b then Some p else flight id ps) ≡ None → (flight id ps ≡ None → end_flight id ps ≡ ps) → (if b then ps else p ∷ end_flight id ps) ≡ p ∷ ps
    by_test true k more = absurd cc
    by_test false k more = ap (λ z. p ∷ z) (more k)

replaced_absent : (x : Packet) (ps : List Packet) → flight (name_of x) ps ≡ None → change_flight x ps ≡ ps
replaced_absent x [] h = refl
replaced_absent x (p ∷ ps) h = by_test (same_name (name_of x) (name_of p)) h (replaced_absent x ps)
  where
    by_test : (b : Bool) → (if b then Some p else flight (name_of x) ps) ≡ None → (flight (name_of x) ps ≡ None → change_flight x ps ≡ ps) → (if b then x ∷ ps else p ∷ change_flight x ps) ≡ p ∷ ps
    by_test true k more = absurd cc
    by_test false k more = ap (λ z. p ∷ z) (more k)

-- ---- one lane

-- lane i was read, and is x
pub record ReadsLane (ls : List Lane) (v : FlightTable) (i : ℕ) (x : Lane) : Type 0 where
  pub sound : HasLanes ls
  pub value : table_of ls ≡ v
  pub range : i < length ls
  pub item : x ≡ slice_index_or ls i x

abbrev lanes_with : List Lane → ℕ → List (Option Packet) → List (List (Option Packet))
lanes_with ls i l = slice_set (lanes_of ls) i l

lane_at : (ls : List Lane) (v : FlightTable) (i : ℕ) (x : Lane) → ReadsLane ls v i x → slice_index_or (lanes_of ls) i [] ≡ lane_of x
lane_at ls v i x r = map_get lane_of ls i x [] r.range r.item

flight_at : (ls : List Lane) (v : FlightTable) (i : ℕ) (x : Lane) (id : FlightId) → ReadsLane ls v i x → i ≡ id.issuer → slice_index_or (lane_of x) id.number None ≡ flight id v.list
flight_at ls v i x id r e =
    sym (flight_in 0 i id (lanes_of ls) r.sound.lanes (omega arith) ∙ ap (λ l. slice_index_or l id.number None) (lane_at ls v i x r))
    ∙ ap (λ t. flight id t.list) r.value

pub flight_past : (ls : List Lane) (v : FlightTable) (id : FlightId) → HasLanes ls → table_of ls ≡ v → length ls ≤ id.issuer → None ≡ flight id v.list
flight_past ls v id s e h =
    sym (flight_in 0 id.issuer id (lanes_of ls) s.lanes (omega arith) ∙ ap (λ l. slice_index_or l id.number None) (map_past lane_of ls id.issuer [] h))
    ∙ ap (λ t. flight id t.list) e

pub found_at : (ls : List Lane) (v : FlightTable) (i : ℕ) (x : Lane) (id : FlightId) (r : Option Packet) → ReadsLane ls v i x → i ≡ id.issuer → r ≡ slice_index_or (lane_of x) id.number None → r ≡ flight id v.list
found_at ls v i x id r s e k = k ∙ flight_at ls v i x id s e

is_lane : (ls : List Lane) (v : FlightTable) (i : ℕ) (x : Lane) → ReadsLane ls v i x → IsLane i (lane_of x)
is_lane ls v i x r =
    subst (IsLane i) (lane_at ls v i x r) (subst (λ z. IsLane z (slice_index_or (lanes_of ls) i [])) (zero_plus i) (lane_in 0 i (lanes_of ls) r.sound.lanes))

has_lanes : (ls : List Lane) (v : FlightTable) (i : ℕ) (x y : Lane) → ReadsLane ls v i x → IsLane i (lane_of y) → HasLanes (slice_set ls i y)
has_lanes ls v i x y r k =
    record {
      size = set_length ls i y ∙ r.sound.size;
      lanes = subst (AreLanes 0) (sym (map_set lane_of ls i y)) (lanes_set 0 i (lane_of y) (lanes_of ls) r.sound.lanes (subst (λ z. IsLane z (lane_of y)) (sym (zero_plus i)) k));
    }

-- ---- a flight ends

ends_by : (ls : List Lane) (v : FlightTable) (i : ℕ) (x : Lane) (id : FlightId) (o : Option Packet) → ReadsLane ls v i x → i ≡ id.issuer → slice_index_or (lane_of x) id.number None ≡ o
    → flights_in (lanes_with ls i (slice_set (lane_of x) id.number None)) ≡ end_flight id (flights_in (lanes_of ls))
ends_by ls v i x id None r e h =
    ap flights_in (ap (λ l. lanes_with ls i l) (set_same (lane_of x) id.number None None h) ∙ set_same (lanes_of ls) i [] (lane_of x) (lane_at ls v i x r))
    ∙ sym (without_absent id (flights_in (lanes_of ls)) (ap (λ t. flight id t.list) r.value ∙ sym (flight_at ls v i x id r e) ∙ h))
ends_by ls v i x id (Some q) r e h =
    let l = lane_at ls v i x r in
    ap (λ z. flights_in (lanes_with ls i (slice_set z id.number None))) (sym l)
    ∙ sym (ended_in 0 i id q (lanes_of ls) r.sound.lanes (omega arith) (ap (λ z. slice_index_or z id.number None) l ∙ h))

pub ended_list : (ls : List Lane) (v : FlightTable) (i : ℕ) (x y : Lane) (id : FlightId) → ReadsLane ls v i x → i ≡ id.issuer → lane_of y ≡ slice_set (lane_of x) id.number None
    → (table_of (slice_set ls i y)).list ≡ end_flight id v.list
ended_list ls v i x y id r e k =
    ap flights_in (map_set lane_of ls i y ∙ ap (λ l. lanes_with ls i l) k)
    ∙ ends_by ls v i x id (slice_index_or (lane_of x) id.number None) r e refl
    ∙ ap (λ t. end_flight id t.list) r.value

pub ended_lanes : (ls : List Lane) (v : FlightTable) (i : ℕ) (x y : Lane) (id : FlightId) → ReadsLane ls v i x → i ≡ id.issuer → lane_of y ≡ slice_set (lane_of x) id.number None → HasLanes (slice_set ls i y)
ended_lanes ls v i x y id r e k =
    has_lanes ls v i x y r (subst (IsLane i) (sym k) (keyed_none name_of same_name name_before (flight_name i) (same_in i) (before_in i) 0 id.number (lane_of x) (is_lane ls v i x r)))

nexts_same : (ls : List Lane) (v : FlightTable) (i : ℕ) (x y : Lane) → ReadsLane ls v i x → length (lane_of y) ≡ length (lane_of x) → (table_of (slice_set ls i y)).nexts ≡ v.nexts
nexts_same ls v i x y r k =
    ap (map length) (map_set lane_of ls i y)
    ∙ map_set length (lanes_of ls) i (lane_of y)
    ∙ ap (slice_set (map length (lanes_of ls)) i) k
    ∙ set_same (map length (lanes_of ls)) i 0 (length (lane_of x)) (length_at (lanes_of ls) i (lane_of x) (lane_at ls v i x r) (omega (arith, r.range, length-map ls lane_of)))
    ∙ ap (λ t. t.nexts) r.value
  where
    length_at : (ms : List (List (Option Packet))) (j : ℕ) (l : List (Option Packet)) → slice_index_or ms j [] ≡ l → j < length ms → slice_index_or (map length ms) j 0 ≡ length l
    length_at [] j l h w = absurd (omega arith)
    length_at (m ∷ ms) zero l h w = ap length h
    length_at (m ∷ ms) (suc j) l h w = length_at ms j l h (omega arith)

pub ended_nexts : (ls : List Lane) (v : FlightTable) (i : ℕ) (x y : Lane) (id : FlightId) → ReadsLane ls v i x → lane_of y ≡ slice_set (lane_of x) id.number None → (table_of (slice_set ls i y)).nexts ≡ v.nexts
ended_nexts ls v i x y id r k = nexts_same ls v i x y r (ap length k ∙ set_length (lane_of x) id.number None)

pub ended_past : (ls : List Lane) (v : FlightTable) (id : FlightId) → HasLanes ls → table_of ls ≡ v → length ls ≤ id.issuer → v.list ≡ end_flight id v.list
ended_past ls v id s e h = sym (without_absent id v.list (sym (flight_past ls v id s e h)))

-- ---- a flight is changed

swapped_length : (o : Option Packet) (n : ℕ) (p : Packet) (l : List (Option Packet)) → length (swapped o n p l) ≡ length l
swapped_length None n p l = refl
swapped_length (Some q) n p l = set_length l n (Some p)

swaps_by : (ls : List Lane) (v : FlightTable) (i : ℕ) (x : Lane) (p : Packet) (o : Option Packet) → ReadsLane ls v i x → i ≡ (name_of p).issuer → slice_index_or (lane_of x) (name_of p).number None ≡ o
    → flights_in (lanes_with ls i (swapped o (name_of p).number p (lane_of x))) ≡ change_flight p (flights_in (lanes_of ls))
swaps_by ls v i x p None r e h =
    ap flights_in (set_same (lanes_of ls) i [] (lane_of x) (lane_at ls v i x r))
    ∙ sym (replaced_absent p (flights_in (lanes_of ls)) (ap (λ t. flight (name_of p) t.list) r.value ∙ sym (flight_at ls v i x (name_of p) r e) ∙ h))
swaps_by ls v i x p (Some q) r e h =
    let l = lane_at ls v i x r in
    ap (λ z. flights_in (lanes_with ls i (slice_set z (name_of p).number (Some p)))) (sym l)
    ∙ sym (changed_in 0 i p q (lanes_of ls) r.sound.lanes (omega arith) (ap (λ z. slice_index_or z (name_of p).number None) l ∙ h))

pub swapped_list : (ls : List Lane) (v : FlightTable) (i : ℕ) (x y : Lane) (p : Packet) (o : Option Packet) → ReadsLane ls v i x → i ≡ (name_of p).issuer → o ≡ slice_index_or (lane_of x) (name_of p).number None
    → lane_of y ≡ swapped o (name_of p).number p (lane_of x) → (table_of (slice_set ls i y)).list ≡ change_flight p v.list
swapped_list ls v i x y p o r e h k =
    ap flights_in (map_set lane_of ls i y ∙ ap (λ l. lanes_with ls i l) k)
    ∙ swaps_by ls v i x p o r e (sym h)
    ∙ ap (λ t. change_flight p t.list) r.value

swapped_keyed : (i : ℕ) (l : List (Option Packet)) (p : Packet) (o : Option Packet) → IsLane i l → i ≡ (name_of p).issuer → IsLane i (swapped o (name_of p).number p l)
swapped_keyed i l p None s e = s
swapped_keyed i l p (Some q) s e =
    keyed_set name_of same_name name_before (flight_name i) (same_in i) (before_in i) 0 (name_of p).number p l s (ap (λ z. flight_name z (name_of p).number) (sym e) ∙ ap (flight_name i) (omega arith))

pub swapped_lanes : (ls : List Lane) (v : FlightTable) (i : ℕ) (x y : Lane) (p : Packet) (o : Option Packet) → ReadsLane ls v i x → i ≡ (name_of p).issuer → lane_of y ≡ swapped o (name_of p).number p (lane_of x) → HasLanes (slice_set ls i y)
swapped_lanes ls v i x y p o r e k = has_lanes ls v i x y r (subst (IsLane i) (sym k) (swapped_keyed i (lane_of x) p o (is_lane ls v i x r) e))

pub swapped_nexts : (ls : List Lane) (v : FlightTable) (i : ℕ) (x y : Lane) (p : Packet) (o : Option Packet) → ReadsLane ls v i x → lane_of y ≡ swapped o (name_of p).number p (lane_of x) → (table_of (slice_set ls i y)).nexts ≡ v.nexts
swapped_nexts ls v i x y p o r k = nexts_same ls v i x y r (ap length k ∙ swapped_length o (name_of p).number p (lane_of x))

pub swapped_past : (ls : List Lane) (v : FlightTable) (p : Packet) → HasLanes ls → table_of ls ≡ v → length ls ≤ (name_of p).issuer → v.list ≡ change_flight p v.list
swapped_past ls v p s e h = sym (replaced_absent p v.list (sym (flight_past ls v (name_of p) s e h)))

-- ---- more room, and a new flight

pub roomy_list : (ls : List Lane) (v : FlightTable) (i : ℕ) (x y : Lane) → ReadsLane ls v i x → lane_of y ≡ lane_of x → (table_of (slice_set ls i y)).list ≡ v.list
roomy_list ls v i x y r k =
    ap flights_in (map_set lane_of ls i y ∙ ap (λ l. lanes_with ls i l) k ∙ set_same (lanes_of ls) i [] (lane_of x) (lane_at ls v i x r))
    ∙ ap (λ t. t.list) r.value

pub roomy_nexts : (ls : List Lane) (v : FlightTable) (i : ℕ) (x y : Lane) → ReadsLane ls v i x → lane_of y ≡ lane_of x → (table_of (slice_set ls i y)).nexts ≡ v.nexts
roomy_nexts ls v i x y r k = nexts_same ls v i x y r (ap length k)

pub roomy_lanes : (ls : List Lane) (v : FlightTable) (i : ℕ) (x y : Lane) → ReadsLane ls v i x → lane_of y ≡ lane_of x → HasLanes (slice_set ls i y)
roomy_lanes ls v i x y r k = has_lanes ls v i x y r (subst (IsLane i) (sym k) (is_lane ls v i x r))

set_get : (xs : List ℕ) (i v : ℕ) → i < length xs → slice_index_or (slice_set xs i v) i 0 ≡ v
set_get [] i v h = absurd (omega arith)
set_get (x ∷ xs) zero v h = refl
set_get (x ∷ xs) (suc i) v h = set_get xs i v (omega arith)

pub room_at : (ls : List Lane) (v : FlightTable) (i : ℕ) (x y : Lane) → ReadsLane ls v i x → slice_index_or (table_of (slice_set ls i y)).rooms i 0 ≡ room_in y
room_at ls v i x y r = ap (λ z. slice_index_or z i 0) (map_set room_in ls i y) ∙ set_get (map room_in ls) i (room_in y) (omega (arith, r.range, length-map ls room_in))

pub roomy_if : {T E : Type 0} (ls : List Lane) (v : FlightTable) (i : ℕ) (x y : Lane) (n : ℕ) (o : Result T E) → ReadsLane ls v i x → i ≡ n → OnOk o (vec_len y.flights < vec_capacity y.flights)
    → OnOk o (0 < slice_index_or (table_of (slice_set ls i y)).rooms n 0)
roomy_if ls v i x y n (Err e) r k h = h
roomy_if ls v i x y n (Ok u) r k h =
    let e : slice_index_or (table_of (slice_set ls i y)).rooms n 0 ≡ room_in y = ap (λ z. slice_index_or (table_of (slice_set ls i y)).rooms z 0) (sym k) ∙ room_at ls v i x y r in
    omega (arith, e, h)

pub room_of : (ls : List Lane) (v : FlightTable) (i : ℕ) (x : Lane) → ReadsLane ls v i x → slice_index_or v.rooms i 0 ≡ room_in x
room_of ls v i x r = ap (λ t. slice_index_or t.rooms i 0) (sym r.value) ∙ map_get room_in ls i x 0 r.range r.item

pub next_of : (ls : List Lane) (v : FlightTable) (i : ℕ) (x : Lane) → ReadsLane ls v i x → slice_index_or v.nexts i 0 ≡ length (lane_of x)
next_of ls v i x r =
    ap (λ t. slice_index_or t.nexts i 0) (sym r.value) ∙ by_list ls i x r.range r.item
  where
    by_list : (ms : List Lane) (j : ℕ) (z : Lane) → j < length ms → z ≡ slice_index_or ms j z → slice_index_or (map length (lanes_of ms)) j 0 ≡ length (lane_of z)
    by_list [] j z w h = absurd (omega arith)
    by_list (m ∷ ms) zero z w h = ap (λ q. length (lane_of q)) (sym h)
    by_list (m ∷ ms) (suc j) z w h = by_list ms j z (omega arith) h

pub pushed_list : (ls : List Lane) (v : FlightTable) (i : ℕ) (x y : Lane) (p : Packet) → ReadsLane ls v i x → i ≡ (name_of p).issuer → (name_of p).number ≡ slice_index_or v.nexts i 0 → lane_of y ≡ lane_of x ++ Some p ∷ []
    → (table_of (slice_set ls i y)).list ≡ new_flight p v.list
pushed_list ls v i x y p r e n k =
    let l = lane_at ls v i x r in
    ap flights_in (map_set lane_of ls i y ∙ ap (λ z. lanes_with ls i z) (k ∙ ap (λ z. z ++ Some p ∷ []) (sym l)))
    ∙ sym (new_in 0 i p (lanes_of ls) r.sound.lanes (omega (arith, r.range, length-map ls lane_of)) (omega arith) (n ∙ next_of ls v i x r ∙ ap length (sym l)))
    ∙ ap (λ t. new_flight p t.list) r.value

pub pushed_lanes : (ls : List Lane) (v : FlightTable) (i : ℕ) (x y : Lane) (p : Packet) → ReadsLane ls v i x → i ≡ (name_of p).issuer → (name_of p).number ≡ slice_index_or v.nexts i 0 → lane_of y ≡ lane_of x ++ Some p ∷ []
    → HasLanes (slice_set ls i y)
pushed_lanes ls v i x y p r e n k =
    let name : name_of p ≡ flight_name i (0 + length (lane_of x)) = ap (λ z. flight_name z (name_of p).number) (sym e) ∙ ap (flight_name i) (n ∙ next_of ls v i x r ∙ omega arith) in
    has_lanes ls v i x y r (subst (IsLane i) (sym k) (keyed_push name_of same_name name_before (flight_name i) (same_in i) (before_in i) 0 p (lane_of x) (is_lane ls v i x r) name))

pub pushed_nexts : (ls : List Lane) (v : FlightTable) (i : ℕ) (x y : Lane) (p : Packet) → ReadsLane ls v i x → (name_of p).number ≡ slice_index_or v.nexts i 0 → lane_of y ≡ lane_of x ++ Some p ∷ []
    → (table_of (slice_set ls i y)).nexts ≡ slice_set v.nexts i ((name_of p).number + 1)
pushed_nexts ls v i x y p r n k =
    ap (map length) (map_set lane_of ls i y)
    ∙ map_set length (lanes_of ls) i (lane_of y)
    ∙ ap (λ z. slice_set (map length (lanes_of ls)) i z) (ap length k ∙ length_pushed (lane_of x) (Some p) ∙ ap (λ z. z + 1) (sym (next_of ls v i x r) ∙ sym n))
    ∙ ap (λ t. slice_set t.nexts i ((name_of p).number + 1)) r.value

-- ---- none

empty_lanes : (a n : ℕ) → AreLanes a (replicate n (None ∷ []))
empty_lanes a zero = tt
empty_lanes a (suc n) = (tt, empty_lanes (a + 1) n)

pub new_lanes : (ls : List Lane) → lanes_of ls ≡ replicate 65 (None ∷ []) → HasLanes ls
new_lanes ls e =
    record {
      size = sym (length-map ls lane_of) ∙ ap length e ∙ length-replicate {A = List (Option Packet)} 65 (None ∷ []);
      lanes = subst (AreLanes 0) (sym e) (empty_lanes 0 65);
    }

flights_none : (n : ℕ) → flights_in (replicate n (None ∷ [])) ≡ []
flights_none zero = refl
flights_none (suc n) = flights_none n

nexts_none : (n : ℕ) → map length (replicate {A = List (Option Packet)} n (None ∷ [])) ≡ replicate n 1
nexts_none zero = refl
nexts_none (suc n) = ap (λ z. 1 ∷ z) (nexts_none n)

pub new_list : (ls : List Lane) → lanes_of ls ≡ replicate 65 (None ∷ []) → (table_of ls).list ≡ []
new_list ls e = ap flights_in e ∙ flights_none 65

pub new_nexts : (ls : List Lane) → lanes_of ls ≡ replicate 65 (None ∷ []) → (table_of ls).nexts ≡ replicate 65 1
new_nexts ls e = ap (map length) e ∙ nexts_none 65
