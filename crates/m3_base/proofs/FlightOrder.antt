-- The flights of a machine: its packets in the order of their names, wherever they lie.
use Rattle.std.proofs.Common.{◌≡◌, ℕ, zero, suc, ◌<◌, true, false, List, [], ◌∷◌, ◌++◌, Some, refl, sym, ◌∙◌, ap, arith, append_assoc, set, length}
use Rattle.std.specs.Prelude.{not}
use Rattle.std.proofs.lemmas.Bool.Decides.{nat_tests}
use Rattle.m3_base.specs.declared.ids.FlightId.{FlightId}
use Rattle.m3_base.specs.declared.packet.Packet.{Packet}
use Rattle.m3_base.specs.Ideal.Flights.{name_of, same_name, name_before, flight, new_flight, change_flight, end_flight, sorted_by_name}
use Rattle.m3_base.specs.Ideal.FlightNames.{Apart}
use Rattle.m3_base.proofs.FlightNames.{same_name-itself, same_name-turned}

before_flips : (a b : FlightId) → same_name a b ≡ false → name_before a b ≡ not (name_before b a)
before_flips a b h = grind (arith, nat_tests)

before_chain : (a b c : FlightId) → name_before a b ≡ true → name_before b c ≡ true → name_before a c ≡ true
before_chain a b c p q = grind (arith, nat_tests)

pub new-new : (p q : Packet) (fs : List Packet) → same_name (name_of p) (name_of q) ≡ false → new_flight p (new_flight q fs) ≡ new_flight q (new_flight p fs)
new-new p q [] h = grind (arith, before_flips (name_of p) (name_of q) h)
new-new p q (x ∷ fs) h = grind (arith, before_flips (name_of p) (name_of q) h, before_chain (name_of p) (name_of q) (name_of x), before_chain (name_of q) (name_of p) (name_of x), new-new p q fs h)

-- a packet may stand anywhere
pub sorted_by_name-middle : (xs : List Packet) (p : Packet) (ys : List Packet) → Apart (name_of p) xs → sorted_by_name (xs ++ p ∷ ys) ≡ new_flight p (sorted_by_name (xs ++ ys))
sorted_by_name-middle [] p ys a = refl
sorted_by_name-middle (x ∷ xs) p ys a = ap (new_flight x) (sorted_by_name-middle xs p ys (grind (arith, a))) ∙ new-new x p (sorted_by_name (xs ++ ys)) (grind (arith, a, same_name-turned))

-- landing and ending, by name
pub change-new : (p q : Packet) (fs : List Packet) → name_of q ≡ name_of p → Apart (name_of p) fs → change_flight q (new_flight p fs) ≡ new_flight q fs
change-new p q [] e a = grind (arith, e, same_name-itself)
change-new p q (x ∷ fs) e a = grind (arith, e, a, same_name-itself, change-new p q fs e)

pub end-new : (p : Packet) (fs : List Packet) → Apart (name_of p) fs → end_flight (name_of p) (new_flight p fs) ≡ fs
end-new p [] a = grind (arith, same_name-itself)
end-new p (x ∷ fs) a = grind (arith, a, same_name-itself, end-new p fs)

pub find-new : (p : Packet) (fs : List Packet) → Apart (name_of p) fs → flight (name_of p) (new_flight p fs) ≡ Some p
find-new p [] a = grind (arith, same_name-itself)
find-new p (x ∷ fs) a = grind (arith, a, same_name-itself, find-new p fs)

-- ---- lists of links

abbrev pub flat : {X : Type 0} → List (List X) → List X
flat [] = []
flat (xs ∷ xss) = xs ++ flat xss

-- a link, and what stands before and behind it
pub record Around {X : Type 0} (xss : List (List X)) (i : ℕ) : Type 0 where
  pub front : List X
  pub back : List X
  pub all : (ys : List X) → flat (set xss i ys) ≡ front ++ (ys ++ back)

pub around : {X : Type 0} (xss : List (List X)) (i : ℕ) → i < length xss → Around xss i
around [] i h = absurd (omega arith)
around (xs ∷ xss) zero h = record { front = []; back = flat xss; all = λ ys. refl }
around (xs ∷ xss) (suc i) h =
    let r = around xss i (omega arith) in
    record { front = xs ++ r.front; back = r.back; all = λ ys. ap (λ z. xs ++ z) (r.all ys) ∙ sym (append_assoc xs r.front (ys ++ r.back)) }
