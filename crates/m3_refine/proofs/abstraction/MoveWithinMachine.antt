-- Contexts and packets that move leave the ideal state as it is.
use Rattle.std.proofs.Common.{◌≡◌, ℕ, ◌<◌, false, List, [], ◌∷◌, ◌++◌, None, refl, sym, subst, ◌∙◌, ap, arith, set, get_or, length, Some}
use Rattle.std.specs.Prelude.{◌==◌}
use Rattle.std.proofs.lemmas.Bool.Decides.{nat_tests}
use Rattle.m3_base.specs.declared.ids.FlightId.{FlightId}
use Rattle.m3_base.specs.declared.packet.Packet.{Packet}
use Rattle.m3_base.specs.Ideal.Flights.{name_of, flight, new_flight, sorted_by_name}
use Rattle.m3_base.specs.Ideal.Context.{Context}
use Rattle.m3_base.specs.Ideal.State.{context_of, new_context_in}
use Rattle.m3_base.proofs.FlightNames.{same_name-turned}
use Rattle.m3_base.proofs.FlightOrder.{new-new}
use Rattle.m3_model.specs.Parcel.{Parcel}
use Rattle.m3_model.specs.Abstraction.{flat_links, sorted_by_act, all_packets, all_closed, ideal_of}
use Rattle.m3_refine.proofs.lists.Insertion.{Inserts, pop_none, pop_one, push_none, push_one}
use Rattle.std.proofs.lemmas.List.{length-set}
use Rattle.m3_model.specs.Machine.{Machine}

-- ---- contexts in the order of their activities

pub context-context : (c d : Context) (cs : List Context) → (c.act == d.act) ≡ false → new_context_in c (new_context_in d cs) ≡ new_context_in d (new_context_in c cs)
context-context c d [] h = grind (arith, nat_tests)
context-context c d (x ∷ cs) h = grind (arith, nat_tests, context-context c d cs h)

pub apart-front : (a : ℕ) (xs ys : List Context) → context_of a (xs ++ ys) ≡ None → context_of a xs ≡ None
apart-front a [] ys h = refl
apart-front a (x ∷ xs) ys h = grind (arith, h, apart-front a xs ys)

pub by_act-middle : (xs : List Context) (c : Context) (ys : List Context) → context_of c.act xs ≡ None → sorted_by_act (xs ++ c ∷ ys) ≡ new_context_in c (sorted_by_act (xs ++ ys))
by_act-middle [] c ys a = refl
by_act-middle (x ∷ xs) c ys a =
    ap (new_context_in x) (by_act-middle xs c ys (grind (arith, a)))
    ∙ context-context x c (sorted_by_act (xs ++ ys)) (grind (arith, nat_tests, a))

pub by_act-inserts : (c : Context) (xs ys : List Context) → Inserts c xs ys → context_of c.act xs ≡ None → sorted_by_act ys ≡ new_context_in c (sorted_by_act xs)
by_act-inserts c xs ys h a =
    let b : context_of c.act (h.front ++ h.back) ≡ None = subst (λ l. context_of c.act l ≡ None) h.without a in
    ap sorted_by_act h.whole ∙ by_act-middle h.front c h.back (apart-front c.act h.front h.back b) ∙ sym (ap (λ l. new_context_in c (sorted_by_act l)) h.without)

-- a context that was at one place and is at another
pub context-moves : (c : Context) (base xs ys : List Context) → Inserts c base xs → Inserts c base ys → context_of c.act base ≡ None → sorted_by_act xs ≡ sorted_by_act ys
context-moves c base xs ys h k a = by_act-inserts c base xs h a ∙ sym (by_act-inserts c base ys k a)

-- ---- packets in the order of their names

pub name-front : (id : FlightId) (xs ys : List Packet) → flight id (xs ++ ys) ≡ None → flight id xs ≡ None
name-front id [] ys h = refl
name-front id (x ∷ xs) ys h = grind (arith, h, name-front id xs ys)

pub by_name-middle : (xs : List Packet) (p : Packet) (ys : List Packet) → flight (name_of p) xs ≡ None → sorted_by_name (xs ++ p ∷ ys) ≡ new_flight p (sorted_by_name (xs ++ ys))
by_name-middle [] p ys a = refl
by_name-middle (x ∷ xs) p ys a =
    ap (new_flight x) (by_name-middle xs p ys (grind (arith, a))) ∙ new-new x p (sorted_by_name (xs ++ ys)) (grind (arith, a, same_name-turned))

pub by_name-inserts : (p : Packet) (xs ys : List Packet) → Inserts p xs ys → flight (name_of p) xs ≡ None → sorted_by_name ys ≡ new_flight p (sorted_by_name xs)
by_name-inserts p xs ys h a =
    let b : flight (name_of p) (h.front ++ h.back) ≡ None = subst (λ l. flight (name_of p) l ≡ None) h.without a in
    ap sorted_by_name h.whole ∙ by_name-middle h.front p h.back (name-front (name_of p) h.front h.back b) ∙ sym (ap (λ l. new_flight p (sorted_by_name l)) h.without)

pub packet-moves : (p : Packet) (base xs ys : List Packet) → Inserts p base xs → Inserts p base ys → flight (name_of p) base ≡ None → sorted_by_name xs ≡ sorted_by_name ys
packet-moves p base xs ys h k a = by_name-inserts p base xs h a ∙ sym (by_name-inserts p base ys k a)

-- ---- what two machines have in common

abbrev pub SamePackets : Machine → Machine → Type 0
SamePackets m n = all_packets n ≡ all_packets m

-- the packet is a flight of the ideal state
abbrev pub IsInFlight : Machine → Packet → Type 0
IsInFlight m p = flight (name_of p) (ideal_of m).flights ≡ Some p

abbrev pub SameClosed : Machine → Machine → Type 0
SameClosed m n = all_closed n ≡ all_closed m

-- ---- one parcel leaves a link, and another enters one

abbrev pub moved : List (List Parcel) → ℕ → List Parcel → ℕ → Parcel → List (List Parcel)
moved links i rest j q = set (set links i rest) j (get_or (set links i rest) j [] ++ q ∷ [])

module _ {Y : Type 0} (f : Parcel → List Y) (links : List (List Parcel)) (i j : ℕ) (q r : Parcel) (rest : List Parcel) (hi : i < length links) (hj : j < length links) (g : get_or links i [] ≡ q ∷ rest) where
  at_j : j < length (set links i rest)
  at_j = subst (λ n. j < n) (sym (length-set links i rest)) hj

  -- neither has any
  pub moved_none : f q ≡ [] → f r ≡ [] → flat_links f (moved links i rest j r) ≡ flat_links f links
  moved_none e d = push_none f (set links i rest) j r at_j d ∙ pop_none f links i q rest hi g e

  -- the one that enters has x
  pub moved_in : (x : Y) → f q ≡ [] → f r ≡ x ∷ [] → Inserts x (flat_links f links) (flat_links f (moved links i rest j r))
  moved_in x e d = subst (λ l. Inserts x l (flat_links f (moved links i rest j r))) (pop_none f links i q rest hi g e) (push_one f (set links i rest) j r x at_j d)

  -- both have x
  pub moved_on : (x : Y) → f q ≡ x ∷ [] → f r ≡ x ∷ [] → (base : List Y) × Inserts x base (flat_links f links) × Inserts x base (flat_links f (moved links i rest j r))
  moved_on x e d = (flat_links f (set links i rest), pop_one f links i q rest x hi g e, push_one f (set links i rest) j r x at_j d)
