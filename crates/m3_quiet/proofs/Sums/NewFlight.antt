-- A new flight: no token has its name yet, so the sums over what stands don't change.
use Rattle.std.proofs.Common.{◌≡◌, ℕ, ◌+◌, ◌≤◌, Bool, true, false, List, [], ◌∷◌, Some, None, refl, sym, subst, ap, arith}
use Rattle.std.specs.Prelude.{Option, ◌/◌, ◌%◌, is_some}
use Rattle.std.proofs.lemmas.Bool.Decides.{nat_tests}
use Rattle.m3_base.specs.declared.ids.FlightId.{FlightId}
use Rattle.m3_base.specs.declared.packet.Packet.{Packet}
use Rattle.m3_base.specs.Lists.Counting.{total}
use Rattle.m3_base.specs.Ideal.Flights.{flight, name_of, same_name, new_flight}
use Rattle.m3_base.specs.Ideal.State.{State}
use Rattle.m3_base.specs.Ideal.Step.{has_unread}
use Rattle.m3_base.specs.Placement.State.{PlacedActivity, LinkToken, Data, Save, Saved, Restore, Yield, Closed}
use Rattle.m3_base.proofs.FlightNames.{same_name-is, flight-new}
use Rattle.m3_quiet.specs.Potential.{packet_worth, token_worth, link_sum, links_sum, sum_from, hold_sum, actors_sum, is_there}
use Rattle.m3_quiet.specs.Facts.{IsKnown, TokensKnown, LinksKnown, NamesKnown, HoldsKnown}
use Rattle.m3_quiet.proofs.Sums.Contexts.{Fewer, join_calm, state_worth}

-- no flight of fs is worth more in gs
abbrev pub KnownLess : List Packet → List Packet → Type 0
KnownLess gs fs = (k : FlightId) → is_some (flight k fs) ≡ true → packet_worth (flight k gs) ≤ packet_worth (flight k fs)

pub new_less : (q : Packet) (fs : List Packet) → flight (name_of q) fs ≡ None → KnownLess (new_flight q fs) fs
new_less q fs none k known = by_name (same_name k (name_of q)) refl
  where
    by_name : (b : Bool) → same_name k (name_of q) ≡ b → packet_worth (flight k (new_flight q fs)) ≤ packet_worth (flight k fs)
    by_name true e =
        let gone : flight k fs ≡ None = subst (λ z. flight z fs ≡ None) (sym (same_name-is k (name_of q) e)) none in
        let no : is_some (flight k fs) ≡ false = ap is_some gone in
        absurd (cc)
    by_name false e = let same = ap packet_worth (flight-new k q fs e) in omega (arith, same)

token_less : (gs fs : List Packet) → KnownLess gs fs → (from to : ℕ) (t : LinkToken) → IsKnown fs t → token_worth gs from to t ≤ token_worth fs from to t
token_less gs fs h from to (Data id) known = omega (arith, h id known)
token_less gs fs h from to (Save a) known = omega arith
token_less gs fs h from to (Saved a w e) known = omega arith
token_less gs fs h from to (Restore a) known = omega arith
token_less gs fs h from to (Yield a) known = omega arith
token_less gs fs h from to (Closed g) known = omega arith

tokens_less : (gs fs : List Packet) → KnownLess gs fs → (from to : ℕ) (ts : List LinkToken) → TokensKnown fs ts → total (token_worth gs from to) ts ≤ total (token_worth fs from to) ts
tokens_less gs fs h from to [] known = omega arith
tokens_less gs fs h from to (t ∷ ts) known = omega (arith, token_less gs fs h from to t known.0, tokens_less gs fs h from to ts known.1)

links_less : (gs fs : List Packet) → KnownLess gs fs → (n : ℕ) (ls : List (List LinkToken)) → LinksKnown fs ls → sum_from (link_sum gs) n ls ≤ sum_from (link_sum fs) n ls
links_less gs fs h n [] known = omega arith
links_less gs fs h n (l ∷ ls) known = omega (arith, tokens_less gs fs h (n / 16) (n % 16) l known.0, links_less gs fs h (n + 1) ls known.1)

pub links_known : (gs fs : List Packet) → KnownLess gs fs → (ls : List (List LinkToken)) → LinksKnown fs ls → links_sum gs ls ≤ links_sum fs ls
links_known gs fs h ls known = links_less gs fs h 0 ls known

hold_known : (gs fs : List Packet) → KnownLess gs fs → (ids : List FlightId) → NamesKnown fs ids → hold_sum gs ids ≤ hold_sum fs ids
hold_known gs fs h [] known = omega arith
hold_known gs fs h (k ∷ ids) known = omega (arith, h k known.0, hold_known gs fs h ids known.1)

pub actors_known : (s n : State) → KnownLess n.flights s.flights → Fewer has_unread n.contexts s.contexts → (current : List (Option ℕ)) (xs : List PlacedActivity) → HoldsKnown s.flights xs → actors_sum n current xs ≤ actors_sum s current xs
actors_known s n less calm current [] known = omega arith
actors_known s n less calm current (x ∷ xs) known =
    let a = join_calm s n (is_there current x) x (calm x.act) in
    let b = hold_known n.flights s.flights less x.hold known.0 in
    let c = state_worth s n (is_there current x) x in
    omega (arith, a, b, c, actors_known s n less calm current xs known.1)

pub packet_most : (o : Option Packet) → packet_worth o ≤ 15
packet_most None = omega arith
packet_most (Some (Packet.Message to ep grant message)) = omega arith
packet_most (Some (Packet.Credit id to grant)) = omega arith
packet_most (Some (Packet.Read id grant place buffer)) = omega arith
packet_most (Some (Packet.Write id grant place payload)) = omega arith
packet_most (Some (Packet.Answer id answer)) = omega arith
packet_most (Some (Packet.Install id to ep fresh)) = omega arith
packet_most (Some (Packet.Close id to ep grant)) = omega arith

-- the new flight itself
pub new_worth : (q : Packet) (fs : List Packet) → flight (name_of q) fs ≡ None → packet_worth (flight (name_of q) (new_flight q fs)) ≤ packet_worth (Some q)
new_worth q [] e = grind (arith, nat_tests)
new_worth q (x ∷ fs) e = grind (arith, nat_tests, new_worth q fs)
