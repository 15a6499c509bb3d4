-- Where no flight is worth more, no link and no hold list is; and landings in memory.
use Rattle.std.proofs.Common.{◌≡◌, ℕ, ◌+◌, ◌≤◌, Bool, true, false, List, [], ◌∷◌, Some, refl, sym, subst, arith}
use Rattle.std.specs.Prelude.{Option, if◌then◌else◌, ◌/◌, ◌%◌}
use Rattle.m3_base.specs.declared.ids.FlightId.{FlightId}
use Rattle.m3_base.specs.declared.packet.Packet.{Packet}
use Rattle.m3_base.specs.Lists.Counting.{total}
use Rattle.m3_base.specs.Ideal.Flights.{flight, name_of, same_name, change_flight}
use Rattle.m3_base.specs.Ideal.State.{State}
use Rattle.m3_base.specs.Placement.State.{PlacedActivity, LinkToken, Data, Save, Saved, Restore, Yield, Closed}
use Rattle.m3_base.proofs.FlightNames.{same_name-is, same_name-itself}
use Rattle.m3_quiet.specs.Potential.{packet_worth, token_worth, link_sum, links_sum, sum_from, hold_sum, actor_worth, actors_sum, is_there}

-- no flight of gs is worth more than in fs
abbrev pub Lighter : List Packet → List Packet → Type 0
Lighter gs fs = (k : FlightId) → packet_worth (flight k gs) ≤ packet_worth (flight k fs)

token_lighter : (gs fs : List Packet) → Lighter gs fs → (from to : ℕ) (t : LinkToken) → token_worth gs from to t ≤ token_worth fs from to t
token_lighter gs fs h from to (Data id) = omega (arith, h id)
token_lighter gs fs h from to (Save a) = omega arith
token_lighter gs fs h from to (Saved a w e) = omega arith
token_lighter gs fs h from to (Restore a) = omega arith
token_lighter gs fs h from to (Yield a) = omega arith
token_lighter gs fs h from to (Closed g) = omega arith

tokens_lighter : (gs fs : List Packet) → Lighter gs fs → (from to : ℕ) (ts : List LinkToken) → total (token_worth gs from to) ts ≤ total (token_worth fs from to) ts
tokens_lighter gs fs h from to [] = omega arith
tokens_lighter gs fs h from to (t ∷ ts) = omega (arith, token_lighter gs fs h from to t, tokens_lighter gs fs h from to ts)

links_from : (gs fs : List Packet) → Lighter gs fs → (n : ℕ) (ls : List (List LinkToken)) → sum_from (link_sum gs) n ls ≤ sum_from (link_sum fs) n ls
links_from gs fs h n [] = omega arith
links_from gs fs h n (l ∷ ls) = omega (arith, tokens_lighter gs fs h (n / 16) (n % 16) l, links_from gs fs h (n + 1) ls)

pub links_lighter : (gs fs : List Packet) → Lighter gs fs → (ls : List (List LinkToken)) → links_sum gs ls ≤ links_sum fs ls
links_lighter gs fs h ls = links_from gs fs h 0 ls

pub hold_lighter : (gs fs : List Packet) → Lighter gs fs → (ids : List FlightId) → hold_sum gs ids ≤ hold_sum fs ids
hold_lighter gs fs h [] = omega arith
hold_lighter gs fs h (k ∷ ids) = omega (arith, h k, hold_lighter gs fs h ids)

-- the same contexts, other flights and memory
abbrev pub moved_on : State → List ℕ → List Packet → State
moved_on s m gs = record s { memory = m; flights = gs }

actor_lighter : (s : State) (m : List ℕ) (gs : List Packet) → Lighter gs s.flights → (b : Bool) (x : PlacedActivity) → actor_worth (moved_on s m gs) b x ≤ actor_worth s b x
actor_lighter s m gs h b x = let e = hold_lighter gs s.flights h x.hold in omega (arith, e)

pub actors_lighter : (s : State) (m : List ℕ) (gs : List Packet) → Lighter gs s.flights → (current : List (Option ℕ)) (xs : List PlacedActivity) → actors_sum (moved_on s m gs) current xs ≤ actors_sum s current xs
actors_lighter s m gs h current [] = omega arith
actors_lighter s m gs h current (x ∷ xs) = omega (arith, actor_lighter s m gs h (is_there current x) x, actors_lighter s m gs h current xs)

-- ---- an answer in place of its command

pub change_lighter : (a old : Packet) (k : FlightId) (fs : List Packet) → flight (name_of a) fs ≡ Some old → packet_worth (Some a) ≤ packet_worth (Some old) → packet_worth (flight k (change_flight a fs)) ≤ packet_worth (flight k fs)
change_lighter a old k [] e h = absurd (cc)
change_lighter a old k (x ∷ fs) e h = by_name (same_name (name_of a) (name_of x)) refl e (change_lighter a old k fs)
  where
    by_name : (b : Bool) → same_name (name_of a) (name_of x) ≡ b → (if b then Some x else flight (name_of a) fs) ≡ Some old → (flight (name_of a) fs ≡ Some old → packet_worth (Some a) ≤ packet_worth (Some old) → packet_worth (flight k (change_flight a fs)) ≤ packet_worth (flight k fs)) → packet_worth (flight k (if b then a ∷ fs else x ∷ change_flight a fs)) ≤ packet_worth (flight k (x ∷ fs))
    by_name true w f ih =
        let names : name_of a ≡ name_of x = same_name-is (name_of a) (name_of x) w in
        let same : x ≡ old = cc in
        let worth : packet_worth (Some a) ≤ packet_worth (Some x) = subst (λ z. packet_worth (Some a) ≤ packet_worth (Some z)) (sym same) h in
        subst (λ z. packet_worth (if same_name k z then Some a else flight k fs) ≤ packet_worth (if same_name k (name_of x) then Some x else flight k fs)) (sym names) (by_mine (same_name k (name_of x)) worth)
      where
        by_mine : (c : Bool) → packet_worth (Some a) ≤ packet_worth (Some x) → packet_worth (if c then Some a else flight k fs) ≤ packet_worth (if c then Some x else flight k fs)
        by_mine true q = q
        by_mine false q = omega arith
    by_name false w f ih = by_mine (same_name k (name_of x)) (ih f h)
      where
        by_mine : (c : Bool) → packet_worth (flight k (change_flight a fs)) ≤ packet_worth (flight k fs) → packet_worth (if c then Some x else flight k (change_flight a fs)) ≤ packet_worth (if c then Some x else flight k fs)
        by_mine true q = omega arith
        by_mine false q = q

pub answered_worth : (a old : Packet) (fs : List Packet) → flight (name_of a) fs ≡ Some old → packet_worth (flight (name_of a) (change_flight a fs)) ≤ packet_worth (Some a)
answered_worth a old [] e = absurd (cc)
answered_worth a old (x ∷ fs) e = by_name (same_name (name_of a) (name_of x)) refl e (answered_worth a old fs)
  where
    by_name : (b : Bool) → same_name (name_of a) (name_of x) ≡ b → (if b then Some x else flight (name_of a) fs) ≡ Some old → (flight (name_of a) fs ≡ Some old → packet_worth (flight (name_of a) (change_flight a fs)) ≤ packet_worth (Some a)) → packet_worth (flight (name_of a) (if b then a ∷ fs else x ∷ change_flight a fs)) ≤ packet_worth (Some a)
    by_name true w f ih = subst (λ c. packet_worth (if c then Some a else flight (name_of a) fs) ≤ packet_worth (Some a)) (sym (same_name-itself (name_of a))) (omega arith)
    by_name false w f ih = subst (λ c. packet_worth (if c then Some x else flight (name_of a) (change_flight a fs)) ≤ packet_worth (Some a)) (sym w) (ih f)
