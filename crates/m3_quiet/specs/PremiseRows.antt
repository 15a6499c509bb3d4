-- What is asked of the machine's invariant, tested at each state of worked rows.
use Rattle.std.specs.Prelude.{◌≡◌, ℕ, zero, suc, ◌+◌, ◌/◌, ◌%◌, Bool, true, false, not, ◌&&◌, ◌||◌, ◌==◌, nat_le, nat_lt, List, [], ◌∷◌, length, Option, Some, None, is_some, is_none}
use Rattle.std.specs.List.{list_all}
use Rattle.std.proofs.Common.{refl}
use Rattle.m3_base.specs.declared.packet.Packet.{Packet}
use Rattle.m3_base.specs.declared.event.Entry.{Entry}
use Rattle.m3_base.specs.Ideal.Flights.{flight, name_of}
use Rattle.m3_base.specs.Ideal.Issue.{next_id}
use Rattle.m3_base.specs.Ideal.Landing.{grant_of}
use Rattle.m3_base.specs.Ideal.GrantRules.{kernel_id}
use Rattle.m3_base.specs.Ideal.State.{State, Grant, grant_in, holder, is_done}
use Rattle.m3_base.specs.Ideal.Opening.{opening}
use Rattle.m3_base.specs.Placement.State.{Placement, PlacedActivity, LinkToken, Data, Save, Saved, Restore, Closed, actor, current_of, is_placed, is_leaving, is_resting, is_coming}
use Rattle.m3_base.specs.Placement.Routing.{target_of}
use Rattle.m3_base.specs.Placement.Take.{is_here}
use Rattle.m3_base.specs.Placement.Step.{placement_step}
use Rattle.m3_base.specs.Placement.Opening.{opening_placement}
use Rattle.m3_base.specs.Ideal.State.{is_number}
use Rattle.m3_base.specs.Placement.Driver.{next_event}
use Rattle.m3_base.specs.Examples.Driver.{Running, driven, two_on_one_tile_start}
use Rattle.m3_base.specs.Examples.Placement.{state_of}
use Rattle.m3_base.specs.DriverRun.Configuration.{places_after as places_of}
use Rattle.m3_base.specs.Examples.Scripts.{late_credit_setup, switch_keeps_unread_setup}
use Rattle.m3_base.specs.Examples.Scripts.{late_credit}
use Rattle.m3_base.specs.Examples.Scripts.{revoke_while_writing_setup}
use Rattle.m3_base.specs.Examples.Scripts.{revoke_while_writing}
use Rattle.m3_base.specs.Examples.Scripts.{children_first_setup}
use Rattle.m3_base.specs.Examples.Scripts.{children_first}
use Rattle.m3_base.specs.Examples.Scripts.{close_while_replying_setup}
use Rattle.m3_base.specs.Examples.Scripts.{close_while_replying}
use Rattle.m3_base.specs.Examples.Scripts.{sender_leaves_setup}
use Rattle.m3_base.specs.Examples.Scripts.{sender_leaves}
use Rattle.m3_base.specs.Examples.Scripts.{restore_waits}
use Rattle.m3_base.specs.Examples.Scripts.{switch_keeps_unread_setup}
use Rattle.m3_base.specs.Examples.Scripts.{switch_keeps_unread}
use Rattle.m3_quiet.specs.Potential.{is_there}
use Rattle.m3_quiet.specs.Schedule.{has_yield}

-- a link that isn't empty: its tiles, its front and the rest
pub record Full : Type 0 where
  pub from : ℕ
  pub to : ℕ
  pub front : LinkToken
  pub rest : List LinkToken

abbrev pub full : ℕ → List (List LinkToken) → List Full
full n [] = []
full n ([] ∷ ls) = full (n + 1) ls
full n ((t ∷ ts) ∷ ls) =
    record { from = n / 16; to = n % 16; front = t; rest = ts } ∷ full (n + 1) ls

-- ---- names

abbrev pub are_apart : List Packet → Bool
are_apart [] = true
are_apart (x ∷ fs) = is_none (flight (name_of x) fs) && are_apart fs

abbrev pub is_known : List Packet → LinkToken → Bool
is_known fs (Data id) = is_some (flight id fs)
is_known fs t = true

abbrev pub names_ok : State → Placement → List Full → Bool
names_ok s p ls =
    are_apart s.flights
    && (list_all (λ l. is_known s.flights l.front && list_all (is_known s.flights) l.rest) ls
    && (list_all (λ x. list_all (λ id. is_some (flight id s.flights)) x.hold) p.actors
    && (list_all (λ c. is_none (flight (next_id c) s.flights)) s.contexts
    && is_none (flight (kernel_id s) s.flights))))

-- ---- grants

abbrev pub is_held_by : ℕ → Option Grant → Bool
is_held_by a None = false
is_held_by a (Some x) = (holder x.line == a) && not (is_done x.standing)

abbrev pub record_ok : List Grant → ℕ → Option ℕ → Bool
record_ok gs a None = true
record_ok gs a (Some g) = is_held_by a (grant_in gs g)

abbrev pub is_sent : Option Grant → Bool
is_sent None = true
is_sent (Some x) = x.close_sent

abbrev pub closed_ok : List Grant → LinkToken → Bool
closed_ok gs (Closed g) = is_sent (grant_in gs g)
closed_ok gs t = true

abbrev pub grants_ok : State → List Full → Bool
grants_ok s ls =
    list_all (λ c. list_all (λ e. record_ok s.grants c.act (grant_of e)) c.endpoints) s.contexts
    && list_all (λ l. closed_ok s.grants l.front) ls

-- ---- fronts

abbrev pub leaves_of : Option PlacedActivity → Bool
leaves_of None = true
leaves_of (Some x) = is_leaving x.place

abbrev pub lives_at : ℕ → Option PlacedActivity → Bool
lives_at t None = true
lives_at t (Some x) = x.home == t

abbrev pub gone_of : Placement → Option PlacedActivity → Bool
gone_of p None = true
gone_of p (Some x) = is_leaving x.place && not (is_there p.current x)

abbrev pub no_yield_of : ℕ → List Full → Bool
no_yield_of a ls = list_all (λ l. not (has_yield a (l.front ∷ l.rest))) ls

abbrev pub front_ok : State → Placement → List Full → Full → Bool
front_ok s p ls l = by_front l.front
  where
    by_front : LinkToken → Bool
    by_front (Data id) =
        (not (l.to == 1) || is_none (target_of (flight id s.flights)))
        && (not ((l.from == 0) && nat_le 2 l.to)
        || is_here (target_of (flight id s.flights)) (current_of l.to p))
    by_front (Save a) = is_number a (current_of l.to p) && leaves_of (actor a p)
    by_front (Restore a) = is_none (current_of l.to p) && lives_at l.to (actor a p)
    by_front (Saved a w e) = no_yield_of a ls
    by_front t = true

-- a Saved anywhere
abbrev pub saved_ok : Placement → LinkToken → Bool
saved_ok p (Saved a w e) = gone_of p (actor a p)
saved_ok p t = true

-- ---- activities

abbrev pub held_ok : State → PlacedActivity → Bool
held_ok s x = list_all (λ id. is_number x.act (target_of (flight id s.flights))) x.hold

abbrev pub alone_ok : List PlacedActivity → PlacedActivity → Bool
alone_ok xs x =
    not (is_placed x.place || is_leaving x.place)
    || list_all (λ y. not ((y.home == x.home) && is_placed y.place) || (y.act == x.act)) xs

abbrev pub actor_ok : State → Placement → PlacedActivity → Bool
actor_ok s p x =
    nat_le 2 x.home
    && (nat_lt x.home 16
    && (held_ok s x
    && (alone_ok p.actors x
    && (not (is_resting x.place || is_coming x.place) || not (is_there p.current x)))))

abbrev pub current_ok : Placement → ℕ → List (Option ℕ) → Bool
current_ok p t [] = true
current_ok p t (None ∷ cs) = current_ok p (t + 1) cs
current_ok p t (Some a ∷ cs) = lives_at t (actor a p) && current_ok p (t + 1) cs

-- ---- all

abbrev pub sound_by : State → Placement → List Full → Bool
sound_by s p ls =
    names_ok s p ls
    && (grants_ok s ls
    && (list_all (front_ok s p ls) ls
    && (list_all (λ l. saved_ok p l.front && list_all (saved_ok p) l.rest) ls
    && (list_all (actor_ok s p) p.actors
    && (current_ok p 0 p.current && (length p.links == 256))))))

abbrev pub is_sound : State → Placement → Bool
is_sound s p = sound_by s p (full 0 p.links)

-- at each state of these entries
abbrev pub sound_along : State → Placement → List Entry → Bool
sound_along s p [] = is_sound s p
sound_along s p (e ∷ es) =
    let d = placement_step s p e.event e.outcome.made in
    is_sound s p && sound_along (state_of s d) (places_of p d) es

abbrev pub sound_driven : ℕ → Running → Bool
sound_driven zero r = is_sound r.state r.places
sound_driven (suc n) r =
    is_sound r.state r.places && sound_driven n (driven r (next_event r.state r.places []))

pub two_on_one_tile_sound :
    sound_driven 16 two_on_one_tile_start
    ≡ true
two_on_one_tile_sound = refl

pub switch_keeps_unread_sound :
    sound_along (opening 16 switch_keeps_unread_setup)
    (opening_placement [] switch_keeps_unread_setup) switch_keeps_unread
    ≡ true
switch_keeps_unread_sound = refl

pub restore_waits_sound :
    sound_along (opening 16 switch_keeps_unread_setup)
    (opening_placement [] switch_keeps_unread_setup) restore_waits
    ≡ true
restore_waits_sound = refl

pub sender_leaves_sound :
    sound_along (opening 16 sender_leaves_setup)
    (opening_placement [] sender_leaves_setup) sender_leaves
    ≡ true
sender_leaves_sound = refl

pub close_while_replying_sound :
    sound_along (opening 16 close_while_replying_setup)
    (opening_placement [] close_while_replying_setup) close_while_replying
    ≡ true
close_while_replying_sound = refl

pub children_first_sound :
    sound_along (opening 16 children_first_setup)
    (opening_placement [] children_first_setup) children_first
    ≡ true
children_first_sound = refl

pub revoke_while_writing_sound :
    sound_along (opening 16 revoke_while_writing_setup)
    (opening_placement [] revoke_while_writing_setup) revoke_while_writing
    ≡ true
revoke_while_writing_sound = refl

pub late_credit_sound :
    sound_along (opening 16 late_credit_setup)
    (opening_placement [] late_credit_setup) late_credit
    ≡ true
late_credit_sound = refl
