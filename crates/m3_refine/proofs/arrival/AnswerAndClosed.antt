-- What is emitted where a packet arrived: the answer, and the Closed of a grant.
use Rattle.std.proofs.Common.{◌≡◌, ℕ, ◌<◌, ◌≤◌, Bool, true, false, cond, List, [], ◌∷◌, ◌++◌, Some, None, refl, sym, subst, ◌∙◌, ap, arith, map, Option, inr}
use Rattle.std.specs.Prelude.{◌==◌, is_some}
use Rattle.m3_base.specs.declared.ids.FlightId.{FlightId}
use Rattle.m3_base.specs.declared.packet.Packet.{Packet}
use Rattle.m3_base.specs.Lists.Keyed as keyed
use Rattle.m3_base.specs.Ideal.Flights.{name_of, flight}
use Rattle.m3_base.specs.Ideal.State.{Grant, grant_in, same_act, is_open}
use Rattle.m3_base.specs.Ideal.Step.{with_packet}
use Rattle.m3_base.specs.Placement.State as places_state
use Rattle.m3_base.specs.Placement.State.{Placement, PlacedActivity, home_in, actor_act}
use Rattle.m3_base.specs.Placement.Routing.{target}
use Rattle.m3_base.specs.Placement.Landing.{push_answer, push_closed}
use Rattle.m3_model.specs.Config.Site.{Home, Site, home_act, home_of, tile_in, tile_of, tile_for}
use Rattle.m3_model.specs.Parcel.{Parcel, Data, Closed}
use Rattle.m3_model.specs.LocalStep.{data_out, closed_out, answer_tile}
use Rattle.m3_model.specs.Config.KnownActivities.{is_home, is_named}
use Rattle.m3_model.specs.Kernel.Step.{is_under_close}
use Rattle.m3_model.specs.Machine.{Machine, with_parcel, with_parcels}
use Rattle.m3_model.specs.Abstraction.{all_packets, all_closed, ideal_of, actor_in, placement_of}
use Rattle.m3_model.specs.Invariant.Housing.{IsSetup}
use Rattle.m3_model.specs.Invariant.Parcels.{HasDestination}
use Rattle.m3_model.specs.Invariant.Structure.{CloseWasSent, MachineStructure}
use Rattle.m3_refine.proofs.abstraction.PushParcel.{longer_places, walks_elsewhere, sending_state, sending_sound, telling_state, telling_sound, telling_closed}
use Rattle.m3_refine.proofs.arrival.ArriveIsLandAll.{grants_after, name_in}
use Rattle.m3_refine.proofs.arrival.ArriveKeeps.{AnswerOk}
use Rattle.m3_refine.proofs.arrival.KeepsKnownActivities.{NamedIf}
use Rattle.m3_refine.proofs.abstraction.ClosedGrants.{closes_one, open_grant}

-- ---- homes

is_there_home : (o : Option Home) → is_some o ≡ true → (y : Home) × (o ≡ Some y)
is_there_home None e = absurd (cc)
is_there_home (Some y) e = (y, refl)

-- a packet goes to one of 16 tiles, as each activity's home is one of them
pub tile_for-low : (h : Site) → ((a : ℕ) → tile_of h a < 16) → (o : Option ℕ) → tile_for h o < 16
tile_for-low h low None = omega arith
tile_for-low h low (Some a) = low a

-- an open grant whose Close was sent is under its Close
pub under_close : (x : Grant) → is_open x.standing ≡ true → x.close_sent ≡ true → is_under_close x ≡ true
under_close x o e = grind (arith, o, e)

-- an activity of the setup lives at a tile from 2 on
pub home_tile : (h : Site) (a : ℕ) → IsSetup h → is_home h a ≡ true → (2 ≤ tile_of h a) × (tile_of h a < 16)
home_tile h a setup e =
    let y = is_there_home (home_of a h) e in
    let s = setup.tiles a y.0 y.1 in
    let t : tile_of h a ≡ y.0.tile = ap tile_in y.1 in
    (subst (λ n. 2 ≤ n) (sym t) s.0, subst (λ n. n < 16) (sym t) s.1)

module _ (m : Machine) where
  home_test : (b : Bool) (x : Home) (o : Option PlacedActivity) (r : Option Home) → home_in o ≡ tile_in r → home_in (cond b (Some (actor_in m x)) o) ≡ tile_in (cond b (Some x) r)
  home_test true x o r e = refl
  home_test false x o r e = e

  find_home : (a : ℕ) (xs : List Home) → home_in (keyed.find actor_act same_act a (map (actor_in m) xs)) ≡ tile_in (keyed.find home_act same_act a xs)
  find_home a [] = refl
  find_home a (x ∷ xs) =
      home_test (a == x.act) x (keyed.find actor_act same_act a (map (actor_in m) xs)) (keyed.find home_act same_act a xs) (find_home a xs)

-- the places have each activity at its home
pub home_is : (h : Site) (m : Machine) (a : ℕ) → places_state.home a (placement_of h m) ≡ tile_of h a
home_is h m a = find_home m a h.homes

-- who a packet of the setup's activities is for is one of them
pub named_target : (h : Site) (q : Packet) (a : ℕ) → is_named h q ≡ true → target q ≡ Some a → is_home h a ≡ true
named_target h (Packet.Message to ep g m) a n e = let s : to ≡ a = cc in let x : is_home h to ≡ true = grind (arith, n) in subst (λ z. is_home h z ≡ true) s x
named_target h (Packet.Credit id to g) a n e = let s : to ≡ a = cc in let x : is_home h to ≡ true = grind (arith, n) in subst (λ z. is_home h z ≡ true) s x
named_target h (Packet.Read id g place buffer) a n e = absurd (cc)
named_target h (Packet.Write id g place payload) a n e = absurd (cc)
named_target h (Packet.Answer id answer) a n e = let s : id.issuer ≡ a = cc in let x : is_home h id.issuer ≡ true = grind (arith, n) in subst (λ z. is_home h z ≡ true) s x
named_target h (Packet.Install id to ep f) a n e = let s : to ≡ a = cc in let x : is_home h to ≡ true = grind (arith, n) in subst (λ z. is_home h z ≡ true) s x
named_target h (Packet.Close id to ep g) a n e = let s : to ≡ a = cc in let x : is_home h to ≡ true = grind (arith, n) in subst (λ z. is_home h z ≡ true) s x

-- ---- emits

-- what the machine is once some parcels are emitted: its flights, its grants and its places
pub record Emits (h : Site) (m n : Machine) (flights : List Packet) (grants : List Grant) (p : Placement) : Type 0 where
  pub sound : MachineStructure h n
  pub state : ideal_of n ≡ record (ideal_of m) { flights = flights; grants = grants }
  pub places : placement_of h n ≡ p

-- the grant that is freed is open, and its Close was sent
pub record Shuts (gs : List Grant) (g : ℕ) : Type 0 where
  pub grant : Grant
  pub found : grant_in gs g ≡ Some grant
  pub stands : is_open grant.standing ≡ true
  pub sent : grant.close_sent ≡ true

abbrev pub ShutsIf : List Grant → Option ℕ → Type 0
ShutsIf gs None = Unit {0}
ShutsIf gs (Some g) = Shuts gs g

module _ (h : Site) (t : ℕ) (low : 1 ≤ t) (ht : t < 16) where
  pub emit_answer : (m : Machine) → MachineStructure h m → (id : FlightId) (o : Option Packet) → AnswerOk id o → NamedIf h o → flight id (all_packets m) ≡ None
      → Emits h m (with_parcels t (data_out (answer_tile h o) o) m) (with_packet o (ideal_of m).flights) (ideal_of m).grants (push_answer t (name_in o) (placement_of h m))
  emit_answer m sound id None ok named absent = record { sound = sound; state = refl; places = refl }
  emit_answer m sound id (Some q) ok named absent =
      let u = tile_for h (target q) in
      let there : u ≡ tile_of h id.issuer = ap (tile_for h) ok.1 in
      let hu : u < 16 = subst (λ n. n < 16) (sym there) (home_tile h id.issuer sound.setup (named_target h q id.issuer named ok.1)).1 in
      let gone : flight (name_of q) (all_packets m) ≡ None = subst (λ n. flight n (all_packets m) ≡ None) (sym ok.0) absent in
      let to : u ≡ places_state.home (name_of q).issuer (placement_of h m) =
      there ∙ ap (tile_of h) (ap (λ n. n.issuer) (sym ok.0)) ∙ sym (home_is h m (name_of q).issuer) in
      record {
        sound = sending_sound h m t u ht hu sound q gone (named, subst (HasDestination h u) (sym ok.1) (inr there)) (walks_elsewhere h m t u ht hu (Data q) sound low);
        state = sending_state h m t u ht hu sound q gone;
        places = longer_places h m t u ht hu (Data q) sound.links ∙ ap (λ n. places_state.with_token t n (places_state.Data (name_of q)) (placement_of h m)) to;
      }

  pub emit_closed : (m : Machine) → MachineStructure h m → (o : Option ℕ) → ShutsIf (ideal_of m).grants o
      → Emits h m (with_parcels t (closed_out o) m) (ideal_of m).flights (grants_after o (ideal_of m).grants) (push_closed t o (placement_of h m))
  emit_closed m sound None ok = record { sound = sound; state = refl; places = refl }
  emit_closed m sound (Some g) ok =
      let o = open_grant (all_closed m) g m.kernel.grants ok.grant ok.found ok.stands in
      let shut : CloseWasSent (grant_in m.kernel.grants g) = subst CloseWasSent (sym o.1) (under_close ok.grant ok.stands ok.sent) in
      let n = with_parcel t (0, Closed g) m in
      record {
        sound = telling_sound h m t ht sound g o.0 shut (walks_elsewhere h m t 0 ht (omega arith) (Closed g) sound low);
        state = telling_state h m t ht sound g o.0 ∙ (λ k. record (ideal_of m) { grants = closes_one (all_closed m) (all_closed n) g m.kernel.grants ok.grant (telling_closed h m t ht sound g o.0) ok.found k });
        places = longer_places h m t 0 ht (omega arith) (Closed g) sound.links;
      }

  pushed_append : (xs ys : List (ℕ × Parcel)) (m : Machine) → with_parcels t (xs ++ ys) m ≡ with_parcels t ys (with_parcels t xs m)
  pushed_append [] ys m = refl
  pushed_append (x ∷ xs) ys m = pushed_append xs ys (with_parcel t x m)

  pub emit_both : (m : Machine) → MachineStructure h m → (id : FlightId) (o : Option Packet) (f : Option ℕ) → AnswerOk id o → NamedIf h o → flight id (all_packets m) ≡ None → ShutsIf (ideal_of m).grants f
      → Emits h m (with_parcels t (data_out (answer_tile h o) o ++ closed_out f) m) (with_packet o (ideal_of m).flights) (grants_after f (ideal_of m).grants) (push_closed t f (push_answer t (name_in o) (placement_of h m)))
  emit_both m sound id o f ok named absent shut =
      let n = with_parcels t (data_out (answer_tile h o) o) m in
      let a = emit_answer m sound id o ok named absent in
      let same : (ideal_of n).grants ≡ (ideal_of m).grants = ap (λ s. s.grants) a.state in
      let b = emit_closed n a.sound f (subst (λ gs. ShutsIf gs f) (sym same) shut) in
      let e : Emits h m (with_parcels t (closed_out f) n) (with_packet o (ideal_of m).flights) (grants_after f (ideal_of m).grants) (push_closed t f (push_answer t (name_in o) (placement_of h m))) =
      record {
        sound = b.sound;
        state = b.state ∙ (λ k. record (a.state k) { flights = (a.state k).flights; grants = grants_after f (a.state k).grants });
        places = b.places ∙ ap (push_closed t f) a.places;
      } in
      subst (λ z. Emits h m z (with_packet o (ideal_of m).flights) (grants_after f (ideal_of m).grants) (push_closed t f (push_answer t (name_in o) (placement_of h m)))) (sym (pushed_append (data_out (answer_tile h o) o) (closed_out f) m)) e
