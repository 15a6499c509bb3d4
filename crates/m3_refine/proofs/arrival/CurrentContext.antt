-- A tile takes data for its current activity.
use Rattle.std.proofs.Common.{◌≡◌, ℕ, ◌<◌, Bool, true, false, cond, List, [], ◌∷◌, ◌++◌, Some, None, refl, sym, subst, ◌∙◌, ap, arith, append_assoc, length, Option}
use Rattle.std.specs.Prelude.{◌==◌, ◌&&◌}
use Rattle.std.proofs.lemmas.Bool.Decides.{nat_tests}
use Rattle.m3_base.specs.declared.ids.FlightId.{FlightId}
use Rattle.m3_base.specs.declared.command.Answer.{Answer}
use Rattle.m3_base.specs.declared.packet.Packet.{Packet}
use Rattle.m3_base.specs.Lists.Keyed as keyed
use Rattle.m3_base.specs.Ideal.Context.{Flying, Context, endpoint, with_endpoint}
use Rattle.m3_base.specs.Ideal.Landing.{closed_at, has_live, flies_at, flying_at}
use Rattle.m3_base.specs.Ideal.State.{context_of, same_act}
use Rattle.m3_base.specs.Ideal.Arrival.{arrive, close_arrives, answer_arrives}
use Rattle.m3_base.specs.Ideal.Acceptance.{fits, fits_answer}
use Rattle.m3_base.proofs.KeyedList.{find-replaced_other, find-replaced_same}
use Rattle.m3_base.specs.Lists.EachElement.{Each}
use Rattle.m3_merge.proofs.StampBounds.{each_back}
use Rattle.m3_model.specs.Config.Site.{Site}
use Rattle.m3_model.specs.Parcel.{Heard}
use Rattle.m3_model.specs.Tile.State.{Resident, Tile}
use Rattle.m3_model.specs.Tile.Step.{resident_act, resident_of, with_resident, resident_after_answers, heard_by}
use Rattle.m3_model.specs.Machine.{Machine, empty_tile, tile_at}
use Rattle.m3_model.specs.Abstraction.{flat_map, flat_links, option_list, tile_contexts, entry_contexts, contexts_in, all_contexts, ideal_of}
use Rattle.m3_model.specs.Invariant.Housing.{IsPresent}
use Rattle.m3_model.specs.Invariant.Structure.{MachineStructure}
use Rattle.m3_refine.proofs.lists.Insertion.{Inserts, around_set}
use Rattle.m3_refine.proofs.abstraction.MoveContext.{apart_inserts}
use Rattle.m3_refine.proofs.abstraction.FindActor.{context_at}
use Rattle.m3_refine.proofs.abstraction.ChangeContext.{Alike, alike-itself, SameStay}
use Rattle.m3_base.proofs.Activities.{same_act-joins, same_act-itself}

-- ---- who is current

module _ (m : Machine) (t : ℕ) (ht : t < length m.tiles) (c : Context) (e : (tile_at t m).current ≡ Some c) where
  current_inserts : (base : List Context) × Inserts c base (all_contexts m)
  current_inserts =
      let r = around_set tile_contexts (empty_tile t) m.tiles t ht in
      let others = flat_map entry_contexts m.kernel.seats ++ flat_links contexts_in m.links in
      let b = r.back ++ others in (
        r.front ++ b,
        record {
          front = r.front;
          back = b;
          without = refl;
          whole = ap (λ l. l ++ others) (r.here ∙ ap (λ o. r.front ++ (option_list o ++ r.back)) e) ∙ append_assoc r.front (c ∷ r.back) others;
        },
      )

  pub current_found : {h : Site} → MachineStructure h m → context_of c.act (ideal_of m).contexts ≡ Some c
  current_found sound =
      let i = current_inserts in
      context_at c i.0 (all_contexts m) i.1 (apart_inserts c i.0 (all_contexts m) i.1 sound.acts)

  pub current_each : (P : Context → Type 0) → Each P (all_contexts m) → P c
  current_each P h = let i = current_inserts in (each_back P i.1.front (c ∷ i.1.back) (subst (Each P) i.1.whole h)).0

-- ---- what its program hears

pub heard_current : (xs : List Heard) (t : Tile) (o : Option Resident) → (heard_by xs t o).current ≡ t.current
heard_current xs t None = refl
heard_current xs t (Some y) = refl

pub heard_tile : (xs : List Heard) (t : Tile) (o : Option Resident) → (heard_by xs t o).tile ≡ t.tile
heard_tile xs t None = refl
heard_tile xs t (Some y) = refl

key_by : (a : ℕ) (z y : Resident) (o : Option Resident) (b : Bool) → (a == z.act) ≡ b → (o ≡ Some y → y.act ≡ a) → cond b (Some z) o ≡ Some y → y.act ≡ a
key_by a z y o true d ih e = let k : z ≡ y = cc in ap (λ w. w.act) (sym k) ∙ (let n : z.act ≡ a = grind (arith, nat_tests, d) in n)
key_by a z y o false d ih e = ih e

pub stay_key : (a : ℕ) (ys : List Resident) (y : Resident) → keyed.find resident_act same_act a ys ≡ Some y → y.act ≡ a
stay_key a [] y e = absurd (cc)
stay_key a (z ∷ ys) y e = key_by a z y (keyed.find resident_act same_act a ys) (a == z.act) refl (stay_key a ys y) e

-- a stay in place of one like it
pub stay_alike : (t : Tile) (y z : Resident) → resident_of y.act t ≡ Some y → z.act ≡ y.act → SameStay y z → (a : ℕ) → Alike (resident_of a t) (resident_of a (with_resident z t))
stay_alike t y z found same like a = by_test (a == z.act) refl
  where
    by_test : (b : Bool) → (a == z.act) ≡ b → Alike (resident_of a t) (resident_of a (with_resident z t))
    by_test false e =
        subst (Alike (resident_of a t)) (sym (find-replaced_other resident_act same_act same_act a z t.stays same_act-joins e)) (alike-itself (resident_of a t))
    by_test true e =
        let k : a ≡ z.act = grind (arith, nat_tests, e) in
        let old : resident_of z.act t ≡ Some y = ap (λ n. resident_of n t) same ∙ found in
        let new : resident_of z.act (with_resident z t) ≡ Some z = find-replaced_same resident_act same_act same_act z y t.stays (same_act-itself z.act) old in
        let both : Alike (resident_of z.act t) (resident_of z.act (with_resident z t)) = subst (λ o. Alike o (resident_of z.act (with_resident z t))) (sym old) (subst (Alike (Some y)) (sym new) like) in
        subst (λ n. Alike (resident_of n t) (resident_of n (with_resident z t))) (sym k) both

pub heard_alike : (xs : List Heard) (t : Tile) (b : ℕ) (o : Option Resident) → resident_of b t ≡ o → (a : ℕ) → Alike (resident_of a t) (resident_of a (heard_by xs t o))
heard_alike xs t b None e a = alike-itself (resident_of a t)
heard_alike xs t b (Some y) e a =
    stay_alike t y (resident_after_answers xs y) (ap (λ n. resident_of n t) (stay_key b t.stays y e) ∙ e) refl (record { pending = refl; ended = refl; moves = refl; yield_sent = refl }) a

-- ---- what fits arrives

answer_there : (c : Context) (id : FlightId) (answer : Answer) (o : Option Flying) → fits_answer c answer o ≡ true → IsPresent (answer_arrives c id answer o)
answer_there c id answer None e = absurd (cc)
answer_there c id answer (Some f) e = tt

close_there : (c : Context) (id : FlightId) (ep g : ℕ) (d : Context) (b : Bool) → IsPresent (close_arrives c id ep g d b)
close_there c id ep g d true = tt
close_there c id ep g d false = tt

last_of : (a b : Bool) → a && b ≡ true → b ≡ true
last_of true b e = e
last_of false b e = absurd (cc)

pub fits_arrives : (c : Context) (p : Packet) → fits c p ≡ true → IsPresent (arrive c p)
fits_arrives c (Packet.Message to ep g m) e = tt
fits_arrives c (Packet.Credit id to g) e = tt
fits_arrives c (Packet.Read id g place buffer) e = absurd (cc)
fits_arrives c (Packet.Write id g place payload) e = absurd (cc)
fits_arrives c (Packet.Answer id answer) e =
    answer_there c id answer (flying_at id.number c.flying) (let x : fits_answer c answer (flying_at id.number c.flying) ≡ true = grind (arith, e) in x)
fits_arrives c (Packet.Install id to ep f) e = tt
fits_arrives c (Packet.Close id to ep g) e =
    let live : has_live g (endpoint c ep) ≡ true = grind (arith, e) in
    subst (λ b. IsPresent (cond b (close_arrives c id ep g (with_endpoint c ep (closed_at (endpoint c ep))) (flies_at ep c)) None)) (sym live)
    (close_there c id ep g (with_endpoint c ep (closed_at (endpoint c ep))) (flies_at ep c))
