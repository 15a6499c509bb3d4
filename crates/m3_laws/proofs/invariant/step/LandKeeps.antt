-- Data that lands keeps the grant invariant.
use Rattle.std.proofs.Common.{◌≡◌, ℕ, ◌+◌, Bool, true, false, List, Some, None, refl, sym, subst, ◌∙◌, ap, arith, inl, inr}
use Rattle.std.specs.Prelude.{Option, ◌==◌, ◌&&◌, ◌⊎◌}
use Rattle.std.proofs.lemmas.Bool.Decides.{nat_tests}
use Rattle.m3_base.specs.declared.ids.FlightId.{FlightId}
use Rattle.m3_base.specs.declared.message.Message.{Message}
use Rattle.m3_base.specs.declared.packet.Packet.{Packet}
use Rattle.m3_base.specs.declared.command.Answer.{Answer}
use Rattle.m3_base.specs.declared.command.Refusal.{Refusal}
use Rattle.m3_base.specs.Lists.Counting.{one}
use Rattle.m3_base.specs.Ideal.Flights.{kernel, flight, end_flight, change_flight, same_name, name_before, name_of}
use Rattle.m3_base.specs.Ideal.Context.{Context, endpoint}
use Rattle.m3_base.specs.Ideal.Landing.{after_message, with_credit, has_send, land_by, land_refusal, message_id, landed_answer}
use Rattle.m3_base.specs.Ideal.State.{Grant, State, context_of, put_context, act_of, same_act, act_before, grant_in}
use Rattle.m3_base.specs.Ideal.Credits.{carries_credit, queued_credits, credits}
use Rattle.m3_base.proofs.KeyedList.{total-replaced, how_many-replaced, total-without, how_many-without}
use Rattle.m3_base.proofs.FlightNames.{apart-change, apart-end}
use Rattle.m3_laws.proofs.credits.EndpointWeights.{context_weight}
use Rattle.m3_laws.proofs.credits.Land.{same_back, same_back-taken, weight-taken, credits_are, credits_change, how_many-agree, carries-put, after_landing}
use Rattle.m3_laws.proofs.credits.Answer.{weight-with_credit}
use Rattle.m3_laws.proofs.invariant.step.LookUps.{found_ended, found_changed, name_own}
use Rattle.m3_laws.specs.GrantInvariant.{HolderIs, ContextLawful, PacketLawful, CreditsLawful, GrantInvariant, IsData}
use Rattle.m3_laws.proofs.credits.Counting.{SameFixedParts, same_fixed_parts}
use Rattle.m3_laws.proofs.invariant.records.RecordsOfGrants.{faces_placed}
use Rattle.m3_laws.proofs.invariant.records.RecordFormsStay.{orders_changed, orders_ended, taken_faces, credit_faces}
use Rattle.m3_laws.proofs.credits.CreditReturns.{home_there}
use Rattle.m3_laws.proofs.invariant.step.ChangeKeepsTraffic.{Leaves, leaves_same, leaves_credit, leaves_taken, data_left, Claimed, credits_keep}
use Rattle.m3_base.proofs.Activities.{found_own}
use Rattle.m3_base.specs.Ideal.Step.{after_ending}

-- a credit that flies for a claimed grant finds the grant's record where it goes
pub home_of : (s : State) → GrantInvariant s → (g to : ℕ) (x : Context) → context_of to s.contexts ≡ Some x → Claimed (grant_in s.grants g) → HolderIs (grant_in s.grants g) to → (id : FlightId) (p : Packet) → flight id s.flights ≡ Some p → carries_credit g s.contexts p ≡ true → has_send g x ≡ true
home_of s law g to x at claim holds id p find carried = by_grant (grant_in s.grants g) refl claim holds (law.credits g)
  where
    by_grant : (o : Option Grant) → grant_in s.grants g ≡ o → Claimed o → HolderIs o to → CreditsLawful o (credits g s) → has_send g x ≡ true
    by_grant None e c h l = absurd h
    by_grant (Some y) e c h l = home_there s law.placed law.traffic.acts g to y x at e h c (l c) id p find carried

-- ---- a message

module _ (s : State) (law : GrantInvariant s) (id : FlightId) (to ep h : ℕ) (m : Message) (x : Context) (at : context_of to s.contexts ≡ Some x) (find : flight id s.flights ≡ Some (Packet.Message to ep h m)) where
  here : context_of x.act s.contexts ≡ Some x
  here = found_own to x s.contexts at

  known : PacketLawful s.grants s.contexts (Packet.Message to ep h m)
  known = law.traffic.packets id (Packet.Message to ep h m) find

  ok : ContextLawful s.grants s.flights x
  ok = law.traffic.contexts x.act x here

  packs : (cs : List Context) (answer : Answer) (i : FlightId) (p : Packet) → flight i (change_flight (Packet.Answer (message_id m) answer) s.flights) ≡ Some p → (flight i s.flights ≡ Some p) ⊎ PacketLawful s.grants cs p
  packs cs answer i p e = either (found_changed i p (Packet.Message to ep h m) (Packet.Answer (message_id m) answer) s.flights (name_own id (Packet.Message to ep h m) s.flights find) e)
    where
      either : (p ≡ Packet.Answer (message_id m) answer) ⊎ (flight i s.flights ≡ Some p) → (flight i s.flights ≡ Some p) ⊎ PacketLawful s.grants cs p
      either (inl q) = inr (subst (PacketLawful s.grants cs) (sym q) tt)
      either (inr q) = inl q

  landed : (answer : Answer) (d : Context) → context_of d.act s.contexts ≡ Some x → Leaves s.grants x d → SameFixedParts x d → ((g : ℕ) → Claimed (grant_in s.grants g) → credits g (record s { contexts = put_context d s.contexts; flights = change_flight (Packet.Answer (message_id m) answer) s.flights }) ≡ credits g s) → GrantInvariant (record s { contexts = put_context d s.contexts; flights = change_flight (Packet.Answer (message_id m) answer) s.flights })
  landed answer d there l faces same = record {
    placed = faces_placed s s.memory x d (change_flight (Packet.Answer (message_id m) answer) s.flights) law.placed there faces (orders_changed s.grants s.contexts s.flights law.placed.distinct law.placed.installs (Packet.Message to ep h m) (Packet.Answer (message_id m) answer) (name_own id (Packet.Message to ep h m) s.flights find) tt tt);
    traffic = data_left s.grants s.contexts s.flights (change_flight (Packet.Answer (message_id m) answer) s.flights) s.kernel_next x d law.traffic there l (λ i a. apart-change i (Packet.Answer (message_id m) answer) s.flights a) (packs (put_context d s.contexts) answer);
    credits = λ g. credits_keep (grant_in s.grants g) (credits g s) _ (same g) (law.credits g);
  }

  home : (g : ℕ) → Claimed (grant_in s.grants g) → (m.header.flags == 0) ≡ false → (m.header.send == g) ≡ true → has_send m.header.send x ≡ true
  home g claim r w =
      let q : g ≡ m.header.send = grind (arith, nat_tests, w) in
      home_of s law m.header.send to x at (subst (λ z. Claimed (grant_in s.grants z)) q claim) (known.2 r) id (Packet.Message to ep h m) find (grind (arith, nat_tests))

  brought : (g : ℕ) → Claimed (grant_in s.grants g) → land_refusal h m (endpoint x ep) ≡ None → context_weight g (after_message ep m x) + queued_credits g (Packet.Answer (message_id m) (landed_answer m)) + one (carries_credit g s.contexts (Packet.Answer (message_id m) (landed_answer m))) ≡ context_weight g x + queued_credits g (Packet.Message to ep h m) + one (m.header.send == g)
  brought g claim e = let k = home g claim in grind (arith, nat_tests, weight-taken g h x ep m (endpoint x ep) refl e, k)

  pub message_lawful : (why : Option Refusal) → land_refusal h m (endpoint x ep) ≡ why → GrantInvariant (after_landing s (land_by ep m x why))
  message_lawful (Some w) e = landed (Answer.Refused w) x here (leaves_same s.grants x ok.stands ok.queues) (same_fixed_parts x) (λ g claim.
      credits_are g (after_landing s (land_by ep m x (Some w)))
      ∙ credits_change g s.contexts s.flights x x (Packet.Message to ep h m) (Packet.Answer (message_id m) (Answer.Refused w)) (same_back x) here (name_own id (Packet.Message to ep h m) s.flights find) (omega (arith, ap one (known.0 g)))
      ∙ sym (credits_are g s))
  message_lawful None e =
      let there : context_of (after_message ep m x).act s.contexts ≡ Some x = subst (λ z. context_of z s.contexts ≡ Some x) (sym (same_back-taken ep m x).act) here in
      landed (landed_answer m) (after_message ep m x) there (leaves_taken s.grants ep h m x ok.stands ok.queues known.1 e) (taken_faces ep m x) (λ g claim.
      credits_are g (after_landing s (land_by ep m x None))
      ∙ credits_change g s.contexts s.flights x (after_message ep m x) (Packet.Message to ep h m) (Packet.Answer (message_id m) (landed_answer m)) (same_back-taken ep m x) there (name_own id (Packet.Message to ep h m) s.flights find) (brought g claim e)
      ∙ sym (credits_are g s))

-- ---- a credit

pub credit_lawful : (s : State) (id y : FlightId) (to h : ℕ) (x : Context) → GrantInvariant s → context_of to s.contexts ≡ Some x → flight id s.flights ≡ Some (Packet.Credit y to h) → GrantInvariant (after_ending s id (with_credit h x))
credit_lawful s id y to h x law at find =
    let here : context_of x.act s.contexts ≡ Some x = found_own to x s.contexts at in
    let ok = law.traffic.contexts x.act x here in
    let l = leaves_credit s.grants h x ok.stands ok.queues in
    record {
      placed = faces_placed s s.memory x (with_credit h x) (end_flight id s.flights) law.placed here (credit_faces h x) (orders_ended s.grants s.contexts s.flights law.placed.distinct law.placed.installs id (Packet.Credit y to h) find tt);
      traffic = data_left s.grants s.contexts s.flights (end_flight id s.flights) s.kernel_next x (with_credit h x) law.traffic here l (λ i a. apart-end i id s.flights a) (λ i p e. inl (found_ended id i p s.flights law.placed.distinct e));
      credits = λ g. credits_keep (grant_in s.grants g) (credits g s) _ (λ claim.
          let gives : one (has_send h x && (h == g)) ≡ one (h == g) = by_grant g claim (h == g) refl in
          omega (
            arith,
            gives,
            credits_are g s,
            credits_are g (after_ending s id (with_credit h x)),
            weight-with_credit g h x,
            total-replaced act_of same_act act_before (context_weight g) (with_credit h x) x s.contexts here,
            total-without name_of same_name name_before (queued_credits g) id (Packet.Credit y to h) s.flights find,
            how_many-without name_of same_name name_before (carries_credit g s.contexts) id (Packet.Credit y to h) s.flights find,
            how_many-agree (carries_credit g (put_context (with_credit h x) s.contexts)) (carries_credit g s.contexts) (carries-put g s.contexts x (with_credit h x) l.back here) (end_flight id s.flights),
          )) (law.credits g);
    }
  where
    by_grant : (g : ℕ) → Claimed (grant_in s.grants g) → (b : Bool) → (h == g) ≡ b → one (has_send h x && b) ≡ one b
    by_grant g claim false w = grind arith
    by_grant g claim true w =
        let q : g ≡ h = grind (arith, nat_tests, w) in
        let z = home_of s law h to x at (subst (λ k. Claimed (grant_in s.grants k)) q claim) (law.traffic.packets id (Packet.Credit y to h) find) id (Packet.Credit y to h) find (grind (arith, nat_tests)) in
        grind (arith, z)

-- ---- a read or a write

pub served_lawful : (s : State) (memory : List ℕ) (p q : Packet) → GrantInvariant s → flight (name_of q) s.flights ≡ Some p → IsData p → IsData q → PacketLawful s.grants s.contexts q → ((g : ℕ) → queued_credits g p ≡ queued_credits g q) → ((g : ℕ) → carries_credit g s.contexts p ≡ carries_credit g s.contexts q) → GrantInvariant (record s { memory = memory; flights = change_flight q s.flights })
served_lawful s memory p q law find dp dq new w c =
    let same = orders_changed s.grants s.contexts s.flights law.placed.distinct law.placed.installs p q find dp dq in
    record {
      placed = record {
        distinct = same.distinct;
        cells = law.placed.cells;
        records = law.placed.records;
        installs = same.waits;
        presence = λ g. omega (arith, law.placed.presence g, same.installed g);
        closings = λ g. omega (arith, law.placed.closings g, same.closed g);
        grants = law.placed.grants;
        slots = law.placed.slots;
      };
      traffic = record {
        acts = law.traffic.acts;
        contexts = λ a x e.
            let ok = law.traffic.contexts a x e in
            record { act = ok.act; lone = ok.lone; fresh = ok.fresh; apart = λ n h. apart-change (record { issuer = x.act; number = n }) q s.flights (ok.apart n h); stands = ok.stands; queues = ok.queues };
        packets = λ i x e. by_found i x (found_changed i x p q s.flights find e);
        orders = λ n h. apart-change (record { issuer = kernel; number = n }) q s.flights (law.traffic.orders n h);
      };
      credits = λ g. credits_keep (grant_in s.grants g) (credits g s) _ (λ claim. omega (
        arith,
        w g,
        ap one (c g),
        credits_are g s,
        credits_are g (record s { memory = memory; flights = change_flight q s.flights }),
        total-replaced name_of same_name name_before (queued_credits g) q p s.flights find,
        how_many-replaced name_of same_name name_before (carries_credit g s.contexts) q p s.flights find,
      )) (law.credits g);
    }
  where
    by_found : (i : FlightId) (x : Packet) → (x ≡ q) ⊎ (flight i s.flights ≡ Some x) → PacketLawful s.grants s.contexts x
    by_found i x (inl e) = subst (PacketLawful s.grants s.contexts) (sym e) new
    by_found i x (inr e) = law.traffic.packets i x e
