-- What the invariant gives: each flight fits where it lands, names are free, and records and Closes have open grants.
use Rattle.std.proofs.Common.{◌≡◌, ℕ, zero, suc, ◌+◌, ◌<◌, ◌≤◌, Bool, true, false, List, [], ◌∷◌, length, get_or, Some, None, refl, sym, subst, ◌∙◌, ap, arith}
use Rattle.std.specs.Prelude.{Option, ◌==◌, nat_lt}
use Rattle.std.proofs.lemmas.Bool.Decides.{nat_tests}
use Rattle.m3_base.specs.declared.ids.FlightId.{FlightId}
use Rattle.m3_base.specs.declared.packet.Packet.{Packet}
use Rattle.m3_base.specs.declared.packet.Perm.{Perm}
use Rattle.m3_base.specs.declared.packet.Fresh.{Fresh}
use Rattle.m3_base.specs.declared.command.Answer.{Answer}
use Rattle.m3_base.specs.declared.command.Refusal.{Refusal}
use Rattle.m3_base.specs.Lists.Counting.{total, one, how_many}
use Rattle.m3_base.specs.Ideal.Flights.{flight, same_name, name_of}
use Rattle.m3_base.specs.Ideal.Context.{Kind, Sending, Flying, SendRecord, Endpoint, Free, Sends, Receives, Reaches, Context, endpoint}
use Rattle.m3_base.specs.Ideal.Issue.{next_id}
use Rattle.m3_base.specs.Ideal.Landing.{grant_of, is_closing, has_live, has_closing, flying_at, is_record_of}
use Rattle.m3_base.specs.Ideal.State.{Grant, State, context_of, act_of, same_act, grant_in, holder, holder_ep}
use Rattle.m3_base.specs.Ideal.GrantRules.{kernel_id}
use Rattle.m3_base.specs.Ideal.Step.{number_of, is_install_of}
use Rattle.m3_base.specs.Ideal.Credits.{credits, carries_credit, held_at}
use Rattle.m3_base.specs.Placement.Routing.{target}
use Rattle.m3_base.specs.Ideal.Acceptance.{fits, fits_answer, send_of, takes_credit, takes_back, has_room_if, is_answer_for}
use Rattle.m3_laws.specs.Laws.{limit_of, is_close_of}
use Rattle.m3_laws.specs.GrantInvariant.{IsHeldAt, FormLawful, form_of, is_open_grant, is_close_sent, CreditsLawful}
use Rattle.m3_laws.specs.WellFormed.{use_by, use_in, can_get, is_held_at}
use Rattle.m3_laws.specs.Invariant.{Invariant}
use Rattle.m3_base.proofs.FlightNames.{name_found}
use Rattle.m3_laws.proofs.credits.Counting.{some_at, some_found, one_found}
use Rattle.m3_laws.proofs.invariant.records.RecordsOfGrants.{record_open, closing_sent, install_free, is_one, one_less}
use Rattle.m3_laws.proofs.credits.CreditReturns.{Each, each_found, found_lone, form_at}
use Rattle.m3_laws.proofs.invariant.wellformed.LandKeeps.{covered_inside}
use Rattle.m3_base.specs.Ideal.GrantHolder.{HeldThere}

some_total : (f : Endpoint → ℕ) (es : List Endpoint) (i : ℕ) → f Free ≡ 0 → f (get_or es i Free) ≤ total f es
some_total f [] i h = omega (arith, h)
some_total f (e ∷ es) zero h = omega arith
some_total f (e ∷ es) (suc i) h = let z = some_total f es i h in omega (arith, z)

send_at : (g : ℕ) (es : List Endpoint) (r : SendRecord) → send_of g es ≡ Some r → (i : ℕ) × ((get_or es i Free ≡ Sends r) × (r.grant ≡ g))
send_at g [] r e = absurd (cc)
send_at g (Free ∷ es) r e = let z = send_at g es r e in (suc z.0, z.1)
send_at g (Receives q ∷ es) r e = let z = send_at g es r e in (suc z.0, z.1)
send_at g (Reaches q ∷ es) r e = let z = send_at g es r e in (suc z.0, z.1)
send_at g (Sends q ∷ es) r e = by_grant (q.grant == g) refl (send_at g es r)
  where
    by_grant : (b : Bool) → (q.grant == g) ≡ b → (send_of g es ≡ Some r → (i : ℕ) × ((get_or es i Free ≡ Sends r) × (r.grant ≡ g))) → (i : ℕ) × ((get_or (Sends q ∷ es) i Free ≡ Sends r) × (r.grant ≡ g))
    by_grant true w ih = let same : q ≡ r = grind (arith, e, w) in let n : q.grant ≡ g = grind (arith, nat_tests, w) in (0, (ap Sends same, ap (λ z. z.grant) (sym same) ∙ n))
    by_grant false w ih = let z = ih (grind (arith, e, w)) in (suc z.0, z.1)

none_pass : (p : Packet → Bool) (fs : List Packet) → Each (λ q. p q ≡ false) fs → how_many p fs ≡ 0
none_pass p [] h = refl
none_pass p (q ∷ fs) h = omega (arith, ap one h.0, none_pass p fs h.1)

-- a Close lands after its Install
abbrev pub InstallLanded : State → Packet → Type 0
InstallLanded s (Packet.Close id to ep g) = (j : FlightId) (q : Packet) → flight j s.flights ≡ Some q → is_install_of g q ≡ false
InstallLanded s p = Unit {0}

module _ (s : State) (law : Invariant s) where
  -- ---- grants

  pub held_there : (a ep g : ℕ) (c : Context) → context_of a s.contexts ≡ Some c → grant_of (endpoint c ep) ≡ Some g → HeldThere s.grants g a ep
  held_there a ep g c at e =
      let is : is_record_of g (endpoint c ep) ≡ true = grind (arith, nat_tests, e) in
      by_form (form_at g (endpoint c ep) is).0 (form_at g (endpoint c ep) is).1.0 (form_at g (endpoint c ep) is).1.1.0 (record_open s law.lawful.placed g a ep c at is)
    where
      by_grant : (o : Option Grant) (f : Fresh) → grant_in s.grants g ≡ o → IsHeldAt o a ep f → is_open_grant o ≡ true → HeldThere s.grants g a ep
      by_grant None f w h op = absurd h
      by_grant (Some x) f w h op = record { grant = x; found = w; stands = op; act = h.act; endpoint = h.ep }

      by_form : (f : Fresh) → form_of (endpoint c ep) ≡ Some f → number_of f ≡ g → is_open_grant (grant_in s.grants g) ≡ true → HeldThere s.grants g a ep
      by_form f q n op = by_grant (grant_in s.grants g) f refl (subst (λ z. IsHeldAt (grant_in s.grants z) a ep f) n (subst (FormLawful s.grants a ep) q (law.lawful.placed.records a c at ep))) op

  flying_sent : (id x : FlightId) (to ep g : ℕ) → flight id s.flights ≡ Some (Packet.Close x to ep g) → is_close_sent (grant_in s.grants g) ≡ true
  flying_sent id x to ep g find =
      let n = one_found name_of same_name (is_close_of g) id (Packet.Close x to ep g) s.flights find (grind (arith, nat_tests)) in
      is_one (is_close_sent (grant_in s.grants g)) (omega (arith, n, law.lawful.placed.closings g))

  pub close_held : (id x : FlightId) (to ep g : ℕ) → flight id s.flights ≡ Some (Packet.Close x to ep g) → HeldThere s.grants g to ep
  close_held id x to ep g find = by_grant (grant_in s.grants g) refl (flying_sent id x to ep g find) (law.proper.packets id (Packet.Close x to ep g) find).entitled
    where
      by_grant : (o : Option Grant) → grant_in s.grants g ≡ o → is_close_sent o ≡ true → is_held_at to ep o ≡ true → HeldThere s.grants g to ep
      by_grant None e w h = absurd (cc)
      by_grant (Some y) e w h = record { grant = y; found = e; stands = grind (arith, w); act = grind (arith, nat_tests, h); endpoint = grind (arith, nat_tests, h) }

  -- an Install of the grant that a flying Close closes is for the same activity
  pub install_aims : (id x : FlightId) (to ep g : ℕ) → flight id s.flights ≡ Some (Packet.Close x to ep g) → (j : FlightId) (q : Packet) → flight j s.flights ≡ Some q → (target q ≡ Some to → is_install_of g q ≡ false) → is_install_of g q ≡ false
  install_aims id x to ep g find j (Packet.Install y b e f) at only = by_number (number_of f == g) refl
    where
      holds : HeldThere s.grants g to ep
      holds = close_held id x to ep g find

      holder_is : (o : Option Grant) → o ≡ Some holds.grant → IsHeldAt o b e f → b ≡ to
      holder_is None w k = absurd k
      holder_is (Some z) w k = let same : z ≡ holds.grant = cc in sym k.act ∙ ap (λ (i : Grant). holder i.line) same ∙ holds.act

      by_number : (d : Bool) → (number_of f == g) ≡ d → (number_of f == g) ≡ false
      by_number false w = w
      by_number true w =
          let n : number_of f ≡ g = grind (arith, nat_tests, w) in
          let lawful = (law.lawful.placed.installs j (Packet.Install y b e f) at).1 in
          only (ap (λ i. Some i) (holder_is (grant_in s.grants (number_of f)) (ap (grant_in s.grants) n ∙ holds.found) lawful))
  install_aims id x to ep g find j q at only = refl

  sent_of : (g : ℕ) (x : Grant) → grant_in s.grants g ≡ Some x → is_close_sent (grant_in s.grants g) ≡ true → x.close_sent ≡ true
  sent_of g x e w = let z : is_close_sent (Some x) ≡ true = subst (λ o. is_close_sent o ≡ true) e w in grind (arith, z)

  pub closing_was_sent : (a ep g : ℕ) (c : Context) (x : Grant) → context_of a s.contexts ≡ Some c → has_closing g (endpoint c ep) ≡ true → grant_in s.grants g ≡ Some x → x.close_sent ≡ true
  closing_was_sent a ep g c x at h e = sent_of g x e (closing_sent s law.lawful.placed g a ep c at h)

  pub close_was_sent : (id y : FlightId) (to ep g : ℕ) (x : Grant) → flight id s.flights ≡ Some (Packet.Close y to ep g) → grant_in s.grants g ≡ Some x → x.close_sent ≡ true
  close_was_sent id y to ep g x find e = sent_of g x e (flying_sent id y to ep g find)

  -- ---- memory and names

  pub read_inside : (id x : FlightId) (g place : ℕ) (buffer : List ℕ) → flight id s.flights ≡ Some (Packet.Read x g place buffer) → place + length buffer ≤ length s.memory
  read_inside id x g place buffer find = covered_inside s law.proper g place (length buffer) Perm.R (law.proper.packets id (Packet.Read x g place buffer) find).entitled

  pub write_inside : (id x : FlightId) (g place : ℕ) (payload : List ℕ) → flight id s.flights ≡ Some (Packet.Write x g place payload) → place + length payload ≤ length s.memory
  write_inside id x g place payload find = covered_inside s law.proper g place (length payload) Perm.W (law.proper.packets id (Packet.Write x g place payload) find).entitled

  pub next_free : (a : ℕ) (c : Context) → context_of a s.contexts ≡ Some c → flight (next_id c) s.flights ≡ None
  next_free a c at = (law.lawful.traffic.contexts a c at).apart c.next (omega arith)

  pub kernel_free : flight (kernel_id s) s.flights ≡ None
  kernel_free = law.lawful.traffic.orders s.kernel_next (omega arith)

  -- ---- credits that come back

  pub room_at : (a ep : ℕ) (c : Context) (r : SendRecord) (id : FlightId) (p : Packet) → context_of a s.contexts ≡ Some c → endpoint c ep ≡ Sends r → flight id s.flights ≡ Some p → carries_credit r.grant s.contexts p ≡ true → r.held < r.limit
  room_at a ep c r id p at e find carried =
      let is : is_record_of r.grant (endpoint c ep) ≡ true = subst (λ z. is_record_of r.grant z ≡ true) (sym e) (grind (arith, nat_tests)) in
      by_grant (grant_in s.grants r.grant) refl (subst (λ z. FormLawful s.grants a ep (form_of z)) e (law.lawful.placed.records a c at ep)) (record_open s law.lawful.placed r.grant a ep c at is) (law.lawful.credits r.grant)
    where
      by_grant : (o : Option Grant) → grant_in s.grants r.grant ≡ o → IsHeldAt o a ep (Fresh.Send r.grant r.to r.to_ep r.to_grant r.label r.size r.limit) → is_open_grant o ≡ true → CreditsLawful o (credits r.grant s) → r.held < r.limit
      by_grant None w h op l = absurd h
      by_grant (Some x) w h op l =
          let all : credits r.grant s ≡ r.limit = l op ∙ ap limit_of h.fresh in
          let one_flies = one_found name_of same_name (carries_credit r.grant s.contexts) id p s.flights find carried in
          let here : held_at r.grant (endpoint c ep) ≡ r.held = ap (held_at r.grant) e ∙ grind (arith, nat_tests) in
          let some = some_total (held_at r.grant) c.endpoints ep refl in
          let found = some_found act_of same_act (λ x. total (held_at r.grant) x.endpoints) a c s.contexts at in
          omega (arith, all, one_flies, here, some, found)

  pub credit_room : (a : ℕ) (c : Context) (g : ℕ) (id : FlightId) (p : Packet) → context_of a s.contexts ≡ Some c → flight id s.flights ≡ Some p → carries_credit g s.contexts p ≡ true → takes_credit g c ≡ true
  credit_room a c g id p at find carried = by_send (send_of g c.endpoints) refl
    where
      by_send : (o : Option SendRecord) → send_of g c.endpoints ≡ o → has_room_if o ≡ true
      by_send None e = refl
      by_send (Some r) e =
          let z = send_at g c.endpoints r e in
          let less = room_at a z.0 c r id p at z.1.0 find (subst (λ n. carries_credit n s.contexts p ≡ true) (sym z.1.1) carried) in
          grind (arith, nat_tests, less)

  -- ---- a Close

  some_index : (g : ℕ) (es : List Endpoint) → 1 ≤ how_many (is_record_of g) es → (i : ℕ) × (is_record_of g (get_or es i Free) ≡ true)
  some_index g [] l = absurd (omega (arith, l))
  some_index g (e ∷ es) l = by_head (is_record_of g e) refl (some_index g es)
    where
      up : (i : ℕ) × (is_record_of g (get_or es i Free) ≡ true) → (i : ℕ) × (is_record_of g (get_or (e ∷ es) i Free) ≡ true)
      up r = (suc r.0, r.1)

      by_head : (b : Bool) → is_record_of g e ≡ b → (1 ≤ how_many (is_record_of g) es → (i : ℕ) × (is_record_of g (get_or es i Free) ≡ true)) → (i : ℕ) × (is_record_of g (get_or (e ∷ es) i Free) ≡ true)
      by_head true w ih = (0, w)
      by_head false w ih = up (ih (omega (arith, l, ap one w)))

  grant_at : (g : ℕ) (e : Endpoint) → is_record_of g e ≡ true → grant_of e ≡ Some g
  grant_at g Free h = absurd (cc)
  grant_at g (Sends r) h = let n : r.grant ≡ g = grind (arith, nat_tests, h) in ap Some n
  grant_at g (Receives r) h = let n : r.grant ≡ g = grind (arith, nat_tests, h) in ap Some n
  grant_at g (Reaches r) h = let n : r.grant ≡ g = grind (arith, nat_tests, h) in ap Some n

  -- the record of an open grant is where the grant is held
  held_where : (g to ep : ℕ) → HeldThere s.grants g to ep → (a i : ℕ) (c : Context) → context_of a s.contexts ≡ Some c → is_record_of g (endpoint c i) ≡ true → (a ≡ to) × (i ≡ ep)
  held_where g to ep h a i c at is =
      let k = held_there a i g c at (grant_at g (endpoint c i) is) in
      let same : Some h.grant ≡ Some k.grant = sym h.found ∙ k.found in
      let line : h.grant ≡ k.grant = cc in
      (sym k.act ∙ (ap (λ z. holder z.line) (sym line) ∙ h.act), sym k.endpoint ∙ (ap (λ z. holder_ep z.line) (sym line) ∙ h.endpoint))

  pub record_there : (g to ep : ℕ) (c : Context) → HeldThere s.grants g to ep → context_of to s.contexts ≡ Some c → how_many (is_install_of g) s.flights ≡ 0 → is_record_of g (endpoint c ep) ≡ true
  record_there g to ep c h at none =
      let op : is_open_grant (grant_in s.grants g) ≡ true = ap is_open_grant h.found ∙ h.stands in
      let some : 1 ≤ total (λ c. how_many (is_record_of g) c.endpoints) s.contexts = omega (arith, law.lawful.placed.presence g, none, ap one op) in
      let lone = found_lone (λ c. how_many (is_record_of g) c.endpoints) to s.contexts law.lawful.traffic.acts (λ a y e l. let i = some_index g y.endpoints l in (held_where g to ep h a i.0 y e i.1).0) some in
      let same : lone.0 ≡ c = (let z = lone.1.0 in cc) in
      let i = some_index g c.endpoints (subst (λ z. 1 ≤ how_many (is_record_of g) z.endpoints) same lone.1.1) in
      moved i.0 (held_where g to ep h to i.0 c at i.1).1 i.1
    where
      moved : (k : ℕ) → k ≡ ep → is_record_of g (endpoint c k) ≡ true → is_record_of g (endpoint c ep) ≡ true
      moved k e is = subst (λ j. is_record_of g (endpoint c j) ≡ true) e is

  pub close_finds : (id x : FlightId) (to ep g : ℕ) (c : Context) → flight id s.flights ≡ Some (Packet.Close x to ep g) → context_of to s.contexts ≡ Some c → ((j : FlightId) (q : Packet) → flight j s.flights ≡ Some q → is_install_of g q ≡ false) → has_live g (endpoint c ep) ≡ true
  close_finds id x to ep g c find at alone =
      let none = none_pass (is_install_of g) s.flights (each_found (λ q. is_install_of g q ≡ false) s.flights law.lawful.placed.distinct alone) in
      by_closing (record_there g to ep c (close_held id x to ep g find) at none) (is_closing (endpoint c ep)) refl
    where
      by_closing : is_record_of g (endpoint c ep) ≡ true → (b : Bool) → is_closing (endpoint c ep) ≡ b → has_live g (endpoint c ep) ≡ true
      by_closing is false w = grind (arith, is, w)
      by_closing is true w =
          let both : has_closing g (endpoint c ep) ≡ true = grind (arith, is, w) in
          let n = (some_at (has_closing g) c.endpoints ep refl both).0 in
          let m = some_found act_of same_act (λ x. how_many (has_closing g) x.endpoints) to c s.contexts at in
          let k = one_found name_of same_name (is_close_of g) id (Packet.Close x to ep g) s.flights find (grind (arith, nat_tests)) in
          let l = one_less (is_close_sent (grant_in s.grants g)) in
          absurd (omega (arith, n, m, k, l, law.lawful.placed.closings g))

  -- ---- each flight fits where it lands

  answer_fits : (id : FlightId) (answer : Answer) (c : Context) → flight id s.flights ≡ Some (Packet.Answer id answer) → context_of id.issuer s.contexts ≡ Some c → (o : Option Flying) → flying_at id.number c.flying ≡ o → can_get answer (use_by c o) ≡ true → fits_answer c answer o ≡ true
  answer_fits id answer c find at None e g = absurd (cc)
  answer_fits id answer c find at (Some f) e g = by_kind f.kind refl answer refl g
    where
      back : (a : Answer) → answer ≡ a → f.kind ≡ Sending → (why : Refusal) → a ≡ Answer.Refused why → (d : Endpoint) → endpoint c f.ep ≡ d → takes_back d ≡ true
      back a n k why w Free q = refl
      back a n k why w (Receives r) q = refl
      back a n k why w (Reaches r) q = refl
      back a n k why w (Sends r) q =
          let refused : answer ≡ Answer.Refused why = n ∙ w in
          let carried : carries_credit r.grant s.contexts (Packet.Answer id answer) ≡ true = rw (refused) (rw (at) (rw (e) (rw (k) (rw (q) (grind (arith, nat_tests)))))) in
          let less = room_at id.issuer f.ep c r id (Packet.Answer id answer) at q find carried in
          grind (arith, nat_tests, less)

      by_kind : (k : Kind) → f.kind ≡ k → (a : Answer) → answer ≡ a → is_answer_for f.kind answer ≡ true → fits_answer c answer (Some f) ≡ true
      by_kind Sending k (Answer.Refused why) w g = let z = back (Answer.Refused why) w k why refl (endpoint c f.ep) refl in grind (arith, g, z)
      by_kind k e a w g = grind (arith, g, e, w)

  pub fits_at : (id : FlightId) (p : Packet) (c : Context) → flight id s.flights ≡ Some p → target p ≡ Some c.act → context_of c.act s.contexts ≡ Some c → InstallLanded s p → fits c p ≡ true
  fits_at id (Packet.Message to ep h m) c find t at l =
      let same : to ≡ c.act = cc in
      let numbers = (law.proper.packets id (Packet.Message to ep h m) find).numbers in
      let room = credit_room c.act c m.header.send id (Packet.Message to ep h m) at find (grind (arith, nat_tests)) in
      grind (arith, nat_tests, same, numbers, room)
  fits_at id (Packet.Credit y to h) c find t at l =
      let same : to ≡ c.act = cc in
      let numbers = (law.proper.packets id (Packet.Credit y to h) find).numbers in
      let room = credit_room c.act c h id (Packet.Credit y to h) at find (grind (arith, nat_tests)) in
      grind (arith, nat_tests, same, numbers, room)
  fits_at id (Packet.Answer y answer) c find t at l =
      let same : y.issuer ≡ c.act = cc in
      let name : id ≡ y = name_found id (Packet.Answer y answer) s.flights find in
      let old = law.proper.packets id (Packet.Answer y answer) find in
      let here : context_of y.issuer s.contexts ≡ Some c = subst (λ z. context_of z s.contexts ≡ Some c) (sym same) at in
      let command : can_get answer (use_by c (flying_at y.number c.flying)) ≡ true = subst (λ o. can_get answer (use_in y.number o) ≡ true) here old.command in
      let fit = answer_fits y answer c (subst (λ z. flight z s.flights ≡ Some (Packet.Answer y answer)) name find) here (flying_at y.number c.flying) refl command in
      let numbers : nat_lt 0 y.number ≡ true = old.numbers in
      grind (arith, nat_tests, same, numbers, fit)
  fits_at id (Packet.Install y to ep f) c find t at l =
      let same : to ≡ c.act = cc in
      let numbers = (law.proper.packets id (Packet.Install y to ep f) find).numbers in
      let free = install_free s law.lawful.placed id y to ep f c find (subst (λ z. context_of z s.contexts ≡ Some c) (sym same) at) in
      grind (arith, nat_tests, same, numbers, free)
  fits_at id (Packet.Close y to ep g) c find t at l =
      let same : to ≡ c.act = cc in
      let numbers = (law.proper.packets id (Packet.Close y to ep g) find).numbers in
      let live = close_finds id y to ep g c find (subst (λ z. context_of z s.contexts ≡ Some c) (sym same) at) l in
      grind (arith, nat_tests, same, numbers, live)
  fits_at id (Packet.Read y h place buffer) c find t at l = absurd (cc)
  fits_at id (Packet.Write y h place payload) c find t at l = absurd (cc)
