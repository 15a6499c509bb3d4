-- What each step does to the messages of a grant that were issued, and to those that landed.
use Rattle.std.proofs.Common.{◌≡◌, ℕ, ◌+◌, ◌≤◌, Bool, true, false, List, [], ◌∷◌, ◌++◌, length, Some, None, refl, sym, subst, ◌∙◌, ap, arith, inl, inr, length-append}
use Rattle.std.specs.Prelude.{Option, if◌then◌else◌, not, ◌||◌, ◌⊎◌}
use Rattle.std.proofs.lemmas.List.{append-nil}
use Rattle.std.proofs.lemmas.List.Elements.{filter-append}
use Rattle.m3_base.specs.declared.ids.FlightId.{FlightId}
use Rattle.m3_base.specs.declared.message.Message.{Message}
use Rattle.m3_base.specs.declared.packet.Packet.{Packet}
use Rattle.m3_base.specs.declared.command.Command.{Command}
use Rattle.m3_base.specs.Ideal.Flights.{name_of, same_name, name_before, flight, new_flight, change_flight}
use Rattle.m3_base.specs.Ideal.Context.{Context}
use Rattle.m3_base.specs.Ideal.Issue.{Issued, issue, next_id}
use Rattle.m3_base.specs.Ideal.Landing.{message_id, flying_at}
use Rattle.m3_base.specs.Ideal.State.{State, context_of, put_context, act_of, same_act, act_before}
use Rattle.m3_base.specs.Ideal.Step.{with_packet, after_issue}
use Rattle.m3_base.specs.Ideal.MessageTraces.{sent_in, new_message, flying_of, is_named, messages_named}
use Rattle.m3_laws.proofs.order.Sublists.{flying_of-new_other, flying_of-new_only, flying_of-change, flying_of-change_only, flying_of-change_other, order-issued, order-landed, order-refused, named-append}
use Rattle.m3_base.specs.Ideal.FlightNames.{Apart}
use Rattle.m3_base.proofs.FlightNames.{name_found, flight-new, flight-change, same_name-is, same_name-itself, same_name-turned}
use Rattle.m3_base.specs.Ideal.Credits.{gives_back_in}
use Rattle.m3_laws.proofs.order.OneInFlight.{Single, no_message, one_message, single_flying, single_sent, sent_message, sent_flies}
use Rattle.m3_base.proofs.KeyedList.{find-replaced_other, find-replaced_same}
use Rattle.m3_laws.proofs.invariant.step.IssueEffects.{IssueEffect, NewPacket, issue_effect}
use Rattle.m3_base.proofs.FlightOrder.{find-new}
use Rattle.m3_laws.specs.Invariant.{Invariant}
use Rattle.m3_laws.specs.GrantInvariant.{FormLawful, form_of}
use Rattle.m3_laws.proofs.invariant.step.IssueKeeps.{issue_lawful, record_child}
use Rattle.m3_laws.proofs.invariant.records.QueueOwners.{Owns, issue_owns}
use Rattle.m3_laws.proofs.invariant.wellformed.LandKeeps.{issue_proper}
use Rattle.m3_laws.proofs.invariant.commands.StepKeeps.{issue_in_order}
use Rattle.m3_base.proofs.Activities.{same_act-is, same_act-itself, act_found, found_own, same_act-joins, found_same}

-- ---- the history of a grant

-- an activity hasn't used this name yet
abbrev pub NewName : State → Message → Type 0
NewName s m = (c : Context) → context_of m.header.sender s.contexts ≡ Some c → c.next ≤ m.header.number

pub record Past (g : ℕ) (s : State) (issued landed : List Message) (refused : List FlightId) : Type 0 where
  -- those issued and not refused are those landed and then those that fly
  pub order : messages_named refused issued ≡ landed ++ flying_of g s.flights
  -- new names were neither refused nor landed
  pub refused_old : (m : Message) → NewName s m → is_named refused m ≡ false
  pub landed_old : (m : Message) → NewName s m → messages_named (message_id m ∷ []) landed ≡ landed
  -- what flies hasn't landed
  pub landed_apart : (id : FlightId) (p : Packet) (m : Message) → flight id s.flights ≡ Some p → sent_in g p ≡ m ∷ [] → messages_named (message_id m ∷ []) landed ≡ landed

-- each activity's next number only rises
abbrev pub Later : State → State → Type 0
Later s n = (m : Message) → NewName n m → NewName s m

-- a step that adds nothing to the history
pub past_stays : (g : ℕ) (s n : State) (issued landed : List Message) (refused : List FlightId) → Later s n → flying_of g n.flights ≡ flying_of g s.flights → ((id : FlightId) (p : Packet) (m : Message) → flight id n.flights ≡ Some p → sent_in g p ≡ m ∷ [] → flight id s.flights ≡ Some p) → Past g s issued landed refused → Past g n issued landed refused
past_stays g s n issued landed refused later same old h = record {
  order = h.order ∙ ap (λ x. landed ++ x) (sym same);
  refused_old = λ m z. h.refused_old m (later m z);
  landed_old = λ m z. h.landed_old m (later m z);
  landed_apart = λ id p m f e. h.landed_apart id p m (old id p m f e) e;
}

length-flying : (g : ℕ) (p : Packet) (fs : List Packet) → length (flying_of g (new_flight p fs)) ≡ length (sent_in g p) + length (flying_of g fs)
length-flying g p [] = simp length-append (omega arith)
length-flying g p (q ∷ fs) = by_order (name_before (name_of p) (name_of q)) (length-flying g p fs)
  where
    by_order : (b : Bool) → length (flying_of g (new_flight p fs)) ≡ length (sent_in g p) + length (flying_of g fs) → length (flying_of g (if b then p ∷ q ∷ fs else q ∷ new_flight p fs)) ≡ length (sent_in g p) + length (flying_of g (q ∷ fs))
    by_order true ih = simp length-append (omega arith)
    by_order false ih = omega (arith, ih, length-append (sent_in g q) (flying_of g (new_flight p fs)), length-append (sent_in g q) (flying_of g fs))

single_short : {xs : List Message} → Single xs → length xs ≤ 1
single_short no_message = omega arith
single_short (one_message m) = omega arith

-- where a message flies alone, none flew before it was issued
pub alone_before : (g : ℕ) (p : Packet) (m : Message) (fs : List Packet) → sent_in g p ≡ m ∷ [] → Single (flying_of g (new_flight p fs)) → flying_of g fs ≡ []
alone_before g p m fs e s = nil (flying_of g fs) (single_short s) (length-flying g p fs ∙ ap (λ x. length x + length (flying_of g fs)) e)
  where
    nil : (xs : List Message) → length (flying_of g (new_flight p fs)) ≤ 1 → length (flying_of g (new_flight p fs)) ≡ 1 + length xs → xs ≡ []
    nil [] l e = refl
    nil (x ∷ xs) l e = absurd (omega arith)

-- ---- later states

pub later_put : (cs : List Context) (c d : Context) (a n : ℕ) → context_of d.act cs ≡ Some c → c.next ≤ d.next → ((x : Context) → context_of a (put_context d cs) ≡ Some x → x.next ≤ n) → (x : Context) → context_of a cs ≡ Some x → x.next ≤ n
later_put cs c d a n at le h x e = by_act (same_act a d.act) refl
  where
    by_act : (b : Bool) → same_act a d.act ≡ b → x.next ≤ n
    by_act false w = h x (find-replaced_other act_of same_act act_before a d cs same_act-joins w ∙ e)
    by_act true w =
        let q : a ≡ d.act = same_act-is a d.act w in
        let r : d.next ≤ n = h d (subst (λ z. context_of z (put_context d cs) ≡ Some d) (sym q) (find-replaced_same act_of same_act act_before d c cs (same_act-itself d.act) at)) in
        let t : context_of d.act cs ≡ Some x = subst (λ z. context_of z cs ≡ Some x) q e in
        let same : c ≡ x = cc in
        omega (arith, r, le, ap (λ y. y.next) same)

-- ---- issue

module _ (g : ℕ) (s : State) (a : ℕ) (k : Command) (c : Context) (i : Issued) (sound : Invariant s) (at : context_of a s.contexts ≡ Some c) (e : issue c k ≡ Some i) where
  past_none : flying_at c.next c.flying ≡ None
  past_none = (sound.lawful.traffic.contexts a c at).fresh c.next (omega arith)

  past_does : IssueEffect c i
  past_does = issue_effect c k i e past_none

  after : Invariant (after_issue s i)
  after = record { lawful = issue_lawful s a k c i sound.lawful at e; proper = issue_proper s a k c i sound.lawful sound.proper at e; commands = issue_in_order s sound.lawful sound.proper sound.commands a k c i at e }

  owns : Owns s.grants c i
  owns = issue_owns s.grants c k i (λ ep r q. record_child s.grants sound.lawful.placed.grants c.act ep r (subst (λ z. FormLawful s.grants c.act ep (form_of z)) q (sound.lawful.placed.records c.act c (found_own a c s.contexts at) ep))) (sound.lawful.traffic.contexts a c at).queues e

  past_later : Later s (after_issue s i)
  past_later m z = later_put s.contexts c i.context m.header.sender m.header.number (found_same s.contexts a c i.context at past_does.act) owns.next z

  free_name : Apart (next_id c) s.flights
  free_name = (sound.lawful.traffic.contexts a c at).apart c.next (omega arith)

  pub issue_past : (issued landed : List Message) (refused : List FlightId) → Past g s issued landed refused → Past g (after_issue s i) (issued ++ new_message g i.packet) landed refused
  issue_past issued landed refused h = by_packet i.packet past_does.packet (single_flying g (after_issue s i) after) past_later
    where
      stay : (p : Packet) → name_of p ≡ next_id c → sent_in g p ≡ [] → (id : FlightId) (x : Packet) (m : Message) → flight id (new_flight p s.flights) ≡ Some x → sent_in g x ≡ m ∷ [] → flight id s.flights ≡ Some x
      stay p n z id x m f sx = by_name (same_name id (name_of p)) refl
        where
          by_name : (b : Bool) → same_name id (name_of p) ≡ b → flight id s.flights ≡ Some x
          by_name false w = sym (flight-new id p s.flights w) ∙ f
          by_name true w =
              let q : id ≡ name_of p = same_name-is id (name_of p) w in
              let r : flight id (new_flight p s.flights) ≡ Some p = subst (λ y. flight y (new_flight p s.flights) ≡ Some p) (sym q) (find-new p s.flights (subst (λ y. Apart y s.flights) (sym n) free_name)) in
              let same : p ≡ x = cc in
              absurd (clash (sym z ∙ ap (sent_in g) same ∙ sx))
            where
              clash : {m : Message} → [] ≡ m ∷ [] → ⊥
              clash q = cc

      new_name : (p : Packet) (m : Message) → name_of p ≡ next_id c → sent_in g p ≡ m ∷ [] → NewName s m
      new_name p m n z x f =
          let q : message_id m ≡ next_id c = sym (sent_message g p m z).0 ∙ n in
          let w : m.header.sender ≡ c.act = ap (λ y. y.issuer) q in
          let v : context_of m.header.sender s.contexts ≡ Some c = subst (λ y. context_of y s.contexts ≡ Some c) (act_found a c s.contexts at ∙ sym w) at in
          let same : c ≡ x = cc in
          omega (arith, ap (λ y. y.next) same, ap (λ y. y.number) q)

      by_packet : (mp : Option Packet) → NewPacket c i.context mp → Single (flying_of g (with_packet mp s.flights)) → Later s (record s { contexts = put_context i.context s.contexts; flights = with_packet mp s.flights }) → Past g (record s { contexts = put_context i.context s.contexts; flights = with_packet mp s.flights }) (issued ++ new_message g mp) landed refused
      by_packet None new si later = subst (λ y. Past g (record s { contexts = put_context i.context s.contexts; flights = s.flights }) y landed refused) (sym (append-nil issued)) (past_stays g s _ issued landed refused later refl (λ id p m f z. f) h)
      by_packet (Some p) new si later = by_sent (single_sent g p)
        where
          by_sent : (sent_in g p ≡ []) ⊎ ((m : Message) × (sent_in g p ≡ m ∷ [])) → Past g (record s { contexts = put_context i.context s.contexts; flights = new_flight p s.flights }) (issued ++ sent_in g p) landed refused
          by_sent (inl z) = subst (λ y. Past g (record s { contexts = put_context i.context s.contexts; flights = new_flight p s.flights }) y landed refused) (sym (ap (λ y. issued ++ y) z ∙ append-nil issued)) (past_stays g s _ issued landed refused later (flying_of-new_other g p s.flights z) (stay p new.0 z) h)
          by_sent (inr z) =
              let m = z.0 in
              let nothing : flying_of g s.flights ≡ [] = alone_before g p m s.flights z.1 si in
              let fresh : NewName s m = new_name p m new.0 z.1 in
              record {
                order = ap (λ y. messages_named refused (issued ++ y)) z.1 ∙ order-issued issued landed refused m (h.refused_old m fresh) (h.order ∙ ap (λ y. landed ++ y) nothing) ∙ ap (λ y. landed ++ y) (sym (flying_of-new_only g p s.flights nothing ∙ z.1));
                refused_old = λ x w. h.refused_old x (later x w);
                landed_old = λ x w. h.landed_old x (later x w);
                landed_apart = λ id x y f sx. by_name id x y f sx (same_name id (name_of p)) refl;
              }
            where
              by_name : (id : FlightId) (x : Packet) (y : Message) → flight id (new_flight p s.flights) ≡ Some x → sent_in g x ≡ y ∷ [] → (b : Bool) → same_name id (name_of p) ≡ b → messages_named (message_id y ∷ []) landed ≡ landed
              by_name id x y f sx false w = h.landed_apart id x y (sym (flight-new id p s.flights w) ∙ f) sx
              by_name id x y f sx true w =
                  let q : id ≡ name_of p = same_name-is id (name_of p) w in
                  let r : flight id (new_flight p s.flights) ≡ Some p = subst (λ u. flight u (new_flight p s.flights) ≡ Some p) (sym q) (find-new p s.flights (subst (λ u. Apart u s.flights) (sym new.0) free_name)) in
                  let same : p ≡ x = cc in
                  h.landed_old y (new_name p y new.0 (ap (sent_in g) same ∙ sx))

-- ---- landings

-- the one message that flies
only_flying : (g : ℕ) (p q : Packet) (m : Message) (fs : List Packet) → flight (name_of q) fs ≡ Some p → sent_in g q ≡ [] → sent_in g p ≡ m ∷ [] → Single (flying_of g fs) → flying_of g fs ≡ m ∷ []
only_flying g p q m fs f k z si =
    let r = flying_of-change g p q fs f k in
    by_parts r.front r.back (r.was ∙ ap (λ y. r.front ++ (y ++ r.back)) z) (subst Single (r.was ∙ ap (λ y. r.front ++ (y ++ r.back)) z) si)
  where
    short : (xs ys : List Message) → Single (xs ++ (m ∷ ys)) → length xs + length ys ≤ 0
    short xs ys s = omega (arith, single_short s, length-append xs (m ∷ ys))

    by_parts : (xs ys : List Message) → flying_of g fs ≡ xs ++ (m ∷ ys) → Single (xs ++ (m ∷ ys)) → flying_of g fs ≡ m ∷ []
    by_parts [] [] e s = e
    by_parts [] (y ∷ ys) e s = absurd (omega (arith, short [] (y ∷ ys) s))
    by_parts (x ∷ xs) ys e s = absurd (omega (arith, short (x ∷ xs) ys s))

none_found : (g : ℕ) (id : FlightId) (p : Packet) (m : Message) (fs : List Packet) → flying_of g fs ≡ [] → flight id fs ≡ Some p → sent_in g p ≡ m ∷ [] → ⊥
none_found g id p m [] e f z = cc
none_found g id p m (q ∷ fs) e f z = by_name (same_name id (name_of q)) refl (parts (sent_in g q) (flying_of g fs) e) (none_found g id p m fs)
  where
    parts : (xs ys : List Message) → xs ++ ys ≡ [] → (xs ≡ []) × (ys ≡ [])
    parts [] ys e = (refl, e)
    parts (x ∷ xs) ys e = absurd (cc)

    by_name : (b : Bool) → same_name id (name_of q) ≡ b → (sent_in g q ≡ []) × (flying_of g fs ≡ []) → (flying_of g fs ≡ [] → flight id fs ≡ Some p → sent_in g p ≡ m ∷ [] → ⊥) → ⊥
    by_name true w e ih = let same : q ≡ p = grind (arith, f, w) in clash (sym e.0 ∙ ap (sent_in g) same ∙ z)
      where
        clash : [] ≡ m ∷ [] → ⊥
        clash q = cc
    by_name false w e ih = ih e.1 (grind (arith, f, w)) z

kept-push : (id : FlightId) (m : Message) (ms : List Message) → same_name (message_id m) id ≡ false → messages_named (id ∷ []) ms ≡ ms → messages_named (id ∷ []) (ms ++ m ∷ []) ≡ ms ++ m ∷ []
kept-push id m ms w e = filter-append (λ x. not (is_named (id ∷ []) x)) ms (m ∷ []) ∙ ap (λ x. x ++ messages_named (id ∷ []) (m ∷ [])) e ∙ ap (λ b. ms ++ (if not (b || false) then m ∷ [] else [])) w

module _ (g : ℕ) (s : State) (c d : Context) (p q : Packet) (hs : List ℕ) (sound : Invariant s) (at : context_of d.act s.contexts ≡ Some c) (next : c.next ≤ d.next) (find : flight (name_of q) s.flights ≡ Some p) (answer : sent_in g q ≡ []) where
  changed_later : Later s (record s { memory = hs; contexts = put_context d s.contexts; flights = change_flight q s.flights })
  changed_later m z = later_put s.contexts c d m.header.sender m.header.number at next z

  changed_old : (id : FlightId) (x : Packet) (m : Message) → flight id (change_flight q s.flights) ≡ Some x → sent_in g x ≡ m ∷ [] → flight id s.flights ≡ Some x
  changed_old id x m f sx = by_name (same_name id (name_of q)) refl
    where
      clash : [] ≡ m ∷ [] → ⊥
      clash e = cc

      by_name : (b : Bool) → same_name id (name_of q) ≡ b → flight id s.flights ≡ Some x
      by_name false w = sym (flight-change id q s.flights w) ∙ f
      by_name true w =
          let n : id ≡ name_of q = same_name-is id (name_of q) w in
          let r : flight id (change_flight q s.flights) ≡ Some q = subst (λ y. flight y (change_flight q s.flights) ≡ Some q) (sym n) (find-replaced_same name_of same_name name_before q p s.flights (same_name-itself (name_of q)) find) in
          let same : q ≡ x = cc in
          absurd (clash (sym answer ∙ ap (sent_in g) same ∙ sx))

  -- another packet than a message of g
  pub other_past : (issued landed : List Message) (refused : List FlightId) → sent_in g p ≡ [] → Past g s issued landed refused → Past g (record s { memory = hs; contexts = put_context d s.contexts; flights = change_flight q s.flights }) issued landed refused
  other_past issued landed refused z h = past_stays g s (record s { memory = hs; contexts = put_context d s.contexts; flights = change_flight q s.flights }) issued landed refused changed_later (flying_of-change_other g p q s.flights find z answer) changed_old h

  -- a used name is no new one
  used : (m x : Message) → sent_in g p ≡ m ∷ [] → NewName s x → (y : Context) → context_of m.header.sender s.contexts ≡ Some y → same_name (message_id m) (message_id x) ≡ false
  used m x z new y e = by_test (same_name (message_id m) (message_id x)) refl
    where
      n : name_of q ≡ message_id m
      n = name_found (name_of q) p s.flights find ∙ (sent_message g p m z).0

      by_test : (b : Bool) → same_name (message_id m) (message_id x) ≡ b → same_name (message_id m) (message_id x) ≡ false
      by_test false w = w
      by_test true w =
          let v : message_id m ≡ message_id x = same_name-is (message_id m) (message_id x) w in
          let le : y.next ≤ x.header.number = new y (subst (λ u. context_of u s.contexts ≡ Some y) (ap (λ u. u.issuer) v) e) in
          let apart : Apart (record { issuer = y.act; number = m.header.number }) s.flights = (sound.lawful.traffic.contexts m.header.sender y e).apart m.header.number (omega (arith, le, ap (λ u. u.number) v)) in
          let here : flight (message_id m) s.flights ≡ None = subst (λ u. Apart (record { issuer = u; number = m.header.number }) s.flights) (sym (act_found m.header.sender y s.contexts e)) apart in
          let there : flight (message_id m) s.flights ≡ Some p = subst (λ u. flight u s.flights ≡ Some p) n find in
          absurd (cc)

  sender_there : (m : Message) → sent_in g p ≡ m ∷ [] → (y : Context) × (context_of m.header.sender s.contexts ≡ Some y)
  sender_there m z = by_context (context_of m.header.sender s.contexts) refl (sent_flies g s sound p m (subst (λ n. flight n s.flights ≡ Some p) (name_found (name_of q) p s.flights find) find) z).1
    where
      by_context : (o : Option Context) → context_of m.header.sender s.contexts ≡ o → gives_back_in g m.header.number (context_of m.header.sender s.contexts) ≡ true → (y : Context) × (context_of m.header.sender s.contexts ≡ Some y)
      by_context None e h = absurd (clash (sym (ap (gives_back_in g m.header.number) e) ∙ h))
        where
          clash : false ≡ true → ⊥
          clash q = cc
      by_context (Some y) e h = (y, e)

  single_now : (m : Message) → sent_in g p ≡ m ∷ [] → flying_of g s.flights ≡ m ∷ []
  single_now m z = only_flying g p q m s.flights find answer z (single_flying g s sound)

  -- a message of g lands
  pub landed_past : (issued landed : List Message) (refused : List FlightId) (m : Message) → sent_in g p ≡ m ∷ [] → Past g s issued landed refused → Past g (record s { memory = hs; contexts = put_context d s.contexts; flights = change_flight q s.flights }) issued (landed ++ m ∷ []) refused
  landed_past issued landed refused m z h =
      let y = sender_there m z in
      let gone : flying_of g (change_flight q s.flights) ≡ [] = flying_of-change_only g p q m s.flights find z answer (single_now m z) in
      record {
        order = order-landed issued landed refused m (h.order ∙ ap (λ x. landed ++ x) (single_now m z)) ∙ ap (λ x. (landed ++ m ∷ []) ++ x) (sym gone);
        refused_old = λ x w. h.refused_old x (changed_later x w);
        landed_old = λ x w. kept-push (message_id x) m landed (used m x z (changed_later x w) y.0 y.1) (h.landed_old x (changed_later x w));
        landed_apart = λ id x u f sx. absurd (none_found g id x u (change_flight q s.flights) gone f sx);
      }

  -- or is refused
  pub refused_past : (issued landed : List Message) (refused : List FlightId) (m : Message) → sent_in g p ≡ m ∷ [] → Past g s issued landed refused → Past g (record s { memory = hs; contexts = put_context d s.contexts; flights = change_flight q s.flights }) issued landed (refused ++ message_id m ∷ [])
  refused_past issued landed refused m z h =
      let y = sender_there m z in
      let gone : flying_of g (change_flight q s.flights) ≡ [] = flying_of-change_only g p q m s.flights find z answer (single_now m z) in
      record {
        order = order-refused issued landed refused m (h.landed_apart (name_of q) p m find z) (h.order ∙ ap (λ x. landed ++ x) (single_now m z)) ∙ ap (λ x. landed ++ x) (sym gone);
        refused_old = λ x w. named-append refused (message_id m) x ∙ grind (arith, h.refused_old x (changed_later x w), used m x z (changed_later x w) y.0 y.1, same_name-turned (message_id m) (message_id x));
        landed_old = λ x w. h.landed_old x (changed_later x w);
        landed_apart = λ id x u f sx. absurd (none_found g id x u (change_flight q s.flights) gone f sx);
      }
