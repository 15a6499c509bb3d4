-- Messages of a grant keep their order.
use Rattle.std.proofs.Common.{◌≡◌, ℕ, Bool, true, false, List, [], ◌∷◌, ◌++◌, Some, refl, sym, ◌∙◌, ap, arith, append_assoc}
use Rattle.std.specs.Prelude.{if◌then◌else◌, not, ◌||◌, filter}
use Rattle.std.proofs.lemmas.List.Elements.{filter-append}
use Rattle.std.proofs.lemmas.List.{append-nil}
use Rattle.m3_base.specs.declared.ids.FlightId.{FlightId}
use Rattle.m3_base.specs.declared.message.Message.{Message}
use Rattle.m3_base.specs.declared.packet.Packet.{Packet}
use Rattle.m3_base.specs.Ideal.Flights.{name_of, same_name, name_before, flight, new_flight, change_flight}
use Rattle.m3_base.specs.Ideal.Landing.{message_id}
use Rattle.m3_base.specs.Ideal.MessageTraces.{sent_in, flying_of, is_named, messages_named, names_of}
use Rattle.m3_base.proofs.FlightNames.{same_name-itself}

-- ---- messages that fly

pub flying_of-new_other : (g : ℕ) (p : Packet) (fs : List Packet) → sent_in g p ≡ [] → flying_of g (new_flight p fs) ≡ flying_of g fs
flying_of-new_other g p [] h = grind (arith, h)
flying_of-new_other g p (q ∷ fs) h = grind (arith, h, flying_of-new_other g p fs h)

pub flying_of-new_only : (g : ℕ) (p : Packet) (fs : List Packet) → flying_of g fs ≡ [] → flying_of g (new_flight p fs) ≡ sent_in g p
flying_of-new_only g p [] h = grind arith
flying_of-new_only g p (q ∷ fs) h = by_order (name_before (name_of p) (name_of q)) (parts (sent_in g q) (flying_of g fs) h) (flying_of-new_only g p fs)
  where
    parts : (xs ys : List Message) → xs ++ ys ≡ [] → (xs ≡ []) × (ys ≡ [])
    parts [] ys e = (refl, e)
    parts (x ∷ xs) ys e = absurd (cc)

    by_order : (b : Bool) → (sent_in g q ≡ []) × (flying_of g fs ≡ []) → (flying_of g fs ≡ [] → flying_of g (new_flight p fs) ≡ sent_in g p) → flying_of g (if b then p ∷ q ∷ fs else q ∷ new_flight p fs) ≡ sent_in g p
    by_order true e ih = rw (e.0, e.1) (append-nil (sent_in g p))
    by_order false e ih = rw (e.0) (ih e.1)

-- a flight that no longer flies as a message
pub flying_of-change_other : (g : ℕ) (p q : Packet) (fs : List Packet) → flight (name_of q) fs ≡ Some p → sent_in g p ≡ [] → sent_in g q ≡ [] → flying_of g (change_flight q fs) ≡ flying_of g fs
flying_of-change_other g p q [] f h k = refl
flying_of-change_other g p q (x ∷ fs) f h k = grind (arith, h, k, flying_of-change_other g p q fs)

-- where a flight changes to one that is no message, its message leaves its place and the others keep their order
pub record Leaves (before : List Message) (m after : List Message) : Type 0 where
  pub front : List Message
  pub back : List Message
  pub was : before ≡ front ++ (m ++ back)
  pub is : after ≡ front ++ back

pub flying_of-change : (g : ℕ) (p q : Packet) (fs : List Packet) → flight (name_of q) fs ≡ Some p → sent_in g q ≡ [] → Leaves (flying_of g fs) (sent_in g p) (flying_of g (change_flight q fs))
flying_of-change g p q [] f k = absurd (cc)
flying_of-change g p q (x ∷ fs) f k = by_name (same_name (name_of q) (name_of x)) refl (flying_of-change g p q fs)
  where
    by_name : (b : Bool) → same_name (name_of q) (name_of x) ≡ b → (flight (name_of q) fs ≡ Some p → sent_in g q ≡ [] → Leaves (flying_of g fs) (sent_in g p) (flying_of g (change_flight q fs))) → Leaves (flying_of g (x ∷ fs)) (sent_in g p) (flying_of g (if b then q ∷ fs else x ∷ change_flight q fs))
    by_name true w ih =
        let same : x ≡ p = grind (arith, f, w) in
        record { front = []; back = flying_of g fs; was = ap (λ y. sent_in g y ++ flying_of g fs) same; is = ap (λ y. y ++ flying_of g fs) k }
    by_name false w ih =
        let r = ih (grind (arith, f, w)) k in
        record {
          front = sent_in g x ++ r.front;
          back = r.back;
          was = ap (λ y. sent_in g x ++ y) r.was ∙ sym (append_assoc (sent_in g x) r.front (sent_in g p ++ r.back));
          is = ap (λ y. sent_in g x ++ y) r.is ∙ sym (append_assoc (sent_in g x) r.front r.back);
        }

alone : (front back : List Message) (m : Message) → m ∷ [] ≡ front ++ (m ∷ [] ++ back) → front ++ back ≡ []
alone [] back m e = cc
alone (x ∷ []) back m e = absurd (cc)
alone (x ∷ y ∷ front) back m e = absurd (cc)

-- the one message of g that flies
pub flying_of-change_only : (g : ℕ) (p q : Packet) (m : Message) (fs : List Packet) → flight (name_of q) fs ≡ Some p → sent_in g p ≡ m ∷ [] → sent_in g q ≡ [] → flying_of g fs ≡ m ∷ [] → flying_of g (change_flight q fs) ≡ []
flying_of-change_only g p q m fs f h k e =
    let r = flying_of-change g p q fs f k in
    r.is ∙ alone r.front r.back m (sym e ∙ r.was ∙ ap (λ y. r.front ++ (y ++ r.back)) h)

-- ---- histories

-- a new message whose name was never refused
pub order-issued : (issued landed : List Message) (refused : List FlightId) (m : Message) → is_named refused m ≡ false → messages_named refused issued ≡ landed ++ [] → messages_named refused (issued ++ m ∷ []) ≡ landed ++ m ∷ []
order-issued issued landed refused m new e =
    filter-append (λ x. not (is_named refused x)) issued (m ∷ [])
    ∙ ap (λ x. x ++ filter (λ y. not (is_named refused y)) (m ∷ [])) (e ∙ append-nil landed)
    ∙ ap (λ b. landed ++ (if not b then m ∷ [] else [])) new

-- the message that flies lands
pub order-landed : (issued landed : List Message) (refused : List FlightId) (m : Message) → messages_named refused issued ≡ landed ++ m ∷ [] → messages_named refused issued ≡ (landed ++ m ∷ []) ++ []
order-landed issued landed refused m e = e ∙ sym (append-nil (landed ++ m ∷ []))

pub named-append : (refused : List FlightId) (id : FlightId) (m : Message) → is_named (refused ++ id ∷ []) m ≡ (is_named refused m || same_name (message_id m) id)
named-append [] id m = grind arith
named-append (x ∷ refused) id m = grind (arith, named-append refused id m)

kept-more : (refused : List FlightId) (id : FlightId) (ms : List Message) → messages_named (refused ++ id ∷ []) ms ≡ messages_named (id ∷ []) (messages_named refused ms)
kept-more refused id [] = refl
kept-more refused id (m ∷ ms) = grind (arith, kept-more refused id ms, named-append refused id m)

-- the message that flies is refused
pub order-refused : (issued landed : List Message) (refused : List FlightId) (m : Message) → messages_named (message_id m ∷ []) landed ≡ landed → messages_named refused issued ≡ landed ++ m ∷ [] → messages_named (refused ++ message_id m ∷ []) issued ≡ landed ++ []
order-refused issued landed refused m apart e =
    kept-more refused (message_id m) issued
    ∙ ap (messages_named (message_id m ∷ [])) e
    ∙ filter-append (λ x. not (is_named (message_id m ∷ []) x)) landed (m ∷ [])
    ∙ ap (λ x. x ++ messages_named (message_id m ∷ []) (m ∷ [])) apart
    ∙ ap (λ b. landed ++ (if not (b || false) then m ∷ [] else [])) (same_name-itself (message_id m))

-- the law follows: those landed are those issued, without those refused and those that still fly
pub law_of_order : (issued landed flying : List Message) (refused : List FlightId) → messages_named (names_of flying) landed ≡ landed → messages_named (names_of flying) flying ≡ [] → messages_named refused issued ≡ landed ++ flying → landed ≡ messages_named (names_of flying) (messages_named refused issued)
law_of_order issued landed flying refused apart gone e =
    sym (
    ap (messages_named (names_of flying)) e
    ∙ filter-append (λ x. not (is_named (names_of flying) x)) landed flying
    ∙ ap (λ x. x ++ messages_named (names_of flying) flying) apart
    ∙ ap (λ x. landed ++ x) gone
    ∙ append-nil landed
    )
