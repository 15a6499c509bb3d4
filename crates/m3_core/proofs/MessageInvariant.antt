-- What happens to a receive record keeps its messages sound.
use Rattle.std.proofs.Common.{nat_eq, ◌≡◌, ℕ, Bool, true, false, List, [], ◌∷◌, ◌++◌, Some, None, Ok, Err, refl, subst, sym, arith}
use Rattle.std.specs.Prelude.{Option, Result, IsOk, IsErr, option_map, length, if◌then◌else◌, ◌&&◌, ◌==◌}
use Rattle.std.specs.List.{list_all}
use Rattle.std.proofs.lemmas.Bool.Decides.{nat_tests}
use Rattle.m3_base.specs.declared.message.Header.{Header}
use Rattle.m3_base.specs.declared.message.Message.{Message}
use Rattle.m3_base.specs.declared.command.Refusal.{Refusal}
use Rattle.m3_base.specs.Ideal.Context.{Fetched, ReceiveRecord}
use Rattle.m3_base.specs.Ideal.ReceiveRecord.{with_unread, fetched_at, unmarked_message, without_token, with_mark, without_fetched, with_mark_at, fetched_one}
use Rattle.m3_base.specs.Ideal.Issue.{wants_no_reply}
use Rattle.m3_base.specs.Ideal.Acceptance.{is_message, is_header}
use Rattle.m3_endpoint.specs.ReceiveOps.{closing_one, after_fetch, unmarked_at, header_or_refusal, reply_header, with_reply_mark}
use Rattle.m3_endpoint.specs.declared.endpoint.Record.{Record}
use Rattle.m3_core.specs.SlotView.{IsKeptBy}
use Rattle.m3_core.specs.MessageInvariant.{is_sound_fetched, IsSoundIn, HasSender, HasReplyPlace}
use Rattle.std.proofs.lemmas.Bool.{and_parts}

all-push : {X : Type 0} (p : X → Bool) (xs : List X) (x : X) → list_all p xs ≡ true → p x ≡ true → list_all p (xs ++ x ∷ []) ≡ true
all-push p [] x h g = grind arith
all-push p (y ∷ xs) x h g = grind (arith, all-push p xs x)

all-head : {X : Type 0} (p : X → Bool) (x : X) (xs : List X) → list_all p (x ∷ xs) ≡ true → p x ≡ true
all-head p x xs h = grind arith

all-tail : {X : Type 0} (p : X → Bool) (x : X) (xs : List X) → list_all p (x ∷ xs) ≡ true → list_all p xs ≡ true
all-tail p x xs h = grind arith

-- a test of the message of each fetched message
module _ (p : Message → Bool) where
  abbrev of_fetched : Fetched → Bool
  of_fetched f = p f.message

  all-without : (t : ℕ) (fs : List Fetched) → list_all of_fetched fs ≡ true → list_all of_fetched (without_token t fs) ≡ true
  all-without t [] h = refl
  all-without t (f ∷ fs) h = grind (arith, all-without t fs)

  all-marked : (b : Bool) (t : ℕ) (fs : List Fetched) → list_all of_fetched fs ≡ true → list_all of_fetched (with_mark b t fs) ≡ true
  all-marked b t [] h = refl
  all-marked b t (f ∷ fs) h = grind (arith, all-marked b t fs)

  all-found : (t : ℕ) (fs : List Fetched) (m : Message) → list_all of_fetched fs ≡ true → unmarked_message (fetched_at t fs) ≡ Some m → p m ≡ true
  all-found t [] m h e = grind arith
  all-found t (f ∷ fs) m h e = grind (arith, all-found t fs m)

pub closed_sound : (r : Option ReceiveRecord) → IsSoundIn r → IsSoundIn (option_map closing_one r)
closed_sound None h = h
closed_sound (Some r) h = h

pub joined_sound : (m : Message) (r : Option ReceiveRecord) → is_message m ≡ true → IsSoundIn r → IsSoundIn (option_map (λ x. with_unread x m) r)
joined_sound m None g h = h
joined_sound m (Some r) g h = (all-push is_message r.unread m h.0 g, h.1)

pub freed_sound : (t : ℕ) (r : Option ReceiveRecord) → IsSoundIn r → IsSoundIn (option_map (λ x. without_fetched x t) r)
freed_sound t None h = h
freed_sound t (Some r) h = (h.0, all-without is_message t r.fetched h.1)

pub marking_sound : (b : Bool) (t : ℕ) (r : Option ReceiveRecord) → IsSoundIn r → IsSoundIn (option_map (λ x. with_mark_at b x t) r)
marking_sound b t None h = h
marking_sound b t (Some r) h = (h.0, all-marked is_message b t r.fetched h.1)

pub replied_sound : (b : Bool) (t : ℕ) (r : Option ReceiveRecord) → IsSoundIn r → IsSoundIn (option_map (with_reply_mark b t) r)
replied_sound b t None h = h
replied_sound true t (Some r) h = (h.0, all-without is_message t r.fetched h.1)
replied_sound false t (Some r) h = (h.0, all-marked is_message false t r.fetched h.1)

fetched_one-sound : (r : ReceiveRecord) (ms : List Message) → list_all is_message ms ≡ true → list_all is_sound_fetched r.fetched ≡ true → IsSoundIn (Some (fetched_one (record r { unread = ms }) ms))
fetched_one-sound r [] h g = (h, g)
fetched_one-sound r (m ∷ rest) h g =
    (all-tail is_message m rest h, all-push is_sound_fetched r.fetched (record { token = r.next_token; marked = false; message = m }) g (all-head is_message m rest h))

pub fetched_sound : (r : Option ReceiveRecord) → IsSoundIn r → IsSoundIn (after_fetch r)
fetched_sound None h = h
fetched_sound (Some r) h = fetched_one-sound r r.unread h.0 h.1

-- ---- what the headers of sound messages say

header_in : (m : Message) → is_message m ≡ true → is_header m.header ≡ true
header_in m s = (and_parts (is_header m.header) (m.header.length == length m.payload) s).0

has_sender : (h : Header) → is_header h ≡ true → HasSender h
has_sender h s = (grind (arith, nat_tests), grind (arith, nat_tests))

has_place : (h : Header) → is_header h ≡ true → nat_eq h.reply_ep 255 ≡ false → HasReplyPlace h
has_place h s n = (grind (arith, nat_tests), grind (arith, nat_tests), grind (arith, nat_tests))

sender-of : (t : ℕ) (fs : List Fetched) (m : Option Message) (h : Header) → list_all is_sound_fetched fs ≡ true → unmarked_message (fetched_at t fs) ≡ m → header_or_refusal m ≡ Ok h → HasSender h
sender-of t fs None h s e g = cc
sender-of t fs (Some m) h s e g =
    let q : m.header ≡ h = cc in
    subst HasSender q (has_sender m.header (header_in m (all-found is_message t fs m s e)))

pub header_sound : (t : ℕ) (r : Option ReceiveRecord) (h : Header) → IsSoundIn r → header_or_refusal (unmarked_at t r) ≡ Ok h → HasSender h
header_sound t None h s e = absurd s
header_sound t (Some r) h s e = sender-of t r.fetched (unmarked_message (fetched_at t r.fetched)) h s.1 refl e

wanted : (m : Message) (h : Header) (b : Bool) → wants_no_reply (Some m) ≡ b → (if b then Err Refusal.NoReplyWanted else Ok m.header) ≡ Ok h → (m.header ≡ h) × (nat_eq m.header.reply_ep 255 ≡ false)
wanted m h true e g = cc
wanted m h false e g = (cc, grind (arith, nat_tests))

place-of : (t : ℕ) (fs : List Fetched) (m : Option Message) (h : Header) → list_all is_sound_fetched fs ≡ true → unmarked_message (fetched_at t fs) ≡ m → reply_header m ≡ Ok h → HasReplyPlace h
place-of t fs None h s e g = cc
place-of t fs (Some m) h s e g =
    let w = wanted m h (wants_no_reply (Some m)) refl g in
    subst HasReplyPlace w.0 (has_place m.header (header_in m (all-found is_message t fs m s e)) w.1)

pub reply_sound : (t : ℕ) (r : Option ReceiveRecord) (h : Header) → IsSoundIn r → reply_header (unmarked_at t r) ≡ Ok h → HasReplyPlace h
reply_sound t None h s e = absurd s
reply_sound t (Some r) h s e = place-of t r.fetched (unmarked_message (fetched_at t r.fetched)) h s.1 refl e

-- ---- after a call that may refuse

pub kept_sound : (o : Record) (spare : Option (Option ReceiveRecord)) (r : Option ReceiveRecord) → o ≡ Record.Receive r → IsKeptBy o spare → IsSoundIn r
kept_sound o spare r e k = subst (λ x. IsKeptBy x spare) e k

pub acknowledged_sound : (t : ℕ) (r s : Option ReceiveRecord) (x : Result Header Refusal) → (IsOk x → s ≡ option_map (λ y. without_fetched y t) r) → (IsErr x → s ≡ r) → IsSoundIn r → IsSoundIn s
acknowledged_sound t r s (Ok h) p q k = subst IsSoundIn (sym (p refl)) (freed_sound t r k)
acknowledged_sound t r s (Err why) p q k = subst IsSoundIn (sym (q refl)) k

pub marked_sound : (t : ℕ) (r s : Option ReceiveRecord) (x : Result Header Refusal) → (IsOk x → s ≡ option_map (λ y. with_mark_at true y t) r) → (IsErr x → s ≡ r) → IsSoundIn r → IsSoundIn s
marked_sound t r s (Ok h) p q k = subst IsSoundIn (sym (p refl)) (marking_sound true t r k)
marked_sound t r s (Err why) p q k = subst IsSoundIn (sym (q refl)) k
