-- A test on all elements of a list, one after the other.
use Rattle.std.proofs.Common.{◌≡◌, ℕ, ◌+◌, ◌<◌, ◌≤◌, Bool, true, false, List, length, drop, get_or, Option, Some, None, refl, sym, ap, ◌∙◌}
use Rattle.std.specs.Prelude.{◌&&◌, slice_get, option_map}
use Rattle.std.specs.List.{list_all}
use Rattle.std.proofs.lemmas.List.{drop_more, drop_all}
use Rattle.std.proofs.lemmas.Option.{slice_get_within, get_or_from_slice_get}
use Rattle.m3_base.specs.declared.message.Message.{Message}
use Rattle.m3_base.specs.Ideal.Context.{Fetched, ReceiveRecord}
use Rattle.m3_endpoint.specs.ReceiveOps.{unread_at, message_in, message_in_order}
use Rattle.m3_engine.specs.ReceiveRecordView.{unread_of, fetched_of}

module _ {X : Type 0} (t : X → Bool) (xs : List X) (i : ℕ) where
  all_from : (x : X) → i < length xs → get_or xs i x ≡ x → list_all t (drop i xs) ≡ (t x && list_all t (drop (i + 1) xs))
  all_from x within is = ap (list_all t) (drop_more xs i x within) ∙ ap (λ y. t y && list_all t (drop (i + 1) xs)) is

  pub refused : (x : X) → i < length xs → get_or xs i x ≡ x → list_all t xs ≡ list_all t (drop i xs) → t x ≡ false → false ≡ list_all t xs
  refused x within is inv lacks = sym (inv ∙ all_from x within is ∙ ap (λ b. b && list_all t (drop (i + 1) xs)) lacks)

  pub passed : (x : X) → i < length xs → get_or xs i x ≡ x → list_all t xs ≡ list_all t (drop i xs) → t x ≡ true → list_all t xs ≡ list_all t (drop (i + 1) xs)
  passed x within is inv has = inv ∙ all_from x within is ∙ ap (λ b. b && list_all t (drop (i + 1) xs)) has

  pub ended : length xs ≤ i → list_all t xs ≡ list_all t (drop i xs) → true ≡ list_all t xs
  ended past inv = sym (inv ∙ ap (list_all t) (drop_all i xs past))

-- ---- messages

unread_get : (o : Option ReceiveRecord) (i : ℕ) (x : Message) → unread_at o i ≡ Some x → slice_get (unread_of o) i ≡ Some x
unread_get None i x e = absurd (cc)
unread_get (Some r) i x e = e

module _ (t : Message → Bool) (o : Option ReceiveRecord) (i : ℕ) (x : Message) (e : unread_at o i ≡ Some x) where
  pub unread_refused : list_all t (unread_of o) ≡ list_all t (drop i (unread_of o)) → t x ≡ false → false ≡ list_all t (unread_of o)
  unread_refused = let g = unread_get o i x e in refused t (unread_of o) i x (slice_get_within (unread_of o) i x g) (get_or_from_slice_get (unread_of o) i x x g)

  pub unread_passed : list_all t (unread_of o) ≡ list_all t (drop i (unread_of o)) → t x ≡ true → list_all t (unread_of o) ≡ list_all t (drop (i + 1) (unread_of o))
  unread_passed = let g = unread_get o i x e in passed t (unread_of o) i x (slice_get_within (unread_of o) i x g) (get_or_from_slice_get (unread_of o) i x x g)

-- a fetched message stands there
pub record IsFetched (o : Option ReceiveRecord) (i : ℕ) (x : Message) : Type 0 where
  pub fetched : Fetched
  pub got : slice_get (fetched_of o) i ≡ Some fetched
  pub message : fetched.message ≡ x

fetched_get : (o : Option ReceiveRecord) (i : ℕ) (x : Message) → message_in_order o i ≡ Some x → IsFetched o i x
fetched_get None i x e = absurd (cc)
fetched_get (Some r) i x e = by_get (slice_get r.fetched i) refl e
  where
    same : (y : Message) → Some y ≡ Some x → y ≡ x
    same y w = cc

    by_get : (g : Option Fetched) → slice_get r.fetched i ≡ g → option_map message_in g ≡ Some x → IsFetched (Some r) i x
    by_get None is w = absurd (cc)
    by_get (Some f) is w = record { fetched = f; got = is; message = same f.message w }

module _ (t : Message → Bool) (o : Option ReceiveRecord) (i : ℕ) (x : Message) (e : message_in_order o i ≡ Some x) where
  abbrev of_message : Fetched → Bool
  of_message f = t f.message

  pub fetched_refused : list_all of_message (fetched_of o) ≡ list_all of_message (drop i (fetched_of o)) → t x ≡ false → false ≡ list_all of_message (fetched_of o)
  fetched_refused inv lacks =
      let f = fetched_get o i x e in
      refused of_message (fetched_of o) i f.fetched (slice_get_within (fetched_of o) i f.fetched f.got) (get_or_from_slice_get (fetched_of o) i f.fetched f.fetched f.got) inv (ap t f.message ∙ lacks)

  pub fetched_passed : list_all of_message (fetched_of o) ≡ list_all of_message (drop i (fetched_of o)) → t x ≡ true → list_all of_message (fetched_of o) ≡ list_all of_message (drop (i + 1) (fetched_of o))
  fetched_passed inv has =
      let f = fetched_get o i x e in
      passed of_message (fetched_of o) i f.fetched (slice_get_within (fetched_of o) i f.fetched f.got) (get_or_from_slice_get (fetched_of o) i f.fetched f.fetched f.got) inv (ap t f.message ∙ has)
