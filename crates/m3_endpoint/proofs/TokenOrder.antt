-- Tokens stay in order, and their order tells how many are smaller.
use Rattle.std.proofs.Common.{◌≡◌, ℕ, zero, suc, ◌+◌, ◌<◌, ◌≤◌, Bool, true, false, List, [], ◌∷◌, ◌++◌, Some, None, refl, sym, subst, arith}
use Rattle.std.specs.Prelude.{◌==◌, Option, option_map, IfSome, slice_get, if◌then◌else◌}
use Rattle.std.proofs.lemmas.Bool.Decides.{nat_tests}
use Rattle.m3_base.specs.declared.message.Message.{Message}
use Rattle.m3_base.specs.Lists.Counting.{how_many}
use Rattle.m3_base.specs.Ideal.Context.{Fetched, ReceiveRecord}
use Rattle.m3_endpoint.specs.declared.receive.ReceiveEp.TheInside.{Inside}
use Rattle.m3_endpoint.specs.ReceiveView.{messages, receive_record}
use Rattle.m3_endpoint.specs.ReceiveOps.{token_in, token_at}
use Rattle.m3_base.specs.Ideal.ReceiveRecord.{without_token, with_mark}
use Rattle.m3_endpoint.specs.TokenOrder.{AreOrdered, is_smaller}

lower : (a b : ℕ) (fs : List Fetched) (next : ℕ) → a ≤ b → AreOrdered b fs next → AreOrdered a fs next
lower a b [] next l h = omega arith
lower a b (f ∷ fs) next l h = (omega (arith, h.0), h.1)

pub ordered_push : (low : ℕ) (fs : List Fetched) (next : ℕ) (b : Bool) (m : Message) → AreOrdered low fs next → AreOrdered low (fs ++ record { token = next; marked = b; message = m } ∷ []) (next + 1)
ordered_push low [] next b m h = (h, omega arith)
ordered_push low (f ∷ fs) next b m h = (h.0, ordered_push (f.token + 1) fs next b m h.1)

pub ordered_without : (t low : ℕ) (fs : List Fetched) (next : ℕ) → AreOrdered low fs next → AreOrdered low (without_token t fs) next
ordered_without t low [] next h = h
ordered_without t low (f ∷ fs) next h = by_test (f.token == t) (ordered_without t (f.token + 1) fs next h.1)
  where
    by_test : (b : Bool) → AreOrdered (f.token + 1) (without_token t fs) next → AreOrdered low (if b then fs else f ∷ without_token t fs) next
    by_test true g = lower low (f.token + 1) fs next (omega (arith, h.0)) h.1
    by_test false g = (h.0, g)

pub ordered_mark : (b : Bool) (t low : ℕ) (fs : List Fetched) (next : ℕ) → AreOrdered low fs next → AreOrdered low (with_mark b t fs) next
ordered_mark b t low [] next h = h
ordered_mark b t low (f ∷ fs) next h = by_test (f.token == t) (ordered_mark b t (f.token + 1) fs next h.1)
  where
    by_test : (c : Bool) → AreOrdered (f.token + 1) (with_mark b t fs) next → AreOrdered low (if c then record f { marked = b } ∷ fs else f ∷ with_mark b t fs) next
    by_test true g = h
    by_test false g = (h.0, g)

-- ---- what the order tells

none_smaller : (t low : ℕ) (fs : List Fetched) (next : ℕ) → t ≤ low → AreOrdered low fs next → how_many (is_smaller t) fs ≡ 0
none_smaller t low [] next l h = refl
none_smaller t low (f ∷ fs) next l h = grind (arith, nat_tests, none_smaller t (f.token + 1) fs next (omega (arith, h.0)) h.1, h.0)

under : (low : ℕ) (fs : List Fetched) (next : ℕ) → AreOrdered low fs next → low ≤ next
under low [] next h = h
under low (f ∷ fs) next h = let r = under (f.token + 1) fs next h.1 in omega (arith, r, h.0)

pub not_below : (low : ℕ) (fs : List Fetched) (next i : ℕ) (f : Fetched) → slice_get fs i ≡ Some f → AreOrdered low fs next → (low ≤ f.token) × (f.token < next)
not_below low [] next i f e h = absurd cc
not_below low (x ∷ fs) next zero f e h =
    let q : x ≡ f = cc in
    let r = under (x.token + 1) fs next h.1 in
    (subst (λ y. low ≤ y.token) q h.0, subst (λ y. y.token < next) q (omega (arith, r)))
not_below low (x ∷ fs) next (suc i) f e h =
    let r = not_below (x.token + 1) fs next i f e h.1 in
    (omega (arith, r.0, h.0), r.1)

pub so_many_smaller : (low : ℕ) (fs : List Fetched) (next i : ℕ) (f : Fetched) → slice_get fs i ≡ Some f → AreOrdered low fs next → how_many (is_smaller f.token) fs ≡ i
so_many_smaller low [] next i f e h = absurd cc
so_many_smaller low (x ∷ fs) next zero f e h =
    let q : x ≡ f = cc in
    let none = none_smaller x.token (x.token + 1) fs next (omega arith) h.1 in
    subst (λ y. how_many (is_smaller y.token) (x ∷ fs) ≡ 0) q (grind (arith, nat_tests, none))
so_many_smaller low (x ∷ fs) next (suc i) f e h =
    let r = not_below (x.token + 1) fs next i f e h.1 in
    grind (arith, nat_tests, so_many_smaller (x.token + 1) fs next i f e h.1, r.0)

-- ---- the same of a record

abbrev pub IsOrderedIn : Option ReceiveRecord → Type 0
IsOrderedIn None = Unit {0}
IsOrderedIn (Some r) = AreOrdered 0 r.fetched r.next_token

pub ordered_view : (s : Inside) (r : Option ReceiveRecord) → receive_record s ≡ r → AreOrdered 0 s.fetched.items s.next_token → IsOrderedIn r
ordered_view s r e h = subst IsOrderedIn e (by_use s.used)
  where
    by_use : (b : Bool) → IsOrderedIn (if b then Some (messages s) else None)
    by_use true = h
    by_use false = tt

module _ (fs : List Fetched) (next i : ℕ) (h : AreOrdered 0 fs next) where
  smaller_by : (x : Option Fetched) → slice_get fs i ≡ x → IfSome (option_map token_in x) (λ t. how_many (is_smaller t) fs ≡ i)
  smaller_by None e = tt
  smaller_by (Some f) e = so_many_smaller 0 fs next i f e h

  below_by : (x : Option Fetched) → slice_get fs i ≡ x → IfSome (option_map token_in x) (λ t. t < next)
  below_by None e = tt
  below_by (Some f) e = (not_below 0 fs next i f e h).1

pub smaller_at : (r : Option ReceiveRecord) (i : ℕ) (x : Option ℕ) → IsOrderedIn r → x ≡ token_at r i → IfSome x (λ t. IfSome r (λ y. how_many (is_smaller t) y.fetched ≡ i))
smaller_at None i x h e = subst (λ z. IfSome z (λ t. IfSome {T = ReceiveRecord} None (λ y. how_many (is_smaller t) y.fetched ≡ i))) (sym e) tt
smaller_at (Some r) i x h e = subst (λ z. IfSome z (λ t. how_many (is_smaller t) r.fetched ≡ i)) (sym e) (smaller_by r.fetched r.next_token i h (slice_get r.fetched i) refl)

pub below_at : (r : Option ReceiveRecord) (i : ℕ) (x : Option ℕ) → IsOrderedIn r → x ≡ token_at r i → IfSome x (λ t. IfSome r (λ y. t < y.next_token))
below_at None i x h e = subst (λ z. IfSome z (λ t. IfSome {T = ReceiveRecord} None (λ y. t < y.next_token))) (sym e) tt
below_at (Some r) i x h e = subst (λ z. IfSome z (λ t. t < r.next_token)) (sym e) (below_by r.fetched r.next_token i h (slice_get r.fetched i) refl)
