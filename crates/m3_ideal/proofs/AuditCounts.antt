-- Counts that rise one after the other.
use Rattle.std.proofs.Common.{◌≡◌, ℕ, zero, suc, ◌+◌, ◌-◌, ◌<◌, ◌∙◌, List, [], ◌∷◌, ◌++◌, get_or, take, drop, length, length-append, Option, Some, None, refl, sym, ap, subst, replicate, arith}
use Rattle.std.proofs.lemmas.List.{drop_more}
use Rattle.m3_base.specs.declared.message.Message.{Message}
use Rattle.m3_base.specs.declared.packet.Packet.{Packet}
use Rattle.m3_base.specs.Lists.Counting.{total, one, how_many}
use Rattle.m3_base.proofs.Counting.{how_many-append}
use Rattle.m3_base.specs.Ideal.Context.{Context, Endpoint, Fetched}
use Rattle.m3_base.specs.Ideal.Credits.{is_sent_by, is_owed, held_at, queued_at, queued_credits, carries_credit}
use Rattle.m3_base.specs.Ideal.State.{State}
use Rattle.m3_ideal.specs.Tables.{present_on, present}
use Rattle.m3_ideal.specs.Check.AuditCounts.{Rises, CountsEndpoints, CountsContexts, CountsFlights, AreCredits}
use Rattle.m3_ideal.specs.declared.audits.credits.Credits.{Credits}

-- ---- counts

pub rises_none : (f : ℕ → ℕ) (a : List ℕ) → ((g : ℕ) → f g ≡ 0) → Rises f a a
rises_none f a e g low = let z = e g in omega arith

pub rises_same : (f h : ℕ → ℕ) (a b : List ℕ) → ((g : ℕ) → f g ≡ h g) → Rises f a b → Rises h a b
rises_same f h a b e k g low = let z = e g in let r = k g low in omega arith

pub rises_both : (f h k : ℕ → ℕ) (a b c : List ℕ) → ((g : ℕ) → k g ≡ f g + h g) → Rises f a b → Rises h b c → Rises k a c
rises_both f h k a b c e j l g low = let z = e g in let r = j g low in let s = l g low in omega arith

total_append : {X : Type 0} (f : X → ℕ) (xs ys : List X) → total f (xs ++ ys) ≡ total f xs + total f ys
total_append f [] ys = omega arith
total_append f (x ∷ xs) ys = let r = total_append f xs ys in omega arith

-- ---- a list that is counted element by element

-- when the rest is counted from now on, the whole is counted from the first on
abbrev pub Left : {X S : Type 0} → (List X → S → S → Type 0) → List X → List X → S → S → Type 0
Left {X} {S} R whole rest first now = (last : S) → R rest now last → R whole first last

module _ {X S : Type 0} (R : List X → S → S → Type 0) where
  pub left_first : (whole : List X) (first : S) → Left R whole whole first first
  left_first whole first last k = k

  pub left_end : ((s : S) → R [] s s) → (whole rest : List X) (first now : S) → rest ≡ [] → Left R whole rest first now → R whole first now
  left_end none whole rest first now e l = l now (subst (λ (r : List X). R r now now) (sym e) (none now))

  pub left_more : ((xs ys : List X) (a b c : S) → R xs a b → R ys b c → R (xs ++ ys) a c)
      → (whole rest xs ys : List X) (first now next : S) → rest ≡ xs ++ ys → Left R whole rest first now → R xs now next → Left R whole ys first next
  left_more both whole rest xs ys first now next e l k last j = l last (subst (λ (r : List X). R r now last) (sym e) (both xs ys now next last k j))

-- ---- what is left of a slice

pub nothing_left : {X : Type 0} (xs : List X) → length xs ≡ 0 → xs ≡ []
nothing_left [] h = refl
nothing_left (x ∷ xs) h = absurd (omega arith)

pub next_of : {X : Type 0} (xs : List X) (i : ℕ) (x : X) → i < length xs → x ≡ get_or xs i x → drop i xs ≡ (x ∷ []) ++ drop (i + 1) xs
next_of xs i x within is = drop_more xs i x within ∙ ap (λ y. y ∷ drop (i + 1) xs) (sym is)

pub present_split : {X : Type 0} (ts : List (Option X)) (rest : List X) → present_on ts rest ≡ present ts ++ rest
present_split [] rest = refl
present_split (None ∷ ts) rest = present_split ts rest
present_split (Some x ∷ ts) rest = ap (λ l. x ∷ l) (present_split ts rest)

present_first : {X : Type 0} (t : Option X) (ts : List (Option X)) → present (t ∷ ts) ≡ present (t ∷ []) ++ present ts
present_first None ts = refl
present_first (Some x) ts = refl

pub next_present : {X : Type 0} (ts : List (Option X)) (i : ℕ) (t : Option X) → i < length ts → t ≡ get_or ts i t → present (drop i ts) ≡ present (t ∷ []) ++ present (drop (i + 1) ts)
next_present ts i t within is = ap present (next_of ts i t within is) ∙ present_first t (drop (i + 1) ts)

-- ---- messages

-- the counts rose by these unread messages, or by these fetched ones
abbrev pub Sent : List Message → List ℕ → List ℕ → Type 0
Sent ms = Rises (λ g. how_many (is_sent_by g) ms)

abbrev pub Owed : List Fetched → List ℕ → List ℕ → Type 0
Owed fs = Rises (λ g. how_many (is_owed g) fs)

pub sent_none : (a : List ℕ) → Sent [] a a
sent_none a = rises_none (λ g. 0) a (λ g. refl)

pub sent_both : (xs ys : List Message) (a b c : List ℕ) → Sent xs a b → Sent ys b c → Sent (xs ++ ys) a c
sent_both xs ys a b c = rises_both (λ g. how_many (is_sent_by g) xs) (λ g. how_many (is_sent_by g) ys) (λ g. how_many (is_sent_by g) (xs ++ ys)) a b c (λ g. how_many-append (is_sent_by g) xs ys)

pub sent_one : (x : Message) (a b : List ℕ) → Rises (λ g. one (is_sent_by g x)) a b → Sent (x ∷ []) a b
sent_one x a b = rises_same (λ g. one (is_sent_by g x)) (λ g. one (is_sent_by g x) + 0) a b (λ g. omega arith)

pub owed_none : (a : List ℕ) → Owed [] a a
owed_none a = rises_none (λ g. 0) a (λ g. refl)

pub owed_both : (xs ys : List Fetched) (a b c : List ℕ) → Owed xs a b → Owed ys b c → Owed (xs ++ ys) a c
owed_both xs ys a b c = rises_both (λ g. how_many (is_owed g) xs) (λ g. how_many (is_owed g) ys) (λ g. how_many (is_owed g) (xs ++ ys)) a b c (λ g. how_many-append (is_owed g) xs ys)

pub owed_one : (x : Fetched) (a b : List ℕ) → Rises (λ g. one (is_owed g x)) a b → Owed (x ∷ []) a b
owed_one x a b = rises_same (λ g. one (is_owed g x)) (λ g. one (is_owed g x) + 0) a b (λ g. omega arith)

-- ---- endpoints, contexts and flights

pub endpoints_none : (t : Credits) → CountsEndpoints [] t t
endpoints_none t = record { held = rises_none (λ g. 0) t.held (λ g. refl); queued = rises_none (λ g. 0) t.queued (λ g. refl); flying = refl; flights = refl }

pub endpoints_both : (xs ys : List Endpoint) (a b c : Credits) → CountsEndpoints xs a b → CountsEndpoints ys b c → CountsEndpoints (xs ++ ys) a c
endpoints_both xs ys a b c j k = record {
  held = rises_both (λ g. total (held_at g) xs) (λ g. total (held_at g) ys) (λ g. total (held_at g) (xs ++ ys)) a.held b.held c.held (λ g. total_append (held_at g) xs ys) j.held k.held;
  queued = rises_both (λ g. total (queued_at g) xs) (λ g. total (queued_at g) ys) (λ g. total (queued_at g) (xs ++ ys)) a.queued b.queued c.queued (λ g. total_append (queued_at g) xs ys) j.queued k.queued;
  flying = k.flying ∙ j.flying;
  flights = k.flights ∙ j.flights;
}

pub contexts_none : (t : Credits) → CountsContexts [] t t
contexts_none t = record { held = rises_none (λ g. 0) t.held (λ g. refl); queued = rises_none (λ g. 0) t.queued (λ g. refl); flying = refl; flights = refl }

pub contexts_both : (xs ys : List Context) (a b c : Credits) → CountsContexts xs a b → CountsContexts ys b c → CountsContexts (xs ++ ys) a c
contexts_both xs ys a b c j k = record {
  held = rises_both (λ g. total (λ (x : Context). total (held_at g) x.endpoints) xs) (λ g. total (λ (x : Context). total (held_at g) x.endpoints) ys) (λ g. total (λ (x : Context). total (held_at g) x.endpoints) (xs ++ ys))
      a.held b.held c.held (λ g. total_append (λ (x : Context). total (held_at g) x.endpoints) xs ys) j.held k.held;
  queued = rises_both (λ g. total (λ (x : Context). total (queued_at g) x.endpoints) xs) (λ g. total (λ (x : Context). total (queued_at g) x.endpoints) ys) (λ g. total (λ (x : Context). total (queued_at g) x.endpoints) (xs ++ ys))
      a.queued b.queued c.queued (λ g. total_append (λ (x : Context). total (queued_at g) x.endpoints) xs ys) j.queued k.queued;
  flying = k.flying ∙ j.flying;
  flights = k.flights ∙ j.flights;
}

-- one context has what its endpoints have
pub context_counts : (x : Context) (a b : Credits) → CountsEndpoints x.endpoints a b → CountsContexts (x ∷ []) a b
context_counts x a b k = record {
  held = rises_same (λ g. total (held_at g) x.endpoints) (λ g. total (held_at g) x.endpoints + 0) a.held b.held (λ g. omega arith) k.held;
  queued = rises_same (λ g. total (queued_at g) x.endpoints) (λ g. total (queued_at g) x.endpoints + 0) a.queued b.queued (λ g. omega arith) k.queued;
  flying = k.flying;
  flights = k.flights;
}

module _ (cs : List Context) where
  pub flights_none : (t : Credits) → CountsFlights cs [] t t
  flights_none t = record { held = rises_none (λ g. 0) t.held (λ g. refl); flying = rises_none (λ g. 0) t.flying (λ g. refl); queued = refl; flights = omega arith }

  pub flights_both : (xs ys : List Packet) (a b c : Credits) → CountsFlights cs xs a b → CountsFlights cs ys b c → CountsFlights cs (xs ++ ys) a c
  flights_both xs ys a b c j k = record {
    held = rises_both (λ g. total (queued_credits g) xs) (λ g. total (queued_credits g) ys) (λ g. total (queued_credits g) (xs ++ ys)) a.held b.held c.held (λ g. total_append (queued_credits g) xs ys) j.held k.held;
    flying = rises_both (λ g. how_many (carries_credit g cs) xs) (λ g. how_many (carries_credit g cs) ys) (λ g. how_many (carries_credit g cs) (xs ++ ys)) a.flying b.flying c.flying (λ g. how_many-append (carries_credit g cs) xs ys) j.flying k.flying;
    queued = k.queued ∙ j.queued;
    flights = let e = length-append xs ys in let p = j.flights in let q = k.flights in omega arith;
  }

-- ---- all of them

take_none : {X : Type 0} (n : ℕ) → take {A = X} n [] ≡ []
take_none zero = refl
take_none (suc n) = refl

pub fresh_counts : (size : ℕ) (items : List ℕ) (n : ℕ) → items ≡ [] → n ≡ 0 → take size items ++ replicate (size - n) 0 ≡ replicate size 0
fresh_counts size items n e z =
    ap (λ l. take size l ++ replicate (size - n) 0) e ∙ ap (λ l. l ++ replicate (size - n) 0) (take_none {X = ℕ} size) ∙ ap (λ m. replicate m 0) (let r : size - n ≡ size = omega arith in r)

zero_at : (n g : ℕ) → get_or {A = ℕ} (replicate n 0) g 0 ≡ 0
zero_at zero g = refl
zero_at (suc n) zero = refl
zero_at (suc n) (suc g) = zero_at n g

at_first : (a : List ℕ) → a ≡ replicate 4097 0 → (g : ℕ) → get_or a g 0 ≡ 0
at_first a e g = ap (λ l. get_or l g 0) e ∙ zero_at 4097 g

state_counts : (s : State) (a b c : Credits) → a.held ≡ replicate 4097 0 → a.flying ≡ replicate 4097 0 → a.queued ≡ replicate 4097 0 → a.flights ≡ 0
    → CountsContexts s.contexts a b → CountsFlights s.contexts s.flights b c → AreCredits s c
state_counts s a b c h f q n j k = record {
  held = λ g low. let z = at_first a.held h g in let x = j.held g low in let y = k.held g low in omega arith;
  flying = λ g low. let z = at_first a.flying f g in let x = ap (λ l. get_or l g 0) j.flying in let y = k.flying g low in omega arith;
  queued = λ g low. let z = at_first a.queued q g in let x = j.queued g low in let y = ap (λ l. get_or l g 0) k.queued in omega arith;
  flights = let x = j.flights in let y = k.flights in omega arith;
}

pub all_counted : (s : State) (a b c : Credits) (cs ds : List Context) (ps : List Packet) → cs ≡ s.contexts → ds ≡ s.contexts → ps ≡ s.flights
    → a.held ≡ replicate 4097 0 → a.flying ≡ replicate 4097 0 → a.queued ≡ replicate 4097 0 → a.flights ≡ 0 → CountsContexts cs a b → CountsFlights ds ps b c → AreCredits s c
all_counted s a b c cs ds ps x y z h f q n j k =
    state_counts s a b c h f q n (subst (λ (v : List Context). CountsContexts v a b) x j)
    (subst (λ (v : List Context). CountsFlights v s.flights b c) y (subst (λ (v : List Packet). CountsFlights ds v b c) z k))
