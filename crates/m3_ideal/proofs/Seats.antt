-- A call at a place of the table of contexts is a call at the context of its activity.
use Rattle.std.proofs.Common.{◌≡◌, ℕ, zero, suc, ◌+◌, ◌<◌, List, [], ◌∷◌, length, Some, None, refl, sym, subst, ap, ◌∙◌, arith}
use Rattle.std.specs.Prelude.{◌==◌, nat_lt, slice_set, slice_index_or, replicate, Option, IsSome}
use Rattle.m3_base.specs.Ideal.Context.{Context}
use Rattle.m3_base.specs.Ideal.State.{act_of, act_before, same_act, context_of, new_context_in, put_context}
use Rattle.m3_ideal.specs.Tables.{present, AreKeyed}
use Rattle.m3_ideal.specs.Seated.{act_at, IsSeated}
use Rattle.m3_ideal.specs.Contexts.{AtContext}
use Rattle.m3_ideal.proofs.Tables.{or_find, find_on, replaced_on, inserted_at, keyed_set, key_at}

same_at : (i j : ℕ) → same_act (act_at i) (act_at j) ≡ (i == j)
same_at i j = refl

before_at : (i j : ℕ) → act_before (act_at i) (act_at j) ≡ nat_lt i j
before_at i j = refl

or_none : (o : Option Context) → or_find o None ≡ o
or_none None = refl
or_none (Some c) = refl

pub context_at : (a : ℕ) (ts : List (Option Context)) → IsSeated ts → context_of a (present ts) ≡ slice_index_or ts a None
context_at a ts s =
    find_on act_of same_act act_before act_at same_at before_at 0 a a ts [] s.acts (omega arith) ∙ or_none (slice_index_or ts a None)

act_in : (a : ℕ) (c : Context) (ts : List (Option Context)) → IsSeated ts → slice_index_or ts a None ≡ Some c → c.act ≡ a
act_in a c ts s h = key_at act_of same_act act_before act_at same_at before_at 0 a c ts s.acts h ∙ omega arith

set_length : (a : ℕ) (x : Option Context) (ts : List (Option Context)) → length (slice_set ts a x) ≡ length ts
set_length a x [] = refl
set_length zero x (t ∷ ts) = refl
set_length (suc a) x (t ∷ ts) = ap suc (set_length a x ts)

pub seated_set : (a : ℕ) (c d : Context) (ts : List (Option Context)) → IsSeated ts → slice_index_or ts a None ≡ Some c → d.act ≡ c.act → IsSeated (slice_set ts a (Some d))
seated_set a c d ts s h k =
    record {
      size = set_length a (Some d) ts ∙ s.size;
      acts = keyed_set act_of same_act act_before act_at same_at before_at 0 a d ts s.acts (k ∙ act_in a c ts s h ∙ omega arith);
    }

put_at : (a : ℕ) (c d : Context) (ts : List (Option Context)) → IsSeated ts → slice_index_or ts a None ≡ Some c → d.act ≡ c.act → present (slice_set ts a (Some d)) ≡ put_context d (present ts)
put_at a c d ts s h k =
    sym (replaced_on act_of same_act act_before act_at same_at before_at 0 a a d c ts [] s.acts (k ∙ act_in a c ts s h) (omega arith) h)

at_seat : (a : ℕ) (P : Context → Context → Type 0) (c d : Context) (ts : List (Option Context)) → IsSeated ts → slice_index_or ts a None ≡ Some c
    → d.act ≡ c.act → P c d
    → AtContext (context_of a (present ts)) (present ts) (present (slice_set ts a (Some d))) P
at_seat a P c d ts s h k p =
    subst (λ o. AtContext o (present ts) (present (slice_set ts a (Some d))) P) (sym (context_at a ts s ∙ h)) (d, k, put_at a c d ts s h k, p)

index_any : {X : Type 0} (xs : List X) (i : ℕ) (d x : X) → i < length xs → x ≡ slice_index_or xs i x → slice_index_or xs i d ≡ x
index_any [] i d x h e = absurd (omega arith)
index_any (y ∷ xs) zero d x h e = sym e
index_any (y ∷ xs) (suc i) d x h e = index_any xs i d x (omega arith) e

-- the place b of activity a was read, and gave x
pub record Reads (ts : List (Option Context)) (v : List Context) (a b : ℕ) (x : Option Context) : Type 0 where
  pub seated : IsSeated ts
  pub value : present ts ≡ v
  pub range : b < 64
  pub same : b ≡ a
  pub item : x ≡ slice_index_or ts b x

reads_at : (ts : List (Option Context)) (v : List Context) (a b : ℕ) (x : Option Context) → Reads ts v a b x → slice_index_or ts b None ≡ x
reads_at ts v a b x r = index_any ts b None x (omega (arith, r.range, r.seated.size)) r.item

no_some : (o : Option Context) → o ≡ None → IsSome o → ⊥
no_some None e w = cc
no_some (Some c) e w = cc

pub nobody : (ts : List (Option Context)) (v : List Context) (a b : ℕ) (x : Option Context) → Reads ts v a b x → x ≡ None → IsSome (context_of a v) → ⊥
nobody ts v a b x r n w =
    let e : context_of a v ≡ None = ap (context_of a) (sym r.value) ∙ ap (λ k. context_of k (present ts)) (sym r.same) ∙ context_at b ts r.seated ∙ reads_at ts v a b x r ∙ n in
    no_some (context_of a v) e w

pub seated_there : (ts : List (Option Context)) (v : List Context) (a b : ℕ) (x : Option Context) (c d : Context) → Reads ts v a b x → x ≡ Some c → d.act ≡ c.act → IsSeated (slice_set ts b (Some d))
seated_there ts v a b x c d r e k = seated_set b c d ts r.seated (reads_at ts v a b x r ∙ e) k

pub at_there : (ts : List (Option Context)) (v : List Context) (a b : ℕ) (x : Option Context) (c d : Context) (P : Context → Context → Type 0) → Reads ts v a b x → x ≡ Some c → d.act ≡ c.act → P c d
    → AtContext (context_of a v) v (present (slice_set ts b (Some d))) P
at_there ts v a b x c d P r e k p =
    let Q : List Context → Type 0 = λ w. AtContext (context_of a w) w (present (slice_set ts b (Some d))) P in
    let N : ℕ → Type 0 = λ n. AtContext (context_of n (present ts)) (present ts) (present (slice_set ts b (Some d))) P in
    subst Q r.value (subst N r.same (at_seat b P c d ts r.seated (reads_at ts v a b x r ∙ e) k p))

-- ---- a context more

pub added_at : (a : ℕ) (d : Context) (ts : List (Option Context)) → IsSeated ts → a < 64 → context_of a (present ts) ≡ None → d.act ≡ a
    → present (slice_set ts a (Some d)) ≡ new_context_in d (present ts)
added_at a d ts s w h k =
    sym (inserted_at act_of same_act act_before act_at same_at before_at 0 a a d ts [] s.acts k (omega arith) (omega (arith, s.size)) (sym (context_at a ts s) ∙ h) refl)

pub seated_add : (a : ℕ) (d : Context) (ts : List (Option Context)) → IsSeated ts → d.act ≡ a → IsSeated (slice_set ts a (Some d))
seated_add a d ts s k =
    record {
      size = set_length a (Some d) ts ∙ s.size;
      acts = keyed_set act_of same_act act_before act_at same_at before_at 0 a d ts s.acts (k ∙ omega arith);
    }

-- ---- none

empty_keys : (n : ℕ) (k : ℕ) → AreKeyed act_of act_at n (replicate k None)
empty_keys n zero = tt
empty_keys n (suc k) = empty_keys (n + 1) k

empty_length : (k : ℕ) → length (replicate {A = Option Context} k None) ≡ k
empty_length zero = refl
empty_length (suc k) = ap suc (empty_length k)

pub seated_empty : (ts : List (Option Context)) → ts ≡ replicate 64 None → IsSeated ts
seated_empty ts e = subst IsSeated (sym e) (record { size = empty_length 64; acts = empty_keys 0 64 })

-- ---- a look-up by number

some_there : (o : Option Context) (c : Context) → o ≡ Some c → IsSome o
some_there None c e = absurd cc
some_there (Some d) c e = refl

pub declared_at : (ts : List (Option Context)) (v : List Context) (n : ℕ) (c : Context) → IsSeated ts → present ts ≡ v → slice_index_or ts n None ≡ Some c → (c.act ≡ n) × IsSome (context_of n v)
declared_at ts v n c s e h = (act_in n c ts s h, some_there (context_of n v) c (ap (context_of n) (sym e) ∙ context_at n ts s ∙ h))
