-- The context of the activity that is current on a tile changes: the machine stays sound, and the ideal state has the new context.
use Rattle.std.proofs.Common.{◌≡◌, ℕ, Bool, true, false, cond, List, [], ◌∷◌, ◌++◌, Some, None, refl, sym, subst, ◌∙◌, ap, arith, map}
use Rattle.std.specs.Prelude.{Option, ◌==◌}
use Rattle.std.proofs.lemmas.Bool.Decides.{nat_tests}
use Rattle.m3_base.specs.Ideal.Context.{Context}
use Rattle.m3_base.specs.Ideal.State.{context_of, new_context_in, put_context, DistinctActs}
use Rattle.m3_base.specs.Lists.EachElement.{Each}
use Rattle.m3_merge.proofs.MergedIsRun.{each_append}
use Rattle.m3_merge.proofs.StampBounds.{each_front, each_back}
use Rattle.m3_model.specs.Config.Site.{Home}
use Rattle.m3_model.specs.Tile.State.{Resident}
use Rattle.m3_model.specs.Kernel.State.{ActivityEntry}
use Rattle.m3_model.specs.Abstraction.{sorted_by_act, actor_by}
use Rattle.m3_model.specs.Invariant.Housing.{IsPresent}
use Rattle.m3_model.specs.Invariant.Parcels.{EndedFlagIs}
use Rattle.m3_refine.proofs.abstraction.MoveWithinMachine.{by_act-inserts}
use Rattle.m3_refine.proofs.abstraction.MoveContext.{apart_drop, apart_add, apart_inserts}
use Rattle.m3_refine.proofs.abstraction.FindActor.{apart-by_act}
use Rattle.m3_refine.proofs.lists.Insertion.{StaysKnown}

-- ---- a stay but for what its program sees

pub record SameStay (y z : Resident) : Type 0 where
  pub pending : z.pending ≡ y.pending
  pub ended : z.ended ≡ y.ended
  pub moves : z.moves ≡ y.moves
  pub yield_sent : z.yield_sent ≡ y.yield_sent

abbrev pub Alike : Option Resident → Option Resident → Type 0
Alike None None = Unit {0}
Alike (Some y) (Some z) = SameStay y z
Alike _ _ = ⊥

pub alike-itself : (o : Option Resident) → Alike o o
alike-itself None = tt
alike-itself (Some y) = record { pending = refl; ended = refl; moves = refl; yield_sent = refl }

pub actor-alike : (x : Home) (seat : Option ActivityEntry) (o r : Option Resident) → Alike o r → actor_by x seat r ≡ actor_by x seat o
actor-alike x seat None None e = refl
actor-alike x seat (Some y) (Some z) e =
    λ k. record (actor_by x seat (Some y)) { pending = e.pending k; ended = e.ended k; moves = e.moves k; yield_sent = e.yield_sent k }
actor-alike x seat None (Some z) e = absurd e
actor-alike x seat (Some y) None e = absurd e

pub ended-alike : (b : Bool) (o r : Option Resident) → Alike o r → EndedFlagIs b o → EndedFlagIs b r
ended-alike b None None e d = d
ended-alike b (Some y) (Some z) e d = e.ended ∙ d
ended-alike b None (Some z) e d = absurd e
ended-alike b (Some y) None e d = absurd e

pub there-alike : (o r : Option Resident) → Alike o r → IsPresent o → IsPresent r
there-alike None None e d = d
there-alike (Some y) (Some z) e d = tt
there-alike None (Some z) e d = absurd e
there-alike (Some y) None e d = absurd e

pub map-same : {X Y : Type 0} (f g : X → Y) → ((x : X) → f x ≡ g x) → (xs : List X) → map f xs ≡ map g xs
map-same f g e [] = refl
map-same f g e (x ∷ xs) = λ k. e x k ∷ map-same f g e xs k

-- ---- a context in place of another of its activity

put-new : (c d : Context) (cs : List Context) → d.act ≡ c.act → context_of c.act cs ≡ None → put_context d (new_context_in c cs) ≡ new_context_in d cs
put-new c d [] e a = grind (arith, nat_tests, e)
put-new c d (x ∷ cs) e a = grind (arith, nat_tests, e, a, put-new c d cs e)

there-other : (a : ℕ) (c d : Context) → d.act ≡ c.act → (f b : List Context) → IsPresent (context_of a (f ++ c ∷ b)) → IsPresent (context_of a (f ++ d ∷ b))
there-other a c d e [] b h = by_test (a == c.act) (a == d.act) (ap (λ n. a == n) (sym e)) h
  where
    by_test : (y z : Bool) → y ≡ z → IsPresent (cond y (Some c) (context_of a b)) → IsPresent (cond z (Some d) (context_of a b))
    by_test true true k h = tt
    by_test false false k h = h
    by_test true false k h = absurd (cc)
    by_test false true k h = absurd (cc)
there-other a c d e (x ∷ f) b h = by_test (a == x.act) h (there-other a c d e f b)
  where
    by_test : (z : Bool) → IsPresent (cond z (Some x) (context_of a (f ++ c ∷ b))) → (IsPresent (context_of a (f ++ c ∷ b)) → IsPresent (context_of a (f ++ d ∷ b))) → IsPresent (cond z (Some x) (context_of a (f ++ d ∷ b)))
    by_test true h ih = tt
    by_test false h ih = ih h

-- both insert one context, of one activity, into the same others
pub record Swaps (c d : Context) (xs ys : List Context) : Type 0 where
  pub front : List Context
  pub back : List Context
  pub old : xs ≡ front ++ c ∷ back
  pub new : ys ≡ front ++ d ∷ back

module _ (c d : Context) (xs ys : List Context) (s : Swaps c d xs ys) (same : d.act ≡ c.act) (apart : DistinctActs xs) where
  base : List Context
  base = s.front ++ s.back

  base_apart : DistinctActs (s.front ++ s.back)
  base_apart = apart_drop s.front c s.back (subst DistinctActs s.old apart)

  base_absent : context_of c.act (s.front ++ s.back) ≡ None
  base_absent = apart_inserts c (s.front ++ s.back) xs (record { front = s.front; back = s.back; without = refl; whole = s.old }) apart

  pub swaps_state : sorted_by_act ys ≡ put_context d (sorted_by_act xs)
  swaps_state =
      let b = s.front ++ s.back in
      let new = by_act-inserts d b ys (record { front = s.front; back = s.back; without = refl; whole = s.new }) (subst (λ n. context_of n b ≡ None) (sym same) base_absent) in
      let old = by_act-inserts c b xs (record { front = s.front; back = s.back; without = refl; whole = s.old }) base_absent in
      new ∙ sym (ap (put_context d) old ∙ put-new c d (sorted_by_act b) same (apart-by_act c.act b base_absent))

  pub swaps_apart : DistinctActs ys
  swaps_apart = subst DistinctActs (sym s.new) (apart_add s.front d s.back (subst (λ n. context_of n (s.front ++ s.back) ≡ None) (sym same) base_absent) base_apart)

  pub swaps_known : StaysKnown xs ys
  swaps_known a h = subst (λ l. IsPresent (context_of a l)) (sym s.new) (there-other a c d same s.front s.back (subst (λ l. IsPresent (context_of a l)) s.old h))

  pub swaps_each : (P : Context → Type 0) → Each P xs → P d → Each P ys
  swaps_each P h k =
      let e = subst (Each P) s.old h in
      subst (Each P) (sym s.new) (each_append P s.front (d ∷ s.back) (each_front P s.front (c ∷ s.back) e) (k, (each_back P s.front (c ∷ s.back) e).1))
