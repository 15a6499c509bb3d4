-- The credits of the ideal state are those of the machine's contexts and packets.
use Rattle.std.proofs.Common.{◌≡◌, ℕ, ◌+◌, ◌∙◌, Bool, true, false, List, [], ◌∷◌, Option, Some, None, refl, sym, ap, subst, arith}
use Rattle.std.specs.Prelude.{if◌then◌else◌}
use Rattle.std.proofs.lemmas.Bool.Decides.{nat_tests}
use Rattle.m3_base.specs.declared.packet.Packet.{Packet}
use Rattle.m3_base.specs.Ideal.Context.{Context}
use Rattle.m3_base.specs.Ideal.Flights.{name_of, same_name, name_before, sorted_by_name}
use Rattle.m3_base.specs.Ideal.State.{act_of, act_before, same_act, context_of, DistinctActs}
use Rattle.m3_base.specs.Lists.Counting.{total, one, how_many}
use Rattle.m3_base.specs.Ideal.Credits.{held_at, queued_at, queued_credits}
use Rattle.m3_base.specs.Ideal.Credits as ideal
use Rattle.m3_base.proofs.KeyedList.{total-inserted, how_many-inserted}
use Rattle.m3_model.specs.Abstraction.{ideal_of, sorted_by_act, all_contexts, all_packets}
use Rattle.m3_model.specs.Machine.{Machine}
use Rattle.m3_machine.specs.CreditCounts.{last_of, carries, held, flying, queued}
use Rattle.m3_refine.proofs.abstraction.FindActor.{apart-by_act}
use Rattle.m3_refine.proofs.opening.ContextTable.{found_new, found_beside}
use Rattle.m3_machine.proofs.CountCredits.{flying_same}

-- ---- sums don't depend on the order

total-by_act : (f : Context → ℕ) (cs : List Context) → total f (sorted_by_act cs) ≡ total f cs
total-by_act f [] = refl
total-by_act f (c ∷ cs) = let n = total-inserted act_of same_act act_before f c (sorted_by_act cs) in let r = total-by_act f cs in omega arith

total-by_name : (f : Packet → ℕ) (ps : List Packet) → total f (sorted_by_name ps) ≡ total f ps
total-by_name f [] = refl
total-by_name f (p ∷ ps) = let n = total-inserted name_of same_name name_before f p (sorted_by_name ps) in let r = total-by_name f ps in omega arith

many-by_name : (f : Packet → Bool) (ps : List Packet) → how_many f (sorted_by_name ps) ≡ how_many f ps
many-by_name f [] = refl
many-by_name f (p ∷ ps) = let n = how_many-inserted name_of same_name name_before f p (sorted_by_name ps) in let r = many-by_name f ps in omega arith

-- ---- the context of an activity is the last of it

last_none : (a : ℕ) (cs : List Context) (o : Option Context) → context_of a cs ≡ None → last_of o a cs ≡ o
last_none a [] o e = refl
last_none a (c ∷ cs) o e = by_test (same_act a c.act) e (last_none a cs o)
  where
    by_test : (b : Bool) → (if b then Some c else context_of a cs) ≡ None → (context_of a cs ≡ None → last_of o a cs ≡ o) → last_of (if b then Some c else o) a cs ≡ o
    by_test true k rest = absurd (cc)
    by_test false k rest = rest k

pub found_last : (a : ℕ) (cs : List Context) → DistinctActs cs → context_of a (sorted_by_act cs) ≡ last_of None a cs
found_last a [] apart = refl
found_last a (c ∷ cs) apart = by_test (same_act a c.act) refl (found_last a cs apart.1)
  where
    by_test : (b : Bool) → same_act a c.act ≡ b → context_of a (sorted_by_act cs) ≡ last_of None a cs → context_of a (sorted_by_act (c ∷ cs)) ≡ last_of (if b then Some c else None) a cs
    by_test true e rest =
        let its : c.act ≡ a = grind (arith, nat_tests, e) in
        let none : context_of a cs ≡ None = subst (λ n. context_of n cs ≡ None) its apart.0 in
        found_new a c (sorted_by_act cs) (apart-by_act a cs none) its ∙ sym (last_none a cs (Some c) none)
    by_test false e rest = found_beside a c (sorted_by_act cs) (let other : a ≡ c.act → ⊥ = λ k. absurd (let z : same_act a c.act ≡ true = grind (arith, nat_tests, k) in cc) in other) ∙ rest

carries_as : (g : ℕ) (cs : List Context) (p : Packet) → ideal.carries_credit g cs p ≡ carries g (λ a. context_of a cs) p
carries_as g cs (Packet.Message to ep h m) = refl
carries_as g cs (Packet.Credit id to h) = refl
carries_as g cs (Packet.Read id h place buffer) = refl
carries_as g cs (Packet.Write id h place payload) = refl
carries_as g cs (Packet.Answer id answer) = refl
carries_as g cs (Packet.Install id to ep f) = refl
carries_as g cs (Packet.Close id to ep h) = refl

flying_as : (g : ℕ) (cs : List Context) (ps : List Packet) → how_many (ideal.carries_credit g cs) ps ≡ flying g (λ a. context_of a cs) ps
flying_as g cs [] = refl
flying_as g cs (p ∷ ps) = ap (λ b. one b + how_many (ideal.carries_credit g cs) ps) (carries_as g cs p) ∙ ap (λ n. one (carries g (λ a. context_of a cs) p) + n) (flying_as g cs ps)

-- ---- at a machine

module _ (m : Machine) (g : ℕ) where
  pub held_is : ideal.credits_held g (ideal_of m) ≡ held g (all_contexts m) (all_packets m)
  held_is =
      let c = total-by_act (λ x. total (held_at g) x.endpoints) (all_contexts m) in
      let p = total-by_name (queued_credits g) (all_packets m) in
      omega arith

  pub queued_is : ideal.credits_queued g (ideal_of m) ≡ queued g (all_contexts m)
  queued_is = total-by_act (λ x. total (queued_at g) x.endpoints) (all_contexts m)

  pub flying_is : DistinctActs (all_contexts m) → ideal.credits_flying g (ideal_of m) ≡ flying g (λ a. last_of None a (all_contexts m)) (all_packets m)
  flying_is apart =
      many-by_name (ideal.carries_credit g (sorted_by_act (all_contexts m))) (all_packets m)
      ∙ flying_as g (sorted_by_act (all_contexts m)) (all_packets m)
      ∙ flying_same (λ a. context_of a (sorted_by_act (all_contexts m))) (λ a. last_of None a (all_contexts m)) (λ a. found_last a (all_contexts m) apart) g (all_packets m)
