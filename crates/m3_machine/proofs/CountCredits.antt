-- Contexts and packets are counted one after the other.
use Rattle.std.proofs.Common.{◌≡◌, ℕ, zero, suc, ◌+◌, ◌&&◌, ◌∙◌, min, List, [], ◌∷◌, ◌++◌, length, get_or, replicate, Option, None, refl, sym, ap, subst, arith}
use Rattle.std.proofs.lemmas.List.{length-replicate}
use Rattle.std.specs.Borrow.{Bor}
use Rattle.m3_base.specs.declared.packet.Packet.{Packet}
use Rattle.m3_base.specs.Ideal.Context.{Context}
use Rattle.m3_base.specs.Lists.Counting.{total, one}
use Rattle.m3_base.specs.Ideal.Credits.{held_at, queued_at, queued_credits, is_refusal, gives_back_in}
use Rattle.m3_endpoint.specs.Counters.{most, Adds}
use Rattle.m3_endpoint.proofs.CounterSums.{adds_none, adds_same, adds_both}
use Rattle.m3_machine.specs.CreditCounts.{last_of, carries, held, flying, queued, Counts, listed, CountsBy}
use Rattle.m3_machine.specs.AuditView.{AreCounts, AreCreditsOf}
use Rattle.m3_base.proofs.Counting.{how_many-append}
use Rattle.m3_machine.specs.declared.credit_counts.CreditCounts.{CreditCounts}

total-append : {X : Type 0} (f : X → ℕ) (xs ys : List X) → total f (xs ++ ys) ≡ total f xs + total f ys
total-append f [] ys = omega arith
total-append f (x ∷ xs) ys = let r = total-append f xs ys in omega arith

held_both : (g : ℕ) (cs ds : List Context) (ps qs : List Packet) → held g (cs ++ ds) (ps ++ qs) ≡ held g cs ps + held g ds qs
held_both g cs ds ps qs =
    let a = total-append (λ (c : Context). total (held_at g) c.endpoints) cs ds in let b = total-append (queued_credits g) ps qs in omega arith

module _ (find : ℕ → Option Context) where
  pub counts_none : (t : CreditCounts) → Counts find [] [] t t
  counts_none t = record { held_is = adds_none t.held.items; flying_is = adds_none t.flying.items; queued_is = adds_none t.queued.items }

  pub counts_both : (cs ds : List Context) (ps qs : List Packet) (a b c : CreditCounts) → Counts find cs ps a b → Counts find ds qs b c → Counts find (cs ++ ds) (ps ++ qs) a c
  counts_both cs ds ps qs a b c j k = record {
    held_is = adds_same (λ g. held g cs ps + held g ds qs) (λ g. held g (cs ++ ds) (ps ++ qs)) a.held.items c.held.items (λ g. sym (held_both g cs ds ps qs))
        (adds_both (λ g. held g cs ps) (λ g. held g ds qs) a.held.items b.held.items c.held.items j.held_is k.held_is);
    flying_is = adds_same (λ g. flying g find ps + flying g find qs) (λ g. flying g find (ps ++ qs)) a.flying.items c.flying.items (λ g. sym (how_many-append (carries g find) ps qs))
        (adds_both (λ g. flying g find ps) (λ g. flying g find qs) a.flying.items b.flying.items c.flying.items j.flying_is k.flying_is);
    queued_is = adds_same (λ g. queued g cs + queued g ds) (λ g. queued g (cs ++ ds)) a.queued.items c.queued.items (λ g. sym (total-append (λ (x : Context). total (queued_at g) x.endpoints) cs ds))
        (adds_both (λ g. queued g cs) (λ g. queued g ds) a.queued.items b.queued.items c.queued.items j.queued_is k.queued_is);
  }

-- ---- by a table that stays

module _ (table : List (Option (Bor Context))) where
  pub counts_by_none : (t : CreditCounts) → CountsBy [] [] table table t t
  counts_by_none t = (refl, counts_none (listed table) t)

pub counts_by_both : (cs ds : List Context) (ps qs : List Packet) (t u v : List (Option (Bor Context))) (a b c : CreditCounts) → CountsBy cs ps t u a b → CountsBy ds qs u v b c → CountsBy (cs ++ ds) (ps ++ qs) t v a c
counts_by_both cs ds ps qs t u v a b c j k = (k.0 ∙ j.0, counts_both (listed t) cs ds ps qs a b c j.1 (subst (λ (w : List (Option (Bor Context))). Counts (listed w) ds qs b c) j.0 k.1))

-- ---- all parts

carries_same : (find other : ℕ → Option Context) → ((a : ℕ) → find a ≡ other a) → (g : ℕ) (p : Packet) → carries g find p ≡ carries g other p
carries_same find other e g (Packet.Message to ep h m) = refl
carries_same find other e g (Packet.Credit id to h) = refl
carries_same find other e g (Packet.Read id h place buffer) = refl
carries_same find other e g (Packet.Write id h place payload) = refl
carries_same find other e g (Packet.Answer id answer) = ap (λ o. is_refusal answer && gives_back_in g id.number o) (e id.issuer)
carries_same find other e g (Packet.Install id to ep f) = refl
carries_same find other e g (Packet.Close id to ep h) = refl

pub flying_same : (find other : ℕ → Option Context) → ((a : ℕ) → find a ≡ other a) → (g : ℕ) (ps : List Packet) → flying g find ps ≡ flying g other ps
flying_same find other e g [] = refl
flying_same find other e g (p ∷ ps) = ap (λ b. one b + flying g find ps) (carries_same find other e g p) ∙ ap (λ n. one (carries g other p) + n) (flying_same find other e g ps)

zero_at : (n g : ℕ) → get_or {A = ℕ} (replicate n 0) g 0 ≡ 0
zero_at zero g = refl
zero_at (suc n) zero = refl
zero_at (suc n) (suc g) = zero_at n g

counts_all : (f h : ℕ → ℕ) (old new : List ℕ) → old ≡ replicate 4097 0 → ((g : ℕ) → f g ≡ h g) → Adds f old new → AreCounts h new
counts_all f h old new e same k =
    let size : length old ≡ 4097 = ap length e ∙ length-replicate {A = ℕ} 4097 0 in
    let first : (g : ℕ) → get_or old g 0 ≡ 0 = λ g. ap (λ v. get_or v g 0) e ∙ zero_at 4097 g in
    record {
      size = k.size ∙ size;
      same = λ g within.
          k.counts g (let s = size in omega arith) (let z = first g in omega arith)
          ∙ ap (λ n. min most (n + f g)) (first g)
          ∙ ap (min most) (let q : 0 + f g ≡ f g = omega arith in q ∙ same g);
    }

pub tallied : (find : ℕ → Option Context) (cs : List Context) (ps : List Packet) (first last : CreditCounts) → first.held.items ≡ replicate 4097 0 → first.flying.items ≡ replicate 4097 0 → first.queued.items ≡ replicate 4097 0
    → ((a : ℕ) → find a ≡ last_of None a cs) → Counts find cs ps first last → AreCreditsOf cs ps last
tallied find cs ps first last h f q found k = record {
  held_are = counts_all (λ g. held g cs ps) (λ g. held g cs ps) first.held.items last.held.items h (λ g. refl) k.held_is;
  flying_are = counts_all (λ g. flying g find ps) (λ g. flying g (λ a. last_of None a cs) ps) first.flying.items last.flying.items f (λ g. flying_same find (λ a. last_of None a cs) found g ps) k.flying_is;
  queued_are = counts_all (λ g. queued g cs) (λ g. queued g cs) first.queued.items last.queued.items q (λ g. refl) k.queued_is;
}
