-- Entries in the order of their stamps are a run of the machine.
use Rattle.std.proofs.Common.{◌≡◌, ℕ, ◌<◌, ◌≤◌, Bool, true, false, cond, ◌==◌, List, [], ◌∷◌, ◌++◌, Option, refl, sym, subst, ◌∙◌, append_assoc, append-nil, arith}
use Rattle.std.specs.Prelude.{Some, None, IfSome}
use Rattle.m3_merge.specs.Interleaving.{Item, Machine, either, from, to, takes, puts, all_taken, all_sent, of_tile, InOrder, IsTimely, Run, MachineRun}
use Rattle.m3_base.specs.Lists.EachElement.{Each}

module _ {Q : Type 0} where
  pub each_append : (P : Q → Type 0) (xs ys : List Q) → Each P xs → Each P ys → Each P (xs ++ ys)
  each_append P [] ys h k = k
  each_append P (x ∷ xs) ys h k = (h.0, each_append P xs ys h.1 k)

  pub each_map : (P R : Q → Type 0) → ((x : Q) → P x → R x) → (xs : List Q) → Each P xs → Each R xs
  each_map P R f [] h = tt
  each_map P R f (x ∷ xs) h = (f x h.0, each_map P R f xs h.1)

  -- what is taken is at the front of the link, if all that is put later has greater stamps
  link_step : (stamp_of : Q → ℕ) (n : ℕ) (front back more later left link : List Q)
      → Each (λ q. stamp_of q < n) front → Each (λ q. n ≤ stamp_of q) (back ++ later)
      → (front ++ more) ++ left ≡ link ++ (back ++ later)
      → (rest : List Q) × (link ≡ front ++ rest) × (more ++ left ≡ (rest ++ back) ++ later)
  link_step stamp_of n [] back more later left link early late e = (link, refl, e ∙ sym (append_assoc link back later))
  link_step stamp_of n (q ∷ front) back more later left [] early late e =
      let h : n ≤ stamp_of q = (subst (Each (λ q. n ≤ stamp_of q)) (sym e) late).0 in
      let k = early.0 in absurd (omega arith)
  link_step stamp_of n (q ∷ front) back more later left (r ∷ link) early late e =
      let same : q ≡ r = cc in
      let tails : (front ++ more) ++ left ≡ link ++ (back ++ later) = cc in
      let go = link_step stamp_of n front back more later left link early.1 late tails in
      (go.0, cc (go.1), go.2)

pub eqb_same : (n : ℕ) → (n == n) ≡ true
eqb_same n = grind arith

pub each_to : {Q : Type 0} (P : Q → Type 0) (d : ℕ) (out : List (ℕ × Q)) → Each (λ p. P p.1) out → Each P (to d out)
each_to P d [] h = tt
each_to P d (p ∷ out) h =
    elim (p.0 == d) as (λ b. Each P (cond b (p.1 ∷ to d out) (to d out))) [ true ↦ (h.0, each_to P d out h.1) | false ↦ each_to P d out h.1 ]

early_from : {Q : Type 0} (stamp_of : Q → ℕ) (n s : ℕ) (took : Option (ℕ × Q)) → IfSome took (λ p. stamp_of p.1 < n) → Each (λ q. stamp_of q < n) (from s took)
early_from stamp_of n s None h = tt
early_from stamp_of n s (Some p) h =
    elim (p.0 == s) as (λ b. Each (λ q. stamp_of q < n) (cond b (p.1 ∷ []) [])) [ true ↦ (h, tt) | false ↦ tt ]

module _ {E Q : Type 0} (stamp_of : Q → ℕ) where
  late_puts : (n s d : ℕ) (x : Item E Q) → n ≤ x.stamp → IsTimely stamp_of x → Each (λ q. n ≤ stamp_of q) (puts s d x)
  late_puts n s d x h timely =
      elim (x.tile == s) as (λ b. Each (λ q. n ≤ stamp_of q) (cond b (to d x.out) [])) [
        | true ↦ each_to (λ q. n ≤ stamp_of q) d x.out (each_map (λ p. stamp_of p.1 ≡ x.stamp) (λ p. n ≤ stamp_of p.1) (λ p e. omega arith) x.out timely.0)
        | false ↦ tt
      ]

  late_sent : (n s d : ℕ) (xs : List (Item E Q)) → Each (λ y. n ≤ y.stamp) xs → Each (IsTimely stamp_of) xs → Each (λ q. n ≤ stamp_of q) (all_sent s d xs)
  late_sent n s d [] h timely = tt
  late_sent n s d (x ∷ xs) h timely =
      each_append (λ q. n ≤ stamp_of q) (puts s d x) (all_sent s d xs) (late_puts n s d x h.0 timely.0) (late_sent n s d xs h.1 timely.1)

  early_takes : (s d : ℕ) (x : Item E Q) → IsTimely stamp_of x → Each (λ q. stamp_of q < x.stamp) (takes s d x)
  early_takes s d x timely =
      elim (x.tile == d) as (λ b. Each (λ q. stamp_of q < x.stamp) (cond b (from s x.took) [])) [
        | true ↦ early_from stamp_of x.stamp s x.took timely.1
        | false ↦ tt
      ]

module _ {S E Q : Type 0} (Step : ℕ → S → Item E Q → S → Type 0) (stamp_of : Q → ℕ) where
  -- a part makes its first entry, or stays
  advance : (t : ℕ) (x : Item E Q) (xs : List (Item E Q)) (s last : S) (b : Bool) → Run Step t s (cond b (x ∷ xs) xs) last
      → (m : S) × either b (Step t s x m) (m ≡ s) × Run Step t m xs last
  advance t x xs s last true run = run
  advance t x xs s last false run = (s, refl, run)

  -- From a machine on, let each part make a run of its own, and let all entries stand in the order of their stamps. If what is taken from each link,
  -- and what is left, are what it holds and what is put on it, then they are a run of the machine, to the parts' last states and what is left
  pub merged_run : (xs : List (Item E Q)) (m : Machine S Q) (last : ℕ → S) (left : ℕ → ℕ → List Q)
      → ((t : ℕ) → Run Step t (m.parts t) (of_tile t xs) (last t))
      → ((s d : ℕ) → all_taken s d xs ++ left s d ≡ m.links s d ++ all_sent s d xs)
      → InOrder xs → Each (IsTimely stamp_of) xs
      → MachineRun Step m xs (record { parts = last; links = left })
  merged_run [] m last left runs flow order timely =
      λ i. record { parts = λ t. runs t i; links = λ s d. (sym (append-nil (m.links s d)) ∙ sym (flow s d)) i }
  merged_run (x ∷ xs) m last left runs flow order timely =
      let part = λ (t : ℕ). advance t x (of_tile t xs) (m.parts t) (last t) (x.tile == t) (runs t) in
      let link = λ (s d : ℕ). link_step stamp_of x.stamp (takes s d x) (puts s d x) (all_taken s d xs) (all_sent s d xs) (left s d) (m.links s d)
      (early_takes stamp_of s d x timely.0)
      (late_sent stamp_of x.stamp s d (x ∷ xs) (omega arith, order.0) timely)
      (flow s d) in
      let k : Machine S Q = record { parts = λ t. (part t).0; links = λ s d. (link s d).0 ++ puts s d x } in (
        k,
        record { parts = λ t. (part t).1; links = λ s d. ((link s d).0, (link s d).1, refl) },
        merged_run xs k last left (λ t. (part t).2) (λ s d. (link s d).2) order.1 timely.1,
      )
