-- Lists of packets on their way: where one more stands, and where one is gone.
use Rattle.std.proofs.Common.{◌≡◌, ℕ, ◌≤◌, Bool, true, false, cond, List, [], ◌∷◌, ◌++◌, refl, sym, subst, ◌∙◌, ap, arith, append_assoc, Some}
use Rattle.std.proofs.lemmas.List.{append-nil}
use Rattle.m3_base.specs.declared.packet.Packet.{Packet}
use Rattle.m3_base.specs.Placement.Routing.{target}
use Rattle.m3_base.specs.Placement.Take.{is_here}
use Rattle.m3_base.specs.Lists.EachElement.{Each}
use Rattle.m3_merge.proofs.MergedIsRun.{each_append}
use Rattle.m3_model.specs.Config.Site.{Site}
use Rattle.m3_model.specs.Parcel.{Parcel, Data, Save, Saved, Restore, Yield, Closed}
use Rattle.m3_model.specs.Abstraction.{flat_map}
use Rattle.m3_model.specs.Ways.{IsPlain, MayFollow, InstallsFirst, ClosesOneOf, IsOwn, OwnFrom, packets_for}
use Rattle.m3_base.specs.Ideal.Step.{is_install_of}

-- ---- one more, one less

module _ {X : Type 0} (P : X → Type 0) where
  each_insert : (p : X) (xs zs : List X) → P p → Each P (xs ++ zs) → Each P (xs ++ p ∷ zs)
  each_insert p [] zs k e = (k, e)
  each_insert p (x ∷ xs) zs k e = (e.0, each_insert p xs zs k e.1)

  each_drop : (p : X) (xs zs : List X) → Each P (xs ++ p ∷ zs) → Each P (xs ++ zs)
  each_drop p [] zs e = e.1
  each_drop p (x ∷ xs) zs e = (e.0, each_drop p xs zs e.1)

  pub each_all : ((x : X) → P x) → (xs : List X) → Each P xs
  each_all f [] = tt
  each_all f (x ∷ xs) = (f x, each_all f xs)

pub inserted : (p : Packet) (xs zs : List Packet) → Each (λ x. MayFollow x p) xs → Each (MayFollow p) zs → InstallsFirst (xs ++ zs) → InstallsFirst (xs ++ p ∷ zs)
inserted p [] zs a b i = (b, i)
inserted p (x ∷ xs) zs a b i = (each_insert (MayFollow x) p xs zs a.0 i.0, inserted p xs zs a.1 b i.1)

pub dropped_one : (p : Packet) (xs zs : List Packet) → InstallsFirst (xs ++ p ∷ zs) → InstallsFirst (xs ++ zs)
dropped_one p [] zs i = i.1
dropped_one p (x ∷ xs) zs i = (each_drop (MayFollow x) p xs zs i.0, dropped_one p xs zs i.1)

-- ---- packets that are neither an Install nor a Close

no_install : (g : ℕ) (q : Packet) → IsPlain q → is_install_of g q ≡ false
no_install g (Packet.Message to ep k m) i = refl
no_install g (Packet.Credit id to k) i = refl
no_install g (Packet.Read id k place buffer) i = refl
no_install g (Packet.Write id k place payload) i = refl
no_install g (Packet.Answer id answer) i = refl
no_install g (Packet.Install id to ep f) i = absurd i
no_install g (Packet.Close id to ep k) i = absurd i

-- what is no Install of the grants that are closed may stand behind
pub may_follow : (p q : Packet) → ((g : ℕ) → is_install_of g q ≡ false) → MayFollow p q
may_follow (Packet.Message to ep k m) q i = tt
may_follow (Packet.Credit id to k) q i = tt
may_follow (Packet.Read id k place buffer) q i = tt
may_follow (Packet.Write id k place payload) q i = tt
may_follow (Packet.Answer id answer) q i = tt
may_follow (Packet.Install id to ep f) q i = tt
may_follow (Packet.Close id to ep k) q i = i k

pub plain_behind : (q : Packet) → IsPlain q → (p : Packet) → MayFollow p q
plain_behind q i p = may_follow p q (λ g. no_install g q i)

pub plain_before : (p : Packet) → IsPlain p → (q : Packet) → MayFollow p q
plain_before (Packet.Message to ep k m) i q = tt
plain_before (Packet.Credit id to k) i q = tt
plain_before (Packet.Read id k place buffer) i q = tt
plain_before (Packet.Write id k place payload) i q = tt
plain_before (Packet.Answer id answer) i q = tt
plain_before (Packet.Install id to ep f) i q = absurd i
plain_before (Packet.Close id to ep k) i q = absurd i

pub plain_own : (h : Site) (n from to : ℕ) (p : Packet) → IsPlain p → IsOwn h n from to p
plain_own h n from to (Packet.Message a ep k m) i = tt
plain_own h n from to (Packet.Credit id a k) i = tt
plain_own h n from to (Packet.Read id k place buffer) i = tt
plain_own h n from to (Packet.Write id k place payload) i = tt
plain_own h n from to (Packet.Answer id answer) i = tt
plain_own h n from to (Packet.Install id a ep f) i = absurd i
plain_own h n from to (Packet.Close id a ep k) i = absurd i

pub plain_closes : (n : ℕ) (p : Packet) → IsPlain p → ClosesOneOf n p
plain_closes n (Packet.Message a ep k m) i = tt
plain_closes n (Packet.Credit id a k) i = tt
plain_closes n (Packet.Read id k place buffer) i = tt
plain_closes n (Packet.Write id k place payload) i = tt
plain_closes n (Packet.Answer id answer) i = tt
plain_closes n (Packet.Install id a ep f) i = absurd i
plain_closes n (Packet.Close id a ep k) i = absurd i

-- ---- more grants

pub closes_more : (n i : ℕ) (p : Packet) → n ≤ i → ClosesOneOf n p → ClosesOneOf i p
closes_more n i (Packet.Message a ep k m) l c = tt
closes_more n i (Packet.Credit id a k) l c = tt
closes_more n i (Packet.Read id k place buffer) l c = tt
closes_more n i (Packet.Write id k place payload) l c = tt
closes_more n i (Packet.Answer id answer) l c = tt
closes_more n i (Packet.Install id a ep f) l c = tt
closes_more n i (Packet.Close id a ep k) l c = omega (arith, l, c)

own_packet_more : (h : Site) (n i from to : ℕ) (p : Packet) → n ≤ i → IsOwn h n from to p → IsOwn h i from to p
own_packet_more h n i from to (Packet.Message a ep k m) l o = tt
own_packet_more h n i from to (Packet.Credit id a k) l o = tt
own_packet_more h n i from to (Packet.Read id k place buffer) l o = tt
own_packet_more h n i from to (Packet.Write id k place payload) l o = tt
own_packet_more h n i from to (Packet.Answer id answer) l o = tt
own_packet_more h n i from to (Packet.Install id a ep f) l o = o
own_packet_more h n i from to (Packet.Close id a ep k) l o = (o.0, o.1, (let c = o.2 in omega (arith, l, c)))

pub own_more : (h : Site) (n i from to : ℕ) (q : Parcel) → n ≤ i → OwnFrom h n from to q → OwnFrom h i from to q
own_more h n i from to (Data p) l o = own_packet_more h n i from to p l o
own_more h n i from to (Save a) l o = tt
own_more h n i from to (Saved a c w e) l o = tt
own_more h n i from to (Restore a c xs) l o = tt
own_more h n i from to (Yield a) l o = tt
own_more h n i from to (Closed g) l o = tt

own_closes : (h : Site) (n from to : ℕ) (p : Packet) → IsOwn h n from to p → ClosesOneOf n p
own_closes h n from to (Packet.Message a ep k m) o = tt
own_closes h n from to (Packet.Credit id a k) o = tt
own_closes h n from to (Packet.Read id k place buffer) o = tt
own_closes h n from to (Packet.Write id k place payload) o = tt
own_closes h n from to (Packet.Answer id answer) o = tt
own_closes h n from to (Packet.Install id a ep f) o = tt
own_closes h n from to (Packet.Close id a ep k) o = o.2

-- ---- the packets of one activity on a link

pub closes_for : (h : Site) (n from to a : ℕ) (qs : List Parcel) → Each (OwnFrom h n from to) qs → Each (ClosesOneOf n) (flat_map (packets_for a) qs)
closes_for h n from to a [] o = tt
closes_for h n from to a (Data p ∷ qs) o =
    each_append (ClosesOneOf n) (cond (is_here (target p) (Some a)) (p ∷ []) []) (flat_map (packets_for a) qs) (by_test (is_here (target p) (Some a))) (closes_for h n from to a qs o.1)
  where
    by_test : (b : Bool) → Each (ClosesOneOf n) (cond b (p ∷ []) [])
    by_test true = (own_closes h n from to p o.0, tt)
    by_test false = tt
closes_for h n from to a (Save b ∷ qs) o = closes_for h n from to a qs o.1
closes_for h n from to a (Saved b c w e ∷ qs) o = closes_for h n from to a qs o.1
closes_for h n from to a (Restore b c xs ∷ qs) o = closes_for h n from to a qs o.1
closes_for h n from to a (Yield b ∷ qs) o = closes_for h n from to a qs o.1
closes_for h n from to a (Closed g ∷ qs) o = closes_for h n from to a qs o.1

-- the front is gone
pub first_popped : (a : ℕ) (q : Parcel) (qs : List Parcel) (ps : List Packet) → InstallsFirst (flat_map (packets_for a) (q ∷ qs) ++ ps) → InstallsFirst (flat_map (packets_for a) qs ++ ps)
first_popped a (Data p) qs ps i = by_test (is_here (target p) (Some a)) i
  where
    by_test : (b : Bool) → InstallsFirst ((cond b (p ∷ []) [] ++ flat_map (packets_for a) qs) ++ ps) → InstallsFirst (flat_map (packets_for a) qs ++ ps)
    by_test true i = i.1
    by_test false i = i
first_popped a (Save b) qs ps i = i
first_popped a (Saved b c w e) qs ps i = i
first_popped a (Restore b c xs) qs ps i = i
first_popped a (Yield b) qs ps i = i
first_popped a (Closed g) qs ps i = i

for_pushed : (a : ℕ) (qs : List Parcel) (q : Parcel) → flat_map (packets_for a) (qs ++ q ∷ []) ≡ flat_map (packets_for a) qs ++ packets_for a q
for_pushed a [] q = append-nil (packets_for a q)
for_pushed a (x ∷ xs) q = ap (λ l. packets_for a x ++ l) (for_pushed a xs q) ∙ sym (append_assoc (packets_for a x) (flat_map (packets_for a) xs) (packets_for a q))

-- one more at the back of the link
pub first_pushed : (a : ℕ) (qs : List Parcel) (p : Packet) (ps : List Packet) → (is_here (target p) (Some a) ≡ true → Each (λ x. MayFollow x p) (flat_map (packets_for a) qs) × Each (MayFollow p) ps)
    → InstallsFirst (flat_map (packets_for a) qs ++ ps) → InstallsFirst (flat_map (packets_for a) (qs ++ Data p ∷ []) ++ ps)
first_pushed a qs p ps f i =
    subst (λ l. InstallsFirst (l ++ ps)) (sym (for_pushed a qs (Data p))) (
    subst InstallsFirst (sym (append_assoc (flat_map (packets_for a) qs) (cond (is_here (target p) (Some a)) (p ∷ []) []) ps)) (by_test (is_here (target p) (Some a)) refl)
    )
  where
    by_test : (b : Bool) → is_here (target p) (Some a) ≡ b → InstallsFirst (flat_map (packets_for a) qs ++ (cond b (p ∷ []) [] ++ ps))
    by_test true e = let k = f e in inserted p (flat_map (packets_for a) qs) ps k.0 k.1 i
    by_test false e = i

-- what is no data adds nothing
pub first_beside : (a : ℕ) (qs : List Parcel) (q : Parcel) (ps : List Packet) → packets_for a q ≡ [] → InstallsFirst (flat_map (packets_for a) qs ++ ps) → InstallsFirst (flat_map (packets_for a) (qs ++ q ∷ []) ++ ps)
first_beside a qs q ps e i =
    subst (λ l. InstallsFirst (l ++ ps)) (sym (for_pushed a qs q ∙ ap (λ l. flat_map (packets_for a) qs ++ l) e ∙ append-nil (flat_map (packets_for a) qs))) i

-- one more at the back of the hold list
pub first_held : (xs : List Packet) (p : Packet) (ps : List Packet) → Each (λ x. MayFollow x p) (xs ++ ps) → InstallsFirst (xs ++ ps) → InstallsFirst (xs ++ (ps ++ p ∷ []))
first_held xs p ps a i =
    subst InstallsFirst (append_assoc xs ps (p ∷ [])) (inserted p (xs ++ ps) [] a tt (subst InstallsFirst (sym (append-nil (xs ++ ps))) i))
