-- The links stay right as a grant is made.
use Rattle.std.proofs.Common.{◌≡◌, ℕ, zero, suc, ◌+◌, ◌-◌, ◌<◌, ◌≤◌, Bool, true, false, List, [], ◌∷◌, ◌++◌, length, Some, None, refl, sym, ◌∙◌, ap, subst, arith, get_or, length-set}
use Rattle.std.specs.Prelude.{Option, if◌then◌else◌, ◌==◌, slice_get}
use Rattle.std.proofs.lemmas.List.{map-append, length-map}
use Rattle.std.proofs.lemmas.Option.{slice_get_within}
use Rattle.std.proofs.lemmas.Bool.Decides.{nat_tests}
use Rattle.m3_base.specs.Ideal.State.{is_number}
use Rattle.m3_grants.specs.declared.siblings.Kin.{Kin}
use Rattle.m3_base.specs.Setup.GrantTable.{is_before}
use Rattle.m3_grants.specs.Siblings.{is_under, IsLast, IsPrevious}
use Rattle.m3_grants.specs.SiblingListView.{parents_in, SaysKin, IsLinked, last_before, last_in, with_child, set_last, with_last}
use Rattle.m3_base.proofs.ListLookups.{get_set, get_pushed, length_pushed, get_none}
use Rattle.m3_grants.proofs.NodeLookup.{read, mapped_at, mapped_same}

-- ---- parents

abbrev parent_in : Option Kin → Option ℕ
parent_in = read (λ l. l.parent)

pub length_parents : (links : List Kin) → length (parents_in links) ≡ length links
length_parents links = length-map links (λ l. l.parent)

pub before_at : (links : List Kin) → IsLinked links → (i : ℕ) → is_before (get_or (parents_in links) i None) i ≡ true
before_at links k i = rw (mapped_at (λ l. l.parent) links i) (by_link (slice_get links i) (k.kin i))
  where
    by_link : (o : Option Kin) → SaysKin (parents_in links) i o → is_before (parent_in o) i ≡ true
    by_link None s = refl
    by_link (Some l) s = s.0

not_under : (p i : ℕ) (o : Option ℕ) → is_before o i ≡ true → i < p → is_number p o ≡ false
not_under p i None b h = refl
not_under p i (Some q) b h = grind (arith, nat_tests, b, h)

pub none_under : (links : List Kin) (p : ℕ) → IsLinked links → (i : ℕ) → i < p → is_under (parents_in links) p i ≡ false
none_under links p k i h = not_under p i (get_or (parents_in links) i None) (before_at links k i) h

-- ---- one place more

get_or_pushed : (ps : List (Option ℕ)) (q : Option ℕ) (i : ℕ) → get_or (ps ++ q ∷ []) i None ≡ (if i == length ps then q else get_or ps i None)
get_or_pushed [] q zero = refl
get_or_pushed [] q (suc i) = grind (arith, nat_tests)
get_or_pushed (p ∷ ps) q zero = grind (arith, nat_tests)
get_or_pushed (p ∷ ps) q (suc i) = grind (arith, nat_tests, get_or_pushed ps q i)

under_before : (ps : List (Option ℕ)) (q : Option ℕ) (p i : ℕ) → i < length ps → is_under (ps ++ q ∷ []) p i ≡ is_under ps p i
under_before ps q p i h = let other : (i == length ps) ≡ false = grind (arith, nat_tests, h) in rw (get_or_pushed ps q i, other) refl

under_here : (ps : List (Option ℕ)) (q : Option ℕ) (p : ℕ) → is_under (ps ++ q ∷ []) p (length ps) ≡ is_number p q
under_here ps q p = let same : (length ps == length ps) ≡ true = grind (arith, nat_tests) in rw (get_or_pushed ps q (length ps), same) refl

longer : (ps : List (Option ℕ)) (q : Option ℕ) (p n : ℕ) (r : Option ℕ) → n ≤ length ps → IsLast ps p n r → IsLast (ps ++ q ∷ []) p n r
longer ps q p n None h l = λ i k. under_before ps q p i (omega (arith, h, k)) ∙ l i k
longer ps q p n (Some m) h l =
    let some : 0 < m = l.0.0 in
    let last : m ≤ n = l.0.1 in
    (l.0, (under_before ps q p (m - 1) (omega (arith, h, some, last)) ∙ l.1.0, λ i a b. under_before ps q p i (omega (arith, h, b)) ∙ l.1.1 i a b))

further : (ps : List (Option ℕ)) (p n : ℕ) (r : Option ℕ) → IsLast ps p n r → is_under ps p n ≡ false → IsLast ps p (n + 1) r
further ps p n None l e = by_place
  where
    by_place : (i : ℕ) → i < n + 1 → is_under ps p i ≡ false
    by_place i h = at (i == n) refl
      where
        at : (b : Bool) → (i == n) ≡ b → is_under ps p i ≡ false
        at true w = let s : i ≡ n = grind (arith, nat_tests, w) in rw s e
        at false w = l i (grind (arith, nat_tests, w, h))
further ps p n (Some m) l e =
    let last : m ≤ n = l.0.1 in
    ((l.0.0, omega (arith, last)), (l.1.0, by_place))
  where
    by_place : (i : ℕ) → m ≤ i → i < n + 1 → is_under ps p i ≡ false
    by_place i g h = at (i == n) refl
      where
        at : (b : Bool) → (i == n) ≡ b → is_under ps p i ≡ false
        at true w = let s : i ≡ n = grind (arith, nat_tests, w) in rw s e
        at false w = l.1.1 i g (grind (arith, nat_tests, w, h))

-- ---- the links

abbrev pub new_link : List Kin → Option ℕ → Kin
new_link links p = record { parent = p; previous = last_before links p; last_child = None }

abbrev pub linked : List Kin → Option ℕ → ℕ → List Kin
linked links p c = with_last links p c ++ new_link links p ∷ []

parents_last : (links : List Kin) (p : Option ℕ) (c : ℕ) → parents_in (with_last links p c) ≡ parents_in links
parents_last links None c = refl
parents_last links (Some g) c = by_link (slice_get links (g - 1)) refl
  where
    by_link : (o : Option Kin) → slice_get links (g - 1) ≡ o → parents_in (set_last links (g - 1) c o) ≡ parents_in links
    by_link None e = refl
    by_link (Some l) e = mapped_same (λ k. k.parent) links (g - 1) l (with_child (Some c) l) e refl

pub parents_linked : (links : List Kin) (p : Option ℕ) (c : ℕ) → parents_in (linked links p c) ≡ parents_in links ++ p ∷ []
parents_linked links p c = map-append (λ l. l.parent) (with_last links p c) (new_link links p ∷ []) ∙ ap (λ z. z ++ p ∷ []) (parents_last links p c)

length_last : (links : List Kin) (p : Option ℕ) (c : ℕ) → length (with_last links p c) ≡ length links
length_last links None c = refl
length_last links (Some g) c = by_link (slice_get links (g - 1))
  where
    by_link : (o : Option Kin) → length (set_last links (g - 1) c o) ≡ length links
    by_link None = refl
    by_link (Some l) = length-set links (g - 1) (with_child (Some c) l)

-- each link after its parent's last child is another
abbrev pub changed : ℕ → Option ℕ → ℕ → Option Kin → Option Kin
changed c p i None = None
changed c p i (Some l) = if is_number (i + 1) p then Some (with_child (Some c) l) else Some l

get_last : (links : List Kin) (p : Option ℕ) (c n i : ℕ) → is_before p n ≡ true → slice_get (with_last links p c) i ≡ changed c p i (slice_get links i)
get_last links None c n i b = by_link (slice_get links i)
  where
    by_link : (o : Option Kin) → o ≡ changed c None i o
    by_link None = refl
    by_link (Some l) = refl
get_last links (Some g) c n i b = by_link (slice_get links (g - 1)) refl
  where
    apart : (o : Option Kin) → (g == (i + 1)) ≡ false → o ≡ changed c (Some g) i o
    apart None e = refl
    apart (Some l) e = rw e refl

    by_link : (o : Option Kin) → slice_get links (g - 1) ≡ o → slice_get (set_last links (g - 1) c o) i ≡ changed c (Some g) i (slice_get links i)
    by_link None e = by_place (g == (i + 1)) refl
      where
        by_place : (d : Bool) → (g == (i + 1)) ≡ d → slice_get links i ≡ changed c (Some g) i (slice_get links i)
        by_place true w = let s : i ≡ g - 1 = grind (arith, nat_tests, w) in rw (s, e) refl
        by_place false w = apart (slice_get links i) w
    by_link (Some l) e = get_set links (g - 1) i l (with_child (Some c) l) e ∙ by_place (g == (i + 1)) refl
      where
        by_place : (d : Bool) → (g == (i + 1)) ≡ d → (if i == (g - 1) then Some (with_child (Some c) l) else slice_get links i) ≡ changed c (Some g) i (slice_get links i)
        by_place true w =
            let s : i ≡ g - 1 = grind (arith, nat_tests, w) in
            let same : (i == (g - 1)) ≡ true = grind (arith, nat_tests, s) in
            let there : slice_get links i ≡ Some l = ap (slice_get links) s ∙ e in
            rw (same, there, w) refl
        by_place false w =
            let other : (i == (g - 1)) ≡ false = grind (arith, nat_tests, w, b) in
            rw other (apart (slice_get links i) w)

-- ---- kin

previous_longer : (ps : List (Option ℕ)) (q : Option ℕ) (i : ℕ) (r : Option ℕ) → i < length ps → IsPrevious ps (i + 1) r → IsPrevious (ps ++ q ∷ []) (i + 1) r
previous_longer ps q i r h v p u =
    let s : i + 1 - 1 ≡ i = omega arith in
    let was : is_under ps p (i + 1 - 1) ≡ true = rw s (sym (under_before ps q p i h) ∙ subst (λ k. is_under (ps ++ q ∷ []) p k ≡ true) s u) in
    longer ps q p (i + 1 - 1) r (omega (arith, h)) (v p was)

kin_kept : (ps : List (Option ℕ)) (q : Option ℕ) (i : ℕ) (o : Option Kin) → i < length ps → SaysKin ps i o → SaysKin (ps ++ q ∷ []) i (changed (length ps + 1) q i o)
kin_kept ps q i None h k = tt
kin_kept ps q i (Some l) h k = by_parent (is_number (i + 1) q) refl
  where
    by_parent : (b : Bool) → is_number (i + 1) q ≡ b → SaysKin (ps ++ q ∷ []) i (if b then Some (with_child (Some (length ps + 1)) l) else Some l)
    by_parent true w =
        let n : length ps + 1 - 1 ≡ length ps = omega arith in
        let m = length_pushed ps q in
        let under : is_under (ps ++ q ∷ []) (i + 1) (length ps + 1 - 1) ≡ true = rw n (under_here ps q (i + 1) ∙ w) in
        (k.0, (previous_longer ps q i l.previous h k.1.0, ((omega arith, omega (arith, m)), (under, λ j a b. absurd (omega (arith, a, b, m))))))
    by_parent false w =
        let m : length (ps ++ q ∷ []) ≡ length ps + 1 = length_pushed ps q in
        let last : IsLast (ps ++ q ∷ []) (i + 1) (length ps + 1) l.last_child = further (ps ++ q ∷ []) (i + 1) (length ps) l.last_child (longer ps q (i + 1) (length ps) l.last_child (omega arith) k.1.1) (under_here ps q (i + 1) ∙ w) in
        (k.0, (previous_longer ps q i l.previous h k.1.0, subst (λ n. IsLast (ps ++ q ∷ []) (i + 1) n l.last_child) (sym m) last))

last_is : (links : List Kin) (p : ℕ) → IsLinked links → 0 < p → IsLast (parents_in links) p (length (parents_in links)) (last_before links (Some p))
last_is links p k some = by_link (slice_get links (p - 1)) refl (k.kin (p - 1))
  where
    by_link : (o : Option Kin) → slice_get links (p - 1) ≡ o → SaysKin (parents_in links) (p - 1) o → IsLast (parents_in links) p (length (parents_in links)) (last_in o)
    by_link None e s = λ i h. none_under links p k i (let past : length links ≤ p - 1 = get_none links (p - 1) e in omega (arith, past, h, length_parents links, some))
    by_link (Some l) e s = let n : p - 1 + 1 ≡ p = omega (arith, some) in subst (λ g. IsLast (parents_in links) g (length (parents_in links)) l.last_child) n s.1.1

kin_new : (links : List Kin) (q : Option ℕ) → IsLinked links → is_before q (length links) ≡ true → SaysKin (parents_in links ++ q ∷ []) (length links) (Some (new_link links q))
kin_new links q k b = (b, (previous, none))
  where
    previous : IsPrevious (parents_in links ++ q ∷ []) (length links + 1) (last_before links q)
    previous p u =
        let n : length links + 1 - 1 ≡ length (parents_in links) = let m = length_parents links in omega (arith, m) in
        let is : is_number p q ≡ true = sym (under_here (parents_in links) q p) ∙ subst (λ i. is_under (parents_in links ++ q ∷ []) p i ≡ true) n u in
        subst (λ i. IsLast (parents_in links ++ q ∷ []) p i (last_before links q)) (sym n) (by_parent q b is)
      where
        by_parent : (o : Option ℕ) → is_before o (length links) ≡ true → is_number p o ≡ true → IsLast (parents_in links ++ q ∷ []) p (length (parents_in links)) (last_before links o)
        by_parent None b i = absurd (cc)
        by_parent (Some g) b i =
            let s : g ≡ p = grind (arith, nat_tests, i) in
            let some : 0 < p = grind (arith, nat_tests, b, i) in
            rw s (longer (parents_in links) q p (length (parents_in links)) (last_before links (Some p)) (omega arith) (last_is links p k some))

    none : (i : ℕ) → i < length (parents_in links ++ q ∷ []) → is_under (parents_in links ++ q ∷ []) (length links + 1) i ≡ false
    none i h =
        let m = length_parents links in
        let l = length_pushed (parents_in links) q in
        rw (get_or_pushed (parents_in links) q i) (by_place (i == length (parents_in links)) refl (omega (arith, h, l, m)))
      where
        by_place : (c : Bool) → (i == length (parents_in links)) ≡ c → i < length links + 1 → is_number (length links + 1) (if c then q else get_or (parents_in links) i None) ≡ false
        by_place true w h = not_under (length links + 1) (length links) q b (omega arith)
        by_place false w h = none_under links (length links + 1) k i h

pub links_pushed : (links : List Kin) (q : Option ℕ) (c : ℕ) → IsLinked links → length links < 4096 → is_before q (length links) ≡ true → c ≡ length links + 1 → IsLinked (linked links q c)
links_pushed links q c k h b e =
    record {
      few = let l = length_pushed (with_last links q c) (new_link links q) in let m = length_last links q c in omega (arith, l, m, h);
      kin = λ i. subst (λ ps. SaysKin ps i (slice_get (linked links q c) i)) (sym (parents_linked links q c)) (rw (get_pushed (with_last links q c) (new_link links q) i, length_last links q c) (by_place i (i == length links) refl));
    }
  where
    by_place : (i : ℕ) (d : Bool) → (i == length links) ≡ d → SaysKin (parents_in links ++ q ∷ []) i (if d then Some (new_link links q) else slice_get (with_last links q c) i)
    by_place i true w = let s : i ≡ length links = grind (arith, nat_tests, w) in rw s (kin_new links q k b)
    by_place i false w = rw (get_last links q c (length links) i b) (by_link (slice_get links i) refl (k.kin i))
      where
        by_link : (o : Option Kin) → slice_get links i ≡ o → SaysKin (parents_in links) i o → SaysKin (parents_in links ++ q ∷ []) i (changed c q i o)
        by_link None v s = tt
        by_link (Some l) v s =
            let m = length_parents links in
            let within : i < length (parents_in links) = let u : i < length links = slice_get_within links i l v in omega (arith, u, m) in
            let n : c ≡ length (parents_in links) + 1 = omega (arith, e, m) in
            rw n (kin_kept (parents_in links) q i (Some l) within s)
