-- The kernel refuses a grant line just where the ideal machine does, and for the same cause.
use Rattle.std.proofs.Common.{◌≡◌, ℕ, zero, suc, ◌+◌, Bool, true, false, List, [], ◌∷◌, length, Some, None, refl, sym, subst, ◌∙◌, ap, arith, Option}
use Rattle.std.specs.Prelude.{if◌then◌else◌, not, ◌||◌, nat_le, is_none, slice_get}
use Rattle.std.specs.List.{list_any}
use Rattle.std.proofs.lemmas.Bool.Decides.{nat_tests}
use Rattle.m3_base.specs.declared.event.No.{No}
use Rattle.m3_base.specs.declared.order.GrantLine.{GrantLine}
use Rattle.m3_base.specs.Ideal.State.{Grant, grant_in, holder, holder_ep, is_done, is_live, parent_in, parent_of, undone}
use Rattle.m3_base.specs.Ideal.GrantRules.{first_no, form, fresh_of, holds_at, is_above_closing, is_crowded, is_more, is_open_child, is_outside, make_refusal, part_form, send_form}
use Rattle.m3_base.proofs.GrantsByNumber.{grant_in-suc as numbered_back}
use Rattle.m3_model.specs.Config.Site.{Site}
use Rattle.m3_model.specs.Kernel.Step.{is_under_close}
use Rattle.m3_model.specs.Machine.{Machine}
use Rattle.m3_model.specs.MemorySize.{HasMemorySize}
use Rattle.m3_model.specs.ShutGrants.{SentAreShut}
use Rattle.m3_model.specs.Abstraction.{all_closed, is_in, closed_if, closed_from}
use Rattle.m3_model.specs.Invariant.Structure.{MachineStructure}
use Rattle.m3_refine.proofs.abstraction.ClosingGrants.{shut_at, all_shut, any_same, count_same, holds_reads, open_child_reads, length_closed}
use Rattle.m3_refine.proofs.bounds.ShutGrants.{closing_not_live}
use Rattle.m3_refine.proofs.events.order.RevokeRefines.{get_none}
use Rattle.m3_refine.proofs.events.take.KernelTakesClosed.{get_closed}

-- ---- the grant above a line

-- a grant of the kernel, and what it is in the ideal state: the same line and record, live in both or in neither
abbrev pub AreAlike : Option Grant → Option Grant → Type 0
AreAlike None None = Unit {0}
AreAlike (Some x) (Some y) = (y.line ≡ x.line) × (y.fresh ≡ x.fresh) × (is_live y.standing ≡ is_live x.standing)
AreAlike None (Some y) = ⊥
AreAlike (Some x) None = ⊥

alike_by : (a b c d : Option Grant) → a ≡ c → b ≡ d → AreAlike (undone c) (undone d) → AreAlike (undone a) (undone b)
alike_by a b c d e f k = subst (λ z. AreAlike (undone z) (undone b)) (sym e) (subst (λ z. AreAlike (undone c) (undone z)) (sym f) k)

alike_undone : (b : Bool) (x : Grant) → (b ≡ true → (is_under_close x ≡ true) × (is_live x.standing ≡ false)) → AreAlike (undone (Some x)) (undone (Some (closed_if b x)))
alike_undone false x f = by_done (is_done x.standing)
  where
    by_done : (d : Bool) → AreAlike (if d then None else Some x) (if d then None else Some x)
    by_done true = tt
    by_done false = (refl, refl, refl)
alike_undone true x f = by_done (is_done x.standing) refl
  where
    by_done : (d : Bool) → is_done x.standing ≡ d → AreAlike (if d then None else Some x) (undone (Some (closed_if true x)))
    by_done true e = absurd (let k = (f refl).0 in let z : is_under_close x ≡ false = grind (arith, e) in cc)
    by_done false e = (refl, refl, sym ((f refl).1))

form_same : (n : ℕ) (line : GrantLine) (a b : Option Grant) → AreAlike a b → form n line b ≡ form n line a
form_same n (GrantLine.Recv act ep slots size) a b k = refl
form_same n (GrantLine.Range act ep at len perm) a b k = refl
form_same n (GrantLine.Send act ep of label credits) None None k = refl
form_same n (GrantLine.Send act ep of label credits) (Some x) (Some y) k = λ j. send_form n of label credits (k.0 j) (k.1 j)
form_same n (GrantLine.Send act ep of label credits) None (Some y) k = absurd k
form_same n (GrantLine.Send act ep of label credits) (Some x) None k = absurd k
form_same n (GrantLine.Part act ep of at len perm) None None k = refl
form_same n (GrantLine.Part act ep of at len perm) (Some x) (Some y) k = ap (part_form n at len perm) k.1
form_same n (GrantLine.Part act ep of at len perm) None (Some y) k = absurd k
form_same n (GrantLine.Part act ep of at len perm) (Some x) None k = absurd k

fresh_same : (a b : Option Grant) → AreAlike a b → fresh_of b ≡ fresh_of a
fresh_same None None k = refl
fresh_same (Some x) (Some y) k = ap (λ f. Some f) k.1
fresh_same None (Some y) k = absurd k
fresh_same (Some x) None k = absurd k

above_closing_same : (a b : Option Grant) → AreAlike a b → is_above_closing b ≡ is_above_closing a
above_closing_same None None k = refl
above_closing_same (Some x) (Some y) k = ap not k.2
above_closing_same None (Some y) k = absurd k
above_closing_same (Some x) None k = absurd k

-- ---- the refusal

module _ (h : Site) (m : Machine) (sound : MachineStructure h m) (shut : SentAreShut m.kernel.grants) (size : HasMemorySize h m) (line : GrantLine) where
  abbrev G : List Grant
  G = m.kernel.grants

  abbrev X : List ℕ
  X = all_closed m

  abbrev S : List Grant
  S = closed_from 1 X G

  alike_at : (n : ℕ) → AreAlike (undone (grant_in G n)) (undone (grant_in S n))
  alike_at zero = alike_by (grant_in G zero) (grant_in S zero) None None (zero_none G) (zero_none S) tt
    where
      zero_none : (gs : List Grant) → grant_in gs zero ≡ None
      zero_none gs = grind (arith, nat_tests)
  alike_at (suc i) = by_grant (slice_get G i) refl
    where
      by_grant : (o : Option Grant) → slice_get G i ≡ o → AreAlike (undone (grant_in G (suc i))) (undone (grant_in S (suc i)))
      by_grant None e = alike_by (grant_in G (suc i)) (grant_in S (suc i)) None None (numbered_back G i ∙ e) (numbered_back S i ∙ get_none X 1 i G e) tt
      by_grant (Some x) e =
          let there : grant_in G (suc i) ≡ Some x = numbered_back G i ∙ e in
          let z : 1 + i ≡ suc i = omega arith in
          alike_by (grant_in G (suc i)) (grant_in S (suc i)) (Some x) (Some (closed_if (is_in X (1 + i)) x)) there (numbered_back S i ∙ get_closed X 1 i G x e)
          (alike_undone (is_in X (1 + i)) x (λ k. (shut_at h m sound i x e k, closing_not_live h m sound shut (suc i) x (ap (is_in X) (sym z) ∙ k) there)))

  above_alike : (o : Option ℕ) → AreAlike (undone (parent_in G o)) (undone (parent_in S o))
  above_alike None = tt
  above_alike (Some g) = alike_at g

  abbrev above : List Grant → Option Grant
  above gs = undone (parent_in gs (parent_of line))

  alike : AreAlike (above G) (above S)
  alike = above_alike (parent_of line)

  pub form_is : form (length S + 1) line (above S) ≡ form (length G + 1) line (above G)
  form_is = ap (λ n. form (n + 1) line (above S)) (length_closed X 1 G) ∙ form_same (length G + 1) line (above G) (above S) alike

  crowded : (l : GrantLine) → is_crowded l S ≡ is_crowded l G
  crowded (GrantLine.Send act ep of label credits) = ap (nat_le 64) (count_same (is_open_child of) (open_child_reads of) X 1 G (all_shut h m sound))
  crowded (GrantLine.Recv act ep slots size) = refl
  crowded (GrantLine.Range act ep at len perm) = refl
  crowded (GrantLine.Part act ep of at len perm) = refl

  taken : list_any (holds_at (holder line) (holder_ep line)) S ≡ list_any (holds_at (holder line) (holder_ep line)) G
  taken = any_same (holds_at (holder line) (holder_ep line)) (holds_reads (holder line) (holder_ep line)) X 1 G (all_shut h m sound)

  abbrev reasons : Bool → Bool → Bool → Bool → Bool → Bool → Option No
  reasons formless closing held outside more many =
      first_no ((formless, No.NoGrant) ∷ (closing, No.Closing) ∷ (held, No.SlotTaken) ∷ (outside, No.OutsideParent) ∷ (more, No.MorePermission) ∷ (many, No.TooMany) ∷ [])

  pub refusal_is : make_refusal (length m.memory) S line ≡ make_refusal h.memory G line
  refusal_is =
      let fresh = fresh_same (above G) (above S) alike in
      let closing = above_closing_same (above G) (above S) alike in
      let more = length_closed X 1 G in
      λ k. reasons (is_none (form_is k)) (closing k) (taken k) (is_outside (size k) line (fresh k)) (is_more line (fresh k)) (nat_le 4096 (more k) || crowded line k)
