-- What a grant line says that isn't refused, and the grants once more lines were read.
use Rattle.std.proofs.Common.{◌≡◌, ℕ, ◌+◌, ◌≤◌, Bool, true, false, List, [], ◌∷◌, ◌++◌, length, Option, Some, None, refl, sym, ◌∙◌, subst, arith, inl, inr, ⊎_elim}
use Rattle.std.specs.Prelude.{zero, suc, if◌then◌else◌, is_none, nat_lt, slice_get, ◌⊎◌}
use Rattle.std.proofs.lemmas.Bool.Decides.{nat_tests}
use Rattle.m3_base.specs.declared.order.GrantLine.{GrantLine}
use Rattle.m3_base.specs.declared.packet.Perm.{Perm}
use Rattle.m3_base.specs.declared.packet.Fresh.{Fresh}
use Rattle.m3_base.specs.declared.setup_line.SetupLine.{SetupLine}
use Rattle.m3_base.specs.Ideal.Acceptance.{is_form}
use Rattle.m3_base.specs.Limits.{is_within, is_in_limits}
use Rattle.m3_base.specs.Ideal.State.{Grant, parent_of, parent_in, undone, is_done, grant_in}
use Rattle.m3_base.specs.Ideal.GrantRules.{form, send_form, part_form, new_grant, is_outside, fresh_of}
use Rattle.m3_base.specs.Setup.Rules.{Facts, facts_with_line, facts_with_lines, with_grant}
use Rattle.m3_engine.specs.OpeningInvariant.{AreForms}
use Rattle.m3_base.proofs.GrantsByNumber.{grant_in-suc}

-- ---- what a grant line that isn't refused says

-- a parent that isn't done is the parent
pub form_undone : (g : ℕ) (line : GrantLine) (p : Option Grant) (f : Fresh) → form g line (undone p) ≡ Some f → form g line p ≡ Some f
form_undone g (GrantLine.Recv a e slots size) p f h = h
form_undone g (GrantLine.Range a e at len perm) p f h = h
form_undone g (GrantLine.Send a e of label credits) None f h = absurd (cc)
form_undone g (GrantLine.Send a e of label credits) (Some x) f h = grind (arith, h)
form_undone g (GrantLine.Part a e of at len perm) None f h = absurd (cc)
form_undone g (GrantLine.Part a e of at len perm) (Some x) f h = grind (arith, h)

pub some_form : (o : Option Fresh) → is_none o ≡ false → (f : Fresh) × (o ≡ Some f)
some_form None h = absurd (cc)
some_form (Some f) h = (f, refl)

-- the parent's record is a form
abbrev pub IsFormOf : Option Grant → Type 0
IsFormOf None = Unit {0}
IsFormOf (Some x) = is_form x.fresh ≡ true

send_is_form : (g of label credits : ℕ) (above : GrantLine) (p f : Fresh) → is_within 1 32 credits ≡ true → is_form p ≡ true → send_form g of label credits above p ≡ Some f → is_form f ≡ true
send_is_form g of label credits above (Fresh.Receive h slots size) f n i e = grind (arith, n, i, e)
send_is_form g of label credits above (Fresh.Send h a b c l s m) f n i e = absurd (cc)
send_is_form g of label credits above (Fresh.Memory h s l q) f n i e = absurd (cc)

part_is_form : (g at len : ℕ) (perm : Perm) (p f : Fresh) → nat_lt 0 len ≡ true → is_form p ≡ true → ((h start extent : ℕ) (its : Perm) → p ≡ Fresh.Memory h start extent its → nat_lt extent (at + len) ≡ false) → part_form g at len perm p ≡ Some f → is_form f ≡ true
part_is_form g at len perm (Fresh.Memory h start extent its) f n i o e = let b = o h start extent its refl in grind (arith, nat_tests, n, i, b, e)
part_is_form g at len perm (Fresh.Receive h slots size) f n i o e = absurd (cc)
part_is_form g at len perm (Fresh.Send h a b c l s m) f n i o e = absurd (cc)

pub line_is_form : (memory g : ℕ) (line : GrantLine) (p : Option Grant) (f : Fresh) → memory ≤ 1048576 → is_in_limits line ≡ true → IsFormOf p → is_outside memory line (fresh_of p) ≡ false → form g line p ≡ Some f → is_form f ≡ true
line_is_form memory g (GrantLine.Recv a e slots size) p f m n i o h = grind (arith, n, h)
line_is_form memory g (GrantLine.Range a e at len perm) p f m n i o h = grind (arith, nat_tests, m, n, o, h)
line_is_form memory g (GrantLine.Send a e of label credits) None f m n i o h = absurd (cc)
line_is_form memory g (GrantLine.Send a e of label credits) (Some x) f m n i o h = send_is_form g of label credits x.line x.fresh f n i h
line_is_form memory g (GrantLine.Part a e of at len perm) None f m n i o h = absurd (cc)
line_is_form memory g (GrantLine.Part a e of at len perm) (Some x) f m n i o h =
    part_is_form g at len perm x.fresh f n i (λ k start extent its w. subst (λ (y : Fresh). is_outside memory (GrantLine.Part a e of at len perm) (Some y) ≡ false) w o) h

pub undone_form : (p : Option Grant) → IsFormOf p → IsFormOf (undone p)
undone_form None i = tt
undone_form (Some x) i = by_done (is_done x.standing)
  where
    by_done : (b : Bool) → IsFormOf (if b then None else Some x)
    by_done true = tt
    by_done false = i

-- ---- grants by number

get_more : (gs : List Grant) (x y : Grant) (i : ℕ) → slice_get gs i ≡ Some y → slice_get (gs ++ x ∷ []) i ≡ Some y
get_more [] x y i h = absurd (cc)
get_more (z ∷ gs) x y zero h = h
get_more (z ∷ gs) x y (suc i) h = get_more gs x y i h

in_more : (gs : List Grant) (x y : Grant) (g : ℕ) → grant_in gs g ≡ Some y → grant_in (gs ++ x ∷ []) g ≡ Some y
in_more gs x y zero h = absurd (cc)
in_more gs x y (suc g) h = grant_in-suc (gs ++ x ∷ []) g ∙ get_more gs x y g (sym (grant_in-suc gs g) ∙ h)

in_granted : (line : GrantLine) (gs : List Grant) (o : Option Fresh) (y : Grant) (g : ℕ) → grant_in gs g ≡ Some y → grant_in (with_grant line gs o) g ≡ Some y
in_granted line gs None y g h = h
in_granted line gs (Some f) y g h = in_more gs (new_grant line f) y g h

in_noted : (l : SetupLine) (f : Facts) (y : Grant) (g : ℕ) → grant_in f.grants g ≡ Some y → grant_in (facts_with_line l f).grants g ≡ Some y
in_noted (SetupLine.Act a t) f y g h = h
in_noted (SetupLine.Quantum q) f y g h = h
in_noted (SetupLine.Grant line) f y g h = in_granted line f.grants (form (length f.grants + 1) line (parent_in f.grants (parent_of line))) y g h
in_noted (SetupLine.Files k) f y g h = h
in_noted (SetupLine.Item a c) f y g h = h
in_noted (SetupLine.AwaitItem a ep) f y g h = h
in_noted (SetupLine.Writer a m d e chunk ring bytes) f y g h = h
in_noted (SetupLine.Reader a m d chunk ring fuel) f y g h = h
in_noted (SetupLine.Boxed a logic fuel) f y g h = h

-- a grant stays
pub in_all : (ls : List SetupLine) (f : Facts) (y : Grant) (g : ℕ) → grant_in f.grants g ≡ Some y → grant_in (facts_with_lines ls f).grants g ≡ Some y
in_all [] f y g h = h
in_all (l ∷ ls) f y g h = in_all ls (facts_with_line l f) y g (in_noted l f y g h)

cases_more : (gs : List Grant) (x y : Grant) (i : ℕ) → slice_get (gs ++ x ∷ []) i ≡ Some y → (slice_get gs i ≡ Some y) ⊎ (y ≡ x)
cases_more [] x y zero h = inr (cc)
cases_more [] x y (suc i) h = absurd (cc)
cases_more (z ∷ gs) x y zero h = inl h
cases_more (z ∷ gs) x y (suc i) h = cases_more gs x y i h

pub forms_more : (gs : List Grant) (x : Grant) → AreForms gs → is_form x.fresh ≡ true → AreForms (gs ++ x ∷ [])
forms_more gs x are i zero y h = absurd (cc)
forms_more gs x are i (suc g) y h = ⊎_elim (λ old. are (suc g) y (grant_in-suc gs g ∙ old)) (λ (e : y ≡ x). subst (λ (z : Grant). is_form z.fresh ≡ true) (sym e) i) (cases_more gs x y g (sym (grant_in-suc (gs ++ x ∷ []) g) ∙ h))
