-- Grants in their list, by number.
use Rattle.std.proofs.Common.{◌≡◌, ℕ, zero, suc, ◌+◌, ◌-◌, ◌≤◌, Bool, true, false, List, [], ◌∷◌, ◌++◌, length, Some, None, refl, sym, ap, arith, ◌∙◌}
use Rattle.std.specs.Prelude.{Option, ◌==◌, slice_get, if◌then◌else◌}
use Rattle.std.proofs.lemmas.Bool.Decides.{nat_tests}
use Rattle.std.proofs.lemmas.Option.{slice_get_within}
use Rattle.m3_base.specs.declared.packet.Fresh.{Fresh}
use Rattle.m3_base.specs.declared.order.GrantLine.{GrantLine}
use Rattle.m3_base.specs.Ideal.State.{Grant, State, grant_in}
use Rattle.m3_base.specs.Ideal.GrantRules.{closing_where}
use Rattle.m3_base.specs.Ideal.Opening.{state_with_grant}

-- numbers count from 1
pub grant_in-suc : (gs : List Grant) (p : ℕ) → grant_in gs (suc p) ≡ slice_get gs p
grant_in-suc gs p = let e : suc p - 1 ≡ p = omega arith in rw e (grind (arith, nat_tests))

get_last : (gs : List Grant) (x : Grant) → slice_get (gs ++ x ∷ []) (length gs) ≡ Some x
get_last [] x = refl
get_last (z ∷ gs) x = get_last gs x

pub grant_in-last : (gs : List Grant) (x : Grant) → grant_in (gs ++ x ∷ []) (length gs + 1) ≡ Some x
grant_in-last gs x = let e : length gs + 1 ≡ suc (length gs) = omega arith in ap (grant_in (gs ++ x ∷ [])) e ∙ grant_in-suc (gs ++ x ∷ []) (length gs) ∙ get_last gs x

pub grant_past : (gs : List Grant) (g : ℕ) (x : Grant) → grant_in gs g ≡ Some x → g ≤ length gs
grant_past gs zero x e = omega arith
grant_past gs (suc p) x e = let h = slice_get_within gs p x (sym (grant_in-suc gs p) ∙ e) in omega (arith, h)

pub length-closing_where : (bs : List Bool) (gs : List Grant) → length (closing_where bs gs) ≡ length gs
length-closing_where [] gs = refl
length-closing_where (b ∷ bs) [] = refl
length-closing_where (b ∷ bs) (x ∷ gs) = ap suc (length-closing_where bs gs)

pub memory-state_with_grant : (s : State) (line : GrantLine) (o : Option Fresh) → (state_with_grant s line o).memory ≡ s.memory
memory-state_with_grant s line None = refl
memory-state_with_grant s line (Some f) = refl
