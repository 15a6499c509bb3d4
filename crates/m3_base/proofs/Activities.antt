-- Contexts by their activities.
use Rattle.std.proofs.Common.{◌≡◌, ℕ, true, false, List, [], ◌∷◌, Some, sym, subst, arith}
use Rattle.std.proofs.lemmas.Bool.Decides.{nat_tests}
use Rattle.m3_base.specs.Ideal.Context.{Context}
use Rattle.m3_base.specs.Ideal.State.{act_of, act_before, same_act, context_of, put_context}
use Rattle.m3_base.proofs.KeyedList.{find-replaced_other, find-replaced_same}

pub same_act-is : (a b : ℕ) → same_act a b ≡ true → a ≡ b
same_act-is a b h = grind (arith, nat_tests)

pub same_act-itself : (a : ℕ) → same_act a a ≡ true
same_act-itself a = grind (arith, nat_tests)

pub same_act-joins : (a b c : ℕ) → same_act a c ≡ true → same_act b c ≡ true → same_act a b ≡ true
same_act-joins a b c p q = grind (arith, nat_tests)

pub same_act-turned : (a b : ℕ) → same_act a b ≡ same_act b a
same_act-turned a b = grind (arith, nat_tests)

-- a context that was found stands under its own activity
pub act_found : (a : ℕ) (c : Context) (cs : List Context) → context_of a cs ≡ Some c → a ≡ c.act
act_found a c [] e = absurd (cc)
act_found a c (x ∷ cs) e = grind (arith, nat_tests, act_found a c cs)

pub found_own : (a : ℕ) (c : Context) (cs : List Context) → context_of a cs ≡ Some c → context_of c.act cs ≡ Some c
found_own a c cs at = subst (λ z. context_of z cs ≡ Some c) (act_found a c cs at) at

-- of one activity with the context that was found
pub found_same : (cs : List Context) (a : ℕ) (c d : Context) → context_of a cs ≡ Some c → d.act ≡ c.act → context_of d.act cs ≡ Some c
found_same cs a c d at same = subst (λ z. context_of z cs ≡ Some c) (sym same) (found_own a c cs at)

-- a look-up after a context was put in place of another of its activity
pub context-put_same : (x y : Context) (cs : List Context) → context_of y.act cs ≡ Some x → context_of y.act (put_context y cs) ≡ Some y
context-put_same x y cs h = find-replaced_same act_of same_act act_before y x cs (same_act-itself y.act) h

pub context-put_other : (a : ℕ) (y : Context) (cs : List Context) → same_act a y.act ≡ false → context_of a (put_context y cs) ≡ context_of a cs
context-put_other a y cs h = find-replaced_other act_of same_act act_before a y cs same_act-joins h
