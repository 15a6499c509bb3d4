-- A table of contexts that gets one more, or of which one changes.
use Rattle.std.proofs.Common.{◌≡◌, ℕ, ◌<◌, List, [], ◌∷◌, set, get_or, Option, Some, None, refl, sym, ap, ◌∙◌, arith, ⊎_elim}
use Rattle.std.proofs.lemmas.List.{get_or-set_same, get_or-set_other, length-set}
use Rattle.std.proofs.lemmas.Bool.{cases_eq}
use Rattle.std.proofs.lemmas.Bool.Decides.{nat_tests}
use Rattle.m3_base.specs.Ideal.Context.{Context}
use Rattle.m3_base.specs.Ideal.State.{context_of, new_context_in, put_context}
use Rattle.m3_model.specs.ContextTable.{HasContexts}

pub found_new : (a : ℕ) (c : Context) (cs : List Context) → context_of a cs ≡ None → c.act ≡ a → context_of a (new_context_in c cs) ≡ Some c
found_new a c [] h e = grind (arith, nat_tests)
found_new a c (d ∷ ds) h e = grind (arith, nat_tests, found_new a c ds)

pub found_beside : (a : ℕ) (c : Context) (cs : List Context) → (a ≡ c.act → ⊥) → context_of a (new_context_in c cs) ≡ context_of a cs
found_beside a c [] ne = grind (arith, nat_tests)
found_beside a c (d ∷ ds) ne = grind (arith, nat_tests, found_beside a c ds)

pub found_put : (a : ℕ) (c old : Context) (cs : List Context) → context_of a cs ≡ Some old → c.act ≡ a → context_of a (put_context c cs) ≡ Some c
found_put a c old [] h e = grind (arith, nat_tests)
found_put a c old (d ∷ ds) h e = grind (arith, nat_tests, found_put a c old ds)

pub found_kept : (a : ℕ) (c : Context) (cs : List Context) → (a ≡ c.act → ⊥) → context_of a (put_context c cs) ≡ context_of a cs
found_kept a c [] ne = grind (arith, nat_tests)
found_kept a c (d ∷ ds) ne = grind (arith, nat_tests, found_kept a c ds)

module _ (table : List (Option Context)) (cs new : List Context) (has : HasContexts table cs) (c : Context) (low : c.act < 64) (same : context_of c.act new ≡ Some c) (others : (a : ℕ) → (a ≡ c.act → ⊥) → context_of a new ≡ context_of a cs) where
  set_has : HasContexts (set table c.act (Some c)) new
  set_has = record {
    count = length-set table c.act (Some c) ∙ has.count;
    same = λ a.
        ⊎_elim
        (λ (e : a ≡ c.act).
        ap (λ b. get_or (set table c.act (Some c)) b None) e
        ∙ get_or-set_same table c.act (Some c) None (omega (arith, has.count))
        ∙ sym same
        ∙ ap (λ b. context_of b new) (sym e))
        (λ (ne : a ≡ c.act → ⊥). get_or-set_other table c.act a (Some c) None ne ∙ has.same a ∙ sym (others a ne))
        (cases_eq a c.act);
  }

pub has_new : (table : List (Option Context)) (cs : List Context) → HasContexts table cs → (c : Context) → c.act < 64 → get_or table c.act None ≡ None → HasContexts (set table c.act (Some c)) (new_context_in c cs)
has_new table cs has c low none = set_has table cs (new_context_in c cs) has c low (found_new c.act c cs (sym (has.same c.act) ∙ none) refl) (λ a ne. found_beside a c cs ne)

pub has_put : (table : List (Option Context)) (cs : List Context) → HasContexts table cs → (c old : Context) → c.act < 64 → get_or table c.act None ≡ Some old → HasContexts (set table c.act (Some c)) (put_context c cs)
has_put table cs has c old low some = set_has table cs (put_context c cs) has c low (found_put c.act c old cs (sym (has.same c.act) ∙ some) refl) (λ a ne. found_kept a c cs ne)
