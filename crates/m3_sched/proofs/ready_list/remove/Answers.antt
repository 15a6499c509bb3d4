use Rattle.std.proofs.Common.{◌≡◌, Some, true, sym, ap, ◌∙◌, rules, arith, refl}
use Rattle.std.specs.Prelude.{◌==◌, not}
use Rattle.std.proofs.lemmas.Fn.{filter_same}
use Rattle.std.proofs.lemmas.Bool.Decides.{nat_tests}
use Rattle.m3_sched.proofs.ReadyLists.{first_leaves}
use Rattle.m3_sched.proofs.ready_list.remove.Goals.{in-None, in-Some}
use Rattle.m3_sched.proofs.ready_list.remove.Goals as goal

pub returns-then-is_first-clause-left : goal.returns-then-is_first-clause-left
returns-then-is_first-clause-left c =
    elim c.match-front.branch [
      | in-None w ↦ (let e = c.if-is_first.true in let f = w.is_first-is in absurd (cc))
      | in-Some w ↦
          (let same : (w.in-Some.first.now == c.args.act) ≡ true = sym w.eq-is_first.ensures ∙ sym w.is_first-is ∙ c.if-is_first.true in
          let n : w.in-Some.first.now ≡ c.args.act = grind (arith, nat_tests, same) in
          let r : c.pop_front.result ≡ Some c.args.act = c.pop_front.ensures.value w.in-Some.first.now (w.in-Some.ensures.variant.0 refl) ∙ ap (λ a. Some a) (sym w.in-Some.ensures.lookup ∙ n) in
          first_leaves c.args.acts.now.items c.pop_front.new.self.items c.pop_front.result c.args.act c.requires c.pop_front.ensures.items r)
    ]

pub returns-else-is_first-clause-left : goal.returns-else-is_first-clause-left
returns-else-is_first-clause-left c = filter_same _ (λ b. not (b == c.args.act)) _ (λ x b f called. (search rules, search rules)) _ _ c.retain.ensures.filtered
