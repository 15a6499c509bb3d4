use Rattle.std.proofs.Common.{◌≡◌, ℕ, ◌<◌, false, List, set, get_or, sym, ◌∙◌, subst}
use Rattle.std.specs.Prelude.{◌==◌, not, filter}
use Rattle.std.specs.VecDeque.{deque_capacity}
use Rattle.m3_sched.specs.ReadyListView.{IsList}
use Rattle.m3_sched.proofs.ReadyLists.{read, left, leaves_not}
use Rattle.m3_sched.proofs.ready_list.ReadyList.leave.Goals as goal

pub returns-then-not-index : goal.returns-then-not-index
returns-then-not-index c =
    let low : c.args.act < 64 = subst (λ (n : ℕ). n < 64) c.number.ensures.same c.number.ensures.range in
    let same : c.from-at.result ≡ c.args.act = c.from-at.ensures ∙ c.number.ensures.same in
    let none : get_or c.self.inside.has.items c.args.act false ≡ false = read c.self.inside.has.items c.from-at.result c.args.act c.index.result.now c.self.invariant.count same low c.index.ensures ∙ c.if-not-index.true in
    sym (subst (λ (xs : List ℕ). filter (λ b. not (b == c.args.act)) xs ≡ xs) c.self.view_is (leaves_not c.self.inside.acts.items (deque_capacity c.self.inside.acts) c.self.inside.has.items c.self.invariant c.args.act low none))

pub invariant_of-self : goal.invariant_of-self
invariant_of-self c =
    let low : c.args.act < 64 = subst (λ (n : ℕ). n < 64) c.number.ensures.same c.number.ensures.range in
    let same : c.from-at.result ≡ c.args.act = c.from-at.ensures ∙ c.number.ensures.same in
    let is = left c.self.inside.acts.items (deque_capacity c.self.inside.acts) c.self.inside.has.items c.self.invariant c.args.act low in
    subst (λ (i : ℕ). IsList c.remove.new.acts.items (deque_capacity c.remove.new.acts) (set c.self.inside.has.items i false)) (sym same) (
    subst (λ (n : ℕ). IsList c.remove.new.acts.items n (set c.self.inside.has.items c.args.act false)) (sym c.remove.ensures.capacity) (
    subst (λ (xs : List ℕ). IsList xs (deque_capacity c.self.inside.acts) (set c.self.inside.has.items c.args.act false)) (sym c.remove.ensures.left) is
    )
    )
