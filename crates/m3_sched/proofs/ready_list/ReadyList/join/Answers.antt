use Rattle.std.proofs.Common.{◌≡◌, ℕ, ◌<◌, false, true, List, length, set, get_or, sym, ◌∙◌, subst, arith}
use Rattle.std.specs.VecDeque.{deque_capacity}
use Rattle.m3_sched.specs.ReadyListView.{IsList}
use Rattle.m3_sched.proofs.ReadyLists.{read, has_room, joined}
use Rattle.m3_sched.proofs.ready_list.ReadyList.join.Goals as goal

pub push_back_reserved-requires : goal.push_back_reserved-requires
push_back_reserved-requires c =
    let low : c.args.act < 64 = subst (λ (n : ℕ). n < 64) c.number.ensures.same c.number.ensures.range in
    let none : get_or c.self.inside.has.items c.args.act false ≡ false = read c.self.inside.has.items c.from-at.result c.args.act c.index.result.now c.self.invariant.count (c.from-at.ensures ∙ c.number.ensures.same) low c.index.ensures ∙ c.if-index.false in
    let room : length c.self.inside.acts.items < deque_capacity c.self.inside.acts = has_room c.self.inside.acts.items (deque_capacity c.self.inside.acts) c.self.inside.has.items c.self.invariant c.args.act low none in
    omega (arith, room, c.self.inside.acts.ok.0)

pub invariant_of-self : goal.invariant_of-self
invariant_of-self c =
    let low : c.args.act < 64 = subst (λ (n : ℕ). n < 64) c.number.ensures.same c.number.ensures.range in
    let same : c.from-at.result ≡ c.args.act = c.from-at.ensures ∙ c.number.ensures.same in
    let none : get_or c.self.inside.has.items c.args.act false ≡ false = read c.self.inside.has.items c.from-at.result c.args.act c.index.result.now c.self.invariant.count same low c.index.ensures ∙ c.if-index.false in
    let is = joined c.self.inside.acts.items (deque_capacity c.self.inside.acts) c.self.inside.has.items c.self.invariant c.args.act low none in
    subst (λ (i : ℕ). IsList c.push_back_reserved.new.self.items (deque_capacity c.push_back_reserved.new.self) (set c.self.inside.has.items i true)) (sym same) (
    subst (λ (n : ℕ). IsList c.push_back_reserved.new.self.items n (set c.self.inside.has.items c.args.act true)) (sym c.push_back_reserved.ensures.capacity) (
    subst (λ (xs : List ℕ). IsList xs (deque_capacity c.self.inside.acts) (set c.self.inside.has.items c.args.act true)) (sym c.push_back_reserved.ensures.items) is
    )
    )
