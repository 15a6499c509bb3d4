use Rattle.std.proofs.Common.{refl}
use Rattle.m3_ideal.proofs.Seats.{Reads, nobody, seated_there, at_there}
use Rattle.m3_ideal.proofs.Numbers.{nexts_there, settles_kept}
use Rattle.m3_ideal.proofs.contexts.Contexts.answer.Goals as goal

pub unreachable-requires : goal.unreachable-requires
unreachable-requires c =
    let r : Reads c.self.inside.table.items c.args.self.now c.args.act c.number.result c.index_mut.result.now = record { seated = c.self.invariant; value = c.self.view_is; range = c.number.ensures.range; same = c.number.ensures.same; item = c.index_mut.ensures.value } in
    nobody _ _ _ _ _ r c.in_default.is c.requires

pub invariant_of-self : goal.invariant_of-self
invariant_of-self c =
    let r : Reads c.self.inside.table.items c.args.self.now c.args.act c.number.result c.index_mut.result.now = record { seated = c.self.invariant; value = c.self.view_is; range = c.number.ensures.range; same = c.number.ensures.same; item = c.index_mut.ensures.value } in
    seated_there _ _ _ _ _ c.in-Some.context c.answer.new.self r c.in-Some.is c.answer.ensures.act

pub returns-clause-at : goal.returns-clause-at
returns-clause-at c =
    let r : Reads c.self.inside.table.items c.args.self.now c.args.act c.number.result c.index_mut.result.now = record { seated = c.self.invariant; value = c.self.view_is; range = c.number.ensures.range; same = c.number.ensures.same; item = c.index_mut.ensures.value } in
    at_there _ _ _ _ _ c.in-Some.context c.answer.new.self _ r c.in-Some.is c.answer.ensures.act (c.answer.ensures.next, c.answer.ensures.settles)

pub returns-clause-agree : goal.returns-clause-agree
returns-clause-agree c =
    let r : Reads c.self.inside.table.items c.args.self.now c.args.act c.number.result c.index_mut.result.now = record { seated = c.self.invariant; value = c.self.view_is; range = c.number.ensures.range; same = c.number.ensures.same; item = c.index_mut.ensures.value } in
    nexts_there _ _ _ _ _ c.in-Some.context c.answer.new.self r c.in-Some.is c.answer.ensures.act c.answer.ensures.next

pub returns-clause-kept : goal.returns-clause-kept
returns-clause-kept c =
    let r : Reads c.self.inside.table.items c.args.self.now c.args.act c.number.result c.index_mut.result.now = record { seated = c.self.invariant; value = c.self.view_is; range = c.number.ensures.range; same = c.number.ensures.same; item = c.index_mut.ensures.value } in
    settles_kept c.answer.result _ c.args.act _ _ _ _ refl (at_there _ _ _ _ _ c.in-Some.context c.answer.new.self _ r c.in-Some.is c.answer.ensures.act (c.answer.ensures.next, c.answer.ensures.settles))
