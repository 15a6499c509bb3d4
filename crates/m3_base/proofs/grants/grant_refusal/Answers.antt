use Rattle.std.proofs.Common.{◌≡◌, ◌∙◌, true, sym, ap, subst, ◌+◌, ◌*◌, ◌<◌, ◌||◌, false, length, None, arith}
use Rattle.std.specs.Prelude.{is_none, is_some, nat_le, slice_index_or}
use Rattle.std.specs.List.{list_any}
use Rattle.m3_base.specs.Ideal.State.{undone, parent_in, parent_of, holder, holder_ep}
use Rattle.m3_base.specs.Ideal.GrantRules.{form, fresh_of, is_above_closing, is_outside, is_more, is_crowded, holds_at}
use Rattle.m3_base.specs.Setup.GrantTable.{grants_of, grant_of, StandsAbove, crowds}
use Rattle.m3_base.proofs.GrantTableLookup.{taken_is, length_grants}
use Rattle.m3_base.proofs.GrantRefusal.{above_is, crowds_is, no_other, taken_first, outside_first, more_first}
use Rattle.m3_base.proofs.grants.grant_refusal.Goals as goal

pub returns-then-is_some : goal.returns-then-is_some
returns-then-is_some c =
    let gs = grants_of c.args.nodes.now in
    let line = c.args.line.now in
    let o = c.above_node-above.result in
    let at : StandsAbove gs (parent_of line) (undone (parent_in gs (parent_of line))) o = subst (λ p. StandsAbove gs p (undone (parent_in gs p)) o) c.parent.ensures c.above_node-above.ensures in
    let is : undone (parent_in gs (parent_of line)) ≡ grant_of o = above_is gs (parent_of line) (undone (parent_in gs (parent_of line))) o at in
    let there : is_none (form (length gs + 1) line (grant_of o)) ≡ false = sym (c.lacks_parent.ensures (length gs + 1)) ∙ c.if-lacks_parent.false in
    let open_is : is_above_closing (grant_of o) ≡ false = sym c.is_above_closing.ensures ∙ c.if-is_above_closing.false in
    let act : holder line < 64 = grind (arith, c.held_at.ensures.act, c.act.ensures) in
    let ep : holder_ep line < 16 = grind (arith, c.held_at.ensures.ep, c.ep.ensures) in
    let held : c.held_at.result ≡ slice_index_or c.args.held.now (16 * holder line + holder_ep line) None = rw (sym c.act.ensures, sym c.ep.ensures) c.held_at.ensures.held in
    let taken : c.is_some.result ≡ list_any (holds_at (holder line) (holder_ep line)) gs = c.is_some.ensures ∙ (ap is_some held ∙ taken_is c.args.nodes.now c.args.held.now (holder line) (holder_ep line) c.requires act ep) in
    sym (taken_first c.args.memory gs line (grant_of o) is there open_is (sym taken ∙ c.if-is_some.true))

pub returns-then-is_outside : goal.returns-then-is_outside
returns-then-is_outside c =
    let gs = grants_of c.args.nodes.now in
    let line = c.args.line.now in
    let o = c.above_node-above.result in
    let at : StandsAbove gs (parent_of line) (undone (parent_in gs (parent_of line))) o = subst (λ p. StandsAbove gs p (undone (parent_in gs p)) o) c.parent.ensures c.above_node-above.ensures in
    let is : undone (parent_in gs (parent_of line)) ≡ grant_of o = above_is gs (parent_of line) (undone (parent_in gs (parent_of line))) o at in
    let there : is_none (form (length gs + 1) line (grant_of o)) ≡ false = sym (c.lacks_parent.ensures (length gs + 1)) ∙ c.if-lacks_parent.false in
    let open_is : is_above_closing (grant_of o) ≡ false = sym c.is_above_closing.ensures ∙ c.if-is_above_closing.false in
    let act : holder line < 64 = grind (arith, c.held_at.ensures.act, c.act.ensures) in
    let ep : holder_ep line < 16 = grind (arith, c.held_at.ensures.ep, c.ep.ensures) in
    let held : c.held_at.result ≡ slice_index_or c.args.held.now (16 * holder line + holder_ep line) None = rw (sym c.act.ensures, sym c.ep.ensures) c.held_at.ensures.held in
    let taken : c.is_some.result ≡ list_any (holds_at (holder line) (holder_ep line)) gs = c.is_some.ensures ∙ (ap is_some held ∙ taken_is c.args.nodes.now c.args.held.now (holder line) (holder_ep line) c.requires act ep) in
    let free : list_any (holds_at (holder line) (holder_ep line)) gs ≡ false = sym taken ∙ c.if-is_some.false in
    sym (outside_first c.args.memory gs line (grant_of o) is there open_is free (sym c.is_outside.ensures ∙ c.if-is_outside.true))

pub returns-then-is_more : goal.returns-then-is_more
returns-then-is_more c =
    let gs = grants_of c.args.nodes.now in
    let line = c.args.line.now in
    let o = c.above_node-above.result in
    let at : StandsAbove gs (parent_of line) (undone (parent_in gs (parent_of line))) o = subst (λ p. StandsAbove gs p (undone (parent_in gs p)) o) c.parent.ensures c.above_node-above.ensures in
    let is : undone (parent_in gs (parent_of line)) ≡ grant_of o = above_is gs (parent_of line) (undone (parent_in gs (parent_of line))) o at in
    let there : is_none (form (length gs + 1) line (grant_of o)) ≡ false = sym (c.lacks_parent.ensures (length gs + 1)) ∙ c.if-lacks_parent.false in
    let open_is : is_above_closing (grant_of o) ≡ false = sym c.is_above_closing.ensures ∙ c.if-is_above_closing.false in
    let act : holder line < 64 = grind (arith, c.held_at.ensures.act, c.act.ensures) in
    let ep : holder_ep line < 16 = grind (arith, c.held_at.ensures.ep, c.ep.ensures) in
    let held : c.held_at.result ≡ slice_index_or c.args.held.now (16 * holder line + holder_ep line) None = rw (sym c.act.ensures, sym c.ep.ensures) c.held_at.ensures.held in
    let taken : c.is_some.result ≡ list_any (holds_at (holder line) (holder_ep line)) gs = c.is_some.ensures ∙ (ap is_some held ∙ taken_is c.args.nodes.now c.args.held.now (holder line) (holder_ep line) c.requires act ep) in
    let free : list_any (holds_at (holder line) (holder_ep line)) gs ≡ false = sym taken ∙ c.if-is_some.false in
    let inside : is_outside c.args.memory line (fresh_of (grant_of o)) ≡ false = sym c.is_outside.ensures ∙ c.if-is_outside.false in
    sym (more_first c.args.memory gs line (grant_of o) is there open_is free inside (sym c.is_more.ensures ∙ c.if-is_more.true))

pub returns-then-is_full : goal.returns-then-is_full
returns-then-is_full c =
    let gs = grants_of c.args.nodes.now in
    let line = c.args.line.now in
    let o = c.above_node-above.result in
    let at : StandsAbove gs (parent_of line) (undone (parent_in gs (parent_of line))) o = subst (λ p. StandsAbove gs p (undone (parent_in gs p)) o) c.parent.ensures c.above_node-above.ensures in
    let is : undone (parent_in gs (parent_of line)) ≡ grant_of o = above_is gs (parent_of line) (undone (parent_in gs (parent_of line))) o at in
    let there : is_none (form (length gs + 1) line (grant_of o)) ≡ false = sym (c.lacks_parent.ensures (length gs + 1)) ∙ c.if-lacks_parent.false in
    let open_is : is_above_closing (grant_of o) ≡ false = sym c.is_above_closing.ensures ∙ c.if-is_above_closing.false in
    let act : holder line < 64 = grind (arith, c.held_at.ensures.act, c.act.ensures) in
    let ep : holder_ep line < 16 = grind (arith, c.held_at.ensures.ep, c.ep.ensures) in
    let held : c.held_at.result ≡ slice_index_or c.args.held.now (16 * holder line + holder_ep line) None = rw (sym c.act.ensures, sym c.ep.ensures) c.held_at.ensures.held in
    let taken : c.is_some.result ≡ list_any (holds_at (holder line) (holder_ep line)) gs = c.is_some.ensures ∙ (ap is_some held ∙ taken_is c.args.nodes.now c.args.held.now (holder line) (holder_ep line) c.requires act ep) in
    let free : list_any (holds_at (holder line) (holder_ep line)) gs ≡ false = sym taken ∙ c.if-is_some.false in
    let inside : is_outside c.args.memory line (fresh_of (grant_of o)) ≡ false = sym c.is_outside.ensures ∙ c.if-is_outside.false in
    let less : is_more line (fresh_of (grant_of o)) ≡ false = sym c.is_more.ensures ∙ c.if-is_more.false in
    let few : (nat_le 4096 (length gs) || is_crowded line gs) ≡ true = ap (λ b. nat_le 4096 (length gs) || b) (sym (crowds_is (length gs + 1) gs line (undone (parent_in gs (parent_of line))) o at there)) ∙ (ap (λ n. nat_le 4096 n || crowds line o) (length_grants c.args.nodes.now) ∙ (sym c.is_full.ensures ∙ c.if-is_full.true)) in
    sym (no_other c.args.memory gs line (grant_of o) true is there open_is free inside less few)

pub returns : goal.returns
returns c =
    let gs = grants_of c.args.nodes.now in
    let line = c.args.line.now in
    let o = c.above_node-above.result in
    let at : StandsAbove gs (parent_of line) (undone (parent_in gs (parent_of line))) o = subst (λ p. StandsAbove gs p (undone (parent_in gs p)) o) c.parent.ensures c.above_node-above.ensures in
    let is : undone (parent_in gs (parent_of line)) ≡ grant_of o = above_is gs (parent_of line) (undone (parent_in gs (parent_of line))) o at in
    let there : is_none (form (length gs + 1) line (grant_of o)) ≡ false = sym (c.lacks_parent.ensures (length gs + 1)) ∙ c.if-lacks_parent.false in
    let open_is : is_above_closing (grant_of o) ≡ false = sym c.is_above_closing.ensures ∙ c.if-is_above_closing.false in
    let act : holder line < 64 = grind (arith, c.held_at.ensures.act, c.act.ensures) in
    let ep : holder_ep line < 16 = grind (arith, c.held_at.ensures.ep, c.ep.ensures) in
    let held : c.held_at.result ≡ slice_index_or c.args.held.now (16 * holder line + holder_ep line) None = rw (sym c.act.ensures, sym c.ep.ensures) c.held_at.ensures.held in
    let taken : c.is_some.result ≡ list_any (holds_at (holder line) (holder_ep line)) gs = c.is_some.ensures ∙ (ap is_some held ∙ taken_is c.args.nodes.now c.args.held.now (holder line) (holder_ep line) c.requires act ep) in
    let free : list_any (holds_at (holder line) (holder_ep line)) gs ≡ false = sym taken ∙ c.if-is_some.false in
    let inside : is_outside c.args.memory line (fresh_of (grant_of o)) ≡ false = sym c.is_outside.ensures ∙ c.if-is_outside.false in
    let less : is_more line (fresh_of (grant_of o)) ≡ false = sym c.is_more.ensures ∙ c.if-is_more.false in
    let few : (nat_le 4096 (length gs) || is_crowded line gs) ≡ false = ap (λ b. nat_le 4096 (length gs) || b) (sym (crowds_is (length gs + 1) gs line (undone (parent_in gs (parent_of line))) o at there)) ∙ (ap (λ n. nat_le 4096 n || crowds line o) (length_grants c.args.nodes.now) ∙ (sym c.is_full.ensures ∙ c.if-is_full.false)) in
    sym (no_other c.args.memory gs line (grant_of o) false is there open_is free inside less few)
