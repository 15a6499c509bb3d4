use Rattle.std.proofs.Common.{◌≡◌, ◌∙◌, ap, ℕ, ◌+◌, ◌*◌, None, slice_get, is_some, subst, get_or, true, sym}
use Rattle.std.specs.List.{list_any}
use Rattle.m3_base.specs.Ideal.State.{is_number}
use Rattle.m3_base.specs.Ideal.GrantRules.{holds_at}
use Rattle.m3_base.specs.Setup.GrantTable.{holds_in, grants_of, is_some_number}
use Rattle.m3_base.proofs.GrantTableLookup.{taken_is, some_is}
use Rattle.m3_grants.specs.GrantTree.{GrantTree, IsHeld}
use Rattle.m3_grants.proofs.NodeLookup.{is_held}
use Rattle.m3_grants.proofs.grants.Grants.held.Goals as goal

pub returns-clause-held : goal.returns-clause-held
returns-clause-held c =
    let r = c.held_at.result in
    let slot : r ≡ get_or c.self.inside.held.items (16 * c.args.act + c.args.ep) None = c.held_at.ensures.held ∙ ap (λ hs. get_or hs (16 * c.args.act + c.args.ep) None) c.as_slice.ensures.value in
    let number : is_some_number r ≡ true = subst (λ o. is_some_number o ≡ true) (sym slot) (c.self.invariant.tree.numbers (16 * c.args.act + c.args.ep)) in
    let holds : (i : ℕ) → holds_in c.args.act c.args.ep (slice_get (grants_of c.self.inside.nodes) i) ≡ is_number (i + 1) r = λ i. c.self.invariant.tree.held c.args.act c.args.ep i c.held_at.ensures.act c.held_at.ensures.ep ∙ ap (is_number (i + 1)) (sym slot) in
    let P : GrantTree → Type 0 = λ t. IsHeld t.grants c.args.act c.args.ep r in
    subst P c.self.view_is (is_held c.args.act c.args.ep (grants_of c.self.inside.nodes) r (some_is r number) holds)

pub returns-clause-some : goal.returns-clause-some
returns-clause-some c =
    let slot : c.held_at.result ≡ get_or c.self.inside.held.items (16 * c.args.act + c.args.ep) None = c.held_at.ensures.held ∙ ap (λ hs. get_or hs (16 * c.args.act + c.args.ep) None) c.as_slice.ensures.value in
    let P : GrantTree → Type 0 = λ t. is_some c.held_at.result ≡ list_any (holds_at c.args.act c.args.ep) t.grants in
    subst P c.self.view_is (ap is_some slot ∙ taken_is c.self.inside.nodes c.self.inside.held.items c.args.act c.args.ep c.self.invariant.tree c.held_at.ensures.act c.held_at.ensures.ep)
