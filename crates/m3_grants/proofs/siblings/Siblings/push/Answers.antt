use Rattle.std.proofs.Common.{◌≡◌, ◌∙◌, ◌+◌, ◌<◌, ◌++◌, ◌∷◌, [], true, length, sym, ap, subst, arith}
use Rattle.m3_grants.specs.SiblingListView.{parents_in}
use Rattle.m3_base.specs.Setup.GrantTable.{is_before}
use Rattle.m3_grants.proofs.SiblingList.{linked, links_pushed, parents_linked, length_parents}
use Rattle.m3_grants.proofs.siblings.Siblings.push.Goals as goal

pub invariant_of-self-2 : goal.invariant_of-self-2
invariant_of-self-2 c =
    let links = c.self.inside.siblings.items in
    let made : c.push_reserved.new.self.items ≡ linked links c.args.parent c.new-child.result = grind (arith, c.push_reserved.ensures.items, c.append-previous.ensures.items, c.append-previous.ensures.before, c.in_ok-reserve.ensures.items) in
    let size : length c.args.self.now ≡ length links = sym (ap length c.self.view_is) ∙ length_parents links in
    let few : length links < 4096 = omega (arith, size, c.requires.few) in
    let before : is_before c.args.parent (length links) ≡ true = subst (λ n. is_before c.args.parent n ≡ true) size c.requires.before in
    let child : c.new-child.result ≡ length links + 1 = omega (arith, c.new-child.ensures, c.len.ensures, c.in_ok-reserve.ensures.len, ap length c.in_ok-reserve.ensures.items) in
    rw made (links_pushed links c.args.parent c.new-child.result c.self.invariant few before child)

pub returns-clause-pushed : goal.returns-clause-pushed
returns-clause-pushed c =
    let links = c.self.inside.siblings.items in
    let made : c.push_reserved.new.self.items ≡ linked links c.args.parent c.new-child.result = grind (arith, c.push_reserved.ensures.items, c.append-previous.ensures.items, c.append-previous.ensures.before, c.in_ok-reserve.ensures.items) in
    ap parents_in made ∙ (parents_linked links c.args.parent c.new-child.result ∙ ap (λ ps. ps ++ c.args.parent ∷ []) c.self.view_is)
