use Rattle.std.proofs.Common.{ap, sym, ◌∙◌, subst, Some, None, set, get_or}
use Rattle.m3_base.specs.Ideal.Context.{with_endpoint, new_endpoint}
use Rattle.m3_base.specs.Ideal.State.{holder, grant_in}
use Rattle.m3_base.specs.Setup.Rules.{facts_of}
use Rattle.m3_base.specs.Ideal.GrantRules.{fresh_of}
use Rattle.m3_engine.specs.OpeningInvariant.{CanInstall}
use Rattle.m3_engine.proofs.ContextTable.{installs, grants_step, always_told}
use Rattle.m3_engine.proofs.opening.install_grant.Goals as goal

pub unreachable-requires : goal.unreachable-requires
unreachable-requires c =
    always_told c.args.setup.now c.args.table.now.items c.args.count c.args.line.now c.requires.left c.requires.progress
    (ap (λ g. fresh_of (grant_in (facts_of c.args.setup.now).grants g)) (sym c.new.ensures) ∙ sym c.fresh.ensures ∙ c.in-None.is)

pub install-requires-clause-can : goal.install-requires-clause-can
install-requires-clause-can c =
    subst (λ a. CanInstall c.args.table.now.items a c.ep.result c.in-Some.fresh) (sym c.act.ensures) (
    subst (λ e. CanInstall c.args.table.now.items (holder c.args.line.now) e c.in-Some.fresh) (sym c.ep.ensures) (
    installs c.args.setup.now c.args.table.now.items c.args.count c.args.line.now c.requires.left c.requires.progress c.in-Some.fresh
    (ap (λ g. fresh_of (grant_in (facts_of c.args.setup.now).grants g)) (sym c.new.ensures) ∙ sym c.fresh.ensures ∙ c.in-Some.is)
    )
    )

pub returns : goal.returns
returns c left p =
    grants_step c.args.setup.now c.args.table.now.items c.args.count c.args.line.now left p c.in-Some.fresh
    (ap (λ g. fresh_of (grant_in (facts_of c.args.setup.now).grants g)) (sym c.new.ensures) ∙ sym c.fresh.ensures ∙ c.in-Some.is)
    c.install.new.table.items
    (λ x there. c.install.ensures x (ap (λ a. get_or c.args.table.now.items a None) c.act.ensures ∙ there)
    ∙ (λ i. set c.args.table.now.items (c.act.ensures i) (Some (with_endpoint x (c.ep.ensures i) (new_endpoint c.in-Some.fresh)))))
