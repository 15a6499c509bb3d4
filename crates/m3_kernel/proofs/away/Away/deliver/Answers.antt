use Rattle.std.proofs.Common.{◌≡◌, ◌++◌, true, List, sym, ap, ◌∙◌, subst}
use Rattle.m3_base.specs.Ideal.Acceptance.{fits}
use Rattle.m3_model.specs.Parcel.{Heard}
use Rattle.m3_kernel.specs.ParcelView.{heard_in}
use Rattle.m3_kernel.specs.PendingAnswer.{IsSettled, AreNotBoth}
use Rattle.m3_kernel.specs.ArrivalView.{arrival_of}
use Rattle.m3_kernel.proofs.HeardAnswer.{not_both, settled_then}
use Rattle.m3_kernel.proofs.away.Away.deliver.Goals as goal

pub invariant_of-self : goal.invariant_of-self
invariant_of-self c =
    let heard : List Heard = heard_in c.self.inside.heard in
    let fit : fits c.self.inside.context c.args.packet ≡ true = ap (λ y. fits y.context c.args.packet) c.self.view_is ∙ c.requires.fits in
    subst (λ (xs : List Heard). IsSettled xs c.meet-came.new.context) (sym (c.hear.ensures ∙ ap (λ ys. heard ++ ys) c.requires.heard)) (
    settled_then c.self.inside.context c.args.packet (arrival_of c.meet-came.result c.meet-came.new.context) heard fit c.flying-few.ensures.few c.meet-came.ensures.arrives c.self.invariant
    )

pub hear-requires : goal.hear-requires
hear-requires c =
    let fit : fits c.self.inside.context c.args.packet ≡ true = ap (λ y. fits y.context c.args.packet) c.self.view_is ∙ c.requires.fits in
    subst (λ (ys : List Heard). AreNotBoth (heard_in c.self.inside.heard) ys) (sym c.requires.heard) (not_both c.self.inside.context c.args.packet (heard_in c.self.inside.heard) fit c.self.invariant)
