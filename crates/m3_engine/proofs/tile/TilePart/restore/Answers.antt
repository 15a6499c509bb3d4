use Rattle.std.proofs.Common.{◌≡◌, refl, sym, ap, ◌∙◌, subst}
use Rattle.std.specs.Prelude.{is_some}
use Rattle.m3_base.specs.declared.event.Said.{Said}
use Rattle.m3_base.specs.ExtentFiles.ScriptEntries.{plain_outcome as plain}
use Rattle.m3_kernel.specs.ParcelView.{heard_in, out_of}
use Rattle.m3_model.specs.LocalStep.{dropped_result}
use Rattle.m3_model.specs.Tile.Step.{may_return, resident_at_restore, take_restore}
use Rattle.m3_engine.specs.StayView.{replaced_if, stay_in}
use Rattle.m3_engine.specs.TileStepView.{Does}
use Rattle.m3_engine.specs.TileView.{TileAt}
use Rattle.m3_engine.proofs.TileTake.{restores, restores_nobody, restores_unfit}
use Rattle.m3_engine.proofs.tile.TilePart.restore.Goals as goal
use Rattle.m3_engine.proofs.tile.TilePart.restore.Goals.{then-is_some-via-then-is_some, then-is_some-via-else-is_some+then-not-may_return}

pub returns-then-is_some-clause-does : goal.returns-then-is_some-clause-does
returns-then-is_some-clause-does c =
    let old : TileAt = c.args.self.now in
    let xs = heard_in c.args.heard in
    let dropped : take_restore old.site old.tile c.args.act c.args.context xs old.tile.current ≡ dropped_result old.tile = elim c.then-is_some.branch [
      | then-is_some-via-then-is_some w ↦ restores_nobody old.site old.tile c.args.act c.args.context xs old.tile.current
          (ap (λ (t : TileAt). is_some t.tile.current) (sym c.self.view_is) ∙ sym c.is_some.ensures ∙ w.if-is_some.true)
      | then-is_some-via-else-is_some+then-not-may_return w ↦ restores_unfit old.site old.tile c.args.act c.args.context xs old.tile.current
          (ap (λ (t : TileAt). may_return t.site c.args.act c.args.context) (sym c.self.view_is) ∙ sym w.may_return.ensures ∙ w.if-not-may_return.true)
    ] in
    subst (Does c.is_idle.result old.tile) (sym dropped) (record { outcome = c.is_idle.ensures.outcome; part = refl; out = c.is_idle.ensures.out })

pub returns-clause-does : goal.returns-clause-does
returns-clause-does c =
    let i = c.self.inside in
    let owner = c.act-owner.ensures in
    restores i.site c.args.self.now i.tile c.args.act i.stays i.current c.args.context (heard_in c.args.heard) c.says.result c.self.view_is
    (sym c.is_some.ensures ∙ c.if-is_some.false) (sym c.may_return.ensures ∙ c.if-not-may_return.false) c.restart.new.self
    (ap (λ a. is_some (stay_in a i.stays)) (sym owner) ∙ sym c.restart.ensures.there ∙ c.if-not-restart.false)
    (c.restart.ensures.stays ∙ ap (λ a. replaced_if (resident_at_restore (heard_in c.args.heard)) (stay_in a i.stays) i.stays) owner)
    (c.says.ensures.outcome ∙ ap (λ a. plain (Said.Current a)) owner) (ap out_of c.says.ensures.emit)
