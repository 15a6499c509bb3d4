use Rattle.std.proofs.Common.{◌≡◌, false, true, sym, ap, ◌∙◌}
use Rattle.std.specs.Option.{option_copied}
use Rattle.m3_model.specs.Config.KnownActivities.{is_home, is_from_home}
use Rattle.m3_engine.proofs.AllByIndex.{fetched_refused, fetched_passed}
use Rattle.m3_engine.proofs.restore_check.names_fetched.Goals as goal

pub returns-then-not-declares : goal.returns-then-not-declares
returns-then-not-declares c =
    let no : is_from_home c.args.site.now c.in-Some.message.now ≡ false = ap (is_home c.args.site.now) (sym c.number.ensures.same) ∙ sym c.declares.ensures ∙ c.if-not-declares.true in
    fetched_refused (is_from_home c.args.site.now) c.args.mailbox.now c.loop-i.i c.in-Some.message.now (sym c.fetched_message.ensures ∙ ap option_copied c.in-Some.is) c.loop-i.invariant no

pub loop-i-preserved : goal.loop-i-preserved
loop-i-preserved c =
    let yes : is_from_home c.args.site.now c.in-Some.message.now ≡ true = ap (is_home c.args.site.now) (sym c.number.ensures.same) ∙ sym c.declares.ensures ∙ c.if-not-declares.false in
    fetched_passed (is_from_home c.args.site.now) c.args.mailbox.now c.loop-i.i c.in-Some.message.now (sym c.fetched_message.ensures ∙ ap option_copied c.in-Some.is) c.loop-i.invariant yes
